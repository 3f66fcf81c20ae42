-- The turns of a program are those of a session: the bytes that a read gave stand behind those that were kept.
use Prim.Native.Nat.{ℕ, ◌+◌, ◌-◌, ◌≤◌, ◌<◌}
use mathlib.Core.Path.{◌≡◌, refl, sym, ap, ◌∙◌}
use Rattle.std.proofs.Common.{subst}
use mathlib.Core.List.{List, [], ◌∷◌, ◌++◌, append_assoc, append-nil}
use mathlib.Core.Bool.{Bool, true, false, not, cond}
use native.Mathlib.Omega.{arith}
use lib.Dec.{lit≤}
use lib.ListN.{length, take, drop, length-append, length-take}
use borrow.Rule.Slice.PartMut.{take_put}
use Rattle.std.specs.Prelude.{Option, None, Some, Result, Ok, Err, MatchResult, OnOk, is_ok, is_some, ◌↔◌, ◌≢◌}
use Rattle.std.specs.Option.{ok_or}
use Rattle.std.specs.Io.KnownBytes.{Consumes, Appends, IsAtEnd, ReadConsumes}
use Rattle.replies.specs.declared.Program.{Program}
use Rattle.lines.specs.Lines.{output_of}
use Rattle.lines.specs.Turns.{most_kept, Turn, turn_of, session, input_of, Took}
use Rattle.lines.specs.declared.Turned.{Turned}
use Rattle.replies.proofs.Pieces.{back, wrote_begins}
use Rattle.lines.proofs.Turns.{few_kept}
use Rattle.lines.proofs.Sessions.{in_pieces, one_more}
use Rattle.sessions.specs.declared.Ending.{Ending}
use Rattle.sessions.specs.declared.Ending.TheVariants.{Answered, Unread, Unwritten, Closed, Limit}
use Rattle.sessions.specs.declared.Stopped.{Stopped}
use Rattle.sessions.specs.Runs.{Begins, Tells, Says, IsSent, OneTurn, Ran}
use Rattle.sessions.proofs.Streams.{consumes_nothing, appends_nothing, consumes_then, appends_then, consumes_all, behind_is}

-- ONE TURN

-- what is answered of a turn where all was written
says_kept : (t : Turn) (kept : Option ℕ) → kept ≡ cond t.ends None (Some (length t.keeps)) → Says t (ok_or kept Answered)
says_kept t kept e = rw e (go t.ends refl)
  where
    go : (b : Bool) → t.ends ≡ b → Says t (ok_or (cond b None (Some (length t.keeps))) Answered)
    go true h = (λ q. cc, h)
    go false h = (refl, h)

-- and where a write failed
module _ (t : Turn) (K : Type 0) where
  says_failed : (f : Ending) → (f ≡ Closed t.ends) ↔ K → (¬ K → f ≡ Unwritten t.ends) → Says t (Err f) × (f ≢ Answered)
  says_failed Answered b o = absurd (cc (o (λ k. cc (b.1 k))))
  says_failed Unread b o = absurd (cc (o (λ k. cc (b.1 k))))
  says_failed (Unwritten e) b o = let x : e ≡ t.ends = cc (o (λ k. cc (b.1 k))) in ((λ q. cc, x), λ q. cc)
  says_failed (Closed e) b o = ((λ q. cc, same t.ends e b o), λ q. cc)
    where
      same : (x e : Bool) → (Closed e ≡ Closed x) ↔ K → (¬ K → Closed e ≡ Unwritten x) → e ≡ x
      same true true b o = refl
      same false false b o = refl
      same true false b o = absurd (cc (o (λ k. cc (b.1 k))))
      same false true b o = absurd (cc (o (λ k. cc (b.1 k))))
  says_failed Limit b o = absurd (cc (o (λ k. cc (b.1 k))))

-- whatever e the read put behind the first n bytes of l, they stay, and the turn is one for the k bytes that it gave
module _ {E F : Type 0} (π : Program) (l e out : List ℕ) (n k : ℕ) (got : Result ℕ E) (put : Result Unit F) (r : Turned) (input' out' : List ℕ) (left left' held held' : Option (List ℕ))
    (h : n < length l) (i : length e ≡ length l - n)
    (heard : MatchResult got (λ m. ◌≡◌ {A = Result ℕ Ending} (Ok k) (Ok m)) (λ _. ◌≡◌ {A = Result ℕ Ending} (Ok k) (Err Unread))) (lost : ReadConsumes left left' got e)
    (t : let buffer = back l n e in Took (turn_of π (take n buffer) (take k (drop n buffer))) buffer out r input' out')
    (gained : OnOk put (Appends held held' (take r.written out'))) where
  gave : Consumes left left' (take k e) × (take k e ≡ [] → IsAtEnd left')
  gave = go got heard lost
    where
      go : (o : Result ℕ E) → MatchResult o (λ m. ◌≡◌ {A = Result ℕ Ending} (Ok k) (Ok m)) (λ _. ◌≡◌ {A = Result ℕ Ending} (Ok k) (Err Unread)) → ReadConsumes left left' o e
          → Consumes left left' (take k e) × (take k e ≡ [] → IsAtEnd left')
      go (Ok m) g c =
          let same : m ≡ k = cc g in
          let d = rw same at c in
          (d.0, λ z. d.1 (omega (arith, length-take k e, ap length z)) (omega arith))
      go (Err x) g c = absurd (cc g)

  taken : Took (turn_of π (take n l) (take k e)) (back l n e) out r input' out'
  taken = rw (take_put n (length l - n) l e (omega arith), behind_is n l e (omega arith)) at t

  for_some : (a : Result ℕ Ending) → Says (turn_of π (take n l) (take k e)) a → (IsSent a → Appends held held' (turn_of π (take n l) (take k e)).prints)
      → OneTurn π (take n l) a input' out' left left' held held'
  for_some a s p = record {
    read = take k e;
    taken = λ _. record { printed = wrote_begins _ out out' r.written taken.printed; kept = wrote_begins _ (back l n e) input' _ taken.kept };
    says = s;
    took = λ _. gave.0;
    last = λ _. gave.1;
    put = p;
  }

  pub all_sent : is_ok put ≡ true → OneTurn π (take n l) (ok_or r.kept Answered) input' out' left left' held held'
  all_sent s = for_some (ok_or r.kept Answered) (says_kept (turn_of π (take n l) (take k e)) r.kept taken.told) (λ _. go put s gained)
    where
      go : (o : Result Unit F) → is_ok o ≡ true → OnOk o (Appends held held' (take r.written out')) → Appends held held' (turn_of π (take n l) (take k e)).prints
      go (Ok x) s p = subst (Appends held held') (ap (λ k. take k out') (omega (arith, taken.printed.end)) ∙ wrote_begins _ out out' r.written taken.printed) p
      go (Err x) s p = absurd (cc s)

  -- what is kept says whether the turn ends
  ends_told : (b : Bool) → is_some r.kept ≡ not b → b ≡ (turn_of π (take n l) (take k e)).ends
  ends_told b h = go (turn_of π (take n l) (take k e)).ends b (rw taken.told at h)
    where
      go : (c b : Bool) → is_some (cond c None (Some (length (turn_of π (take n l) (take k e)).keeps))) ≡ not b → b ≡ c
      go true true h = refl
      go true false h = absurd (cc h)
      go false true h = absurd (cc h)
      go false false h = refl

  pub not_sent : (K : Type 0) (f : Ending) (b : Bool) → is_some r.kept ≡ not b → (f ≡ Closed b) ↔ K → (¬ K → f ≡ Unwritten b)
      → OneTurn π (take n l) (Err f) input' out' left left' held held'
  not_sent K f b h closed other =
      let (s, m) = says_failed (turn_of π (take n l) (take k e)) K f (rw (ends_told b h) at closed) (rw (ends_told b h) at other) in
      for_some (Err f) s (λ q. absurd (m q))

-- THE LOOP

-- while a session has not ended, a read that gives nothing has not come, so its input is all that the reads gave
input_grows : (π : Program) (gave : List (List ℕ)) (rest last : List ℕ) → (session π rest gave).ends ≡ false → input_of (gave ++ (last ∷ [])) ≡ input_of gave ++ last
input_grows π [] rest [] h = refl
input_grows π [] rest (x ∷ last) h = append-nil (x ∷ last)
input_grows π ([] ∷ gave) rest last h = absurd (cc h)
input_grows π ((x ∷ read) ∷ gave) rest last h =
    ap ((x ∷ read) ++◌) (input_grows π gave (turn_of π rest (x ∷ read)).keeps last h) ∙ sym (append_assoc (x ∷ read) (input_of gave) last)

-- and one more turn prints behind what was printed
prints_grow : (π : Program) (gave : List (List ℕ)) (rest last : List ℕ) → (session π rest gave).ends ≡ false
    → (session π rest (gave ++ (last ∷ []))).prints ≡ (session π rest gave).prints ++ (turn_of π (session π rest gave).keeps last).prints
prints_grow π [] rest [] h = refl
prints_grow π [] rest (x ∷ last) h = append-nil (turn_of π rest (x ∷ last)).prints
prints_grow π ([] ∷ gave) rest last h = absurd (cc h)
prints_grow π ((x ∷ read) ∷ gave) rest last h =
    let t : Turn = turn_of π rest (x ∷ read) in
    ap (t.prints ++◌) (prints_grow π gave t.keeps last h) ∙ sym (append_assoc t.prints (session π t.keeps gave).prints (turn_of π (session π t.keeps gave).keeps last).prints)

nothing : (π : Program) (rest read : List ℕ) → (turn_of π rest read).ends ≡ true → read ≡ []
nothing π rest [] h = refl
nothing π rest (x ∷ read) h = absurd (cc h)

-- where the session has ended, the turns have printed the replies to all of the input
ended_prints : (π : Program) (before : List (List ℕ)) (last : List ℕ) → (session π [] before).ends ≡ false → (session π [] (before ++ (last ∷ []))).ends ≡ true
    → (last ≡ []) × ((session π [] (before ++ (last ∷ []))).prints ≡ output_of π (input_of before))
ended_prints π before last g e =
    let z : last ≡ [] = nothing π (session π [] before).keeps last (sym (one_more π before [] last g).1 ∙ e) in
    (z, rw (z, in_pieces π before))

pub all_answered : (π : Program) (r : Stopped) (out : List ℕ) (left held held' : Option (List ℕ)) (x : Ran π r out left held held') → (session π [] (x.before ++ (x.last ∷ []))).ends ≡ true
    → (session π [] (x.before ++ (x.last ∷ []))).prints ≡ output_of π (input_of x.before)
all_answered π r out left held held' x e = (ended_prints π x.before x.last x.going e).1

-- the last of the reads so far, and its turn
pub record Latest (π : Program) (gave : List (List ℕ)) (out : List ℕ) : Type 0 where
  pub before : List (List ℕ)
  pub last : List ℕ
  pub parts : gave ≡ before ++ (last ∷ [])
  pub going : (session π [] before).ends ≡ false
  pub printed : Begins out (turn_of π (session π [] before).keeps last).prints

-- the reads so far, none of which was the last; what the reader lost, and what the writer gained
pub record Going (π : Program) (input out : List ℕ) (kept reads : ℕ) (left left' held held' : Option (List ℕ)) : Type 0 where
  pub gave : List (List ℕ)
  pub count : reads ≡ length gave
  pub going : (session π [] gave).ends ≡ false
  pub rest : (session π [] gave).keeps ≡ take kept input
  pub few : kept ≤ most_kept
  pub took : Consumes left left' (input_of gave)
  pub put : Appends held held' (session π [] gave).prints
  pub latest : 0 < reads → Latest π gave out

pub at_start : (π : Program) (input out : List ℕ) (left held : Option (List ℕ)) → Going π input out 0 0 left left held held
at_start π input out left held = record {
  gave = [];
  count = refl;
  going = refl;
  rest = refl;
  few = lit≤ tt;
  took = consumes_nothing left;
  put = appends_nothing held;
  latest = λ h. absurd (omega arith);
}

module _ (π : Program) (input out₀ input' out : List ℕ) (kept reads : ℕ) (left₀ left left' held₀ held held' : Option (List ℕ)) (g : Going π input out₀ kept reads left₀ left held₀ held) where
  module _ (a : Result ℕ Ending) (t : OneTurn π (take kept input) a input' out left left' held held') where
    rest_is : turn_of π (take kept input) t.read ≡ turn_of π (session π [] g.gave).keeps t.read
    rest_is = ap (λ r. turn_of π r t.read) (sym g.rest)

    ends_is : (turn_of π (take kept input) t.read).ends ≡ (session π [] (g.gave ++ (t.read ∷ []))).ends
    ends_is = ap (λ x. x.ends) rest_is ∙ sym (one_more π g.gave [] t.read g.going).1

    took_on : a ≢ Err Unread → Consumes left₀ left' (input_of (g.gave ++ (t.read ∷ [])))
    took_on h = subst (Consumes left₀ left') (sym (input_grows π g.gave [] t.read g.going)) (consumes_then left₀ left left' (input_of g.gave) t.read g.took (t.took h))

    put_on : IsSent a → Appends held₀ held' (session π [] (g.gave ++ (t.read ∷ []))).prints
    put_on h =
        let p : Appends held held' (turn_of π (session π [] g.gave).keeps t.read).prints = subst (λ x. Appends held held' x.prints) rest_is (t.put h) in
        subst (Appends held₀ held') (sym (prints_grow π g.gave [] t.read g.going))
        (appends_then held₀ held held' (session π [] g.gave).prints (turn_of π (session π [] g.gave).keeps t.read).prints g.put p)

    printed_on : a ≢ Err Unread → Begins out (turn_of π (session π [] g.gave).keeps t.read).prints
    printed_on h = rw (ap (λ x. x.prints) rest_is) at (t.taken h).printed

  pub reads_on : (n : ℕ) → OneTurn π (take kept input) (Ok n) input' out left left' held held' → Going π input' out n (reads + 1) left₀ left' held₀ held'
  reads_on n t =
      let heard : ◌≡◌ {A = Result ℕ Ending} (Ok n) (Err Unread) → ⊥ = λ e. cc in
      record {
        gave = g.gave ++ (t.read ∷ []);
        count = simp length-append (omega (arith, g.count));
        going = sym (ends_is (Ok n) t) ∙ t.says.1;
        rest = (one_more π g.gave [] t.read g.going).0 ∙ sym (ap (λ x. x.keeps) (rest_is (Ok n) t)) ∙ sym (t.taken heard).kept ∙ ap (λ m. take m input') (sym t.says.0);
        few = omega (arith, t.says.0, few_kept π (take kept input) t.read);
        took = took_on (Ok n) t heard;
        put = put_on (Ok n) t tt;
        latest = λ _. record { before = g.gave; last = t.read; parts = refl; going = g.going; printed = printed_on (Ok n) t heard };
      }

  pub stops : (how : Ending) → OneTurn π (take kept input) (Err how) input' out left left' held held' → Ran π (record { reads = reads + 1; how = how }) out left₀ held₀ held'
  stops how t = record {
    before = g.gave;
    last = t.read;
    count = omega (arith, g.count);
    going = g.going;
    printed = λ h. printed_on (Err how) t (λ e. h (cc e));
    ended = subst (Tells how) (ends_is (Err how) t) t.says.1;
    answered = λ e.
        let heard : ◌≡◌ {A = Result ℕ Ending} (Err how) (Err Unread) → ⊥ = λ f. cc in
        let over : (session π [] (g.gave ++ (t.read ∷ []))).ends ≡ true = sym (ends_is (Err how) t) ∙ (rw e at t.says.1) in
        let (z, all) = ended_prints π g.gave t.read g.going over in
        let none : input_of (g.gave ++ (t.read ∷ [])) ≡ input_of g.gave = input_grows π g.gave [] t.read g.going ∙ ap (input_of g.gave ++◌) z ∙ append-nil (input_of g.gave) in
        consumes_all left₀ left' (input_of g.gave) (λ xs. Appends held₀ held' (output_of π xs)) (subst (Consumes left₀ left') none (took_on (Err how) t heard)) (t.last heard z)
        (subst (Appends held₀ held') all (put_on (Err how) t e));
    limit = λ e. absurd (t.says.0 e);
  }
