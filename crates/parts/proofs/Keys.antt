-- The name of a scheme, by its first letter and its rest as one number: a text names the scheme exactly if both, and the rest's length, agree.
use Prim.Native.Nat.{ℕ, ◌+◌, ◌≤◌, ◌<◌}
use mathlib.Core.Path.{◌≡◌, refl, sym, ap, ap₂, ◌∙◌}
use mathlib.Core.Bool.{Bool, true, false, cond}
use mathlib.Core.List.{List, [], ◌∷◌, ◌++◌}
use Rattle.std.specs.Prelude.{Option, None, Some, option_map}
use native.Mathlib.Omega.{arith}
use lib.Dec.{T, eqb, eqb→eq}
use lib.ListN.{length, get_or, drop, length-append}
use lib.Seq.{drop-cons, append_snoc}
use Rattle.numeral.specs.Numeral.{value, Digits}
use Rattle.numeral.proofs.Values.{digits_left, value_inj}
use Rattle.rules.specs.declared.Scheme.{Scheme}
use Rattle.rules.specs.declared.Scheme.TheVariants.{Sgtin96, Sgtin198, Sscc96, Sgln96, Sgln195, Grai96, Grai170, Giai96, Gsrn96, Gsrnp96, Gdti96, Gdti174, Gid96, Gdti113, Sgcn96, Cpi96}
use Rattle.rules.specs.Bytes.{among, upto, behind, colon}
use Rattle.rules.specs.Schemes.{schemes}
use Rattle.rules.specs.Grammar.{label}
use Rattle.rules.specs.TextNumbers.{named}
use Rattle.rules.specs.TextNumbers.{Named as RulesNamed}
use Rattle.rules.proofs.Runs.{without, run_is, among_of, upto_of}
use Rattle.rules.proofs.TextReads.{named_is, named_of}
use Rattle.rules.proofs.Answers.{Gives}
use Rattle.parts.proofs.Tails.{Tailed, TailIs}
use Rattle.parts.specs.Names.{is_at, named_at, first_of, rest_of, key_of, keyed_as, keyed, keyed_by}
use Rattle.parts.specs.declared.names.Tail.{Tail}
use Rattle.parts.specs.declared.names.Keyed.{Keyed}

-- what is seen scheme by scheme: the key is the scheme's own, and the rest of the name is at most eight bytes with no colon
pub record Sound (s : Scheme) : Type 0 where
  pub own : Some (keyed_as s) ≡ keyed_by (key_of s)
  pub whole : label s ≡ first_of s ∷ (rest_of s ++ colon ∷ [])
  pub clear : T (without colon (rest_of s))
  pub bytes : Digits 256 (rest_of s)
  pub short : length (rest_of s) ≤ 8

pub sound : (s : Scheme) → Sound s
unfolding keyed_by schemes value
sound Sgtin96 = record { own = refl; whole = refl; clear = tt; bytes = omega arith; short = omega arith }
sound Sgtin198 = record { own = refl; whole = refl; clear = tt; bytes = omega arith; short = omega arith }
sound Sscc96 = record { own = refl; whole = refl; clear = tt; bytes = omega arith; short = omega arith }
sound Sgln96 = record { own = refl; whole = refl; clear = tt; bytes = omega arith; short = omega arith }
sound Sgln195 = record { own = refl; whole = refl; clear = tt; bytes = omega arith; short = omega arith }
sound Grai96 = record { own = refl; whole = refl; clear = tt; bytes = omega arith; short = omega arith }
sound Grai170 = record { own = refl; whole = refl; clear = tt; bytes = omega arith; short = omega arith }
sound Giai96 = record { own = refl; whole = refl; clear = tt; bytes = omega arith; short = omega arith }
sound Gsrn96 = record { own = refl; whole = refl; clear = tt; bytes = omega arith; short = omega arith }
sound Gsrnp96 = record { own = refl; whole = refl; clear = tt; bytes = omega arith; short = omega arith }
sound Gdti96 = record { own = refl; whole = refl; clear = tt; bytes = omega arith; short = omega arith }
sound Gdti174 = record { own = refl; whole = refl; clear = tt; bytes = omega arith; short = omega arith }
sound Gid96 = record { own = refl; whole = refl; clear = tt; bytes = omega arith; short = omega arith }
sound Gdti113 = record { own = refl; whole = refl; clear = tt; bytes = omega arith; short = omega arith }
sound Sgcn96 = record { own = refl; whole = refl; clear = tt; bytes = omega arith; short = omega arith }
sound Cpi96 = record { own = refl; whole = refl; clear = tt; bytes = omega arith; short = omega arith }

-- what a key says
abbrev KeyedIs : ℕ → Option Keyed → Type 0
KeyedIs k None = Unit
KeyedIs k (Some r) = (k ≡ key_of r.0) × (r ≡ keyed_as r.0)

keyed_is : (k : ℕ) (ss : List Scheme) → KeyedIs k (keyed k ss)
keyed_is k [] = tt
keyed_is k (s ∷ ss) = go (eqb k (key_of s)) (eqb→eq k (key_of s)) (keyed k ss) (keyed_is k ss)
  where
    go : (b : Bool) → (T b → k ≡ key_of s) → (r : Option Keyed) → KeyedIs k r → KeyedIs k (cond b (Some (keyed_as s)) r)
    go true e r h = (e tt, refl)
    go false e r h = h

keyed_by_is : (k : ℕ) (r : Option Keyed) → r ≡ keyed_by k → KeyedIs k r
unfolding keyed_by
keyed_by_is k r e = rw e (keyed_is k schemes)

label_is : (s : Scheme) (v : List ℕ) → label s ++ v ≡ first_of s ∷ (rest_of s ++ colon ∷ v)
label_is s v = ap (◌++ v) (sound s).whole ∙ ap (first_of s ∷◌) (append_snoc (rest_of s) colon v)

label_length : (s : Scheme) → length (label s) ≡ length (rest_of s) + 2
label_length s = ap length (sound s).whole ∙ rw (length-append (rest_of s)) (omega arith)

named_at_label : (at : ℕ) (s : Scheme) (v : List ℕ) → named_at at (label s ++ v) ≡ Some (is_at at s)
unfolding named_at
named_at_label at s v = rw (named_of s v)

-- A text that names a scheme has its first letter, its rest and its colon.
label_shape : (u : List ℕ) (s : Scheme) (v : List ℕ) → u ≡ label s ++ v → (get_or u 0 0 ≡ first_of s) × (among colon (drop 1 u) ≡ true) × (upto colon (drop 1 u) ≡ rest_of s)
label_shape u s v e =
    rw (e ∙ label_is s v) (refl, among_of colon v (rest_of s), upto_of colon v (rest_of s) (sound s).clear)

-- so its key is that scheme's
key_shape : (u : List ℕ) (t : Tail) (s : Scheme) (v : List ℕ) → Tailed (drop 1 u) t → u ≡ label s ++ v
    → (Some (keyed_as s) ≡ keyed_by t.value) × (first_of s ≡ get_or u 0 0) × (length (rest_of s) ≡ t.length)
key_shape u t s v h q =
    let (f, a, x) = label_shape u s v q in
    ((sound s).own ∙ ap keyed_by (sym (ap (λ (t : Tail). t.value) h.is ∙ ap (value 256) x)), sym f, sym (ap (λ (t : Tail). t.length) h.is ∙ ap length x))

-- no scheme is named
unnamed : (at : ℕ) (u : List ℕ) → ((s : Scheme) (v : List ℕ) → ¬ (u ≡ label s ++ v)) → None ≡ named_at at u
unfolding named_at
unnamed at u f = go (named schemes u) (named_is schemes u)
  where
    go : (o : Option RulesNamed) → Gives (λ c. u ≡ label c.scheme ++ c.rest) o → None ≡ option_map (λ (c : RulesNamed). is_at at c.scheme) o
    go None h = refl
    go (Some c) h = absurd (f c.scheme c.rest h)

pub nothing : (at : ℕ) → None ≡ named_at at []
unfolding named_at schemes
nothing at = refl

-- each way in which a text names none
module _ (at : ℕ) (u : List ℕ) where
  pub no_tail : TailIs (drop 1 u) None → None ≡ named_at at u
  no_tail t = unnamed at u λ s v q.
      let (_, a, x) = label_shape u s v q in
      t a (rw x (sound s).short)

  module _ (t : Tail) (h : Tailed (drop 1 u) t) where
    pub no_key : None ≡ keyed_by t.value → None ≡ named_at at u
    no_key k = unnamed at u λ s v q.
        let z : ◌≡◌ {A = ℕ} 0 1 = cc (key_shape u t s v h q).0 in
        omega arith

    module _ (r : Keyed) (k : Some r ≡ keyed_by t.value) where
      same_key : (s : Scheme) (v : List ℕ) → u ≡ label s ++ v → (r.1 ≡ get_or u 0 0) × (r.2 ≡ t.length)
      same_key s v q =
          let (x, y, z) = key_shape u t s v h q in
          let e : r ≡ keyed_as s = cc in
          (ap (λ (r : Keyed). r.1) e ∙ y, ap (λ (r : Keyed). r.2) e ∙ z)

      pub other_letter : ¬ (r.1 ≡ get_or u 0 0) → None ≡ named_at at u
      other_letter x = unnamed at u λ s v q. x (same_key s v q).0

      pub other_length : ¬ (r.2 ≡ t.length) → None ≡ named_at at u
      other_length x = unnamed at u λ s v q. x (same_key s v q).1

      pub is_named : Digits 256 (drop 1 u) → 0 < length u → r.1 ≡ get_or u 0 0 → r.2 ≡ t.length → Some (record { scheme = r.0; next = at + (r.2 + 2) }) ≡ named_at at u
      is_named d l x y =
          let s = r.0 in
          let w = drop 1 u in
          let z = behind colon w in
          let (i, e) = keyed_by_is t.value (Some r) k in
          let first : r.1 ≡ first_of s = ap (λ (r : Keyed). r.1) e in
          let long : r.2 ≡ length (rest_of s) = ap (λ (r : Keyed). r.2) e in
          let v : t.value ≡ value 256 (upto colon w) = ap (λ (t : Tail). t.value) h.is in
          let m : t.length ≡ length (upto colon w) = ap (λ (t : Tail). t.length) h.is in
          let b : upto colon w ≡ rest_of s = value_inj 256 (upto colon w) (rest_of s) (digits_left 256 (upto colon w) (colon ∷ z) (rw (run_is colon w (rw h.colon_in tt)) at d)) (sound s).bytes (sym m ∙ sym y ∙ long) (sym v ∙ i) in
          let q : u ≡ label s ++ z =
          drop-cons u 0 0 l ∙ ap₂ ◌∷◌ (sym x ∙ first) (run_is colon w (rw h.colon_in tt) ∙ ap (◌++ colon ∷ z) b) ∙ sym (label_is s z) in
          let n : r.2 + 2 ≡ length (label s) = rw (label_length s) (ap (◌+ 2) long) in
          rw (q, named_at_label at s z, n)
