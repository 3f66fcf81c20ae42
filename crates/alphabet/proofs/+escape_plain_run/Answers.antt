use Rattle.std.proofs.Common.{arith, refl, sym, add-zero, ◌∙◌, ◌≡◌, ◌∷◌, ◌+◌, ◌<◌, drop, length, get_or, ℕ, List}
use Rattle.std.specs.Prelude.{Some}
use Rattle.rules.specs.Bytes.{percent}
use Rattle.rules.specs.TextNumbers.{put, characters_in}
use Rattle.alphabet.specs.Readers.{escape_in}
use Rattle.alphabet.proofs.Classes.{plain_test}
use Rattle.alphabet.proofs.Steps.{at_plain, at_percent, at_other, at_end, at_escape, no_escape, left, left_is, count_end, count_more}
use Rattle.alphabet.proofs.Kept.{keep_more, keep_full}
use Rattle.alphabet.proofs.+escape_plain_run.Goals as goal

-- no escape
pub escape-returns-in_err-c : goal.escape-returns-in_err-c
escape-returns-in_err-c t c = rw (no_escape c.args.text.now (sym c.in_err-c.ensures)) (record { value = c.from_residual.ensures; kept = tt })

-- an escape: the text goes on behind its two digits
behind_escape : (x : List ℕ) (d : ℕ) → escape_in x ≡ Some d → characters_in (percent ∷ x) ≡ put (Some d) (characters_in (left x 2))
behind_escape x d e = rw (left_is x 2) (at_escape x d e)

pub escape-returns-then-n-kept : goal.escape-returns-then-n-kept
escape-returns-then-n-kept t c =
    let run = c.plain_run in
    let a = c.args in
    let o = characters_in (left a.text.now 2) in
    let e = behind_escape a.text.now _ (sym c.in_ok-c.ensures) in
    record { value = run.ensures.value ∙ count_more a.n _ o _ e; kept = keep_more a.n _ _ _ _ o _ e refl run.ensures.kept }

pub escape-returns : goal.escape-returns
escape-returns t c =
    let a = c.args in
    let o = characters_in (left a.text.now 2) in
    let p = characters_in (percent ∷ a.text.now) in
    let e = behind_escape a.text.now _ (sym c.in_ok-c.ensures) in
    record { value = c.rest.ensures ∙ count_more a.n _ o p e; kept = keep_full a.n a.kept.now p c.if-n-kept.false }

behind_percent : (x : List ℕ) (i : ℕ) → i < length x → get_or x i 0 ≡ percent → characters_in (drop i x) ≡ characters_in (percent ∷ left x (i + 1))
behind_percent x i h e = rw (left_is x (i + 1)) (at_percent x i h e)

-- the bytes that stand for themselves; a percent sign; another byte; the end
pub plain_run-loop-i-init : goal.plain_run-loop-i-init
plain_run-loop-i-init t c = rw add-zero (record { counts = refl; keeps = λ z k. k })

pub plain_run-loop-i-preserved : goal.plain_run-loop-i-preserved
plain_run-loop-i-preserved t c =
    let v = c.loop-i in
    let a = c.args in
    let x = a.text.now in
    let o = characters_in (drop (v.i + 1) x) in
    let e = at_plain x v.i c.loop-i-test.true (plain_test _ _ _ c.class.ensures c.eq.ensures ∙ c.if-eq.true) in
    let k : a.n + (v.i + 1) ≡ a.n + v.i + 1 = omega arith in
    rw k (record {
      counts = count_more (a.n + v.i) _ o _ e ∙ v.invariant.counts;
      keeps = λ z k. v.invariant.keeps z (keep_more (a.n + v.i) _ _ _ z o _ e c.keep.ensures k);
    })

pub plain_run-returns-then-b-eq37 : goal.plain_run-returns-then-b-eq37
plain_run-returns-then-b-eq37 t c =
    let reader = c.escape in
    let v = c.loop-i in
    let e = behind_percent c.args.text.now v.i c.loop-i-test.true c.if-b-eq37.true in
    record { value = reader.ensures.value ∙ rw (← e) v.invariant.counts; kept = v.invariant.keeps _ (rw e reader.ensures.kept) }

pub plain_run-returns-else-b-eq37 : goal.plain_run-returns-else-b-eq37
plain_run-returns-else-b-eq37 t c =
    let v = c.loop-i in
    let e = at_other c.args.text.now v.i c.loop-i-test.true (plain_test _ _ _ c.class.ensures c.eq.ensures ∙ c.if-eq.false) c.if-b-eq37.false in
    record { value = rw e at v.invariant.counts; kept = v.invariant.keeps _ (rw e tt) }

pub plain_run-returns : goal.plain_run-returns
plain_run-returns t c =
    let v = c.loop-i in
    let a = c.args in
    let x = a.text.now in
    let k : a.n + length x ≡ a.n + v.i = omega arith in
    rw k (record { value = count_end x v.i (a.n + v.i) c.loop-i-test.false ∙ v.invariant.counts; kept = v.invariant.keeps _ (rw (at_end x v.i c.loop-i-test.false) refl) })
