-- The verdict, then the filter, then 25 or the text of the scheme that holds the identity.
use Prim.Native.Nat.{◌≤◌}
use mathlib.Core.Path.{◌≡◌, sym, ap, ◌∙◌}
use mathlib.Core.Bool.{true}
use Rattle.std.specs.Prelude.{Some, Ok, Err}
use native.Mathlib.Omega.{arith}
use Rattle.rules.specs.Grammar.{Tag, TagText}
use Rattle.digits.proofs.Joins.{from_start}
use Rattle.identities.specs.Families.{most_filter}
use Rattle.identities.specs.Numbers.{tag_text, chosen}
use Rattle.identities.proofs.IdentityReads.{most_7}
use Rattle.identify.specs.declared.counted.Fault.TheVariants.{WrongText, Unheld}
use Rattle.identify.specs.Words.{is_body, holder, judged}
use Rattle.identify.proofs.TagLines.{short_body}
use Rattle.identify.proofs.Holders.{nobody, somebody, wrong_is, unheld_is, by_is}
use Rattle.identify.proofs.Answered.{not_formed, over, unheld, held}
use Rattle.identify.proofs.of_family.Goals as goal
use Rattle.identify.proofs.of_family.Goals.{In-Ok, in_default, in_default-via-in-Err+in-Unheld, in_default-via-in-Ok, in-Err-Unheld, in-Err-WrongText, in-Err-WrongText-2}

pub returns : goal.returns
returns c =
    let a = c.args in
    let f = is_body a.family a.body.now in
    let h = holder a.family a.body.now in
    elim c.match-judge.branch [
      | in-Err-WrongText w ↦
          let v : Err WrongText ≡ judged a.family a.body.now = ap Err (sym w.in-Err-WrongText.field-0-is) ∙ w.in-Err-WrongText.ensures in
          rw (c.at.ensures, w.refused-is) (not_formed a.family a.filter a.body.now a.out.now (wrong_is f h v))
      | in-Err-WrongText-2 w ↦ elim w.in_default.branch [ in_default-via-in-Err+in-Unheld v ↦ cc (w.in-Err-WrongText.field-0-is, w.in-Err-WrongText.is, v.t-8-is) | in_default-via-in-Ok v ↦ cc (w.in-Err-WrongText.is, v.t-8-is, v.in_default.is) ]
      | in_default w ↦
          let right : f ≡ true = elim w.in_default.branch [
            | in_default-via-in-Err+in-Unheld v ↦ (let e : Err Unheld ≡ judged a.family a.body.now = cc in unheld_is f h e).0
            | in_default-via-in-Ok v ↦ (by_is f h _ (sym v.in_default.is ∙ c.judge.ensures)).0
          ] in
          rw (c.at.ensures, w.refused-is) (over a.family a.filter a.body.now a.out.now right (rw (← w.most_filter.ensures) w.if-most_filter-filter.true))
      | in-Err-Unheld w ↦
          let l : a.filter ≤ most_filter a.family = rw (← w.most_filter.ensures) w.if-most_filter-filter.false in
          let v : Err Unheld ≡ judged a.family a.body.now = elim w.in_default.branch [ in_default-via-in-Err+in-Unheld v ↦ cc | in_default-via-in-Ok v ↦ cc ] in
          let (right, none) = unheld_is f h v in
          rw (c.at.ensures, w.refused-is) (unheld a.family a.filter a.body.now a.out.now right l (nobody a.filter a.family a.body.now l none))
    ]

-- held by a scheme: there is a tag, since the filter keeps its limit
the_tag : (c : In-Ok) → let a = c.args in
    (a.filter ≤ most_filter a.family) × (τ : Tag) × (chosen a.filter a.family a.body.now ≡ Some τ) × TagText (tag_text a.filter a.body.now c.in-Ok.s) τ
the_tag c =
    let a = c.args in
    let l : a.filter ≤ most_filter a.family = rw (← c.most_filter.ensures) c.if-most_filter-filter.false in
    let v : Ok c.in-Ok.s ≡ judged a.family a.body.now = elim c.in_default.branch [ in_default-via-in-Err+in-Unheld w ↦ cc | in_default-via-in-Ok w ↦ cc ] in
    let (τ, t, x) = somebody a.filter a.family a.body.now l c.in-Ok.s (by_is (is_body a.family a.body.now) (holder a.family a.body.now) c.in-Ok.s v).1 in
    (l, τ, t, x)

pub put_text-length-requires : goal.put_text-length-requires
put_text-length-requires c =
    let (l, τ, t, x) = the_tag (goal.at.put_text-length-requires c).In-Ok in
    (omega (arith, l, most_7 c.args.family), omega (arith, c.requires, short_body c.args.filter c.args.body.now c.in-Ok.s τ x))

pub returns-in-Ok : goal.returns-in-Ok
returns-in-Ok c =
    let a = c.args in
    let (l, τ, t, x) = the_tag (goal.at.returns-in-Ok c).In-Ok in
    let (n, o) = from_start (rw x.text at c.put_text-length.ensures) in
    held a.family a.filter a.body.now a.out.now l τ t _ _ n o
