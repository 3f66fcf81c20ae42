-- How a text begins: its start, its control fields, its scheme's name.
use Prim.Native.Nat.{ℕ, ◌+◌, ◌≤◌}
use mathlib.Core.Path.{◌≡◌, refl, sym, ap, ◌∙◌}
use mathlib.Core.List.{List, ◌++◌}
use Rattle.std.specs.Prelude.{Option, None, Some, option_map, Ok, Err}
use native.Mathlib.Omega.{arith}
use lib.ListN.{length, drop}
use Rattle.rules.specs.declared.ControlFields.{ControlFields}
use Rattle.rules.specs.Answers.{Answer, refused, taken}
use Rattle.rules.specs.Schemes.{schemes}
use Rattle.rules.specs.Grammar.{start, label, layout}
use Rattle.rules.specs.TextNumbers.{after, Controlled, control_fields_in, Named, named, parts_in, named_tag, tag_of_text}
use Rattle.rules.specs.Conditions.{Begins, FaultAt, ControlledBy}
use Rattle.rules.proofs.Answers.{Gives, Settled}
use Rattle.rules.proofs.Starts.{after_is, begins_behind}
use Rattle.rules.proofs.ControlFaults.{control_settled}
use Rattle.rules.proofs.TextReads.{named_is}
use Rattle.scheme.specs.declared.refusal.Rule.TheVariants.{ControlFields as ControlFieldsRule}
use Rattle.scheme.specs.declared.refusal.Refusal.{Refusal}
use Rattle.scheme.specs.Refusals.{rule_of, by, refusal}
use Rattle.scheme.specs.Records.{reading_of}
use Rattle.parts.specs.declared.control.Controlled.{Controlled as CodeControlled}
use Rattle.parts.specs.declared.names.Named.{Named as CodeNamed}
use Rattle.parts.specs.Controls.{controlled_by}
use Rattle.parts.specs.Names.{is_at, named_at}
use Rattle.parts.specs.declared.rest.Rest.{Rest}
use Rattle.text.specs.Reading.{read_as, controlled}

-- The name of a scheme in what is left of a text, behind control fields, and its parts behind the name.
module _ (r : Rest) where
  abbrev t : List ℕ
  t = r.text.now

  abbrev i : ℕ
  i = r.at

  abbrev by_name : Option Named → Option CodeNamed
  by_name = option_map (λ (c : Named). is_at i c.scheme)

  pub named_is_at : (n : CodeNamed) → Some n ≡ named_at i (drop i t) → (named schemes (drop i t) ≡ Some (record { scheme = n.scheme; rest = drop n.next t })) × (n.next ≡ i + length (label n.scheme)) × (n.next ≤ length t)
  unfolding named_at
  named_is_at n e = go (named schemes (drop i t)) refl (named_is schemes (drop i t)) e
    where
      go : (o : Option Named) → named schemes (drop i t) ≡ o → Gives (λ c. drop i t ≡ label c.scheme ++ c.rest) o → Some n ≡ by_name o
          → (named schemes (drop i t) ≡ Some (record { scheme = n.scheme; rest = drop n.next t })) × (n.next ≡ i + length (label n.scheme)) × (n.next ≤ length t)
      go None q h b = let x : ◌≡◌ {A = ℕ} 0 1 = cc in absurd (omega arith)
      go (Some c) q h b =
          let e : n ≡ is_at i c.scheme = cc in
          let x : n.scheme ≡ c.scheme = ap (λ (n : CodeNamed). n.scheme) e in
          let y : n.next ≡ i + length (label c.scheme) = ap (λ (n : CodeNamed). n.next) e in
          let (l, z) = begins_behind t (label c.scheme) c.rest i (r.inside, sym h) in
          (q ∙ (λ i. Some (record { scheme = sym x i; rest = (z ∙ sym (ap (λ n. drop n t) y)) i })), rw x y, rw y l)

  pub name_inside : (n : CodeNamed) → Some n ≡ named_at i (drop i t) → n.next ≤ length t
  name_inside n e = (named_is_at n e).2

  module _ (fields : ControlFields) where
    pub no_name : None ≡ named_at i (drop i t) → refusal 3 i ≡ reading_of (named_tag (controlled fields r))
    unfolding named_at
    no_name e = go (named schemes (drop i t)) refl e
      where
        go : (o : Option Named) → named schemes (drop i t) ≡ o → None ≡ by_name o → refusal 3 i ≡ reading_of (named_tag (controlled fields r))
        go None q h = rw q
        go (Some c) q h = let x : ◌≡◌ {A = ℕ} 0 1 = cc in absurd (omega arith)

    pub with_name : (n : CodeNamed) → Some n ≡ named_at i (drop i t) → read_as fields n.scheme (parts_in n.next (layout n.scheme) (drop n.next t)) ≡ reading_of (named_tag (controlled fields r))
    with_name n e = let (q, k, l) = named_is_at n e in rw (q, sym k)

-- The whole text: its start, and the control fields behind it.
pub twelve : length start ≡ 12
unfolding start
twelve = refl

module _ (t : List ℕ) where
  pub no_start : after start t ≡ None → refusal 2 0 ≡ reading_of (tag_of_text t)
  unfolding tag_of_text
  no_start e = rw e

  -- what stands behind the control fields that are read
  abbrev pub behind_fields : CodeControlled → Controlled
  behind_fields c = record { control = c.control; next = c.next; rest = drop c.next t }

  module _ (begins : after start t ≡ Some (drop 12 t)) where
    abbrev Fields : Answer Controlled → Type 0
    Fields = Settled 20 ((p : ℕ) × FaultAt t p) (FaultAt t) λ k. ControlledBy t k.control k.rest × Begins t k.rest k.next

    settled : Fields (control_fields_in 12 (drop 12 t))
    settled = let g = after_is start t in rw twelve at (control_settled t (drop 12 t) (rw begins at g))

    pub wrong_fields : (r : Refusal) → Err r ≡ controlled_by (control_fields_in 12 (drop 12 t)) → Err r ≡ reading_of (tag_of_text t)
    unfolding tag_of_text
    wrong_fields r e = go (control_fields_in 12 (drop 12 t)) refl e
      where
        go : (a : Answer Controlled) → control_fields_in 12 (drop 12 t) ≡ a → Err r ≡ controlled_by a → Err r ≡ reading_of (tag_of_text t)
        go (refused n q) f h = let x : r ≡ by (rule_of n) q = cc in rw (begins, twelve, f, x)
        go (taken k) f h = let x : ◌≡◌ {A = ℕ} 0 1 = cc in absurd (omega arith)

    pub by_control_fields : (r : Refusal) → Err r ≡ controlled_by (control_fields_in 12 (drop 12 t)) → r ≡ by ControlFieldsRule r.place
    by_control_fields r e = go (control_fields_in 12 (drop 12 t)) settled e
      where
        go : (a : Answer Controlled) → Fields a → Err r ≡ controlled_by a → r ≡ by ControlFieldsRule r.place
        go (refused n q) f h = let x : r ≡ by (rule_of n) q = cc in rw (x, f.0)
        go (taken k) f h = let x : ◌≡◌ {A = ℕ} 0 1 = cc in absurd (omega arith)

    pub with_fields : (c : CodeControlled) → Ok c ≡ controlled_by (control_fields_in 12 (drop 12 t))
        → (c.next ≤ length t) × (reading_of (named_tag (behind_fields c)) ≡ reading_of (tag_of_text t))
    unfolding tag_of_text
    with_fields c e = go (control_fields_in 12 (drop 12 t)) refl settled e
      where
        go : (a : Answer Controlled) → control_fields_in 12 (drop 12 t) ≡ a → Fields a → Ok c ≡ controlled_by a
            → (c.next ≤ length t) × (reading_of (named_tag (behind_fields c)) ≡ reading_of (tag_of_text t))
        go (refused m q) r f h = let x : ◌≡◌ {A = ℕ} 0 1 = cc in absurd (omega arith)
        go (taken k) r f h =
            let e : ◌≡◌ {A = CodeControlled} c (record { control = k.control; next = k.next }) = cc in
            let x : c.control ≡ k.control = ap (λ (c : CodeControlled). c.control) e in
            let y : c.next ≡ k.next = ap (λ (c : CodeControlled). c.next) e in
            (rw y f.1.1.0, rw (begins, twelve, r, x, y, ← f.1.1.1))
