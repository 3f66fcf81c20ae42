-- What the code's part, or last part, says of the rules'.
use Prim.Native.Nat.{ℕ, ◌+◌, ◌≤◌}
use mathlib.Core.Path.{◌≡◌, refl, sym, ap, ◌∙◌}
use mathlib.Core.List.{List, [], ◌∷◌, ◌++◌}
use Rattle.std.specs.Prelude.{Ok, Err}
use native.Mathlib.Omega.{arith}
use lib.Dec.{T}
use lib.ListN.{length, drop, length-append}
use lib.Seq.{append_snoc}
use Rattle.numeral.specs.Numeral.{value}
use Rattle.rules.specs.Answers.{Answer, refused, taken}
use Rattle.rules.specs.Bytes.{upto, behind, dot}
use Rattle.rules.specs.Conditions.{Stands}
use Rattle.rules.specs.Grammar.{shaped, spelled}
use Rattle.rules.specs.TextNumbers.{part_in}
use Rattle.rules.proofs.Answers.{Settled}
use Rattle.rules.proofs.Reading.{PartIs, part_settled}
use Rattle.rules.proofs.Starts.{begins_behind}
use Rattle.digits.proofs.Texts.{length_text}
use Rattle.scheme.specs.declared.refusal.Refusal.{Refusal}
use Rattle.scheme.specs.Refusals.{rule_of, by}
use Rattle.parts.specs.Parts.{form_of, found_of, end_of}
use Rattle.parts.specs.declared.parts.Form.{Form}
use Rattle.parts.specs.declared.parts.Form.TheVariants.{Prefix, Digits, Integer, AtMost}
use Rattle.parts.specs.declared.parts.Part.{Part}

-- an answer that is refused so
abbrev pub RefusedBy : {X : Type 0} → Answer X → Refusal → Type 0
RefusedBy a r = (n : ℕ) × (p : ℕ) × (a ≡ refused n p) × (r ≡ by (rule_of n) p)

pub no_part : (at : ℕ) (a : Answer (List ℕ)) (r : Refusal) → Err r ≡ found_of at a → RefusedBy a r
no_part at (refused n p) r e = (n, p, refl, cc)
no_part at (taken ds) r e = let x : ◌≡◌ {A = ℕ} 0 1 = cc in absurd (omega arith)

pub no_end : (a : Answer (List ℕ)) (r : Refusal) → Err r ≡ end_of a → RefusedBy a r
no_end (refused n p) r e = (n, p, refl, cc)
no_end (taken ds) r e = let x : ◌≡◌ {A = ℕ} 0 1 = cc in absurd (omega arith)

pub an_end : (a : Answer (List ℕ)) (v : ℕ) → Ok v ≡ end_of a → (ds : List ℕ) × (a ≡ taken ds) × (v ≡ value 10 ds)
an_end (refused n p) v e = let x : ◌≡◌ {A = ℕ} 0 1 = cc in absurd (omega arith)
an_end (taken ds) v e = (ds, refl, cc)

-- the part that stands at `at`, and what follows its dot
pub record Standing (n : ℕ) (f : Form) (text : List ℕ) (at : ℕ) (p : Part) : Type 0 where
  pub part : List ℕ
  pub read : part_in n at (form_of f) (drop at text) ≡ taken part
  pub shape : T (shaped (form_of f) part)
  pub value_is : p.value ≡ value 10 part
  pub digits_are : p.digits ≡ length part
  pub next : p.next ≡ at + length (upto dot (drop at text)) + 1
  pub rest : drop p.next text ≡ behind dot (drop at text)
  pub within : p.next ≤ length text

-- each form of the code is one of digits
spelled_length : (f : Form) (ds : List ℕ) → length (spelled (form_of f) ds) ≡ length ds
spelled_length Prefix ds = length_text ds
spelled_length (Digits n) ds = length_text ds
spelled_length (Integer b) ds = length_text ds
spelled_length (AtMost n) ds = length_text ds

pub stands : (n : ℕ) (f : Form) (text : List ℕ) (at : ℕ) → at ≤ length text → (p : Part) → Ok p ≡ found_of at (part_in n at (form_of f) (drop at text)) → Standing n f text at p
stands n f text at inside p e = go (part_in n at (form_of f) (drop at text)) refl (part_settled n at (form_of f) (drop at text)) e
  where
    go : (a : Answer (List ℕ)) → part_in n at (form_of f) (drop at text) ≡ a → Settled n (¬ (Stands (form_of f) (drop at text))) (◌≡ at) (PartIs (form_of f) (drop at text)) a → Ok p ≡ found_of at a → Standing n f text at p
    go (refused k q) r h e = let x : ◌≡◌ {A = ℕ} 0 1 = cc in absurd (omega arith)
    go (taken ds) r h e =
        let u = drop at text in
        let w = spelled (form_of f) ds in
        let (fit, split, run) = h.1 in
        let (within, rest) = begins_behind text (w ++ dot ∷ []) (behind dot u) at (inside, append_snoc w dot (behind dot u) ∙ sym split) in
        let q : ◌≡◌ {A = Part} p (record { value = value 10 ds; digits = length ds; next = at + length ds + 1 }) = cc in
        let next : p.next ≡ at + length ds + 1 = ap (λ (x : Part). x.next) q in
        let long : length w ≡ length ds = spelled_length f ds in
        let there : at + length (w ++ dot ∷ []) ≡ p.next = omega (arith, length-append w (dot ∷ [])) in
        record {
          part = ds;
          read = r;
          shape = fit.shape;
          value_is = ap (λ (x : Part). x.value) q;
          digits_are = ap (λ (x : Part). x.digits) q;
          next = omega (arith, ap length run);
          rest = rw there at (sym rest);
          within = omega arith;
        }
