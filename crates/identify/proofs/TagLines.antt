-- A tag text made of an identity's parts: where these stand in it, and when the codec takes it.
use Prim.Native.Nat.{ℕ, ◌+◌, ◌≤◌}
use mathlib.Core.Path.{◌≡◌, refl, sym, ap, ◌∙◌}
use mathlib.Core.List.{List, ◌++◌, append_assoc}
use native.Mathlib.Omega.{arith}
use lib.ListN.{length, drop, length-append}
use lib.Seq.{drop_at}
use Rattle.rules.specs.declared.Scheme.{Scheme}
use Rattle.rules.specs.declared.Parts.{Parts}
use Rattle.rules.specs.declared.Parts.TheVariants.{F, Integers}
use Rattle.rules.specs.Schemes.{about}
use Rattle.rules.specs.ControlFields.{control_text}
use Rattle.rules.specs.Grammar.{Tag, start, label, TagText}
use Rattle.rules.proofs.Lengths.{text_length}
use Rattle.identities.specs.Grammar.{joined}
use Rattle.identities.specs.OfTags.{identity_of, filter_of}
use Rattle.identities.specs.Numbers.{filter_text, tag_text}
use Rattle.identities.proofs.Held.{text_parts}
use Rattle.identify.specs.Words.{body_at}

pub twelve : length start ≡ 12
unfolding start
twelve = refl

-- Where the identity's parts begin in a tag text.
filter_size : (q : Parts) (f g : ℕ) → length (filter_text q f) ≡ length (filter_text q g)
filter_size (F body) f g = refl
filter_size (Integers a b c) f g = refl

pub body_is : (t : List ℕ) (τ : Tag) → TagText t τ → (body_at τ.control τ.scheme ≤ length t) × (drop (body_at τ.control τ.scheme) t ≡ joined (identity_of τ).parts)
body_is t τ r =
    let c = control_text τ.control in
    let l = label τ.scheme in
    let f = filter_text (about τ.scheme).parts (filter_of τ) in
    let body = joined (identity_of τ).parts in
    let e : t ≡ (start ++ (c ++ (l ++ f))) ++ body = r.text ∙ text_parts τ r.fits ∙ sym (append_assoc start (c ++ (l ++ f)) body ∙ ap (start ++◌) (append_assoc c (l ++ f) body ∙ ap (c ++◌) (append_assoc l f body))) in
    let n : length (start ++ (c ++ (l ++ f))) ≡ body_at τ.control τ.scheme =
    omega (arith, length-append start (c ++ (l ++ f)), length-append c (l ++ f), length-append l f, twelve, filter_size (about τ.scheme).parts (filter_of τ) 0) in
    (omega (arith, n, ap length e, length-append (start ++ (c ++ (l ++ f))) body), ap (drop (body_at τ.control τ.scheme)) e ∙ drop_at (start ++ (c ++ (l ++ f))) body (body_at τ.control τ.scheme) n)

-- How long it is.
module _ (f : ℕ) (body : List ℕ) (s : Scheme) where
  abbrev text : List ℕ
  text = tag_text f body s

  -- what stands before the parts has at most 24 characters
  sizes : length text ≡ 12 + length (label s) + length (filter_text (about s).parts f) + length body
  sizes = omega (arith, length-append start (label s ++ (filter_text (about s).parts f ++ body)), length-append (label s) (filter_text (about s).parts f ++ body), length-append (filter_text (about s).parts f) body, twelve)

  pub short_body : (τ : Tag) → TagText text τ → length body ≤ 116
  short_body τ r = omega (arith, sizes, text_length text τ r)
