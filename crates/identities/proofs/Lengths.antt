-- How long the texts are: an identity's is shorter than each of its tags', and a tag's without control fields little longer than its identity's.
use Prim.Native.Nat.{ℕ, ◌+◌, ◌≤◌}
use mathlib.Core.Path.{◌≡◌, ap}
use mathlib.Core.List.{List, ◌++◌}
use native.Mathlib.Omega.{arith}
use lib.ListN.{length, length-append}
use Rattle.rules.specs.declared.Scheme.{Scheme}
use Rattle.rules.specs.declared.Scheme.TheVariants.{Sgtin96, Sgtin198, Sscc96, Sgln96, Sgln195, Grai96, Grai170, Giai96, Gsrn96, Gsrnp96, Gdti96, Gdti174, Gid96, Gdti113, Sgcn96, Cpi96}
use Rattle.rules.specs.declared.Parts.{Parts}
use Rattle.rules.specs.declared.Parts.TheVariants.{F, Integers}
use Rattle.rules.specs.Schemes.{about}
use Rattle.rules.specs.ControlFields.{control_text, no_fields}
use Rattle.rules.specs.Grammar.{Tag, TagFits, TagText, text_of, start as tagStart, label as schemeLabel}
use Rattle.rules.proofs.Lengths.{text_length}
use Rattle.identities.specs.Families.{family_of}
use Rattle.identities.specs.Grammar.{joined, start, label, identity_text}
use Rattle.identities.specs.OfTags.{identity_of, filter_of}
use Rattle.identities.specs.Numbers.{filter_text}
use Rattle.identities.proofs.Held.{text_parts}

starts : (length start ≡ 11) × (length tagStart ≡ 12)
unfolding start tagStart
starts = omega arith

-- a scheme's name is its family's, a dash and two or three digits
pub labels : (s : Scheme) → (3 + length (label (family_of s)) ≤ length (schemeLabel s)) × (length (schemeLabel s) ≤ 4 + length (label (family_of s)))
labels Sgtin96 = omega arith
labels Sgtin198 = omega arith
labels Sscc96 = omega arith
labels Sgln96 = omega arith
labels Sgln195 = omega arith
labels Grai96 = omega arith
labels Grai170 = omega arith
labels Giai96 = omega arith
labels Gsrn96 = omega arith
labels Gsrnp96 = omega arith
labels Gdti96 = omega arith
labels Gdti174 = omega arith
labels Gid96 = omega arith
labels Gdti113 = omega arith
labels Sgcn96 = omega arith
labels Cpi96 = omega arith

pub filter_length : (q : Parts) (f : ℕ) → length (filter_text q f) ≤ 2
filter_length (F body) f = omega arith
filter_length (Integers a b c) f = omega arith

module _ (τ : Tag) (h : TagFits τ) where
  abbrev body : List ℕ
  body = joined (identity_of τ).parts

  identity_is : length (identity_text (identity_of τ)) ≡ 11 + length (label (family_of τ.scheme)) + length body
  unfolding identity_text identity_of
  identity_is = omega (arith, length-append start (label (family_of τ.scheme) ++ body), length-append (label (family_of τ.scheme)) body, starts.0)

  text_is : length (text_of τ) ≡ 12 + length (control_text τ.control) + length (schemeLabel τ.scheme) + length (filter_text (about τ.scheme).parts (filter_of τ)) + length body
  text_is =
      let f = filter_text (about τ.scheme).parts (filter_of τ) in
      let v = schemeLabel τ.scheme ++ (f ++ body) in
      omega (arith, ap length (text_parts τ h), length-append tagStart (control_text τ.control ++ v), length-append (control_text τ.control) v, length-append (schemeLabel τ.scheme) (f ++ body), length-append f body, starts.1)

  pub shorter : 4 + length (identity_text (identity_of τ)) ≤ length (text_of τ)
  shorter = omega (arith, identity_is, text_is, (labels τ.scheme).0)

  pub longer : τ.control ≡ no_fields → length (text_of τ) ≤ 7 + length (identity_text (identity_of τ))
  longer c = omega (arith, identity_is, text_is, (labels τ.scheme).1, filter_length (about τ.scheme).parts (filter_of τ), ap (λ x. length (control_text x)) c)

-- no identity text has more characters than 112: a bound, from the 116 of a tag text
pub identity_length : (t : List ℕ) (τ : Tag) → TagText t τ → length (identity_text (identity_of τ)) ≤ 112
identity_length t τ r = omega (arith, shorter τ r.fits, text_length t τ r, ap length r.text)
