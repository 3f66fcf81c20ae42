-- The parts of a scheme, from what is read of its head.
use Prim.Native.Nat.{ℕ}
use mathlib.Core.Path.{◌≡◌, refl, sym, ap, ◌∙◌}
use mathlib.Core.List.{List, ◌∷◌}
use lib.ListN.{length, drop}
use Rattle.numeral.specs.Numeral.{value}
use Rattle.rules.specs.declared.Scheme.{Scheme}
use Rattle.rules.specs.declared.ControlFields.{ControlFields}
use Rattle.rules.specs.Answers.{Answer, refused, taken, ◌>>=◌}
use Rattle.rules.specs.declared.Last.TheVariants.{Integer}
use Rattle.rules.specs.declared.Body.{Body}
use Rattle.rules.specs.declared.Body.TheVariants.{Then, Zeros, E}
use Rattle.rules.specs.declared.Parts.TheVariants.{F, Integers}
use Rattle.rules.specs.Schemes.{company, integer, about}
use Rattle.rules.specs.Grammar.{body_layout, layout}
use Rattle.rules.specs.TextNumbers.{part_in, parts_in}
use Rattle.std.specs.Prelude.{Err}
use Rattle.scheme.specs.declared.refusal.Refusal.{Refusal}
use Rattle.scheme.specs.Refusals.{refusal}
use Rattle.scheme.specs.Records.{record_of}
use Rattle.parts.specs.Parts.{found_of}
use Rattle.parts.specs.declared.parts.Form.TheVariants.{Prefix}
use Rattle.parts.specs.declared.parts.Form.TheVariants.{Integer as CodeInteger}
use Rattle.parts.specs.declared.parts.Part.{Part}
use Rattle.text.specs.declared.reading.Head.{Head}
use Rattle.text.specs.Reading.{referred, with_last, behind_prefix, read_as}
use Rattle.text.proofs.Found.{Standing, no_part}

abbrev pub head : ControlFields → Scheme → ℕ → ℕ → ℕ → Head
head fields s f p d = record { scheme = s; control = fields; filter = f; prefix = p; digits = d }

-- the parts behind a head, as a tag's
abbrev behind_two : List ℕ → List ℕ → Answer (List (List ℕ)) → Answer (List (List ℕ))
behind_two f q a = a >>= (λ ps. taken (q ∷ ps)) >>= λ ps. taken (f ∷ ps)

joined_two : (fields : ControlFields) (s : Scheme) (body : Body) → (about s).parts ≡ F body → (f q : List ℕ) (a : Answer (List (List ℕ)))
    → behind_prefix (head fields s (value 10 f) (value 10 q) (length q)) body a ≡ read_as fields s (behind_two f q a)
unfolding record_of
joined_two fields s (Then t l) e f q (refused n i) = refl
joined_two fields s (Then t l) e f q (taken ps) = rw e
joined_two fields s (Zeros t z) e f q (refused n i) = refl
joined_two fields s (Zeros t z) e f q (taken ps) = rw e
joined_two fields s E e f q (refused n i) = refl
joined_two fields s E e f q (taken ps) = rw e

joined_one : (fields : ControlFields) (s : Scheme) (a b c : ℕ) → (about s).parts ≡ Integers a b c → (p : List ℕ) (x : Answer (List (List ℕ)))
    → with_last (head fields s 0 (value 10 p) 0) (Integer c) x ≡ read_as fields s (x >>= λ ps. taken (p ∷ ps))
unfolding record_of
joined_one fields s a b c e p (refused n i) = refl
joined_one fields s a b c e p (taken ps) = rw e

-- a filter and a company prefix
module _ (fields : ControlFields) (s : Scheme) (body : Body) (e : (about s).parts ≡ F body) (text : List ℕ) (at : ℕ) where
  module _ (a : Part) (f : Standing 4 (CodeInteger 3) text at a) where
    refused_prefix : (n p : ℕ) → part_in 5 a.next company (drop a.next text) ≡ refused n p → refusal n p ≡ read_as fields s (parts_in at (layout s) (drop at text))
    refused_prefix n p q = rw (e, f.read, sym f.rest, sym f.next, q)

    pub no_prefix : (r : Refusal) → Err r ≡ found_of a.next (part_in 5 a.next company (drop a.next text)) → Err r ≡ read_as fields s (parts_in at (layout s) (drop at text))
    no_prefix r h = let (n, p, q, x) = no_part a.next (part_in 5 a.next company (drop a.next text)) r h in ap Err x ∙ refused_prefix n p q

    pub with_prefix : (b : Part) → Standing 5 Prefix text a.next b
        → behind_prefix (head fields s a.value b.value b.digits) body (parts_in b.next (body_layout body b.digits) (drop b.next text)) ≡ read_as fields s (parts_in at (layout s) (drop at text))
    with_prefix b q =
        rw (f.value_is, q.value_is, q.digits_are, e, f.read, sym f.rest, sym f.next, q.read, sym q.rest, sym q.next)
        (joined_two fields s body e f.part q.part (parts_in b.next (body_layout body (length q.part)) (drop b.next text)))

-- gid-96's three integers
module _ (fields : ControlFields) (s : Scheme) (a b c : ℕ) (e : (about s).parts ≡ Integers a b c) (text : List ℕ) (at : ℕ) where
  pub with_integer : (p : Part) → Standing 5 (CodeInteger a) text at p
      → with_last (head fields s 0 p.value 0) (Integer c) (parts_in p.next (referred (integer b) (integer c)) (drop p.next text)) ≡ read_as fields s (parts_in at (layout s) (drop at text))
  with_integer p f =
      rw (f.value_is, e, f.read, sym f.rest, sym f.next) (joined_one fields s a b c e f.part (parts_in p.next (referred (integer b) (integer c)) (drop p.next text)))
