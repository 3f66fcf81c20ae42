-- The answers of the two calls, from what was read.
use Prim.Native.Nat.{ℕ, ◌≤◌, ◌<◌}
use mathlib.Core.Path.{◌≡◌, refl, sym, ap, ◌∙◌}
use mathlib.Core.Bool.{true, false}
use mathlib.Core.List.{List, ◌++◌, append_assoc}
use Rattle.std.specs.Prelude.{Ok, Err, Option, None, Some, option_map}
use Rattle.std.proofs.lemmas.Option.{some_pair_parts}
use native.Mathlib.Omega.{arith}
use lib.ListN.{length, drop, length-append}
use lib.Seq.{drop_at}
use borrow.Author.Tests.{lt-leb, le-leb}
use Rattle.rules.specs.Grammar.{Tag, text_of}
use Rattle.rules.specs.TextNumbers.{after}
use Rattle.rules.specs.Calls.{text_room}
use Rattle.rules.proofs.Answers.{Gives}
use Rattle.rules.proofs.Starts.{after_is}
use Rattle.codec.specs.Answers.{answered}
use Rattle.scheme.specs.declared.refusal.Rule.TheVariants.{NotAnIdentity, FilterTooLarge, NoScheme}
use Rattle.scheme.specs.Refusals.{by}
use Rattle.identities.specs.declared.Family.{Family}
use Rattle.identities.specs.Families.{families, most_filter}
use Rattle.identities.specs.Grammar.{IdentityFits, joined, start, label}
use Rattle.identities.specs.Numbers.{Named as NamedText}
use Rattle.identities.specs.Numbers.{holds, body_in, named, identified, and_then, identity_in, chosen, tag_of_identity}
use Rattle.identities.specs.Calls.{identity_to_tag}
use Rattle.identities.proofs.Divisions.{body_is}
use Rattle.identities.proofs.IdentityTexts.{named_is}
use Rattle.identities.proofs.Choices.{chosen_formed}
use Rattle.identify.specs.Words.{behind_colon, found_in, is_body, of_family}

-- Behind a family's name.
module _ (g : Family) (f : ℕ) (x out : List ℕ) where
  abbrev here : NamedText
  here = record { family = g; rest = x }

  -- the form is wrong: 23, whatever the filter
  pub not_formed : is_body g x ≡ false → answered (Err (by NotAnIdentity 0)) out ≡ of_family g f x out
  not_formed w = go (body_in g x) refl w
    where
      go : (o : Option (List (List ℕ))) → body_in g x ≡ o → holds (λ (_ : List (List ℕ)). true) o ≡ false → answered (Err (by NotAnIdentity 0)) out ≡ of_family g f x out
      go None e w = rw e
      go (Some ps) e w = cc

  -- a filter above the limit: 24
  pub over : is_body g x ≡ true → most_filter g < f → answered (Err (by FilterTooLarge 0)) out ≡ of_family g f x out
  over w l = go (body_in g x) refl w
    where
      go : (o : Option (List (List ℕ))) → body_in g x ≡ o → holds (λ (_ : List (List ℕ)). true) o ≡ true → answered (Err (by FilterTooLarge 0)) out ≡ of_family g f x out
      go None e w = cc
      go (Some ps) e w = rw (e, lt-leb f (most_filter g) l)

  -- nothing is chosen: 25
  pub unheld : is_body g x ≡ true → f ≤ most_filter g → chosen f g x ≡ None → answered (Err (by NoScheme 0)) out ≡ of_family g f x out
  unheld w l n = go (body_in g x) refl (body_is g x) w
    where
      go : (o : Option (List (List ℕ))) → body_in g x ≡ o → Gives (λ xs. IdentityFits (record { family = g; parts = xs }) × (x ≡ joined xs)) o → holds (λ (_ : List (List ℕ)). true) o ≡ true
          → answered (Err (by NoScheme 0)) out ≡ of_family g f x out
      go None e h w = cc
      go (Some ps) e h w = rw (e, le-leb f (most_filter g) l, ap (chosen f g) (sym h.1) ∙ n)

  -- what is chosen is written
  pub held : f ≤ most_filter g → (τ : Tag) → chosen f g x ≡ Some τ → (n : ℕ) (after : List ℕ) → n ≡ length (text_of τ) → after ≡ text_of τ ++ drop (length (text_of τ)) out
      → answered (Ok (record { length = n; words = 0 })) after ≡ of_family g f x out
  held l τ e n after k o =
      let (b, j) = chosen_formed f g x τ l e in
      rw (b, le-leb f (most_filter g) l, ap (chosen f g) j ∙ e, k, o)

-- The family that a text names.
pub no_family : (t : List ℕ) → found_in t ≡ None → identity_in t ≡ None
unfolding found_in identity_in
no_family t e = started (after start t) e
  where
    asked : (o : Option NamedText) → option_map behind_colon o ≡ None → and_then o identified ≡ None
    asked None e = refl
    asked (Some c) e = cc

    started : (o : Option (List ℕ)) → option_map behind_colon (and_then o (named families)) ≡ None → (and_then o λ u. and_then (named families u) identified) ≡ None
    started None e = refl
    started (Some u) e = asked (named families u) e

pub family_found : (t : List ℕ) (g : Family) (n : ℕ) → found_in t ≡ Some (g, n) → (n ≤ length t) × (identity_in t ≡ identified (record { family = g; rest = drop n t }))
unfolding found_in identity_in
family_found t g n e = started (after start t) (after_is start t) e
  where
    asked : (u : List ℕ) → t ≡ start ++ u → (o : Option NamedText) → Gives (λ c. u ≡ label c.family ++ c.rest) o → option_map behind_colon o ≡ Some (g, n) → (n ≤ length t) × (and_then o identified ≡ identified (record { family = g; rest = drop n t }))
    asked u q None h e = cc
    asked u q (Some c) h e =
        let (f, m) = some_pair_parts _ _ _ _ e in
        let s : t ≡ (start ++ label c.family) ++ c.rest = q ∙ ap (start ++◌) h ∙ sym (append_assoc start (label c.family) c.rest) in
        let k : length (start ++ label c.family) ≡ n = omega (arith, m, length-append start (label c.family)) in
        let d : drop n t ≡ c.rest = ap (drop n) s ∙ drop_at (start ++ label c.family) c.rest n k in
        (omega (arith, k, ap length s, length-append (start ++ label c.family) c.rest), λ i. identified (record { family = f i; rest = sym d i }))

    started : (o : Option (List ℕ)) → Gives (λ u. t ≡ start ++ u) o → option_map behind_colon (and_then o (named families)) ≡ Some (g, n)
        → (n ≤ length t) × ((and_then o λ u. and_then (named families u) identified) ≡ identified (record { family = g; rest = drop n t }))
    started None q e = cc
    started (Some u) q e = asked u q (named families u) (named_is families u) e

pub to_tag : (f : ℕ) (t out : List ℕ) (g : Family) (x : List ℕ) → text_room ≤ length out → identity_in t ≡ identified (record { family = g; rest = x }) → of_family g f x out ≡ identity_to_tag f t out
unfolding identity_to_tag tag_of_identity
to_tag f t out g x l e = rw (le-leb text_room (length out) l, e)

pub not_named : (f : ℕ) (t out : List ℕ) → text_room ≤ length out → identity_in t ≡ None → answered (Err (by NotAnIdentity 0)) out ≡ identity_to_tag f t out
unfolding identity_to_tag tag_of_identity
not_named f t out l e = rw (le-leb text_room (length out) l, e)
