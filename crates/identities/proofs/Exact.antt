-- What the two calls give: the identity of a tag; a tag of an identity, and 25 exactly where there is none; the same text there and back.
use Prim.Native.Nat.{ℕ, ◌≤◌}
use mathlib.Core.Path.{◌≡◌, refl, sym, ◌∙◌, ap}
use mathlib.Core.Logic.{◌↔◌}
use mathlib.Core.List.{List, []}
use Rattle.std.specs.Prelude.{Option, None, Some}
use native.Mathlib.Omega.{arith}
use lib.Dec.{leb, le→leb}
use lib.ListN.{length, get_or}
use Rattle.rules.specs.declared.Scheme.TheVariants.{Gdti113}
use Rattle.rules.specs.Answers.{Answer, refused, taken, ◌>>=◌, given}
use Rattle.rules.specs.ControlFields.{no_fields}
use Rattle.rules.specs.Grammar.{Tag, start, text_of, TagText}
use Rattle.rules.specs.TextNumbers.{tag_of_text}
use Rattle.rules.specs.Calls.{Output, call, lent, wrote, text_room}
use Rattle.rules.proofs.Tests.{is_true}
use Rattle.rules.proofs.Answers.{Decides, Reads}
use Rattle.rules.proofs.TextReads.{tag_of}
use Rattle.rules.proofs.Exact.{one_division}
use Rattle.rules.proofs.Again.{wrote_is}
use Rattle.identities.specs.Families.{most_filter}
use Rattle.identities.specs.Grammar.{Identity, joined, identity_text, IdentityText}
use Rattle.identities.specs.OfTags.{identity_of, filter_of}
use Rattle.identities.specs.Numbers.{chosen, tag_of_identity}
use Rattle.identities.specs.Calls.{tag_to_identity, identity_to_tag}
use Rattle.identities.specs.Conditions.{Holds, identity_rules}
use Rattle.identities.specs.Promises.{In96, Given}
use Rattle.identities.proofs.IdentityTexts.{identity_of_lem}
use Rattle.identities.proofs.Held.{filter_most}
use Rattle.identities.proofs.Choices.{tag_identity, family_is, chosen_decides, one_given}
use Rattle.identities.proofs.IdentityReads.{identity_reads}

-- an output of the room is no reason to refuse
roomy : (out : List ℕ) (a : Answer Output) → text_room ≤ length out → lent text_room out a ≡ a
roomy out a l = rw (is_true (leb text_room (length out)) (le→leb text_room (length out) l))

wrote_taken : (out w : List ℕ) → wrote (call out (taken (0, w))) ≡ w
wrote_taken out w = wrote_is out w (call out (taken (0, w))) refl refl

module _ (t out : List ℕ) (l : text_room ≤ length out) where
  -- the first call accepts the text of a tag, and writes the identity of that tag
  pub identity_written : (τ : Tag) → TagText t τ → ((tag_to_identity t out).number ≡ 0) × (wrote (tag_to_identity t out) ≡ identity_text (identity_of τ))
  unfolding tag_to_identity
  identity_written τ r =
      let w = identity_text (identity_of τ) in
      let e : call out (lent text_room out (tag_of_text t >>= λ τ. taken (0, identity_text (identity_of τ)))) ≡ call out (taken (0, w)) =
      ap (call out) (roomy out (tag_of_text t >>= λ τ. taken (0, identity_text (identity_of τ))) l ∙ ap (◌>>= λ τ. taken (0, identity_text (identity_of τ))) (tag_of t τ r)) in
      (ap (λ c. c.number) e, ap wrote e ∙ wrote_taken out w)

-- a text of the grammar and a filter that is right: the choice alone is left
judged : (f : ℕ) (t : List ℕ) (ι : Identity) → IdentityText t ι → f ≤ most_filter ι.family → tag_of_identity f t ≡ given (chosen f ι.family (joined ι.parts)) 25 0
unfolding tag_of_identity
judged f t ι r most = rw (identity_of_lem t ι r, is_true (leb f (most_filter ι.family)) (le→leb f (most_filter ι.family) most))

-- what is to be given is given
pub given_taken : (f : ℕ) (t : List ℕ) (τ : Tag) → Given f t τ → tag_of_identity f t ≡ taken τ
given_taken f t τ g =
    let ι = identity_of τ in
    let r = tag_identity t τ g.holds in
    let most : f ≤ most_filter ι.family = rw (← g.filter, family_is τ) (filter_most τ g.holds.fits) in
    judged f t ι r most ∙ go (chosen f ι.family (joined ι.parts)) (chosen_decides f t ι r most)
  where
    go : (o : Option Tag) → Decides (¬ ((σ : Tag) × Holds t σ)) (Given f t) o → given o 25 0 ≡ taken τ
    go None h = absurd (h (τ, g.holds))
    go (Some σ) h =
        let e = one_given f t σ τ h.1 g in
        ap taken (one_division (text_of τ) σ τ (record { fits = h.1.holds.fits; text = sym e }) (record { fits = g.holds.fits; text = refl }))

module _ (f : ℕ) (t out : List ℕ) (l : text_room ≤ length out) where
  answers : (τ : Tag) → tag_of_identity f t ≡ taken τ → identity_to_tag f t out ≡ call out (taken (0, text_of τ))
  unfolding identity_to_tag
  answers τ e = ap (call out) (roomy out (tag_of_identity f t >>= λ τ. taken (0, text_of τ)) l ∙ ap (◌>>= λ τ. taken (0, text_of τ)) e)

  refuses : (n p : ℕ) → tag_of_identity f t ≡ refused n p → identity_to_tag f t out ≡ call out (refused n p)
  unfolding identity_to_tag
  refuses n p e = ap (call out) (roomy out (tag_of_identity f t >>= λ τ. taken (0, text_of τ)) l ∙ ap (◌>>= λ τ. taken (0, text_of τ)) e)

  -- the second call accepts exactly where there is a tag to be given, and writes its text
  pub tag_written : ((identity_to_tag f t out).number ≡ 0) ↔ ((τ : Tag) × Given f t τ × TagText (wrote (identity_to_tag f t out)) τ)
  tag_written = (there (tag_of_identity f t) refl (identity_reads f t), λ (τ, g, _). ap (λ c. c.number) (answers τ (given_taken f t τ g)))
    where
      there : (a : Answer Tag) → tag_of_identity f t ≡ a → Reads (identity_rules f t) (Given f t) a → (identity_to_tag f t out).number ≡ 0
          → (τ : Tag) × Given f t τ × TagText (wrote (identity_to_tag f t out)) τ
      there (refused n p) e h z = absurd (omega (arith, h.1, ap (λ c. c.number) (refuses n p e)))
      there (taken τ) e h z = (τ, h.1, record { fits = h.1.holds.fits; text = ap wrote (answers τ e) ∙ wrote_taken out (text_of τ) })

  -- of the texts of the grammar, 25 refuses exactly those that are the identity of no tag text of a scheme other than gdti-113
  pub no_scheme : (ι : Identity) → IdentityText t ι → f ≤ most_filter ι.family
      → ((identity_to_tag f t out).number ≡ 25) ↔ (¬ ((u : List ℕ) × (τ : Tag) × TagText u τ × (¬ (τ.scheme ≡ Gdti113)) × (t ≡ identity_text (identity_of τ))))
  no_scheme ι r most = go (chosen f ι.family (joined ι.parts)) (chosen_decides f t ι r most) (judged f t ι r most)
    where
      go : (o : Option Tag) → Decides (¬ ((σ : Tag) × Holds t σ)) (Given f t) o → tag_of_identity f t ≡ given o 25 0
          → ((identity_to_tag f t out).number ≡ 25) ↔ (¬ ((u : List ℕ) × (τ : Tag) × TagText u τ × (¬ (τ.scheme ≡ Gdti113)) × (t ≡ identity_text (identity_of τ))))
      go None h e = (λ _ (u, τ, x, n, i). h (τ, record { fits = x.fits; identity = i; not_113 = n }), λ _. ap (λ c. c.number) (refuses 25 0 e))
      go (Some τ) h e = (
        λ z. absurd (omega (arith, ap (λ c. c.number) (answers τ e))),
        λ n. let i = h.1.holds in absurd (n (text_of τ, τ, record { fits = i.fits; text = refl }, i.not_113, i.identity)),
      )

-- The scheme of a tag is the one chosen for its identity: not gdti-113, and of 96 bits if a tag of the 96-bit scheme has this identity.
pub record Chosen (τ : Tag) : Type 0 where
  pub not_113 : ¬ (τ.scheme ≡ Gdti113)
  pub shortest : (σ : Tag) → Holds (identity_text (identity_of τ)) σ → In96 σ → In96 τ

-- From a tag text to its identity and back with its filter: the same text exactly if its scheme is the one chosen and it has no control fields.
module _ (t out out' : List ℕ) (l : text_room ≤ length out) (l' : text_room ≤ length out') (τ : Tag) (r : TagText t τ) where
  abbrev identity : List ℕ
  identity = identity_text (identity_of τ)

  not_empty : ¬ (t ≡ [])
  unfolding text_of start
  not_empty e = let z : get_or t 0 0 ≡ 117 = ap (λ x. get_or x 0 0) r.text in omega (arith, ap (λ x. get_or x 0 0) e)

  pub back : (wrote (identity_to_tag (filter_of τ) (wrote (tag_to_identity t out)) out') ≡ t) ↔ (Chosen τ × (τ.control ≡ no_fields))
  back = rw (identity_written t out l τ r).1 (same (tag_of_identity (filter_of τ) identity) refl (identity_reads (filter_of τ) identity), again)
    where
      same : (a : Answer Tag) → tag_of_identity (filter_of τ) identity ≡ a → Reads (identity_rules (filter_of τ) identity) (Given (filter_of τ) identity) a
          → wrote (identity_to_tag (filter_of τ) identity out') ≡ t → Chosen τ × (τ.control ≡ no_fields)
      same (refused n p) e h w = absurd (not_empty (sym w ∙ ap wrote (refuses (filter_of τ) identity out' l' n p e)))
      same (taken σ) e h w =
          let text : t ≡ text_of σ = sym w ∙ ap wrote (answers (filter_of τ) identity out' l' σ e) ∙ wrote_taken out' (text_of σ) in
          let is = one_division t σ τ (record { fits = h.1.holds.fits; text = text }) r in
          let g = rw is at h.1 in
          (record { not_113 = g.holds.not_113; shortest = g.shortest }, g.control)

      again : Chosen τ × (τ.control ≡ no_fields) → wrote (identity_to_tag (filter_of τ) identity out') ≡ t
      again (c, n) =
          let g : Given (filter_of τ) identity τ = record { holds = record { fits = r.fits; identity = refl; not_113 = c.not_113 }; filter = refl; control = n; shortest = c.shortest } in
          ap wrote (answers (filter_of τ) identity out' l' τ (given_taken (filter_of τ) identity τ g)) ∙ wrote_taken out' (text_of τ) ∙ sym r.text
