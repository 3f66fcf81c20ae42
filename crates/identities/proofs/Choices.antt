-- The scheme that is chosen: the 96-bit one if it holds the identity, else the long one; where neither does, no tag has the identity.
use Prim.Native.Nat.{ℕ, ◌≤◌}
use mathlib.Core.Path.{◌≡◌, refl, sym, ◌∙◌, ap}
use mathlib.Core.Logic.{◌⊎◌, inl, inr}
use mathlib.Core.List.{List, ◌++◌}
use Rattle.std.specs.Prelude.{Option, None, Some}
use native.Mathlib.Omega.{arith}
use Rattle.rules.specs.declared.Scheme.{Scheme}
use Rattle.rules.specs.declared.Scheme.TheVariants.{Sgtin96, Sgtin198, Sscc96, Sgln96, Sgln195, Grai96, Grai170, Giai96, Gsrn96, Gsrnp96, Gdti96, Gdti174, Gid96, Gdti113, Sgcn96, Cpi96}
use Rattle.rules.specs.Schemes.{about}
use Rattle.rules.specs.Grammar.{Tag, text_of}
use Rattle.rules.proofs.Answers.{Gives, Decides}
use Rattle.identities.specs.declared.Family.{Family}
use Rattle.identities.specs.declared.Family.TheVariants.{Sgtin, Sscc, Sgln, Grai, Giai, Gsrn, Gsrnp, Gdti, Gid, Sgcn, Cpi}
use Rattle.identities.specs.Families.{family_of, short, long, most_filter}
use Rattle.identities.specs.Grammar.{Identity, joined, start, label, identity_text, IdentityText}
use Rattle.identities.specs.OfTags.{identity_of, filter_of}
use Rattle.identities.specs.Numbers.{body_in, tag_text, held_by, or_else, and_then, chosen}
use Rattle.identities.specs.Conditions.{Holds}
use Rattle.identities.specs.Promises.{In96, Given}
use Rattle.identities.proofs.Divisions.{body_of}
use Rattle.identities.proofs.IdentityTexts.{one_identity}
use Rattle.identities.proofs.Held.{identity_fits, tag_text_lem, Held, held_is, held_split, held_of}

-- A family's schemes.
abbrev pub Bits : Scheme → ℕ
Bits s = (about s).bits

pub short_is : (f : Family) → (family_of (short f) ≡ f) × (Bits (short f) ≡ 96)
short_is Sgtin = (refl, refl)
short_is Sscc = (refl, refl)
short_is Sgln = (refl, refl)
short_is Grai = (refl, refl)
short_is Giai = (refl, refl)
short_is Gsrn = (refl, refl)
short_is Gsrnp = (refl, refl)
short_is Gdti = (refl, refl)
short_is Gid = (refl, refl)
short_is Sgcn = (refl, refl)
short_is Cpi = (refl, refl)

abbrev pub LongIs : Family → Scheme → Type 0
LongIs f s = (family_of s ≡ f) × (¬ (Bits s ≡ 113))

pub long_is : (f : Family) → Gives (LongIs f) (long f)
long_is Sgtin = (refl, λ e. omega arith)
long_is Sscc = tt
long_is Sgln = (refl, λ e. omega arith)
long_is Grai = (refl, λ e. omega arith)
long_is Giai = tt
long_is Gsrn = tt
long_is Gsrnp = tt
long_is Gdti = (refl, λ e. omega arith)
long_is Gid = tt
long_is Sgcn = tt
long_is Cpi = tt

-- every scheme but gdti-113 is one of them: in 96 bits the short one, in more the long one
abbrev Placed : Scheme → Type 0
Placed s = ((s ≡ short (family_of s)) × (Bits s ≡ 96)) ⊎ ((long (family_of s) ≡ Some s) × (¬ (Bits s ≡ 96)))

placed : (s : Scheme) → ¬ (s ≡ Gdti113) → Placed s
placed Sgtin96 h = inl (refl, refl)
placed Sgtin198 h = inr (refl, λ e. omega arith)
placed Sscc96 h = inl (refl, refl)
placed Sgln96 h = inl (refl, refl)
placed Sgln195 h = inr (refl, λ e. omega arith)
placed Grai96 h = inl (refl, refl)
placed Grai170 h = inr (refl, λ e. omega arith)
placed Giai96 h = inl (refl, refl)
placed Gsrn96 h = inl (refl, refl)
placed Gsrnp96 h = inl (refl, refl)
placed Gdti96 h = inl (refl, refl)
placed Gdti174 h = inr (refl, λ e. omega arith)
placed Gid96 h = inl (refl, refl)
placed Gdti113 h = absurd (h refl)
placed Sgcn96 h = inl (refl, refl)
placed Cpi96 h = inl (refl, refl)

not_113 : (s : Scheme) → ¬ (Bits s ≡ 113) → ¬ (s ≡ Gdti113)
not_113 s h e = h (ap Bits e)

-- The identity that a tag has.
pub tag_identity : (t : List ℕ) (τ : Tag) → Holds t τ → IdentityText t (identity_of τ)
tag_identity t τ h = record { fits = identity_fits τ h.fits; text = h.identity }

pub family_is : (τ : Tag) → (identity_of τ).family ≡ family_of τ.scheme
unfolding identity_of
family_is τ = refl

module _ (f : ℕ) (t : List ℕ) (ι : Identity) (r : IdentityText t ι) (least : f ≤ most_filter ι.family) where
  -- what a scheme of the family holds has the identity, the filter and no control fields
  has : (s : Scheme) (τ : Tag) → family_of s ≡ ι.family → ¬ (s ≡ Gdti113) → held_by f (joined ι.parts) s ≡ Some τ → Holds t τ × (filter_of τ ≡ f) × Held f (joined ι.parts) s τ
  unfolding identity_text
  has s τ e n k =
      let h = held_is f (joined ι.parts) s τ k in
      let (g, b) = held_split f (joined ι.parts) s τ (rw e least) h in
      let same : identity_text (identity_of τ) ≡ identity_text ι =
      ap (λ x. start ++ (label x ++ joined (identity_of τ).parts)) (family_is τ ∙ ap family_of h.scheme ∙ e) ∙ ap (λ x. start ++ (label ι.family ++ x)) b in
      (record { fits = h.fits; identity = r.text ∙ sym same; not_113 = λ z. n (sym h.scheme ∙ z) }, g, h)

  -- a tag that has the identity has it held by its scheme
  there : (σ : Tag) → Holds t σ → (family_of σ.scheme ≡ ι.family) × ((τ : Tag) × (held_by f (joined ι.parts) σ.scheme ≡ Some τ))
  there σ h =
      let e = one_identity t (identity_of σ) ι (tag_identity t σ h) r in
      let g : family_of σ.scheme ≡ ι.family = sym (family_is σ) ∙ ap (λ x. x.family) e in
      (g, rw (ap (λ x. joined x.parts) e) at (held_of σ f h.fits (rw g least)))

  -- where the 96-bit scheme holds nothing, no tag of it has the identity
  not_short : held_by f (joined ι.parts) (short ι.family) ≡ None → (τ : Tag) → Holds t τ → ¬ (τ.scheme ≡ short (family_of τ.scheme))
  not_short k τ h p =
      let (q, (σ, w)) = there τ h in
      let z : ◌≡◌ {A = Option Tag} None (Some σ) = sym k ∙ ap (held_by f (joined ι.parts)) (sym (p ∙ ap short q)) ∙ w in
      let y : ◌≡◌ {A = ℕ} 0 1 = cc in
      omega arith

  -- a tag of the long scheme that has the identity
  is_long : (τ : Tag) → Holds t τ → long (family_of τ.scheme) ≡ Some τ.scheme → long ι.family ≡ Some τ.scheme
  is_long τ h p = ap long (sym (there τ h).0) ∙ p

  decides : (o : Option Tag) → held_by f (joined ι.parts) (short ι.family) ≡ o → (l : Option Scheme) → long ι.family ≡ l → Gives (LongIs ι.family) l
      → Decides (¬ ((τ : Tag) × Holds t τ)) (Given f t) (or_else o (and_then l (held_by f (joined ι.parts))))
  decides (Some τ) k l e g =
      let (same, wide) = short_is ι.family in
      let (h, fil, held) = has (short ι.family) τ same (not_113 _ (λ z. omega (arith, wide, z))) k in
      (λ none-there. none-there (τ, h), record { holds = h; filter = fil; control = held.control; shortest = λ σ i j. ap Bits held.scheme ∙ wide })
  decides None k None e g = λ (τ, h). nothing τ h (placed τ.scheme h.not_113)
    where
      nothing : (τ : Tag) → Holds t τ → Placed τ.scheme → ⊥
      nothing τ h (inl (p, _)) = not_short k τ h p
      nothing τ h (inr (p, _)) =
          let z : ◌≡◌ {A = Option Scheme} None (Some τ.scheme) = sym e ∙ is_long τ h p in
          let y : ◌≡◌ {A = ℕ} 0 1 = cc in
          omega arith
  decides None k (Some s) e g = found (held_by f (joined ι.parts) s) refl
    where
      neither : held_by f (joined ι.parts) s ≡ None → (τ : Tag) → Holds t τ → Placed τ.scheme → ⊥
      neither n τ h (inl (p, _)) = not_short k τ h p
      neither n τ h (inr (p, _)) =
          let (_, (σ, w)) = there τ h in
          let same : ◌≡◌ {A = Option Scheme} (Some s) (Some τ.scheme) = sym e ∙ is_long τ h p in
          let is : s ≡ τ.scheme = cc in
          let z : ◌≡◌ {A = Option Tag} None (Some σ) = sym n ∙ ap (held_by f (joined ι.parts)) is ∙ w in
          let y : ◌≡◌ {A = ℕ} 0 1 = cc in
          omega arith

      in_96 : (σ : Tag) → Holds t σ → In96 σ → Placed σ.scheme → ⊥
      in_96 σ h b (inl (p, _)) = not_short k σ h p
      in_96 σ h b (inr (_, m)) = m b

      found : (o : Option Tag) → held_by f (joined ι.parts) s ≡ o → Decides (¬ ((τ : Tag) × Holds t τ)) (Given f t) o
      found None n = λ (τ, h). neither n τ h (placed τ.scheme h.not_113)
      found (Some τ) n =
          let (h, fil, held) = has s τ g.0 (not_113 s g.1) n in
          (λ none-there. none-there (τ, h), record { holds = h; filter = fil; control = held.control; shortest = λ σ i j. absurd (in_96 σ i j (placed σ.scheme i.not_113)) })

  pub chosen_decides : Decides (¬ ((τ : Tag) × Holds t τ)) (Given f t) (chosen f ι.family (joined ι.parts))
  chosen_decides = decides (held_by f (joined ι.parts) (short ι.family)) refl (long ι.family) refl (long_is ι.family)

-- What is chosen behind a family's name is of the grammar, whatever was read there before: its parts are those of the tag's identity.
pub chosen_formed : (f : ℕ) (g : Family) (x : List ℕ) (τ : Tag) → f ≤ most_filter g → chosen f g x ≡ Some τ → (body_in g x ≡ Some (identity_of τ).parts) × (joined (identity_of τ).parts ≡ x)
chosen_formed f g x τ least e = go (held_by f x (short g)) refl (long g) (long_is g) e
  where
    formed : (s : Scheme) → family_of s ≡ g → held_by f x s ≡ Some τ → (body_in g x ≡ Some (identity_of τ).parts) × (joined (identity_of τ).parts ≡ x)
    formed s k e =
        let h = held_is f x s τ e in
        let (_, b) = held_split f x s τ (rw k least) h in
        let same : (identity_of τ).family ≡ g = family_is τ ∙ ap family_of h.scheme ∙ k in
        (ap (λ h. body_in h x) (sym same) ∙ ap (body_in (identity_of τ).family) (sym b) ∙ body_of (identity_of τ) (identity_fits τ h.fits), b)

    go : (o : Option Tag) → held_by f x (short g) ≡ o → (l : Option Scheme) → Gives (LongIs g) l → or_else o (and_then l (held_by f x)) ≡ Some τ
        → (body_in g x ≡ Some (identity_of τ).parts) × (joined (identity_of τ).parts ≡ x)
    go (Some σ) k l h e = formed (short g) (short_is g).0 (k ∙ e)
    go None k None h e = let z : ◌≡◌ {A = ℕ} 0 1 = cc in absurd (omega arith)
    go None k (Some s) h e = formed s h.0 e

-- No second tag is given.
one_scheme : (s s' : Scheme) → family_of s ≡ family_of s' → (Bits s ≡ 96 → Bits s' ≡ 96) → (Bits s' ≡ 96 → Bits s ≡ 96) → Placed s → Placed s' → s ≡ s'
one_scheme s s' e h k (inl (p, _)) (inl (q, _)) = p ∙ ap short e ∙ sym q
one_scheme s s' e h k (inl (p, b)) (inr (q, m)) = absurd (m (h b))
one_scheme s s' e h k (inr (p, m)) (inl (q, b)) = absurd (m (k b))
one_scheme s s' e h k (inr (p, _)) (inr (q, _)) =
    let z : ◌≡◌ {A = Option Scheme} (Some s) (Some s') = sym p ∙ ap long e ∙ q in
    cc

pub one_given : (f : ℕ) (t : List ℕ) (τ τ' : Tag) → Given f t τ → Given f t τ' → text_of τ ≡ text_of τ'
one_given f t τ τ' g g' =
    let h = g.holds in
    let h' = g'.holds in
    let e = one_identity t (identity_of τ) (identity_of τ') (tag_identity t τ h) (tag_identity t τ' h') in
    let same : family_of τ.scheme ≡ family_of τ'.scheme = sym (family_is τ) ∙ ap (λ x. x.family) e ∙ family_is τ' in
    let s = one_scheme τ.scheme τ'.scheme same (g'.shortest τ h) (g.shortest τ' h') (placed τ.scheme h.not_113) (placed τ'.scheme h'.not_113) in
    tag_text_lem τ h.fits g.control ∙ ap (λ n. tag_text n (joined (identity_of τ).parts) τ.scheme) (g.filter ∙ sym g'.filter)
    ∙ ap (λ x. tag_text (filter_of τ') (joined x.parts) τ.scheme) e ∙ ap (tag_text (filter_of τ') (joined (identity_of τ').parts)) s ∙ sym (tag_text_lem τ' h'.fits g'.control)
