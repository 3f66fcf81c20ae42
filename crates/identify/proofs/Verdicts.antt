-- The verdict on a counted family, from its prefix, its reference and its last part.
use Prim.Native.Nat.{ℕ, suc, ◌+◌, ◌-◌, ◌≤◌, ◌<◌}
use mathlib.Core.Path.{◌≡◌, refl, sym, ap, ◌∙◌}
use mathlib.Core.Bool.{Bool, true, false, ◌&&◌, cond}
use mathlib.Core.List.{List, ◌∷◌}
use Rattle.std.specs.Prelude.{Result, Err, Option, None, Some, option_map}
use native.Mathlib.Omega.{arith}
use lib.Dec.{T, ltb, eqb}
use lib.ListN.{length, drop, get_or, drop_of_length-le}
use borrow.Author.Tests.{eq-eqb, ne_eqb, eqb-true}
use Rattle.rules.specs.Bytes.{all, among, upto, dot, digits_text}
use Rattle.rules.specs.Grammar.{digit}
use Rattle.rules.specs.TextNumbers.{is_digit, digits_in}
use Rattle.rules.proofs.Answers.{Gives}
use Rattle.rules.proofs.Decimals.{digits_is}
use Rattle.digits.proofs.Runs.{drop_next}
use Rattle.digits.proofs.Texts.{length_text}
use Rattle.identities.specs.declared.Component.{Component}
use Rattle.identities.specs.declared.Component.TheVariants.{Padded, PaddedOrEmpty}
use Rattle.identities.specs.Numbers.{holds, some_of, is}
use Rattle.identify.specs.declared.counted.Fault.{Fault}
use Rattle.std.specs.Option.{ok_or}
use Rattle.identify.specs.Words.{split_by, is_there}
use Rattle.identify.proofs.Divided.{Cut, cut_is, not_cut}

-- DIGITS BEFORE A DOT, byte by byte
abbrev pub further : ℕ → Option ℕ → Option ℕ
further k r = option_map (k +◌) r

pub no_further : (r : Option ℕ) → r ≡ further 0 r
no_further None = refl
no_further (Some n) = ap Some (omega arith)

pub further_again : (k : ℕ) (r : Option ℕ) → further k (further 1 r) ≡ further (k + 1) r
further_again k None = refl
further_again k (Some n) = ap Some (omega arith)

digit_more : (y : ℕ) (u : List ℕ) → is_digit y ≡ true → is PaddedOrEmpty (y ∷ u) ≡ is PaddedOrEmpty u
digit_more y u d = rw d (go (digits_in u))
  where
    go : (o : Option (List ℕ)) → holds (λ (_ : List ℕ). true) (option_map ((y - 48) ∷◌) o) ≡ holds (λ _. true) o
    go None = refl
    go (Some ds) = refl

dot_no_digit : (y : ℕ) → is_digit y ≡ true → eqb dot y ≡ false
dot_no_digit y d = go (eqb dot y) refl
  where
    go : (b : Bool) → eqb dot y ≡ b → b ≡ false
    go false e = refl
    go true e = let q : dot ≡ y = eqb-true dot y e in let z : ◌≡◌ {A = Bool} false true = rw (← q) at d in cc

module _ (x : List ℕ) (i : ℕ) where
  pub past : length x ≤ i → split_by PaddedOrEmpty (drop i x) ≡ None
  past h = rw (drop_of_length-le x h)

  module _ (h : i < length x) where
    pub at_dot : get_or x i 0 ≡ dot → split_by PaddedOrEmpty (drop i x) ≡ Some 0
    at_dot e = rw (drop_next x i h, eq-eqb dot (get_or x i 0) (sym e))

    pub at_digit : is_digit (get_or x i 0) ≡ true → split_by PaddedOrEmpty (drop i x) ≡ further 1 (split_by PaddedOrEmpty (drop (i + 1) x))
    at_digit d =
        let y = get_or x i 0 in
        let t = drop (i + 1) x in
        ap (split_by PaddedOrEmpty) (drop_next x i h) ∙ rw (dot_no_digit y d, digit_more y (upto dot t) d) (go (among dot t && is PaddedOrEmpty (upto dot t)))
      where
        go : (b : Bool) → cond b (Some (suc (length (upto dot (drop (i + 1) x))))) None ≡ further 1 (cond b (Some (length (upto dot (drop (i + 1) x)))) None)
        go true = ap Some (omega arith)
        go false = refl

    pub at_other : ¬ (get_or x i 0 ≡ dot) → is_digit (get_or x i 0) ≡ false → split_by PaddedOrEmpty (drop i x) ≡ None
    at_other n d = rw (drop_next x i h, ne_eqb dot (get_or x i 0) (λ e. n (sym e)), d) (go (among dot (drop (i + 1) x)))
      where
        go : (b : Bool) → cond (b && false) (Some (suc (length (upto dot (drop (i + 1) x))))) None ≡ None
        go true = refl
        go false = refl

-- the fault that is given where there is none
pub the_fault : {o : Option ℕ} {e f : Fault} → o ≡ None → ◌≡◌ {A = Result ℕ Fault} (Err e) (ok_or o f) → e ≡ f
the_fault {o = o} {f = f} n h = let k = h ∙ ap (λ o. ok_or o f) n in cc

-- A PREFIX OR A REFERENCE

-- a component of digits, which may be empty or not
pub data Digital : Component → Type 0 where
  never_empty : Digital Padded
  maybe_empty : Digital PaddedOrEmpty

-- where it is there, it is the component that it has to be
there : {b : Component} → Digital b → (u : List ℕ) → is PaddedOrEmpty u ≡ true → is b u ≡ is_there b (length u)
there never_empty u e = go (digits_in u) (digits_is u) e
  where
    go : (o : Option (List ℕ)) → Gives (λ ds. T (all digit ds) × (u ≡ digits_text ds)) o → holds (λ (_ : List ℕ). true) o ≡ true → holds some_of o ≡ ltb 0 (length u)
    go None g e = cc
    go (Some ds) g e = ap (ltb 0) (sym (ap length g.1 ∙ length_text ds))
there maybe_empty u e = e

not_there : {b : Component} → Digital b → (u : List ℕ) → is PaddedOrEmpty u ≡ false → is b u ≡ false
not_there never_empty u e = go (digits_in u) e
  where
    go : (o : Option (List ℕ)) → holds (λ (_ : List ℕ). true) o ≡ false → holds some_of o ≡ false
    go None e = refl
    go (Some ds) e = cc
not_there maybe_empty u e = e

module _ {b : Component} (d : Digital b) (y : List ℕ) where
  pub uncut : None ≡ split_by PaddedOrEmpty y → None ≡ split_by b y
  uncut e = go (among dot y) (is PaddedOrEmpty (upto dot y)) refl (not_cut PaddedOrEmpty y e)
    where
      go : (a c : Bool) → is PaddedOrEmpty (upto dot y) ≡ c → a && c ≡ false → None ≡ cond (a && is b (upto dot y)) (Some (length (upto dot y))) None
      go false c k e = refl
      go true c k e = rw (not_there d (upto dot y) (k ∙ e))

  module _ (m : ℕ) (e : Some m ≡ split_by PaddedOrEmpty y) where
    cut : Cut PaddedOrEmpty y m
    cut = cut_is PaddedOrEmpty y m e

    component : is b (upto dot y) ≡ is_there b m
    component = there d (upto dot y) cut.right ∙ ap (is_there b) (sym cut.place)

    pub missing : is_there b m ≡ false → None ≡ split_by b y
    missing k = rw (cut.dotted, component ∙ k)

    pub cut_there : is_there b m ≡ true → Cut b y m
    cut_there k = let c = cut in record { dotted = c.dotted; right = component ∙ k; place = c.place; rest = c.rest; sizes = c.sizes }

-- the digits of a component that is digits
pub digits_of_cut : {b : Component} → Digital b → (y : List ℕ) (m : ℕ) → Cut b y m → (ds : List ℕ) × (digits_in (upto dot y) ≡ Some ds) × (length ds ≡ m)
digits_of_cut {b = b} d y m k = go (digits_in (upto dot y)) refl (digits_is (upto dot y)) (empty d)
  where
    empty : Digital b → is PaddedOrEmpty (upto dot y) ≡ true
    empty d = all_there (is PaddedOrEmpty (upto dot y)) refl
      where
        all_there : (q : Bool) → is PaddedOrEmpty (upto dot y) ≡ q → q ≡ true
        all_there true e = refl
        all_there false e = let z : ◌≡◌ {A = Bool} true false = sym k.right ∙ not_there d (upto dot y) e in cc

    go : (o : Option (List ℕ)) → digits_in (upto dot y) ≡ o → Gives (λ ds. T (all digit ds) × (upto dot y ≡ digits_text ds)) o → holds (λ (_ : List ℕ). true) o ≡ true
        → (ds : List ℕ) × (digits_in (upto dot y) ≡ Some ds) × (length ds ≡ m)
    go None e g h = cc
    go (Some ds) e g h = (ds, e, omega (arith, k.place, ap length g.1, length_text ds))

pub digits_of_text : (u : List ℕ) → is Padded u ≡ true → (ds : List ℕ) × (digits_in u ≡ Some ds) × (length ds ≡ length u)
digits_of_text u e = go (digits_in u) refl (digits_is u) e
  where
    go : (o : Option (List ℕ)) → digits_in u ≡ o → Gives (λ ds. T (all digit ds) × (u ≡ digits_text ds)) o → holds some_of o ≡ true → (ds : List ℕ) × (digits_in u ≡ Some ds) × (length ds ≡ length u)
    go None q g h = cc
    go (Some ds) q g h = (ds, q, sym (ap length g.1 ∙ length_text ds))
