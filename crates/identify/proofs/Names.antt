-- The families, asked one after the other: the first that is named is found.
use Prim.Native.Nat.{ℕ, ◌+◌, ◌≤◌, ◌<◌}
use mathlib.Core.Path.{◌≡◌, refl, sym}
use mathlib.Core.Bool.{Bool, true, false}
use mathlib.Core.List.{List, ◌∷◌, ◌++◌}
use Rattle.std.specs.Prelude.{Option, None, Some, option_map}
use native.Mathlib.Omega.{arith}
use native.Mathlib.Numerals.{add-one}
use lib.ListN.{length, drop, get_or, length-append, drop_of_length-le}
use lib.Seq.{drop-cons}
use Rattle.rules.specs.TextNumbers.{after}
use Rattle.digits.specs.Starts.{begun}
use Rattle.digits.proofs.Starts.{begun_is, begun_not}
use Rattle.identities.specs.declared.Family.{Family}
use Rattle.identities.specs.declared.Family.TheVariants.{Sgtin, Sscc, Sgln, Grai, Giai, Gsrn, Gsrnp, Gdti, Gid, Sgcn, Cpi}
use Rattle.identities.specs.Families.{families}
use Rattle.identities.specs.Grammar.{start, label}
use Rattle.identities.specs.Numbers.{Named as NamedText}
use Rattle.identities.specs.Numbers.{named}
use Rattle.identify.specs.Words.{behind_colon, found_in}

eleven : length families ≡ 11
unfolding families
eleven = refl

-- a family's name and colon, and the family that is found by them
abbrev pub begins_with : List ℕ → Family → Bool
begins_with u f = begun (after (label f) u)

abbrev pub family_named : List Family → List ℕ → Option Family
family_named fs u = option_map (λ c. c.family) (named fs u)

module _ (u : List ℕ) (i : ℕ) (d : Family) (h : i < 11) where
  next : drop i families ≡ get_or families i d ∷ drop (i + 1) families
  next = rw (add-one i) (drop-cons families i d (rw eleven h))

  pub here : begins_with u (get_or families i d) ≡ true → Some (get_or families i d) ≡ family_named (drop i families) u
  here b = let f = get_or families i d in let (_, e) = begun_is (label f) u (length (label f)) refl b in sym (rw (next, e))

  pub past : begins_with u (get_or families i d) ≡ false → named (drop i families) u ≡ named (drop (i + 1) families) u
  past b = rw (next, begun_not (label (get_or families i d)) u b)

-- no more to ask
pub nobody : (u : List ℕ) (i : ℕ) → 11 ≤ i → named (drop i families) u ≡ None
nobody u i h = rw (drop_of_length-le families {i = i} (rw eleven h))

-- Behind the start.
abbrev pub from_start : Family → Family × ℕ
from_start f = (f, 11 + length (label f))

pub no_start : (t : List ℕ) → begun (after start t) ≡ false → None ≡ found_in t
unfolding found_in
no_start t b = rw (begun_not start t b)

eleven_more : length start ≡ 11
unfolding start
eleven_more = refl

module _ (t : List ℕ) (b : begun (after start t) ≡ true) where
  pub start_within : 11 ≤ length t
  start_within = (begun_is start t 11 eleven_more b).0

  pub behind_start : found_in t ≡ option_map from_start (family_named families (drop 11 t))
  unfolding found_in
  behind_start = rw (begun_is start t 11 eleven_more b).1 (go (named families (drop 11 t)))
    where
      go : (o : Option NamedText) → option_map behind_colon o ≡ option_map from_start (option_map (λ c. c.family) o)
      go None = refl
      go (Some c) = λ i. Some (c.family, eleven_more i + length (label c.family))

-- how long a family's name and colon are, and the start with them
pub label_size : (f : Family) → length (label f) ≤ 6
label_size Sgtin = omega arith
label_size Sscc = omega arith
label_size Sgln = omega arith
label_size Grai = omega arith
label_size Giai = omega arith
label_size Gsrn = omega arith
label_size Gsrnp = omega arith
label_size Gdti = omega arith
label_size Gid = omega arith
label_size Sgcn = omega arith
label_size Cpi = omega arith

pub start_size : (f : Family) → length (start ++ label f) ≤ 17
start_size f = omega (arith, length-append start (label f), eleven_more, label_size f)
