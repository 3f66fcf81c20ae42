-- Whether a scheme holds what follows a family's name, told by the pieces of it: what stands before the first dot, before the second, and behind it.
use Prim.Native.Nat.{ℕ, ◌+◌, ◌/◌, ◌≤◌}
use mathlib.Core.Path.{◌≡◌, refl, ap, ◌∙◌}
use mathlib.Core.List.{List, [], ◌∷◌, ◌++◌}
use Rattle.std.specs.Prelude.{Option, None, Some, option_map}
use Rattle.std.specs.Result.{is_ok}
use mathlib.Core.Bool.{Bool, true, false, ◌&&◌, cond}
use native.Mathlib.Omega.{arith}
use lib.Dec.{leb, eqb, leb→le}
use lib.ListN.{length}
use borrow.Author.Tests.{eq-eqb}
use Rattle.numeral.specs.Numeral.{value}
use Rattle.rules.specs.declared.Scheme.{Scheme}
use Rattle.rules.specs.declared.Table.{Table}
use Rattle.rules.specs.declared.Last.{Last}
use Rattle.rules.specs.declared.Body.{Body}
use Rattle.rules.specs.declared.Body.TheVariants.{Then, Zeros}
use Rattle.rules.specs.declared.Parts.TheVariants.{F, Integers}
use Rattle.rules.specs.Answers.{Answer, refused, taken, ◌>>=◌, ◌>>◌, demand, given}
use Rattle.rules.specs.Bytes.{among, upto, behind, dot}
use Rattle.rules.specs.Schemes.{Form, exact, counted, string, digits, at_most, cell, last_form, row_of, about}
use Rattle.rules.specs.ControlFields.{no_fields, control_text}
use Rattle.rules.specs.Grammar.{Role, reference, Layout, part, end, body_layout, laid, layout, sized, start, label}
use Rattle.rules.specs.TextNumbers.{number_at, digits_in, formed, part_in, last_in, parts_in, tag_of_text}
use Rattle.rules.proofs.Tests.{both}
use Rattle.alphabet.specs.Strings.{string_part}
use Rattle.parts.specs.Parts.{end_of}
use Rattle.parts.specs.declared.parts.Part.{Part}
use Rattle.parts.specs.declared.parts.Form.TheVariants.{Prefix}
use Rattle.text.proofs.Found.{Standing}
use Rattle.identities.specs.Numbers.{holds, filter_text, tag_text, if_taken, held_by}
use Rattle.identities.proofs.TagTexts.{Sums, sum_of}
use Rattle.identify.specs.Words.{held, fitting, fits_then, fits_in, behind_filter, in_row}
use Rattle.identities.proofs.Held.{read_named}

abbrev pub is_taken : {X : Type 0} → Answer X → Bool
is_taken (refused n p) = false
is_taken (taken x) = true

mapped : {X Y : Type 0} (a : Answer X) (f : X → Y) → is_taken (a >>= λ x. taken (f x)) ≡ is_taken a
mapped (refused n p) f = refl
mapped (taken x) f = refl

pub last_taken : (n i : ℕ) (f : Form) (t : List ℕ) → is_taken (last_in n i f t) ≡ fitting f t
last_taken n i f t = go (formed f t)
  where
    go : (o : Option (List ℕ)) → is_taken (given o n i >>= λ p. demand (sized f p) 8 i >> taken p) ≡ holds (sized f) o
    go None = refl
    go (Some p) = size (sized f p)
      where
        size : (b : Bool) → is_taken (demand b 8 i >> taken p) ≡ b
        size true = refl
        size false = refl

-- the same of what the code reads
pub end_fits : (n i : ℕ) (f : Form) (t : List ℕ) → is_ok (end_of (last_in n i f t)) ≡ fitting f t
end_fits n i f t = go (last_in n i f t) ∙ last_taken n i f t
  where
    go : (a : Answer (List ℕ)) → is_ok (end_of a) ≡ is_taken a
    go (refused m p) = refl
    go (taken p) = refl

-- a string by the number of its characters
pub string_fits : (b : ℕ) (t : List ℕ) → holds (λ n. leb n (b / 7)) (option_map length (string_part t)) ≡ fitting (string b) t
string_fits b t = go (string_part t)
  where
    go : (o : Option (List ℕ)) → holds (λ n. leb n (b / 7)) (option_map length o) ≡ holds (λ (cs : List ℕ). leb (length cs) (b / 7)) o
    go None = refl
    go (Some cs) = refl

parts_taken : (l : Layout) (i : ℕ) (t : List ℕ) → is_taken (parts_in i l t) ≡ fits_in l t
parts_taken (end r f) i t = mapped (last_in (number_at r) i f t) (◌∷ []) ∙ last_taken (number_at r) i f t
parts_taken (part r f k) i t = dots (λ p. parts_taken (k p) (i + length (upto dot t) + 1) (behind dot t)) (among dot t)
  where
    n : ℕ
    n = number_at r

    rest : List ℕ → Answer (List (List ℕ))
    rest p = parts_in (i + length (upto dot t) + 1) (k p) (behind dot t) >>= λ ps. taken (p ∷ ps)

    read : ((p : List ℕ) → is_taken (parts_in (i + length (upto dot t) + 1) (k p) (behind dot t)) ≡ fits_in (k p) (behind dot t))
        → (p : List ℕ) (b : Bool) → is_taken ((demand b n i >> taken p) >>= rest) ≡ b && fits_in (k p) (behind dot t)
    read ih p true = mapped (parts_in (i + length (upto dot t) + 1) (k p) (behind dot t)) (p ∷◌) ∙ ih p
    read ih p false = refl

    form : ((p : List ℕ) → is_taken (parts_in (i + length (upto dot t) + 1) (k p) (behind dot t)) ≡ fits_in (k p) (behind dot t))
        → (o : Option (List ℕ)) → is_taken ((given o n i >>= λ p. demand (sized f p) n i >> taken p) >>= rest) ≡ fits_then o (sized f) (λ p. fits_in (k p) (behind dot t))
    form ih None = refl
    form ih (Some p) = read ih p (sized f p)

    dots : ((p : List ℕ) → is_taken (parts_in (i + length (upto dot t) + 1) (k p) (behind dot t)) ≡ fits_in (k p) (behind dot t)) → (b : Bool)
        → is_taken ((demand b n i >> (given (formed f (upto dot t)) n i >>= λ p. demand (sized f p) n i >> taken p)) >>= rest) ≡ b && fits_then (formed f (upto dot t)) (sized f) (λ p. fits_in (k p) (behind dot t))
    dots ih true = form ih (formed f (upto dot t))
    dots ih false = refl

-- A filter of 0 is read away, and the rest of the layout is left.
past_filter : (body : Body) (i : ℕ) (x : List ℕ) → is_taken (parts_in i (laid (F body)) (filter_text (F body) 0 ++ x)) ≡ fits_in (behind_filter body) x
unfolding value
past_filter body i x = mapped (parts_in (i + 1 + 1) (behind_filter body) x) ((0 ∷ []) ∷◌) ∙ parts_taken (behind_filter body) (i + 1 + 1) x

holds_taken : {X : Type 0} (a : Answer X) → holds (λ _. true) (if_taken a) ≡ is_taken a
holds_taken (refused n p) = refl
holds_taken (taken x) = refl

module _ (s : Scheme) (x : List ℕ) where
  -- what the scheme's layout says of the text behind the name
  by_layout : held x s ≡ is_taken (parts_in (length start + length (control_text no_fields) + length (label s)) (layout s) (filter_text (about s).parts 0 ++ x))
  unfolding held_by
  by_layout =
      let u = filter_text (about s).parts 0 ++ x in
      holds_taken (tag_of_text (tag_text 0 x s)) ∙ ap is_taken (read_named s u)
      ∙ mapped (parts_in (length start + length (control_text no_fields) + length (label s)) (layout s) u) (λ ps. record { scheme = s; control = no_fields; parts = ps })

pub held_body : (s : Scheme) (body : Body) (x : List ℕ) → (about s).parts ≡ F body → held x s ≡ fits_in (behind_filter body) x
held_body s body x e =
    let i = length start + length (control_text no_fields) + length (label s) in
    by_layout s x ∙ ap (λ q. is_taken (parts_in i (laid q) (filter_text q 0 ++ x))) e ∙ past_filter body i x

pub held_integers : (s : Scheme) (a b c : ℕ) (x : List ℕ) → (about s).parts ≡ Integers a b c → held x s ≡ fits_in (laid (Integers a b c)) x
held_integers s a b c x e =
    let i = length start + length (control_text no_fields) + length (label s) in
    by_layout s x ∙ ap (λ q. is_taken (parts_in i (laid q) (filter_text q 0 ++ x))) e ∙ parts_taken (laid (Integers a b c)) i x

-- One part of a layout: taken, the rest decides; refused, the text does not fit.
module _ (r : Role) (f : Form) (k : List ℕ → Layout) (t : List ℕ) (n i : ℕ) where
  pub part_fits : (p : List ℕ) → part_in n i f t ≡ taken p → fits_in (part r f k) t ≡ fits_in (k p) (behind dot t)
  part_fits p e = dots (among dot t) refl (formed f (upto dot t)) refl e
    where
      sizes : (q : List ℕ) (b : Bool) → (demand b n i >> taken q) ≡ taken p → b && fits_in (k q) (behind dot t) ≡ fits_in (k p) (behind dot t)
      sizes q true e = let z : q ≡ p = cc in ap (λ y. fits_in (k y) (behind dot t)) z
      sizes q false e = cc

      dots : (b : Bool) → among dot t ≡ b → (o : Option (List ℕ)) → formed f (upto dot t) ≡ o → (demand b n i >> (given o n i >>= λ q. demand (sized f q) n i >> taken q)) ≡ taken p
          → b && fits_then o (sized f) (λ q. fits_in (k q) (behind dot t)) ≡ fits_in (k p) (behind dot t)
      dots false d o h e = cc
      dots true d None h e = cc
      dots true d (Some q) h e = sizes q (sized f q) e

  pub part_not : (m j : ℕ) → part_in n i f t ≡ refused m j → fits_in (part r f k) t ≡ false
  part_not m j e = dots (among dot t) (formed f (upto dot t)) e
    where
      sizes : (q : List ℕ) (b : Bool) → (demand b n i >> taken q) ≡ refused m j → b && fits_in (k q) (behind dot t) ≡ false
      sizes q true e = cc
      sizes q false e = refl

      dots : (b : Bool) (o : Option (List ℕ)) → (demand b n i >> (given o n i >>= λ q. demand (sized f q) n i >> taken q)) ≡ refused m j
          → b && fits_then o (sized f) (λ q. fits_in (k q) (behind dot t)) ≡ false
      dots false o e = refl
      dots true None e = refl
      dots true (Some q) e = sizes q (sized f q) e

-- A prefix has six to twelve digits.
pub six_to_twelve : {n at : ℕ} {x : List ℕ} {p : Part} → Standing n Prefix x at p → (6 ≤ p.digits) × (p.digits ≤ 12)
six_to_twelve s =
    let n = length s.part in
    let (l, u) = both (leb 6 n) (leb n 12) s.shape in
    rw s.digits_are (leb→le 6 n l, leb→le n 12 u)

-- The bits of a counted reference do not show in its text.
pub any_bits : (t : Table) (a b n : ℕ) (k : List ℕ → Layout) (u : List ℕ) → fits_in (part reference (counted t a n) k) u ≡ fits_in (part reference (counted t b n) k) u
any_bits t a b n k u = go (exact t)
  where
    go : (q : Bool) → fits_in (part reference (cond q (digits a n) (at_most a n)) k) u ≡ fits_in (part reference (cond q (digits b n) (at_most b n)) k) u
    go true = refl
    go false = refl

-- Six to twelve digits pick a row; the reference of a counted family follows from the total.
module _ (t : Table) (N : ℕ) (is_exact : exact t ≡ true) (sums : Sums t N) (x ds rs : List ℕ) (dotted : among dot x ≡ true) (read : digits_in (upto dot x) ≡ Some ds) where
  -- the reference has the row's digits, if the two have the total
  row_right : length ds + length rs ≡ N → in_row (length ds) ≡ true → eqb (length rs) (cell t (row_of (length ds))).1 ≡ true
  row_right sum row =
      let (l, u) = both (leb 6 (length ds)) (leb (length ds) 12) (rw row tt) in
      eq-eqb (length rs) (cell t (row_of (length ds))).1 (omega (arith, sum, sum_of t N sums (length ds) (leb→le 6 (length ds) l) (leb→le (length ds) 12 u)))

  -- with a last part behind it, and alone
  pub with_last_fits : (l : Last) → among dot (behind dot x) ≡ true → digits_in (upto dot (behind dot x)) ≡ Some rs → length ds + length rs ≡ N
      → fits_in (behind_filter (Then t l)) x ≡ in_row (length ds) && fitting (last_form l) (behind dot (behind dot x))
  with_last_fits l dotted-again read_again sum = rw (dotted, read) (go (in_row (length ds)) refl)
    where
      go : (b : Bool) → in_row (length ds) ≡ b
          → fits_then (cond b (Some ds) None) (λ _. true) (λ p. fits_in (body_layout (Then t l) (length p)) (behind dot x)) ≡ b && fitting (last_form l) (behind dot (behind dot x))
      go false e = refl
      go true e = rw (dotted-again, is_exact, read_again, row_right sum e)

  pub alone_fits : (z : ℕ) → digits_in (behind dot x) ≡ Some rs → length ds + length rs ≡ N → fits_in (behind_filter (Zeros t z)) x ≡ in_row (length ds)
  alone_fits z read_again sum = rw (dotted, read) (go (in_row (length ds)) refl)
    where
      go : (b : Bool) → in_row (length ds) ≡ b → fits_then (cond b (Some ds) None) (λ _. true) (λ p. fits_in (body_layout (Zeros t z) (length p)) (behind dot x)) ≡ b
      go false e = refl
      go true e = rw (is_exact, read_again, row_right sum e)
