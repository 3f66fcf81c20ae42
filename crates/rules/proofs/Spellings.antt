-- Characters in a text: what `characters_in` gives is right (`-is`), and what is right it gives (`-of`).
use Prim.Native.Nat.{ℕ, ◌/◌, ◌%◌}
use mathlib.Core.Path.{◌≡◌, refl, ◌∙◌, ap}
use mathlib.Core.List.{List, [], ◌∷◌, ◌++◌}
use Rattle.std.specs.Prelude.{Option, None, Some, option_map}
use mathlib.Core.Bool.{Bool, true, false, ◌&&◌, not, cond}
use lib.Dec.{T, eqb, eqb→eq}
use Rattle.rules.specs.Bytes.{all, among, percent, hex_digit}
use Rattle.rules.specs.Characters.{table_a1, escaped, character, plain, spelling, string_text}
use Rattle.rules.specs.TextNumbers.{escape, put, itself, characters_in}
use Rattle.rules.proofs.Tests.{is_false, both, and, all_among}
use Rattle.rules.proofs.Answers.{Gives}

-- One test over the 82: a character stands for itself and is no percent sign, or its escape is found.
found : Option ℕ → ℕ → Bool
found None c = false
found (Some x) c = eqb x c

found_eq : (o : Option ℕ) (c : ℕ) → T (found o c) → o ≡ Some c
unfolding found
found_eq None c h = absurd h
found_eq (Some x) c h = ap Some (eqb→eq x c h)

abbrev readable : ℕ → Bool
readable c = cond (plain c) (not (eqb c percent)) (found (escape escaped (hex_digit (c / 16)) (hex_digit (c % 16))) c)

all_readable : T (all readable table_a1)
unfolding found table_a1 escaped
all_readable = tt

not_percent : (c : ℕ) → plain c ≡ true → eqb c percent ≡ false
not_percent c e =
    let m = (both (character c) (not (among c escaped)) (rw e tt)).0 in
    is_false (eqb c percent) (rw e at (all_among readable table_a1 c all_readable m))

escape_of : (c : ℕ) → T (character c) → plain c ≡ false → escape escaped (hex_digit (c / 16)) (hex_digit (c % 16)) ≡ Some c
escape_of c m e = found_eq (escape escaped (hex_digit (c / 16)) (hex_digit (c % 16))) c (rw e at (all_among readable table_a1 c all_readable m))

-- One over the seven: each is a character that does not stand for itself.
abbrev hidden : ℕ → Bool
hidden c = character c && not (plain c)

all_hidden : T (all hidden escaped)
unfolding table_a1 escaped
all_hidden = tt

abbrev EscapeIs : ℕ → ℕ → Option ℕ → Type 0
EscapeIs h l = Gives λ e. T (hidden e) × (h ≡ hex_digit (e / 16)) × (l ≡ hex_digit (e % 16))

escape_is : (es : List ℕ) (h l : ℕ) → T (all hidden es) → EscapeIs h l (escape es h l)
escape_is [] h l k = tt
escape_is (e ∷ es) h l k = go (eqb h x) (eqb→eq h x) (eqb l y) (eqb→eq l y) (escape es h l) (escape_is es h l (both (hidden e) (all hidden es) k).1)
  where
    x : ℕ
    x = hex_digit (e / 16)

    y : ℕ
    y = hex_digit (e % 16)

    go : (a : Bool) → (T a → h ≡ x) → (b : Bool) → (T b → l ≡ y) → (o : Option ℕ) → EscapeIs h l o → EscapeIs h l (cond (a && b) (Some e) o)
    go true p true q o i = ((both (hidden e) (all hidden es) k).0, p tt, q tt)
    go true p false q o i = i
    go false p b q o i = i

abbrev pub CharactersIs : List ℕ → Option (List ℕ) → Type 0
CharactersIs t = Gives λ cs. T (all character cs) × (t ≡ string_text cs)

itself_is : (c : ℕ) (t : List ℕ) (o : Option (List ℕ)) → CharactersIs t o → CharactersIs (c ∷ t) (put (itself c) o)
itself_is c t o h = go (plain c) refl o h
  where
    go : (b : Bool) → plain c ≡ b → (o : Option (List ℕ)) → CharactersIs t o → CharactersIs (c ∷ t) (put (cond b (Some c) None) o)
    go false e o h = tt
    go true e None h = tt
    go true e (Some cs) h =
        let m = (both (character c) (not (among c escaped)) (rw e tt)).0 in
        (and (character c) (all character cs) m h.0, rw e (ap (c ∷◌) h.1))

escaped_is : (c x l : ℕ) (t : List ℕ) (o : Option (List ℕ)) → c ≡ percent → CharactersIs t o → CharactersIs (c ∷ x ∷ l ∷ t) (put (escape escaped x l) o)
escaped_is c x l t o e h = go (escape escaped x l) (escape_is escaped x l all_hidden) o h
  where
    go : (q : Option ℕ) → EscapeIs x l q → (o : Option (List ℕ)) → CharactersIs t o → CharactersIs (c ∷ x ∷ l ∷ t) (put q o)
    go None i o h = tt
    go (Some d) i None h = tt
    go (Some d) i (Some cs) h =
        let (m, p) = both (character d) (not (plain d)) i.0 in
        (and (character d) (all character cs) m h.0, rw (is_false (plain d) p, e, i.1, i.2, h.1))

pub characters_is : (t : List ℕ) → CharactersIs t (characters_in t)
characters_is [] = (tt, refl)
characters_is (c ∷ []) = itself_is c [] (Some []) (tt, refl)
characters_is (c ∷ h ∷ []) = itself_is c (h ∷ []) (characters_in (h ∷ [])) (characters_is (h ∷ []))
characters_is (c ∷ h ∷ l ∷ t) =
    go (put (escape escaped h l) (characters_in t)) (put (itself c) (characters_in (h ∷ l ∷ t))) (eqb c percent) (eqb→eq c percent)
    (λ e. escaped_is c h l t (characters_in t) e (characters_is t))
    (itself_is c (h ∷ l ∷ t) (characters_in (h ∷ l ∷ t)) (characters_is (h ∷ l ∷ t)))
  where
    go : (o p : Option (List ℕ)) (b : Bool) → (T b → c ≡ percent) → (c ≡ percent → CharactersIs (c ∷ h ∷ l ∷ t) o) → CharactersIs (c ∷ h ∷ l ∷ t) p
        → CharactersIs (c ∷ h ∷ l ∷ t) (cond b o p)
    go o p true e f g = f (e tt)
    go o p false e f g = g

pub itself_of : (c : ℕ) (t : List ℕ) → plain c ≡ true → characters_in (c ∷ t) ≡ option_map (c ∷◌) (characters_in t)
itself_of c [] e = rw e
itself_of c (x ∷ []) e = rw e
itself_of c (x ∷ y ∷ t) e = rw (not_percent c e, e)

pub characters_of_lem : (cs : List ℕ) → T (all character cs) → characters_in (string_text cs) ≡ Some cs
characters_of_lem [] h = refl
characters_of_lem (c ∷ cs) h =
    let (a, b) = both (character c) (all character cs) h in
    go (plain c) refl (characters_of_lem cs b) a
  where
    go : (b : Bool) → plain c ≡ b → characters_in (string_text cs) ≡ Some cs → T (character c) → characters_in (spelling b c ++ string_text cs) ≡ Some (c ∷ cs)
    go true e ih m = itself_of c (string_text cs) e ∙ rw ih
    go false e ih m = rw (escape_of c m e, ih)
