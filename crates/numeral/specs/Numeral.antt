-- Positional numerals in any base, most significant digit first.
use Rattle.std.specs.Prelude.{ℕ, zero, suc, ◌+◌, ◌*◌, ◌/◌, ◌%◌, ◌^◌, ◌<◌, true, false, List, [], ◌∷◌, ◌++◌, ltb, length, take, drop}

-- the number that the digits ds are, in base b
unfoldable pub value : ℕ → List ℕ → ℕ
value b [] = 0
value b (d ∷ ds) = d * b ^ length ds + value b ds

-- the n lowest digits of v in base b
unfoldable pub numeral : ℕ → ℕ → ℕ → List ℕ
numeral b zero v = []
numeral b (suc n) v = numeral b n (v / b) ++ (v % b ∷ [])

-- every element of ds is a digit of base b
abbrev pub Digits : ℕ → List ℕ → Type 0
Digits b [] = Unit {0}
Digits b (d ∷ ds) = (d < b) × Digits b ds

-- each digit of ds written as n digits of base b: with b = 2 and n = 8, the bits of a list of bytes
unfoldable pub spread : ℕ → ℕ → List ℕ → List ℕ
spread b n [] = []
spread b n (d ∷ ds) = numeral b n d ++ spread b n ds

-- the other way: the number that the digits ds are, as k digits of base b ^ n: with b = 2 and n = 8, the bytes of a list of bits
unfoldable pub gather : ℕ → ℕ → ℕ → List ℕ → List ℕ
gather b n k ds = numeral (b ^ n) k (value b ds)

-- how many digits v has in base b with no leading zero, one for 0; f bounds the steps
unfoldable pub size_in : ℕ → ℕ → ℕ → ℕ
size_in b zero v = 1
size_in b (suc f) v = elim (ltb v b) [ true ↦ 1 | false ↦ suc (size_in b f (v / b)) ]

unfoldable pub size : ℕ → ℕ → ℕ
size b v = size_in b v v

-- v in base b with no leading zero
unfoldable pub shortest : ℕ → ℕ → List ℕ
shortest b v = numeral b (size b v) v

-- s with the elements from place p on replaced by those of x
unfoldable pub splice : List ℕ → ℕ → List ℕ → List ℕ
splice s p x = take p s ++ x ++ drop (p + length x) s
