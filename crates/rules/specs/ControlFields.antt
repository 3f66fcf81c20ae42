-- The control fields of a text (document 02, C-13, in the brackets and punctuation of 001, section 12).
use Rattle.std.specs.Prelude.{ℕ, zero, suc, ◌≤◌, List, [], ◌∷◌, ◌++◌}
use Prim.Native.Char.{code}
use Rattle.rules.specs.Bytes.{bytes, colon, digits_text, hex_text}
use Rattle.rules.specs.declared.ControlName.{ControlName}
use Rattle.rules.specs.declared.ControlName.TheVariants.{Umi, Att}
use Rattle.rules.specs.declared.ControlFields.{ControlFields}

-- a field's largest value
abbrev pub most : ControlName → ℕ
most Umi = 1
most Att = 255

-- a field: umi's value is one digit, att's two upper-case hex digits
abbrev pub field_text : ControlName → ℕ → List ℕ
field_text Umi v = bytes "[umi=" ++ (digits_text (v ∷ []) ++ bytes "]")
field_text Att v = bytes "[att=x" ++ (hex_text (v ∷ []) ++ bytes "]")

-- it stands only if it is not zero
abbrev pub standing : ControlName → ℕ → List ℕ
standing f zero = []
standing f (suc v) = field_text f (suc v)

-- umi comes first, att second
abbrev pub fields_text : ControlFields → List ℕ
fields_text c = standing Umi c.umi ++ standing Att c.att

-- a colon behind the last field, if one stands
abbrev pub closed : List ℕ → List ℕ
closed [] = []
closed (x ∷ xs) = x ∷ xs ++ colon ∷ []

abbrev pub control_text : ControlFields → List ℕ
control_text c = closed (fields_text c)

-- the values keep their limits
abbrev pub ControlFits : ControlFields → Type 0
ControlFits c = (c.umi ≤ most Umi) × (c.att ≤ most Att)

-- no field stands
abbrev pub no_fields : ControlFields
no_fields = record { umi = 0; att = 0 }

-- a field begins with a bracket
abbrev pub bracket : ℕ
bracket = code "["
