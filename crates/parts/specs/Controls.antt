-- The control fields of a text as the code holds them.
use Rattle.std.specs.Prelude.{ℕ, ◌+◌, ◌*◌, List, cond, eqb, length, option_map, option_and_then}
use Rattle.std.specs.Prelude.{Option, None, Some, Result, Ok}
use Rattle.rules.specs.Answers.{Answer, refused, taken}
use Rattle.rules.specs.declared.ControlName.{ControlName}
use Rattle.rules.specs.ControlFields.{standing}
use Rattle.rules.specs.TextNumbers.{value_in}
use Rattle.rules.specs.TextNumbers.{Controlled as RulesControlled}
use Rattle.scheme.specs.declared.refusal.Refusal.{Refusal}
use Rattle.scheme.specs.Refusals.{refusal}
use Rattle.digits.specs.Digits.{hex_value}
use Rattle.parts.specs.declared.control.Valued.{Valued}
use Rattle.parts.specs.declared.control.Controlled.{Controlled}

-- the value of two hex digits
abbrev pub two_digits : ℕ → ℕ → Option ℕ
two_digits h l = option_and_then (λ a. option_map (λ b. 16 * a + b) (hex_value l)) (hex_value h)

-- the value of a field at an index, and the index behind it
abbrev pub valued_at : ControlName → ℕ → List ℕ → Valued
valued_at f i u = record { value = (value_in f u).value; next = i + length (standing f (value_in f u).value) }

-- the field, if it stands there: its value is not 0
abbrev pub standing_at : ControlName → ℕ → List ℕ → Option Valued
standing_at f i u = cond (eqb (value_in f u).value 0) None (Some (valued_at f i u))

-- what the control fields of a text are in code
abbrev pub controlled_by : Answer RulesControlled → Result Controlled Refusal
controlled_by (refused n p) = refusal n p
controlled_by (taken k) = Ok (record { control = k.control; next = k.next })
