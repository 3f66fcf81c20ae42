-- The rules by their numbers (documents 01, "Numbers given, and when", and 02), and a refusal in code.
use Rattle.std.specs.Prelude.{ℕ, ◌-◌, List, [], ◌∷◌, get_or, Result, Ok, Err}
use Rattle.rules.specs.Answers.{Answer, refused, taken}
use Rattle.scheme.specs.declared.refusal.Rule.{Rule}
use Rattle.scheme.specs.declared.refusal.Rule.TheVariants.{OutputTooShort, Start, Name, Filter, Prefix, Reference, LastPartForm, LastPartSize, BankTooShort, NoWords, Toggle, ControlBits, Header, WordCount, FillBits, Partition, PrefixTooLarge, ReferenceTooLarge, String, ControlFields, TooManyWords, TooFewWords, NotAnIdentity, FilterTooLarge, NoScheme}
use Rattle.scheme.specs.declared.refusal.Refusal.{Refusal}

-- the number of a rule
abbrev pub number : Rule → ℕ
number OutputTooShort = 1
number Start = 2
number Name = 3
number Filter = 4
number Prefix = 5
number Reference = 6
number LastPartForm = 7
number LastPartSize = 8
number BankTooShort = 9
number NoWords = 10
number Toggle = 11
number ControlBits = 12
number Header = 13
number WordCount = 14
number FillBits = 15
number Partition = 16
number PrefixTooLarge = 17
number ReferenceTooLarge = 18
number String = 19
number ControlFields = 20
number TooManyWords = 21
number TooFewWords = 22
number NotAnIdentity = 23
number FilterTooLarge = 24
number NoScheme = 25

-- the rules, in the order of their numbers
abbrev pub numbered : List Rule
numbered =
    OutputTooShort ∷ Start ∷ Name ∷ Filter ∷ Prefix ∷ Reference ∷ LastPartForm ∷ LastPartSize ∷
    BankTooShort ∷ NoWords ∷ Toggle ∷ ControlBits ∷ Header ∷ WordCount ∷ FillBits ∷ Partition ∷
    PrefixTooLarge ∷ ReferenceTooLarge ∷ String ∷ ControlFields ∷ TooManyWords ∷ TooFewWords ∷
    NotAnIdentity ∷ FilterTooLarge ∷ NoScheme ∷ []

-- the rule of a number from 1 to 25
abbrev pub rule_of : ℕ → Rule
rule_of n = get_or numbered (n - 1) OutputTooShort

-- a refusal by a rule
abbrev pub by : Rule → ℕ → Refusal
by r p = record { rule = r; place = p }

-- what a reader's refusal is in code
abbrev pub refusal : {A : Type 0} → ℕ → ℕ → Result A Refusal
refusal n p = Err (by (rule_of n) p)

-- what a reader's answer is in code, where the value is the same
abbrev pub in_code : {A : Type 0} → Answer A → Result A Refusal
in_code (refused n p) = refusal n p
in_code (taken x) = Ok x
