-- A reader's answer: refused with a number and a place, or taken. What is read first refuses first.
use Rattle.std.specs.Prelude.{ℕ, Bool, true, false, cond}
use Rattle.std.specs.Prelude.{Option, None, Some}

pub data Answer (X : Type 0) : Type 0 where
  refused : ℕ → ℕ → Answer X
  taken : X → Answer X

infixl 10 ◌>>=◌
abbrev pub ◌>>=◌ : {X Y : Type 0} → Answer X → (X → Answer Y) → Answer Y
◌>>=◌ (refused n p) go = refused n p
◌>>=◌ (taken x) go = go x

infixl 10 ◌>>◌
abbrev pub ◌>>◌ : {Y : Type 0} → Answer Unit → Answer Y → Answer Y
◌>>◌ (refused n p) a = refused n p
◌>>◌ (taken x) a = a

-- refused with n at p unless the test holds; unless there is a value
abbrev pub demand : Bool → ℕ → ℕ → Answer Unit
demand true n p = taken tt
demand false n p = refused n p

abbrev pub given : {X : Type 0} → Option X → ℕ → ℕ → Answer X
given None n p = refused n p
given (Some x) n p = taken x

-- a value, if it passes a test
abbrev pub kept : {X : Type 0} → (X → Bool) → Option X → Option X
kept test None = None
kept test (Some x) = cond (test x) (Some x) None

-- 0 for what is taken
abbrev pub number_of : {X : Type 0} → Answer X → ℕ
number_of (refused n p) = n
number_of (taken x) = 0

abbrev pub place_of : {X : Type 0} → Answer X → ℕ
place_of (refused n p) = p
place_of (taken x) = 0
