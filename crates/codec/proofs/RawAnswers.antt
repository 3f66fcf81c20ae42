-- What the raw line's call reads of a bank: its words, and nothing else.
use Prim.Native.Nat.{ℕ}
use mathlib.Core.Path.{◌≡◌}
use mathlib.Core.List.{List}
use Rattle.rules.specs.Answers.{Answer, refused, taken, ◌>>=◌}
use Rattle.rules.specs.Coding.{word_count}
use Rattle.rules.specs.BankNumbers.{words_in}
use Rattle.rules.specs.Raw.{raw_text, raw_of_bank}
use Rattle.rules.specs.Calls.{Output}
use Rattle.rules.proofs.BankReads.{words_of}

abbrev pub raw_in : List ℕ → Answer Output
raw_in b = raw_of_bank b >>= λ w. taken (word_count b, w)

pub raw_refused : (b : List ℕ) (n p : ℕ) → words_in b ≡ refused n p → raw_in b ≡ refused n p
unfolding raw_of_bank
raw_refused b n p e = rw e

pub raw_taken : (b : List ℕ) (W : ℕ) → words_in b ≡ taken W → raw_in b ≡ taken (W, raw_text b)
unfolding raw_of_bank
raw_taken b W e = rw (words_of b W e).0 (rw (rw (words_of b W e).0 at e))
