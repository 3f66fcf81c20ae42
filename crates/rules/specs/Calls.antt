-- What each public call does: the number, the place, W, the length, and every byte of the lent output (document 01, "Numbers given, and when";
-- document 02, C-12 and C-15).
use Rattle.std.specs.Prelude.{ℕ, List, ◌++◌, ◌||◌, cond, leb, eqb, length, take, drop}
use Rattle.rules.specs.Answers.{Answer, refused, taken, ◌>>=◌, ◌>>◌, demand}
use Rattle.rules.specs.declared.Scheme.{Scheme}
use Rattle.rules.specs.Schemes.{words}
use Rattle.rules.specs.Grammar.{text_of}
use Rattle.rules.specs.Coding.{bank_of, word_count, most_words}
use Rattle.rules.specs.TextNumbers.{tag_of_text}
use Rattle.rules.specs.BankNumbers.{tag_of_bank}
use Rattle.rules.specs.Raw.{raw_of_bank}

pub record Call : Type 0 where
  pub number : ℕ
  pub place : ℕ
  pub words : ℕ
  pub written : ℕ
  pub output : List ℕ

-- the W of the bank that is written or read, and the bytes that are written
abbrev pub Output : Type 0
Output = ℕ × List ℕ

-- accepted: 0 with place 0, W and the length written, output past it unchanged; refused: the number, the place, W 0, length 0, and an unchanged
-- output
abbrev pub call : List ℕ → Answer Output → Call
call out (refused n p) = record { number = n; place = p; words = 0; written = 0; output = out }
call out (taken (W, w)) = record { number = 0; place = 0; words = W; written = length w; output = w ++ drop (length w) out }

-- 1: output shorter than the call's room
abbrev pub lent : ℕ → List ℕ → Answer Output → Answer Output
lent room out a = do
  demand (leb room (length out)) 1 0
  a

abbrev pub bank_room : ℕ
bank_room = 64

abbrev pub text_room : ℕ
text_room = 160

-- 22: the W that is written where W is asked for, the scheme's count for 0
abbrev pub words_to_write : ℕ → Scheme → Answer ℕ
words_to_write W s = do
  demand (eqb W 0 || leb (words s) W) 22 0
  taken (cond (eqb W 0) (words s) W)

-- 21, and the bank of a text where W is asked for
unfoldable pub bank_of_text : ℕ → List ℕ → Answer Output
bank_of_text W t = do
  demand (leb W most_words) 21 0
  τ ← tag_of_text t
  n ← words_to_write W τ.scheme
  taken (n, bank_of n τ)

abbrev pub bank_answer : ℕ → List ℕ → List ℕ → Answer Output
bank_answer W t out = lent bank_room out (bank_of_text W t)

abbrev pub text_answer : List ℕ → List ℕ → Answer Output
text_answer b out = lent text_room out (tag_of_bank b >>= λ τ. taken (word_count b, text_of τ))

abbrev pub raw_answer : List ℕ → List ℕ → Answer Output
raw_answer b out = lent text_room out (raw_of_bank b >>= λ w. taken (word_count b, w))

unfoldable pub text_to_bank : ℕ → List ℕ → List ℕ → Call
text_to_bank W t out = call out (bank_answer W t out)

unfoldable pub bank_to_text : List ℕ → List ℕ → Call
bank_to_text b out = call out (text_answer b out)

unfoldable pub raw_line : List ℕ → List ℕ → Call
raw_line b out = call out (raw_answer b out)

-- what a call wrote
abbrev pub wrote : Call → List ℕ
wrote c = take c.written c.output
