-- tagline's reply to one line: `B`, `T`, `R`, `N` or `X`.
use Rattle.std.specs.Prelude.{ℕ, ◌≡◌, List, [], ◌∷◌, ◌++◌, cond, leb, length}
use Prim.Native.Char.{code}
use Rattle.std.specs.Prelude.{Option, None, Some}
use Rattle.numeral.specs.Numeral.{shortest}
use Rattle.rules.specs.Answers.{Answer, refused, taken}
use Rattle.rules.specs.Bytes.{bytes, digits_text, hex_text}
use Rattle.rules.specs.Schemes.{words}
use Rattle.rules.specs.Grammar.{Tag, text_of}
use Rattle.rules.specs.Coding.{bank_of}
use Rattle.rules.specs.TextNumbers.{after, tag_of_text}
use Rattle.rules.specs.BankNumbers.{tag_of_bank}
use Rattle.rules.specs.Raw.{raw_text}
use Rattle.rules.specs.Screen.{screen}
use Rattle.digits.specs.Starts.{begun}
use Rattle.replies.specs.Hex.{bank_in}

abbrev pub space : ℕ
space = code " "

abbrev pub decimal : ℕ → List ℕ
decimal n = digits_text (shortest 10 n)

-- `B` and the bank in hex
abbrev pub reply_b : List ℕ → List ℕ
reply_b bank = bytes "B " ++ hex_text bank

-- `T` and the tag text
abbrev pub reply_t : List ℕ → List ℕ
reply_t text = bytes "T " ++ text

-- `R`, the refusal number and the raw line
abbrev pub reply_r : ℕ → List ℕ → List ℕ
reply_r n raw = bytes "R " ++ (decimal n ++ space ∷ raw)

-- `N` and the number
abbrev pub reply_n : ℕ → List ℕ
reply_n n = bytes "N " ++ decimal n

-- a line of neither kind
abbrev pub reply_x : List ℕ
reply_x = bytes "X"

-- a refusal, and what the screen shows for it: `N` where there is nothing to show
abbrev pub shown : ℕ → List ℕ → List ℕ
shown n [] = reply_n n
shown n (x ∷ xs) = reply_r n (x ∷ xs)

-- to a text, by what its tag is or the number that refuses it: the bank in as few words as its scheme needs (document 02, C-15); no place is told
abbrev pub of_text : Answer Tag → List ℕ
of_text (taken τ) = reply_b (bank_of (words τ.scheme) τ)
of_text (refused n p) = reply_n n

-- to a bank, in the same way; no W is told
abbrev pub of_bank : List ℕ → Answer Tag → List ℕ
of_bank b (taken τ) = reply_t (text_of τ)
of_bank b (refused n p) = shown n (screen [] (raw_text b) n)

-- a bank is refused with n, at whatever place
abbrev pub RefusedWith : List ℕ → ℕ → Type 0
RefusedWith b n = (p : ℕ) × (tag_of_bank b ≡ refused n p)

-- a line that begins `urn:` has at most so many characters
abbrev pub most_characters : ℕ
most_characters = 200

-- to a line that begins `urn:`
abbrev pub text_reply : List ℕ → List ℕ
text_reply l = cond (leb (length l) most_characters) (of_text (tag_of_text l)) reply_x

-- to any other line, by the bank that it holds
abbrev pub bank_reply : Option (List ℕ) → List ℕ
bank_reply (Some b) = of_bank b (tag_of_bank b)
bank_reply None = reply_x

-- to any line
unfoldable pub tagline_reply : List ℕ → List ℕ
tagline_reply l = cond (begun (after (bytes "urn:") l)) (text_reply l) (bank_reply (bank_in l))
