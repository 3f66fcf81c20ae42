-- identity's reply to one line (document 02, C-16): `I`, `T`, `N` or `X`.
use Rattle.std.specs.Prelude.{ℕ, ◌-◌, List, [], ◌∷◌, ◌++◌, Bool, false, ◌&&◌, cond, leb, eqb, length, take, drop, get_or}
use Prim.Native.Char.{code}
use Rattle.rules.specs.Answers.{Answer, refused, taken}
use Rattle.rules.specs.Bytes.{bytes}
use Rattle.rules.specs.Grammar.{Tag, text_of}
use Rattle.rules.specs.TextNumbers.{after, is_digit, tag_of_text}
use Rattle.identities.specs.Grammar.{identity_text}
use Rattle.identities.specs.OfTags.{identity_of}
use Rattle.identities.specs.Numbers.{tag_of_identity}
use Rattle.std.specs.Prelude.{Ok, Err}
use Rattle.scheme.specs.Refusals.{number}
use Rattle.codec.specs.Answers.{Answer as CodecAnswer}
use Rattle.digits.specs.Starts.{begun}
use Rattle.replies.specs.Replies.{space, reply_t, reply_n, reply_x, most_characters}

-- `I` and the identity text
abbrev pub reply_i : List ℕ → List ℕ
reply_i text = bytes "I " ++ text

-- to a tag text, by what its tag is or the number that refuses it
abbrev pub of_tag : Answer Tag → List ℕ
of_tag (taken τ) = reply_i (identity_text (identity_of τ))
of_tag (refused n p) = reply_n n

-- to a filter and an identity text, by the tag that is given for them or the number that refuses them
abbrev pub of_identity : Answer Tag → List ℕ
of_identity (taken τ) = reply_t (text_of τ)
of_identity (refused n p) = reply_n n

-- the reply that a letter and a call's answer make: the letter and the text that the call wrote behind its place, or the number
abbrev pub with_letter : ℕ → CodecAnswer → List ℕ → List ℕ
with_letter letter (Ok w) out = letter ∷ space ∷ take w.length (drop 2 out)
with_letter letter (Err e) out = reply_n (number e.rule)

-- one digit, a space, and a text that begins `urn:epc:id:`
unfoldable pub has_filter : List ℕ → Bool
has_filter [] = false
has_filter (d ∷ []) = false
has_filter (d ∷ s ∷ t) = is_digit d && eqb s space && begun (after (bytes "urn:epc:id:") t)

-- to a line that does not begin `urn:epc:tag:`: its digit is the filter, and the identity text stands behind the space
abbrev pub filter_reply : List ℕ → List ℕ
filter_reply l = cond (has_filter l) (of_identity (tag_of_identity (get_or l 0 0 - code "0") (drop 2 l))) reply_x

-- to a line that is not too long
abbrev pub short_reply : List ℕ → List ℕ
short_reply l = cond (begun (after (bytes "urn:epc:tag:") l)) (of_tag (tag_of_text l)) (filter_reply l)

-- to any line
unfoldable pub identity_reply : List ℕ → List ℕ
identity_reply l = cond (leb (length l) most_characters) (short_reply l) reply_x
