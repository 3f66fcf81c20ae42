-- What each of the two calls does: the number, the place, the length, and every byte of the lent output (document 02, C-16). W is 0.
use Rattle.std.specs.Prelude.{ℕ, List}
use Rattle.rules.specs.Answers.{Answer, taken, ◌>>=◌}
use Rattle.rules.specs.Grammar.{text_of}
use Rattle.rules.specs.TextNumbers.{tag_of_text}
use Rattle.rules.specs.Calls.{Call, Output, call, lent, text_room}
use Rattle.identities.specs.Grammar.{identity_text}
use Rattle.identities.specs.OfTags.{identity_of}
use Rattle.identities.specs.Numbers.{tag_of_identity}

abbrev pub identity_answer : List ℕ → List ℕ → Answer Output
identity_answer t out = lent text_room out (tag_of_text t >>= λ τ. taken (0, identity_text (identity_of τ)))

abbrev pub tag_answer : ℕ → List ℕ → List ℕ → Answer Output
tag_answer f t out = lent text_room out (tag_of_identity f t >>= λ τ. taken (0, text_of τ))

unfoldable pub tag_to_identity : List ℕ → List ℕ → Call
tag_to_identity t out = call out (identity_answer t out)

unfoldable pub identity_to_tag : ℕ → List ℕ → List ℕ → Call
identity_to_tag f t out = call out (tag_answer f t out)
