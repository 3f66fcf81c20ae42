-- Two calls one after the other (document 01, demand 3; document 02, C-15; the rule on the screen: a tag URI is shown only if writing it again, with
-- the W beside it, gives the same bank).
use Rattle.std.specs.Prelude.{ℕ, List}
use Rattle.rules.specs.Answers.{taken, ◌>>=◌}
use Rattle.rules.specs.Coding.{within}
use Rattle.rules.specs.Calls.{Call, Output, call, lent, bank_room, text_room, text_answer, bank_answer}

-- bank to text, then text to bank with the W shown: refused as bank to text refuses, else the same bank up to word W
abbrev pub written_again : List ℕ → List ℕ → List ℕ → Call
written_again b text out = call out (text_answer b text >>= λ (o : Output). lent bank_room out (taken (o.0, within b)))

-- text to bank, then bank to text: refused as text to bank refuses, else the same text and the W that was written
abbrev pub shown_again : ℕ → List ℕ → List ℕ → List ℕ → Call
shown_again W t bank out = call out (bank_answer W t bank >>= λ (o : Output). lent text_room out (taken (o.0, t)))
