-- The search finds this too; written out, it refuses the wrong edit of the ending by its name, and not at a limit of the search.
use Rattle.std.proofs.Common.{refl, ◌∙◌}
use Rattle.sessions.proofs.unwritten.Goals as goal

pub returns-in_default : goal.returns-in_default
returns-in_default c = record { closed = (λ e. absurd (cc e), λ k. absurd (c.in_default.not-BrokenPipe (c.kind.ensures ∙ k))); other = λ _. refl }
