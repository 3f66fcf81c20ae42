-- Each program's reply to one line.
use Rattle.std.specs.Prelude.{ℕ, List}
use Rattle.replies.specs.Replies.{tagline_reply}
use Rattle.replies.specs.Identities.{identity_reply}
use Rattle.replies.specs.declared.Program.{Program}
use Rattle.replies.specs.declared.Program.TheVariants.{Tagline, Identity}

abbrev pub reply_of : Program → List ℕ → List ℕ
reply_of Tagline l = tagline_reply l
reply_of Identity l = identity_reply l
