use Rattle.std.proofs.Common.{ap, ◌∙◌}
use Rattle.transcripts.specs.Readings.{found, later}
use Rattle.transcripts.proofs.ReadingLaws.{stuck}
use Rattle.transcripts.proofs.unread.Unread.into_body.Goals as goal

pub returns-clause-refused : goal.returns-clause-refused
returns-clause-refused c e h n = ap (λ r. found (later n r)) c.new.ensures ∙ stuck _ e h n
