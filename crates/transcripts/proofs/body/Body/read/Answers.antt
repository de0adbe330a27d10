use Rattle.transcripts.proofs.ReadingLaws.{again}
use Rattle.transcripts.proofs.body.Body.read.Goals as goal

pub returns-clause-again : goal.returns-clause-again
returns-clause-again c = again _ _ _ c.advance.ensures.found c.advance.ensures.after
