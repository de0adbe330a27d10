use Rattle.games.specs.Laws.RulerLaws.{ruler_powers}
use Rattle.games.proofs.ruler.Ruler.new.Goals as goal

pub returns-clause-divides : goal.returns-clause-divides
returns-clause-divides c = ruler_powers c.of.result.row.size c.of.result.row.few
