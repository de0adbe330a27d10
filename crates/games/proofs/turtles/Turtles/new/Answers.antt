use Rattle.games.specs.Laws.TurtlesLaws.{turtles_triples}
use Rattle.games.proofs.turtles.Turtles.new.Goals as goal

pub returns-clause-triples : goal.returns-clause-triples
returns-clause-triples c = turtles_triples c.of.result.row.size c.of.result.row.few
