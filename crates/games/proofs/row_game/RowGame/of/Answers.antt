use Rattle.games.specs.Laws.RowLaws.{row_lowest}
use Rattle.games.proofs.row_game.RowGame.of.Goals as goal

pub returns-clause-lowest : goal.returns-clause-lowest
returns-clause-lowest g c =
    row_lowest (g.R.Rule.rule c.args.rule) c.new.result.size (g.met.R.Rule.keeps c.args.rule c.new.result.size c.new.result.few)
