use Rattle.std.proofs.Common.{rules}
use Rattle.games.specs.Laws.RowLaws.{reply_is}
use Rattle.games.proofs.row_game.RowGameGame.reply.Goals as goal

pub returns : goal.returns
returns g c =
    let game = c.args.self.now in
    reply_is (g.R.Rule.rule game.rule) game.row.size c.args.c c.args.w c.value.result c.then.result c.value.ensures
    c.then.ensures.variant (search rules)
