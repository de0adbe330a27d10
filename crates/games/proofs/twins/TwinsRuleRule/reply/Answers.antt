use Rattle.games.specs.Laws.TwinsLaws.{twins_reply}
use Rattle.games.proofs.twins.TwinsRuleRule.reply.Goals as goal

pub returns : goal.returns
returns c = twins_reply c.args._c c.args.w c.requires.below
