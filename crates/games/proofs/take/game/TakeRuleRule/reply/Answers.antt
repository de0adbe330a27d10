use Rattle.std.proofs.Common.{sym, subst}
use Rattle.games.specs.Rows.{LowestMove}
use Rattle.games.specs.Take.{take_rule}
use Rattle.games.specs.TakeValues.{SmallestLeading, value_in}
use Rattle.games.specs.Laws.TakeLaws.{some_leads, take_reply}
use Rattle.games.proofs.take.game.TakeRuleRule.reply.Goals as goal

pub unwrap-s-requires : goal.unwrap-s-requires
unwrap-s-requires c =
    let r = c.args.self.now in
    some_leads r.set.bits c.args.c c.args.w (value_in r.values) c.requires.cell c.requires.below r.right
    c.smallest_leading.result c.smallest_leading.ensures

pub returns : goal.returns
returns c =
    let r = c.args.self.now in
    let f = value_in r.values in
    subst (LowestMove (take_rule r.set.bits) c.args.c c.args.w) (sym c.smaller_than.ensures)
    (take_reply r.set.bits c.args.c c.args.w f c.requires.cell c.requires.below r.right c.unwrap-s.result
    (subst (SmallestLeading r.set.bits f c.args.c c.args.w) c.unwrap-s.ensures c.smallest_leading.ensures))
