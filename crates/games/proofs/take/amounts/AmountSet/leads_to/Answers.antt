use Rattle.std.proofs.Common.{sym, ◌∙◌}
use Rattle.games.specs.TakeValues.{value_in}
use Rattle.games.specs.Laws.TakeValueLaws.{leads_is}
use Rattle.games.proofs.take.amounts.AmountSet.leads_to.Goals as goal

pub returns : goal.returns
returns c =
    c.is_some.ensures
    ∙ sym (leads_is c.args.self.bits (value_in c.args.values.now) c.args.c c.args.v c.smallest_leading.result c.smallest_leading.ensures)
