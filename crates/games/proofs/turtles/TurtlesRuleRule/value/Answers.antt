use Rattle.std.proofs.Common.{arith}
use Rattle.std.proofs.lemmas.Bool.Decides.{nat_tests}
use Rattle.games.specs.Turtles.{odious}
use Rattle.games.proofs.turtles.TurtlesRuleRule.value.Goals as goal

pub returns-then-has_odd_ones : goal.returns-then-has_odd_ones
unfolding odious
returns-then-has_odd_ones c = grind (arith, nat_tests, c.if-has_odd_ones.ensures)

pub returns-else-has_odd_ones : goal.returns-else-has_odd_ones
unfolding odious
returns-else-has_odd_ones c = grind (arith, nat_tests, c.if-has_odd_ones.ensures)
