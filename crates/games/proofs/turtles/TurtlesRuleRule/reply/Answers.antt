use Rattle.std.proofs.Common.{◌+◌, ◌-◌, ◌/◌, sym, subst, arith, eqb-true}
use borrow.Author.Tests.{eqb-false}
use Rattle.std.proofs.lemmas.Bool.Decides.{nat_tests}
use Rattle.games.specs.Rows.{LowestMove}
use Rattle.games.specs.Turtles.{turtles_rule}
use Rattle.games.specs.Laws.Odious.{even_half, odious_half}
use Rattle.games.specs.Laws.TurtlesLaws.{best_one, best_two, best_three}
use Rattle.games.proofs.turtles.TurtlesRuleRule.reply.Goals as goal

pub top_power-b-requires : goal.top_power-b-requires
top_power-b-requires c = even_half c.args.w c.if-w-eq0.false (eqb-false _ 1 (sym c.if-has_odd_ones.ensures))

pub pairs_below-requires : goal.pairs_below-requires
pairs_below-requires c = grind (arith, nat_tests, odious_half c.args.c)

pub returns-then-w-eq0 : goal.returns-then-w-eq0
returns-then-w-eq0 c = best_one c.args.c c.args.w c.requires.cell c.if-w-eq0.true

pub returns-then-has_odd_ones : goal.returns-then-has_odd_ones
returns-then-has_odd_ones c =
    best_two c.args.c c.args.w c.requires.cell c.requires.below (eqb-true _ 1 (sym c.if-has_odd_ones.ensures))

pub returns-else-has_odd_ones : goal.returns-else-has_odd_ones
returns-else-has_odd_ones c =
    subst (λ p. LowestMove turtles_rule c.args.c c.args.w (c.args.c + 1 + p + (c.args.w / 2 - c.top_power-b.result)))
    (sym c.pairs_below.ensures.value)
    (best_three c.args.c c.args.w c.top_power-b.result c.requires.cell c.requires.below
    (eqb-false _ 1 (sym c.if-has_odd_ones.ensures)) c.top_power-b.ensures)
