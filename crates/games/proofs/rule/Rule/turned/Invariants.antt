use Rattle.std.proofs.Common.{◌≡◌}
use Rattle.games.specs.Cells.{held, held_below}
use Rattle.games.proofs.rule.Rule.turned.Given as goal

abbrev pub invariant-loop-d : goal.invariant-loop-d
invariant-loop-d g l = held l.cells ≡ held_below l.d ((g.Self.Rule.rule l.self).turns l.c l.i)
