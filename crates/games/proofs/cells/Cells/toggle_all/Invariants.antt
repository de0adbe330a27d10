use Rattle.std.proofs.Common.{◌≡◌, ◌*◌}
use Rattle.games.specs.Cells.{held, in_one}
use Rattle.games.proofs.CellBits.{below}
use Rattle.games.proofs.cells.Cells.toggle_all.Given as goal

abbrev pub invariant-loop-k : goal.invariant-loop-k
invariant-loop-k l = held l.self ≡ in_one (held l.initial.self) (below (32 * l.k) (held l.other))
