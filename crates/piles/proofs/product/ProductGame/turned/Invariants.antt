use Rattle.std.proofs.Common.{◌≡◌}
use Rattle.games.specs.Cells.{held}
use Rattle.piles.proofs.Crossing.{crossing}
use Rattle.piles.proofs.product.ProductGame.turned.Given as goal

abbrev pub invariant-loop-r : goal.invariant-loop-r
invariant-loop-r g l = held l.cells ≡ crossing l.r l.columns (held l.rows) (held l.row)
