use Rattle.std.proofs.Common.{arith}
use mathlib.Core.Path.{fun_ext}
use Rattle.games.specs.Cells.{held}
use Rattle.games.proofs.CellBits.{none_marked}
use Rattle.games.proofs.cells.Cells.new.Goals as goal

pub returns : goal.returns
unfolding held
returns c =
    let zeros = c.default.ensures in fun_ext (none_marked c.default.result.words (λ i l. zeros.at i 0 (omega (arith, zeros.long))))
