use Rattle.std.proofs.Common.{◌/◌, ◌≤◌, eqb, length, sym, ap, ◌∙◌, rules, le-ltb}
use lib.Bits.{and_mask}
use Rattle.games.specs.Cells.{held}
use Rattle.games.proofs.CellBits.{no_cell}
use Rattle.games.proofs.cells.Cells.has.Goals as goal

pub returns-then-c-lt-MOST_CELLS : goal.returns-then-c-lt-MOST_CELLS
unfolding held
returns-then-c-lt-MOST_CELLS c = ap (λ n. eqb n 1) (and_mask _ 1)

pub returns-else-c-lt-MOST_CELLS : goal.returns-else-c-lt-MOST_CELLS
unfolding held
returns-else-c-lt-MOST_CELLS c =
    let past : length c.args.self.now.words ≤ c.args.c / 32 = search rules in
    le-ltb c.args.c 4096 c.if-c-lt-MOST_CELLS.false ∙ sym (no_cell c.args.self.now.words c.args.c past)
