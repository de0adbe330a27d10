use Rattle.std.proofs.Common.{◌+◌, ◌*◌, ◌^◌, ◌<◌, ◌≤◌, get_or, length, sym, ◌∙◌, arith, rules, le-ltb}
use Rattle.games.specs.Cells.{held}
use Rattle.games.proofs.CellBits.{no_cell, word_marks}
use Rattle.games.proofs.Tests.{none_passes}
use Rattle.games.proofs.cells.Cells.marks_in.Goals as goal

pub returns-then-k-lt128 : goal.returns-then-k-lt128
unfolding held
returns-then-k-lt128 c =
    let small : get_or c.args.self.now.words c.args.k 0 < 2 ^ 32 = search rules in
    word_marks c.args.self.now.words c.args.k small

pub returns-else-k-lt128 : goal.returns-else-k-lt128
unfolding held
returns-else-k-lt128 c =
    let few : length c.args.self.now.words ≤ 128 = search rules in
    le-ltb c.args.k 128 c.if-k-lt128.false
    ∙ sym (none_passes 32 _ (λ j l. no_cell c.args.self.now.words (32 * c.args.k + j) (omega (arith, few, l, c.if-k-lt128.false))))
