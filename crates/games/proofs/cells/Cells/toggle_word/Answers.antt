use Rattle.std.proofs.Common.{◌/◌, ◌%◌, ◌<◌, ◌&&◌, eqb, length, sym, ap, ◌∙◌, rules, lt-ltb}
use mathlib.Core.Path.{fun_ext}
use Rattle.nimber_field.specs.Tower.{differ}
use Rattle.games.specs.Cells.{held, marks}
use Rattle.games.proofs.CellBits.{cell, word_toggled}
use Rattle.games.proofs.cells.Cells.toggle_word.Goals as goal

pub returns-then-k-lt128 : goal.returns-then-k-lt128
unfolding held
returns-then-k-lt128 c =
    let words = c.args.self.now.words in
    let within : c.args.k < length words = search rules in
    fun_ext (λ d.
    word_toggled words c.args.k c.args.word d within
    ∙ ap (λ b. differ (cell words d) (b && (eqb (d / 32) c.args.k && marks c.args.word (d % 32)))) (sym (lt-ltb c.args.k 128 c.if-k-lt128.true)))
