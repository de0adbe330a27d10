use Rattle.std.proofs.Common.{◌/◌, ◌%◌, ◌&&◌, eqb, ltb, ap, ◌∙◌, arith}
use mathlib.Core.Path.{fun_ext}
use Rattle.std.proofs.lemmas.Nat.{one_shl}
use Rattle.nimber_field.specs.Tower.{differ}
use Rattle.games.specs.Cells.{held, marks}
use Rattle.games.proofs.CellBits.{one_marked}
use Rattle.games.proofs.cells.Cells.toggle.Goals as goal

pub returns : goal.returns
returns c =
    let before = held c.args.self.now in
    let cell = c.args.c in
    c.toggle_word.ensures
    ∙ fun_ext (λ d.
    ap (λ w. differ (before d) (ltb (cell / 32) 128 && (eqb (d / 32) (cell / 32) && marks w (d % 32)))) (one_shl (cell % 32) 32 (omega arith))
    ∙ ap (differ (before d)) (one_marked cell d))
