use Rattle.std.proofs.Common.{◌≡◌, ◌+◌, ◌*◌, ◌/◌, ◌%◌, ◌^◌, ◌<◌, ◌&&◌, eqb, ltb, ap, ◌∙◌, arith}
use mathlib.Core.Path.{fun_ext}
use Rattle.std.proofs.lemmas.Nat.{shl_whole}
use Rattle.nimber_field.specs.Tower.{differ}
use Rattle.games.specs.Cells.{held, marks, in_one}
use Rattle.games.proofs.CellBits.{across, differ_assoc}
use Rattle.games.proofs.cells.Cells.toggle_marked.Goals as goal

pub returns : goal.returns
returns c =
    let before = held c.args.self.now in
    let n = c.args.n in
    let word = c.args.word in
    let small : word < 2 ^ 32 = omega arith in
    let wide : c.from.result * 2 ^ (n % 32) % 2 ^ 64 / 2 ^ 32 ≡ word * 2 ^ (n % 32) / 2 ^ 32
    = ap (λ w. w * 2 ^ (n % 32) % 2 ^ 64 / 2 ^ 32) c.from.ensures
    ∙ ap (λ w. w / 2 ^ 32) (shl_whole word 32 (n % 32) 64 small (omega arith)) in
    c.toggle_word-2.ensures
    ∙ ap (λ s. in_one s (λ d. ltb (n / 32 + 1) 128 && (eqb (d / 32) (n / 32 + 1) && marks (c.from.result * 2 ^ (n % 32) % 2 ^ 64 / 2 ^ 32) (d % 32)))) c.toggle_word.ensures
    ∙ fun_ext (λ d.
    let low = ltb (n / 32) 128 && (eqb (d / 32) (n / 32) && marks (word * 2 ^ (n % 32) % 2 ^ 32) (d % 32)) in
    differ_assoc (before d) low _
    ∙ ap (λ w. differ (before d) (differ low (ltb (n / 32 + 1) 128 && (eqb (d / 32) (n / 32 + 1) && marks w (d % 32))))) wide
    ∙ ap (differ (before d)) (across n word d small))
