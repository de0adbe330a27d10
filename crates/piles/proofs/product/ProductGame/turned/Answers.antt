use Rattle.std.proofs.Common.{◌≡◌, ◌+◌, ◌*◌, ◌%◌, ◌/◌, sym, ap, ◌∙◌, arith}
use mathlib.Core.Path.{fun_ext}
use Rattle.games.specs.Cells.{held, held_below, in_one, raised}
use Rattle.piles.proofs.Crossing.{row_more, row_passed, rows_all}
use Rattle.piles.proofs.product.ProductGame.turned.Goals as goal
use Rattle.piles.proofs.product.ProductGame.turned.Goals.{then-has, else-has}

pub loop-r-preserved : goal.loop-r-preserved
loop-r-preserved g c =
    let A = g.A.Game.rules c.args.self.now.left in
    let B = g.B.Game.rules c.args.self.now.right in
    let rows = held c.turned-rows.result in
    let columns = held c.turned-row.result in
    let n = c.size-columns.result in
    let r = c.loop-r.r in
    elim c.if-has.branch [
      | then-has w ↦
          ap held w.cells-is ∙ w.toggle_first.ensures ∙ (λ j. in_one (c.loop-r.invariant j) (raised (r * n) (held_below (32 * (c.in-Some.p.column / 32 + 1)) columns)))
          ∙ row_more A B c.args.c c.in-Some.p.row c.in-Some.p.column c.in-Some.ensures (g.met.B.Game.lawful c.args.self.now.right)
          (c.args.i % c.count-moves.result) n r rows columns c.size-columns.ensures c.turned-row.ensures
          (omega (arith, c.loop-r-test.true)) (sym c.has.ensures ∙ w.if-has.true)
      | else-has w ↦
          ap held w.cells-is ∙ c.loop-r.invariant ∙ fun_ext (λ d. row_passed rows columns n r d (sym c.has.ensures ∙ w.if-has.false))
    ]

pub returns : goal.returns
returns g c =
    let A = g.A.Game.rules c.args.self.now.left in
    let B = g.B.Game.rules c.args.self.now.right in
    let p = c.in-Some.p in
    let i = c.args.i in
    let moves : c.count.result * c.count-moves.result ≡ A.count p.row * B.count p.column = λ j. c.count.ensures j * c.count-moves.ensures j in
    c.loop-r.invariant
    ∙ rows_all A B c.args.c p.row p.column c.in-Some.ensures (g.met.A.Game.lawful c.args.self.now.left) i c.size-columns.result c.loop-r.r
    (held c.turned-rows.result) (held c.turned-row.result) c.size-columns.ensures
    (c.turned-rows.ensures ∙ (λ j. A.holds p.row (i / c.count-moves.ensures j)))
    (c.turned-row.ensures ∙ (λ j. B.holds p.column (i % c.count-moves.ensures j)))
    (omega (arith, moves, c.if-i-count.false)) (omega (arith, c.loop-r-test.false))
