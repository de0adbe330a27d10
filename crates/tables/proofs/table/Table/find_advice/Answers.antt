use Rattle.std.proofs.Common.{◌≡◌, true, ◌&&◌, ap, ◌∙◌, lt-ltb}
use borrow.Author.Tests.{both_ways}
use Rattle.play.proofs.Theorem.{winner}
use Rattle.tables.specs.Calls.{falls}
use Rattle.tables.specs.Coins.{coins}
use Rattle.tables.proofs.table.Table.find_advice.Goals as goal

-- a position of a value other than 0 has a head to move
pub returns-in_err-cell : goal.returns-in_err-cell
returns-in_err-cell g c =
    let G = g.G.Game.rules c.args.self.now.game in
    let u = coins c.args.self.now.kept.position in
    let is = c.sum-v.ensures in
    let w = winner G (g.met.G.Game.lawful c.args.self.now.game) u (λ e. c.if-v-eq0.false (is ∙ e)) in
    let falls_there : falls G u c.sum-v.result w.cell ≡ true
    = ap (λ v. falls G u v w.cell) is ∙ (λ i. w.heads i && lt-ltb _ (G.worth w.cell) w.lower i) in
    absurd (both_ways _ (c.in_err-cell.ensures w.cell w.on) falls_there)
