use Rattle.std.proofs.Common.{◌<◌, ◌∙◌, arith}
use Rattle.games.specs.Cells.{only}
use Rattle.tables.specs.Coins.{coins}
use Rattle.tables.proofs.Values.{value_of_one, value_turned}
use Rattle.tables.proofs.table.Table.lay_coin.Goals as goal

pub invariant_of-self : goal.invariant_of-self
invariant_of-self g c =
    let t = c.args.self.now in
    let G = g.G.Game.rules t.game in
    let on : c.args.c < G.cells = omega (arith, c.if-c-size.false, c.size.ensures) in
    record {
      valued = value_turned G (coins t.kept.position) (coins c.flip.new.self) (only c.args.c) t.value c.value.result t.valued
          (c.value.ensures ∙ value_of_one G (g.met.G.Game.lawful t.game) c.args.c on) c.flip.ensures;
    }
