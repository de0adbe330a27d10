use Rattle.tables.specs.Coins.{coins}
use Rattle.tables.proofs.Values.{value_turned}
use Rattle.tables.proofs.table.Table.make_move.Goals as goal

pub invariant_of-self : goal.invariant_of-self
invariant_of-self g c =
    let t = c.args.self.now in
    let G = g.G.Game.rules t.game in
    let moved = c.turn_and_sum in
    record {
      valued = value_turned G (coins t.kept.position) (coins moved.new.self) (G.holds c.args.m.cell c.args.m.number) t.value moved.result
          t.valued moved.ensures.value moved.ensures.coins;
    }
