use Rattle.std.proofs.Common.{◌≡◌}
use Rattle.games.specs.Cells.{held_below}
use Rattle.games.specs.Rules.{sum_held}
use Rattle.play.specs.Play.{turned}
use Rattle.tables.specs.Coins.{coins}
use Rattle.tables.proofs.position.Position.turn_each.Given as goal

abbrev pub invariant-loop-d : goal.invariant-loop-d
invariant-loop-d g l = record {
  turned_below : coins l.self ≡ turned (coins l.initial.self) (held_below l.d ((g.G.Game.rules l.game).holds l.m.cell l.m.number));
  added : l.value ≡ sum_held l.d ((g.G.Game.rules l.game).holds l.m.cell l.m.number) (g.G.Game.rules l.game).worth;
}
