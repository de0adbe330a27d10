use Rattle.std.proofs.Common.{refl}
use Rattle.tables.specs.Coins.{coins}
use Rattle.tables.specs.Runs.{odd_many, some_entry}
use Rattle.tables.proofs.Values.{value_of_tails}
use Rattle.tables.proofs.table.Table.new.Goals as goal

pub invariant_of-result : goal.invariant_of-result
invariant_of-result g c = record { valued = value_of_tails (g.G.Game.rules c.args.game) (coins c.new.result) c.new.ensures }

pub returns-clause-run : goal.returns-clause-run
unfolding odd_many some_entry
returns-clause-run g c = record { coins_stand = c.new.ensures; state_stands = refl; side_stands = refl }
