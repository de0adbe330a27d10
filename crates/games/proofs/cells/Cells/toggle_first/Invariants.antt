use Rattle.std.proofs.Common.{◌≡◌, ◌-◌, ◌*◌, ◌/◌, ◌≤◌, drop, min}
use Rattle.games.specs.Cells.{held, in_one, raised}
use Rattle.games.proofs.CellBits.{below}
use Rattle.games.proofs.cells.Cells.toggle_first.Given as goal

abbrev pub invariant-loop-k : goal.invariant-loop-k
invariant-loop-k l = record {
  last : l.k-iterator.a.end ≡ min l.words (128 - l.n / 32);
  within : l.k-iterator.a.start ≤ l.k-iterator.a.end;
  rest : l.k-iterator.b.rest.now ≡ drop l.k-iterator.a.start l.other.words;
  toggled : held l.self ≡ in_one (held l.initial.self) (raised l.n (below (32 * l.k-iterator.a.start) (held l.other)));
}
