use Rattle.std.proofs.Common.{◌≡◌, ◌+◌, ◌*◌, ◌≤◌, ◌++◌, length, take}
use Rattle.reports.specs.Lines.{fields as fields_of}
use Rattle.reports.proofs.lines.Line.fields.Given as goal

abbrev pub invariant-loop-n : goal.invariant-loop-n
invariant-loop-n l = record {
  bytes : l.self ≡ l.initial.self ++ fields_of (take l.n-index l.numbers);
  short : length l.self ≤ length l.initial.self + 11 * l.n-index;
}
