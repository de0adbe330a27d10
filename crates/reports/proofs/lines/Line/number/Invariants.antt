use Rattle.std.proofs.Common.{◌≡◌, ◌++◌, take}
use Rattle.reports.proofs.lines.Line.number.Given as goal

abbrev pub invariant-loop-digit : goal.invariant-loop-digit
invariant-loop-digit g l = l.self ≡ l.initial.self ++ take l.digit-index l.digits
