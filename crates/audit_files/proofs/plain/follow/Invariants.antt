use Rattle.std.proofs.Common.{length}
use Rattle.audit_files.proofs.plain.follow.Given as goal

abbrev pub decreases-loop-taken : goal.decreases-loop-taken
decreases-loop-taken l = length l.rest
