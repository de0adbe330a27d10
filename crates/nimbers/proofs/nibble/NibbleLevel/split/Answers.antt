use Rattle.std.proofs.Common.{ap, ◌∙◌}
use lib.Bits.{and_mask}
use Rattle.nimber_field.specs.Nimber.{decode}
use Rattle.nimber_field.proofs.Codes.{decode_low}
use Rattle.nimbers.proofs.nibble.NibbleLevel.split.Goals as goal

pub returns-clause-lowest : goal.returns-clause-lowest
returns-clause-lowest c = ap (decode 2) (and_mask c.args.n 4) ∙ decode_low 2 c.args.n
