use lib.Bits.{xor_lt}
use Rattle.nimber_field.proofs.Numbers.{decode_sum}
use Rattle.nimbers.proofs.nibble.NibbleLevel.sum.Goals as goal

pub invariant_of-result : goal.invariant_of-result
invariant_of-result c = record { below = xor_lt 4 c.args.self.value c.args.other.value c.args.self.below c.args.other.below }

pub returns : goal.returns
returns c = decode_sum 2 c.args.self.value c.args.other.value c.args.self.below c.args.other.below
