use Rattle.std.proofs.Common.{◌≡◌, ◌*◌, ◌%◌, ◌^◌, ap, ◌∙◌, arith}
use lib.Bits.{bit_or, or_shifted}
use Rattle.nimber_field.proofs.Codes.{code_decode}
use Rattle.nimbers.proofs.nibble.NibbleLevel.join.Goals as goal

pub returns : goal.returns
returns c =
    let value = c.args.self.value in
    let below = c.args.self.below in
    let high : c.args.above * 16 % 2 ^ 32 ≡ c.args.above % 2 ^ 28 * 16 = omega arith in
    ap (λ n. bit_or n value) high ∙ or_shifted (c.args.above % 2 ^ 28) 4 value below
    ∙ omega (arith, below, code_decode 2 value below)
