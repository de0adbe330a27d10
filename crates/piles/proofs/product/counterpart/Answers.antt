use Rattle.std.proofs.Common.{◌≡◌, refl, arith}
use Rattle.std.specs.Int.Bits.{xor_zero_r}
use Rattle.nimber_field.specs.Nimber.{inverse_of, invert, code, decode}
use Rattle.nimber_field.specs.Tower.{ops}
use Rattle.nimber_field.proofs.Products.{product_zero}
use Rattle.piles.proofs.product.counterpart.Goals as goal

-- zero has no inverse, and stands for it
of_zero : inverse_of 0 ≡ 0
unfolding inverse_of invert code decode ops
of_zero = refl

pub returns : goal.returns
returns c = grind (arith, of_zero, product_zero, xor_zero_r)
