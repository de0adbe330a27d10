use Rattle.std.proofs.Common.{refl, ap, ◌∙◌}
use Rattle.nimber_field.specs.Tower.{ops}
use Rattle.nimber_field.specs.Nimber.{invert, code, decode}
use Rattle.nimber_field.proofs.Codes.{decode_code}
use Rattle.nimbers.proofs.Tables.{inverse_at}
use Rattle.nimbers.proofs.nibble.NibbleLevel.inverse.Goals as goal

pub returns : goal.returns
unfolding invert code decode ops
returns c = ap (decode 2) (inverse_at _ refl c.args.self.value c.args.self.below) ∙ decode_code 2 _
