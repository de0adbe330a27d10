use Rattle.nimber_field.specs.Nimber.{invert}
use Rattle.nimbers.proofs.Digits.{alone}
use Rattle.nimbers.proofs.Levels.{invert_at}
use Rattle.nimbers.proofs.inverse_in.Goals as goal

pub returns : goal.returns
unfolding invert
returns g c =
    let k = g.L.Level.level in
    let element = c.split-element.ensures.lowest in
    let n = alone k (g.L.Level.element c.inverse.result) c.requires.level in
    let of_level = invert_at k c.args.a c.requires.level c.requires.a c.requires.not_zero in cc
