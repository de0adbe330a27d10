use Rattle.nimber_field.specs.Nimber.{times}
use Rattle.nimbers.proofs.Digits.{alone}
use Rattle.nimbers.proofs.Levels.{times_at}
use Rattle.nimbers.proofs.product_in.Goals as goal

pub returns : goal.returns
unfolding times
returns g c =
    let k = g.L.Level.level in
    let a = c.split-a.ensures.lowest in
    let b = c.split-b.ensures.lowest in
    let n = alone k (g.L.Level.element c.product.result) c.requires.level in
    let of_level = times_at k c.args.a c.args.b c.requires.level c.requires.a c.requires.b in cc
