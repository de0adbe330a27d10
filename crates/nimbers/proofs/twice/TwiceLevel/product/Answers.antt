use Rattle.nimber_field.specs.Tower.{ops}
use Rattle.nimber_field.proofs.Halves.{cross}
use Rattle.nimbers.proofs.twice.TwiceLevel.product.Goals as goal

pub returns : goal.returns
unfolding ops
returns g c =
    let element = g.H.Level.element in
    let a = c.args.self in
    let b = c.args.other in
    let three = cross g.H.Level.level (element a.high) (element a.low) (element b.high) (element b.low) in
    let half = g.met.H.Level.half_law in cc
