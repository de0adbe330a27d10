use Rattle.std.proofs.Common.{◌+◌, ◌*◌, ◌%◌, ◌^◌, ap, ◌∙◌}
use Rattle.nimber_field.specs.Nimber.{order, code}
use Rattle.nimbers.proofs.Digits.{joined}
use Rattle.nimbers.proofs.twice.TwiceLevel.join.Goals as goal

pub returns : goal.returns
unfolding code
returns g c =
    let k = g.H.Level.level in
    let high = code k (g.H.Level.element c.args.self.high) in
    let low = code k (g.H.Level.element c.args.self.low) in
    c.join-2.ensures ∙ ap (λ n. (n * order k + low) % 2 ^ 32) c.join.ensures ∙ joined k c.args.above high low
