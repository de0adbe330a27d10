use Rattle.std.proofs.Common.{◌/◌, sym, ap, ◌∙◌}
use Rattle.std.proofs.Math.Nat.{div-div-eq-div-mul}
use Rattle.nimber_field.specs.Nimber.{order, decode}
use Rattle.nimber_field.proofs.Codes.{order_suc, decode_low}
use Rattle.nimbers.proofs.twice.TwiceLevel.split.Goals as goal

pub returns-clause-lowest : goal.returns-clause-lowest
unfolding decode
returns-clause-lowest g c =
    let k = g.H.Level.level in
    let high = c.split-high.ensures.lowest ∙ ap (decode k) c.split-low.ensures.above in
    let low = c.split-low.ensures.lowest ∙ sym (decode_low k c.args.n) in λ i. (high i, low i)

pub returns-clause-above : goal.returns-clause-above
returns-clause-above g c =
    let k = g.H.Level.level in
    c.split-high.ensures.above ∙ ap (λ n. n / order k) c.split-low.ensures.above
    ∙ div-div-eq-div-mul c.args.n (order k) (order k)
    ∙ ap (λ n. c.args.n / n) (sym (order_suc k))
