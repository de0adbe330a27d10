use Rattle.std.proofs.Common.{◌≡◌, ◌<◌, refl, sym, ap, ◌∙◌, subst}
use Rattle.nimber_field.specs.Tower.{ops}
use Rattle.nimber_field.specs.Nimber.{times, code, decode}
use Rattle.nimber_field.proofs.Numbers.{times_below, decode_times}
use Rattle.nimbers.specs.declared.table.TheConstants.{PRODUCTS}
use Rattle.nimbers.proofs.Tables.{each, product_at}
use Rattle.nimbers.proofs.nibble.NibbleLevel.product.Goals as goal

right : PRODUCTS ≡ each (λ a. each (times 2 a))
unfolding times code decode ops
right = refl

pub invariant_of-result : goal.invariant_of-result
invariant_of-result c =
    let a = c.args.self in
    let b = c.args.other in
    record { below = subst (λ n. n < 16) (sym (product_at _ right a.value b.value a.below b.below)) (times_below 2 a.value b.value) }

pub returns : goal.returns
returns c =
    let a = c.args.self in
    let b = c.args.other in ap (decode 2) (product_at _ right a.value b.value a.below b.below) ∙ decode_times 2 a.value b.value
