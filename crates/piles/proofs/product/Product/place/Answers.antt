use Rattle.std.proofs.Common.{rules}
use Rattle.piles.specs.Laws.ProductLaws.{nothing_off, product_lawful, product_replies}
use Rattle.piles.proofs.product.Product.place.Goals as goal

pub returns-else-fits : goal.returns-else-fits
returns-else-fits g c =
    let A = g.met.A.Game in
    let B = g.met.B.Game in
    let p = c.args.self.now in
    nothing_off _ (product_lawful _ _ (A.lawful p.left) (B.lawful p.right))
    (product_replies _ _ (A.lawful p.left) (B.lawful p.right) (A.replies p.left) (B.replies p.right)) c.args.c (search rules)
