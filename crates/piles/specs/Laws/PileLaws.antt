-- Each pile is a game, and its replies are such. Assumes nothing.
use Rattle.games.specs.Rules.{Rules, Lawful, Replies}
use Rattle.games.specs.Ruler.{Ruler, ruler_of}
use Rattle.games.specs.Take.{Take, take_of}
use Rattle.games.specs.Turtles.{Turtles, turtles_of}
use Rattle.games.specs.Twins.{Twins, twins_of}
use Rattle.games.specs.Laws.RowLaws.{lowest_replies}
use Rattle.games.specs.Laws.RulerLaws.{ruler_lawful, ruler_lowest}
use Rattle.games.specs.Laws.TakeLaws.{take_lawful, take_lowest}
use Rattle.games.specs.Laws.TurtlesLaws.{turtles_lawful, turtles_lowest}
use Rattle.games.specs.Laws.TwinsLaws.{twins_lawful, twins_lowest}
use Rattle.piles.specs.Layers.{mixture, product}
use Rattle.piles.specs.Numbered.{pile_of}
use Rattle.piles.specs.declared.pile.Pile.{Pile}
use Rattle.piles.specs.declared.pile.Pile.TheVariants.{
  TurningCorners,
  Rugs,
  TurtlesByRuler,
  TwinsByTake,
  CornersAndRugs,
  MixedByTwins,
}
use Rattle.piles.specs.Laws.MixLaws.{mixture_lawful, mixture_replies}
use Rattle.piles.specs.Laws.ProductLaws.{product_lawful, product_replies}

-- a game that keeps the laws
record Kept (G : Rules) : Type 0 where
  lawful : Lawful G
  replies : Replies G

twins_kept : (g : Twins) → Kept (twins_of g)
twins_kept g = record { lawful = twins_lawful g.row.size g.row.few; replies = lowest_replies (twins_of g) (twins_lowest g.row.size g.row.few) }

ruler_kept : (g : Ruler) → Kept (ruler_of g)
ruler_kept g = record { lawful = ruler_lawful g.row.size g.row.few; replies = lowest_replies (ruler_of g) (ruler_lowest g.row.size g.row.few) }

turtles_kept : (g : Turtles) → Kept (turtles_of g)
turtles_kept g = record {
  lawful = turtles_lawful g.row.size g.row.few;
  replies = lowest_replies (turtles_of g) (turtles_lowest g.row.size g.row.few);
}

take_kept : (g : Take) → Kept (take_of g)
take_kept g = record {
  lawful = take_lawful g.rule.set.bits g.row.size g.row.few g.rule.set.fits;
  replies = lowest_replies (take_of g) (take_lowest g.rule.set.bits g.row.size g.row.few);
}

product_kept : {A B : Rules} → Kept A → Kept B → Kept (product A B)
product_kept a b = record {
  lawful = product_lawful _ _ a.lawful b.lawful;
  replies = product_replies _ _ a.lawful b.lawful a.replies b.replies;
}

mixture_kept : {A B : Rules} → Kept A → Kept B → Kept (mixture A B)
mixture_kept a b = record {
  lawful = mixture_lawful _ _ a.lawful b.lawful;
  replies = mixture_replies _ _ a.replies b.replies;
}

pile_kept : (p : Pile) → Kept (pile_of p)
pile_kept (TurningCorners p) = product_kept (twins_kept p.left) (twins_kept p.right)
pile_kept (Rugs p) = product_kept (ruler_kept p.left) (ruler_kept p.right)
pile_kept (TurtlesByRuler p) = product_kept (turtles_kept p.left) (ruler_kept p.right)
pile_kept (TwinsByTake p) = product_kept (twins_kept p.left) (take_kept p.right)
pile_kept (CornersAndRugs p) =
    mixture_kept (product_kept (twins_kept p.left.left) (twins_kept p.left.right))
    (product_kept (ruler_kept p.right.left) (ruler_kept p.right.right))
pile_kept (MixedByTwins p) = product_kept (mixture_kept (turtles_kept p.left.left) (ruler_kept p.left.right)) (twins_kept p.right)

pub pile_lawful : (p : Pile) → Lawful (pile_of p)
pile_lawful p = (pile_kept p).lawful

pub pile_replies : (p : Pile) → Replies (pile_of p)
pile_replies p = (pile_kept p).replies
