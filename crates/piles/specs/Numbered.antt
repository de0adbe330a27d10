-- The six numbered piles. Assumes nothing.
use Rattle.std.specs.Prelude.{ℕ, zero, suc, Some, None, Option}
use Rattle.games.specs.Rules.{Rules}
use Rattle.games.specs.Rows.{board}
use Rattle.games.specs.Twins.{twins, twins_of}
use Rattle.games.specs.Turtles.{turtles, turtles_of}
use Rattle.games.specs.Ruler.{ruler, ruler_of}
use Rattle.games.specs.Take.{take_game, take_of}
use Rattle.piles.specs.Layers.{mixture, product}
use Rattle.piles.specs.declared.pile.Pile.{Pile}
use Rattle.piles.specs.declared.pile.Pile.TheVariants.{
  TurningCorners,
  Rugs,
  TurtlesByRuler,
  TwinsByTake,
  CornersAndRugs,
  MixedByTwins,
}

-- the pile of a number, by its two widths and its set of amounts
unfoldable pub numbered : (number w h set : ℕ) → Option Rules
numbered zero w h set = None
numbered (suc zero) w h set = Some (product (twins (board w)) (twins (board h)))
numbered (suc (suc zero)) w h set = Some (product (ruler (board w)) (ruler (board h)))
numbered (suc (suc (suc zero))) w h set = Some (product (turtles (board w)) (ruler (board h)))
numbered (suc (suc (suc (suc zero)))) w h set = Some (product (twins (board w)) (take_game (board h) set))
numbered (suc (suc (suc (suc (suc zero))))) w h set =
    Some (mixture (product (twins (board w)) (twins (board w))) (product (ruler (board h)) (ruler (board h))))
numbered (suc (suc (suc (suc (suc (suc zero)))))) w h set = Some (product (mixture (turtles (board w)) (ruler (board h))) (twins 4))
numbered (suc (suc (suc (suc (suc (suc (suc n))))))) w h set = None

-- the game that a pile is
abbrev pub pile_of : Pile → Rules
pile_of (TurningCorners p) = product (twins_of p.left) (twins_of p.right)
pile_of (Rugs p) = product (ruler_of p.left) (ruler_of p.right)
pile_of (TurtlesByRuler p) = product (turtles_of p.left) (ruler_of p.right)
pile_of (TwinsByTake p) = product (twins_of p.left) (take_of p.right)
pile_of (CornersAndRugs p) =
    mixture (product (twins_of p.left.left) (twins_of p.left.right)) (product (ruler_of p.right.left) (ruler_of p.right.right))
pile_of (MixedByTwins p) = product (mixture (turtles_of p.left.left) (ruler_of p.left.right)) (twins_of p.right)
