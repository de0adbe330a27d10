-- What a worked sum claims. Assumes nothing.
use Rattle.std.specs.Prelude.{◌≡◌, ℕ, zero, suc, ◌+◌, ◌-◌, ◌*◌, ◌^◌, List, [], ◌∷◌, ◌++◌}
use Rattle.nimber_field.specs.Nimber.{◌⊗◌, inverse_of}
use Rattle.games.specs.Rules.{Rules}
use Rattle.games.specs.Twins.{twins}
use Rattle.games.specs.Turtles.{turtles}
use Rattle.games.specs.Ruler.{ruler}
use Rattle.games.specs.Take.{take_game}
use Rattle.piles.specs.Layers.{product}
use Rattle.piles.specs.declared.worked.Board.{Board}
use Rattle.piles.specs.declared.worked.WorkedSum.{WorkedSum}
use Rattle.piles.specs.declared.worked.WorkedSum.TheVariants.{
  Product,
  Inverse,
  Turtles,
  Ruler,
  Take,
  TurningCorners,
  Rugs,
  TurtlesSquared,
}

-- a number that a claim is about, beside the number that it is said to be
pub record Claim : Type 0 where
  pub found : ℕ
  pub said : ℕ

-- what was found beside what is said
abbrev pub claim : ℕ → ℕ → Claim
claim found said = record { found = found; said = said }

-- the claims of one sum, by the definitions; games are those on the widest row
abbrev pub claims : WorkedSum → List Claim
claims (Product a b is) = claim (a ⊗ b) is ∷ []
claims (Inverse a is) = claim (inverse_of a) is ∷ []
claims (Turtles c is) = claim ((turtles 64).worth c) is ∷ []
claims (Ruler c is) = claim ((ruler 64).worth c) is ∷ []
claims (Take set c is) = claim ((take_game 64 set).worth c) is ∷ []
claims (TurningCorners x y is) = claim ((product (twins 64) (twins 64)).worth (x * 64 + y)) is ∷ []
claims (Rugs x y is) = claim ((product (ruler 64) (ruler 64)).worth (x * 64 + y)) is ∷ []
claims (TurtlesSquared width cells ceiling) =
    claim (product (turtles width) (turtles width)).cells cells ∷ claim (product (turtles width) (turtles width)).ceiling ceiling ∷ []

-- every claim of a list holds
unfoldable pub AllHold : List Claim → Type 0
AllHold [] = Unit {0}
AllHold (c ∷ rest) = (c.found ≡ c.said) × AllHold rest

-- the claims of a list of sums
unfoldable pub all_claims : List WorkedSum → List Claim
all_claims [] = []
all_claims (s ∷ rest) = claims s ++ all_claims rest

-- a game multiplied with itself that many times more
unfoldable pub power : ℕ → Rules → Rules
power zero G = G
power (suc n) G = product (power n G) G

-- Take on one cell with all 32 amounts
abbrev pub full_take : Rules
full_take = take_game 1 (2 ^ 32 - 1)

-- so many of these games multiplied have this board
abbrev pub TakesMultiplied : (more : ℕ) → Board → Type 0
TakesMultiplied more b = ((power more full_take).cells ≡ b.cells) × ((power more full_take).ceiling ≡ b.ceiling)
