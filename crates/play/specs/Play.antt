-- The rules of play, over positions: which coins show heads. Assumes nothing.
use Rattle.std.specs.Prelude.{◌≡◌, Bool, true, false, ℕ, ◌<◌}
use Rattle.nimber_field.specs.Tower.{differ}
use Rattle.games.specs.Rules.{Rules, Lawful, sum_held}

-- a position: whether the coin on a cell shows heads
abbrev pub Coins : Type 0
Coins = ℕ → Bool

-- the position after the coins of a set were turned
abbrev pub turned : Coins → (ℕ → Bool) → Coins
turned u set d = differ (u d) (set d)

-- the position after move i at c
abbrev pub after : Rules → Coins → (c i : ℕ) → Coins
after G u c i = turned u (G.holds c i)

-- move i at c may be made: the coin on c shows heads, and there is such a move
pub record Legal (G : Rules) (u : Coins) (c i : ℕ) : Type 0 where
  pub heads : u c ≡ true
  pub numbered : i < G.count c

-- a position is won when some legal move leads to a lost one, and lost when every legal move leads to a won one
mutual
  pub data Won (G : Rules) : Coins → Type 0 where
    wins : {u : Coins} (c i : ℕ) → Legal G u c i → Lost G (after G u c i) → Won G u

  pub data Lost (G : Rules) : Coins → Type 0 where
    loses : {u : Coins} → ((c i : ℕ) → Legal G u c i → Won G (after G u c i)) → Lost G u

-- the value of a position: the nim sum of the values of its heads
abbrev pub position_value : Rules → Coins → ℕ
position_value G u = sum_held G.cells u G.worth

-- the position is won or lost as the flag says, and not both
abbrev pub Decided : Bool → Rules → Coins → Type 0
Decided true G u = Won G u × (Lost G u → ⊥)
Decided false G u = Lost G u × (Won G u → ⊥)

-- the flag decides every position of that value in every lawful game
abbrev pub Decides : Bool → ℕ → Type 0
Decides b v = (G : Rules) → Lawful G → (u : Coins) → position_value G u ≡ v → Decided b G u
