-- The smallest missing number, by which products, values and replies are defined. Assumes nothing.
use Rattle.std.specs.Prelude.{ℕ, ◌<◌}

-- n is the smallest number of which P does not hold
pub record Missing (P : ℕ → Type 0) (n : ℕ) : Type 0 where
  pub misses : P n → ⊥
  pub smallest : (m : ℕ) → m < n → P m
