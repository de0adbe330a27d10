-- What makes the numbers below a bound a field. Assumes nothing.
use Rattle.std.specs.Prelude.{◌≡◌, ◌⊎◌, ◌≢◌, ℕ, ◌<◌}

-- the numbers below n with this sum, product, zero and one are a field
pub record Field (n : ℕ) (sum product : ℕ → ℕ → ℕ) (zero one : ℕ) : Type 0 where
  pub zero_below : zero < n
  pub one_below : one < n
  pub one_not_zero : one ≢ zero
  pub sum_below : (a b : ℕ) → a < n → b < n → sum a b < n
  pub sum_assoc : (a b c : ℕ) → a < n → b < n → c < n → sum (sum a b) c ≡ sum a (sum b c)
  pub sum_comm : (a b : ℕ) → a < n → b < n → sum a b ≡ sum b a
  pub sum_zero : (a : ℕ) → a < n → sum a zero ≡ a
  pub negative : (a : ℕ) → a < n → (b : ℕ) × (b < n) × (sum a b ≡ zero)
  pub product_below : (a b : ℕ) → a < n → b < n → product a b < n
  pub product_assoc : (a b c : ℕ) → a < n → b < n → c < n → product (product a b) c ≡ product a (product b c)
  pub product_comm : (a b : ℕ) → a < n → b < n → product a b ≡ product b a
  pub product_one : (a : ℕ) → a < n → product a one ≡ a
  pub distributive : (a b c : ℕ) → a < n → b < n → c < n → product a (sum b c) ≡ sum (product a b) (product a c)
  pub inverse : (a : ℕ) → a < n → a ≢ zero → (b : ℕ) × (b < n) × (product a b ≡ one)
  pub no_zero_divisors : (a b : ℕ) → a < n → b < n → product a b ≡ zero → (a ≡ zero) ⊎ (b ≡ zero)
