-- Numbers written below others in 32 bits, of which the highest are lost. Assumes nothing.
use Rattle.std.proofs.Common.{◌≡◌, ℕ, suc, ◌+◌, ◌*◌, ◌/◌, ◌%◌, ◌^◌, ◌≤◌, sym, ap, ◌∙◌, arith}
use Rattle.std.proofs.Math.Nat.{add-mul-mod_self_left, div-add-mod, add-mul, mul_assoc}
use Rattle.nimber_field.specs.Tower.{Tower}
use Rattle.nimber_field.specs.Nimber.{order, code}
use Rattle.nimber_field.proofs.Codes.{order_suc, code_below}
use Rattle.nimbers.proofs.Levels.{order_mono}

-- what is lost above a number is lost above its next digit
kept : (m b l n : ℕ) → (n % m * b + l) % m ≡ (n * b + l) % m
kept m b l n = sym (add-mul-mod_self_left (n % m * b + l) m (n / m * b)) ∙ ap (λ k. k % m) whole
  where
    whole : n % m * b + l + m * (n / m * b) ≡ n * b + l
    whole =
        omega (arith, mul_assoc m (n / m) b, sym (add-mul (m * (n / m)) (n % m) b), ap (λ k. k * b) (div-add-mod n m))

-- two halves, one below the other
pub joined : (k n h l : ℕ) → ((n * order k + h) % 2 ^ 32 * order k + l) % 2 ^ 32 ≡ (n * order (suc k) + (h * order k + l)) % 2 ^ 32
joined k n h l = kept (2 ^ 32) (order k) l (n * order k + h) ∙ ap (λ m. m % 2 ^ 32) whole
  where
    whole : (n * order k + h) * order k + l ≡ n * order (suc k) + (h * order k + l)
    whole = omega (arith, add-mul (n * order k) h (order k), mul_assoc n (order k) (order k), ap (λ m. n * m) (order_suc k))

-- all bits of a number, at a level of at most 32 bits
pub alone : (k : ℕ) (x : Tower k) → k ≤ 5 → (0 * order k + code k x) % 2 ^ 32 ≡ code k x
alone k x h = omega (arith, code_below k x, order_mono k 5 h)
