-- Marsaglia's xorshift of 32 bits. Assumes nothing.
use Rattle.std.specs.Prelude.{ℕ, ◌*◌, ◌/◌, ◌%◌, ◌^◌}
use Rattle.std.specs.Int.Bits.{bit_xor}

-- n with its bits moved up by k and added to it, as far as 32 bits go
abbrev pub stirred_up : ℕ → ℕ → ℕ
stirred_up n k = bit_xor n ((n * 2 ^ k) % 2 ^ 32)

-- n with its bits moved down by k and added to it
abbrev pub stirred_down : ℕ → ℕ → ℕ
stirred_down n k = bit_xor n (n / 2 ^ k)

-- the number after n
abbrev pub xorshift : ℕ → ℕ
xorshift n = stirred_up (stirred_down (stirred_up n 13) 17) 5
