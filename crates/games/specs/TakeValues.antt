-- The amounts of a set, and the values of Take. Assumes nothing.
use Rattle.std.specs.Prelude.{◌≡◌, ℕ, zero, suc, ◌-◌, ◌/◌, ◌%◌, ◌^◌, ◌<◌, ◌≤◌, Bool, true, false, not, ◌&&◌, ◌||◌, List, [], ◌∷◌, ◌++◌, Some, None, Option, ◌==◌, count_ones, nat_lt, slice_index}
use Rattle.games.specs.Rows.{first}

-- whether s is an amount of the set: bit j stands for the amount j + 1
abbrev pub amount : (set s : ℕ) → Bool
amount set s = nat_lt 0 s && (set / 2 ^ (s - 1) % 2) == 1

-- how many amounts of the set are at most n: they are its lowest n bits
abbrev pub amounts_up_to : (set n : ℕ) → ℕ
amounts_up_to set n = count_ones (set % 2 ^ n)

-- how many amounts of the set are smaller than s
abbrev pub smaller : (set s : ℕ) → ℕ
smaller set s = amounts_up_to set (s - 1)

-- whether some number below n passes the test
unfoldable pub any : ℕ → (ℕ → Bool) → Bool
any zero p = false
any (suc n) p = p n || any n p

-- whether s is an amount of the set, and leads from c to a cell of value v
abbrev pub leading : (set : ℕ) (value : ℕ → ℕ) (c v s : ℕ) → Bool
leading set value c v s = amount set s && value (c - s) == v

-- whether some amount of the set leads from c to a cell of value v
abbrev pub leads : (set : ℕ) (value : ℕ → ℕ) (c v : ℕ) → Bool
leads set value c v = any (suc c) (leading set value c v)

-- r is the smallest amount of the set that leads from c to a cell of value v, or none does
abbrev pub SmallestLeading : (set : ℕ) (value : ℕ → ℕ) (c v : ℕ) (r : Option ℕ) → Type 0
SmallestLeading set value c v (Some s) =
    (s ≤ c) × (leading set value c v s ≡ true) × ((t : ℕ) → t < s → leading set value c v t ≡ false)
SmallestLeading set value c v None = (t : ℕ) → t ≤ c → leading set value c v t ≡ false

-- the value of a cell by a list of values
abbrev pub value_in : List ℕ → ℕ → ℕ
value_in values d = slice_index values d

-- the smallest number that is not the value of a cell to which an amount leads from c; it is c or below
abbrev pub missing : (set : ℕ) (value : ℕ → ℕ) (c : ℕ) → ℕ
missing set value c = first (suc c) (λ v. not (leads set value c v))

-- the values of the first n cells, each from those before it
unfoldable pub take_values : (set n : ℕ) → List ℕ
take_values set zero = []
take_values set (suc n) = let vs = take_values set n in vs ++ missing set (value_in vs) n ∷ []

-- the value of a cell
unfoldable pub take_value : (set c : ℕ) → ℕ
unfolding take_values
take_value set c = value_in (take_values set (suc c)) c
