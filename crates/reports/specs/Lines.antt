-- The lines that are written. Assumes nothing.
use Rattle.std.specs.Prelude.{ℕ, Bool, List, [], ◌∷◌, ◌++◌, length, drop, codes, decimal, nat_lt}

-- a buffer has room for a line from 128 bytes on
abbrev pub too_small : ℕ → Bool
too_small room = nat_lt room 128

-- bytes with a line written over their front
abbrev pub in_front : List ℕ → List ℕ → List ℕ
in_front text bytes = text ++ drop (length text) bytes

-- fields are decimal numbers, each behind a blank
abbrev pub fields : List ℕ → List ℕ
fields [] = []
fields (n ∷ ns) = (32 ∷ decimal n) ++ fields ns

-- a line opens with the record's number, a word and fields
abbrev pub opening : ℕ → List ℕ → List ℕ → List ℕ
opening n word ns = decimal n ++ (word ++ fields ns)

-- a line: its opening, a tail, and byte 10
abbrev pub line : ℕ → List ℕ → List ℕ → List ℕ → List ℕ
line n word ns tail = opening n word ns ++ (tail ++ (10 ∷ []))

-- the line of a fault: the number of the record that would have been read, the fault's number, and the record's place
abbrev pub bad_line : ℕ → ℕ → ℕ → List ℕ
bad_line n number place = line n (codes " bad") (number ∷ []) (codes " at " ++ decimal place)
