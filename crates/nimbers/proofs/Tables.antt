-- The rules of the tables: each is the list that antt computes, and so each entry is its product or its inverse.
-- Assumes nothing.
use Rattle.std.proofs.Common.{◌≡◌, ℕ, ◌<◌, List, [], map, get_or, ap, ◌∙◌, arith}
use Rattle.std.specs.List.{range_with_len}
use Rattle.std.proofs.lemmas.List.FromFn.{get_or-map-range_with_len}
use Rattle.nimber_field.specs.Nimber.{times, invert}

-- f of each number below 16
abbrev pub each : {X : Type 0} → (ℕ → X) → List X
each f = map f (range_with_len 0 16)

entry : {X : Type 0} → (f : ℕ → X) (a : ℕ) (d : X) → a < 16 → get_or (each f) a d ≡ f a
entry f a d h = get_or-map-range_with_len f 0 16 a a d h (omega arith)

pub product_at : (table : List (List ℕ)) → table ≡ each (λ a. each (times 2 a)) → (a b : ℕ) → a < 16 → b < 16 → get_or (get_or table a []) b 0 ≡ times 2 a b
product_at table is a b ha hb =
    ap (λ t. get_or (get_or t a []) b 0) is ∙ ap (λ r. get_or r b 0) (entry (λ m. each (times 2 m)) a [] ha) ∙ entry (times 2 a) b 0 hb

pub inverse_at : (table : List ℕ) → table ≡ each (invert 2) → (a : ℕ) → a < 16 → get_or table a 0 ≡ invert 2 a
inverse_at table is a h = ap (λ t. get_or t a 0) is ∙ entry (invert 2) a 0 h
