-- One field behind others.
use Rattle.std.proofs.Common.{◌≡◌, ℕ, ◌+◌, ◌<◌, List, [], ◌∷◌, ◌++◌, length, get_or, take, decimal, sym, refl, ap, ◌∙◌, append_assoc, append-nil}
use Rattle.std.proofs.lemmas.List.{take_more}
use Rattle.reports.specs.Lines.{fields}

pub fields_append : (xs ys : List ℕ) → fields (xs ++ ys) ≡ fields xs ++ fields ys
fields_append [] ys = refl
fields_append (x ∷ xs) ys = ap (λ t. (32 ∷ decimal x) ++ t) (fields_append xs ys) ∙ sym (append_assoc (32 ∷ decimal x) (fields xs) (fields ys))

-- one field more
pub fields_more : (xs : List ℕ) (i : ℕ) → i < length xs → fields (take (i + 1) xs) ≡ fields (take i xs) ++ (32 ∷ decimal (get_or xs i 0))
fields_more xs i h =
    ap fields (take_more xs i 0 h) ∙ fields_append (take i xs) (get_or xs i 0 ∷ []) ∙ ap (λ t. fields (take i xs) ++ t) (append-nil (32 ∷ decimal (get_or xs i 0)))
