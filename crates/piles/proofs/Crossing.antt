-- The cells of a product row by row. Assumes nothing.
use Rattle.std.proofs.Common.{◌≡◌, ℕ, ◌+◌, ◌-◌, ◌*◌, ◌/◌, ◌%◌, ◌<◌, ◌≤◌, Bool, true, false, ◌&&◌, ltb, sym, refl, ap, ◌∙◌, arith, lt-ltb, le-ltb, le-leb, leb-true, subst, rules, tests}
use mathlib.Core.Path.{fun_ext}
use native.Mathlib.Decide.{dec_lt, ℕ_discrete}
use Rattle.std.proofs.lemmas.Bool.{and_parts, lt-leb}
use Rattle.std.proofs.lemmas.Bool.Decides.{nat_tests}
use Rattle.std.proofs.lemmas.Nat.{div-add-mod'}
use Rattle.std.proofs.Math.Nat.{add-mul, div-lt_iff_lt-mul, mod-lt, mul-le-mul_right}
use Rattle.nimber_field.specs.Tower.{differ}
use Rattle.games.specs.Cells.{held_below, in_one, raised}
use Rattle.games.specs.Rules.{Rules, Lawful}
use Rattle.piles.specs.Layers.{Stands, crossed, limited, product}

-- the cells in the first r rows of a board of n columns whose row is in one set and whose column is in another
abbrev pub crossing : (r n : ℕ) → (ℕ → Bool) → (ℕ → Bool) → ℕ → Bool
crossing r n rows columns d = ltb (d / n) r && (rows (d / n) && columns (d % n))

off : (s : ℕ → Bool) (n q : ℕ) → ((q : ℕ) → s q ≡ true → q < n) → n ≤ q → s q ≡ false
off s n q within h = at (s q) refl
  where
    at : (b : Bool) → s q ≡ b → b ≡ false
    at true e = absurd (omega (arith, within q e))
    at false e = refl

-- the cells of row r are the columns raised by r * n
pub row_crossed : (rows columns : ℕ → Bool) (m n r d : ℕ) → 0 < n → ((q : ℕ) → columns q ≡ true → q < n) → r < m → m * n ≤ 4096 → rows r ≡ true
    → in_one (crossing r n rows columns) (raised (r * n) columns) d ≡ crossing (r + 1) n rows columns d
row_crossed rows columns m n r d some within on few held = by_row (dec_lt (d / n) r) (ℕ_discrete (d / n) r)
  where
    whole : d / n * n + d % n ≡ d
    whole = div-add-mod' d n

    short : d % n < n
    short = mod-lt d some

    few_rows : (r + 1) * n ≤ 4096
    few_rows = omega (arith, mul-le-mul_right {m = r + 1} {n = m} n (omega (arith, on)), few)

    next : (r + 1) * n ≡ r * n + n
    next = omega (arith, add-mul r 1 n)

    before : (a b c f t z : Bool) → a ≡ true → b ≡ true → c ≡ false → differ (a && t) (f && (c && z)) ≡ (b && t)
    before a b c f t z p q r = search (rules, tests)

    at : (a b c f x y z : Bool) → a ≡ false → b ≡ true → c ≡ true → f ≡ true → x ≡ true → z ≡ y → differ (a && (x && y)) (f && (c && z)) ≡ (b && (x && y))
    at a b c f x y z p q r s t u = search (rules, tests)

    behind : (a b c f t z : Bool) → a ≡ false → b ≡ false → z ≡ false → differ (a && t) (f && (c && z)) ≡ (b && t)
    behind a b c f t z p q r = search (rules, tests)

    by_row : Dec (d / n < r) → Dec (d / n ≡ r) → in_one (crossing r n rows columns) (raised (r * n) columns) d ≡ crossing (r + 1) n rows columns d
    by_row (yes l) e =
        let low : d < r * n = omega (arith, whole, short, mul-le-mul_right {m = d / n + 1} {n = r} n (omega (arith, l)), add-mul (d / n) 1 n) in
        before _ _ _ _ _ _ (lt-ltb (d / n) r l) (lt-ltb (d / n) (r + 1) (omega (arith, l))) (lt-leb (r * n) d low)
    by_row (no g) (yes e) =
        let start : r * n + d % n ≡ d = ap (λ k. k * n + d % n) (sym e) ∙ whole in
        at _ _ _ _ _ _ _ (le-ltb (d / n) r (omega (arith, e))) (lt-ltb (d / n) (r + 1) (omega (arith, e))) (le-leb (r * n) d (omega (arith, start)))
        (lt-ltb d 4096 (omega (arith, start, short, next, few_rows))) (ap rows e ∙ held) (ap columns (omega (arith, start)))
    by_row (no g) (no e) =
        let more : r < d / n = omega (arith, g, e) in
        let high : (r + 1) * n ≤ d = omega (arith, whole, mul-le-mul_right {m = r + 1} {n = d / n} n (omega (arith, more))) in
        behind _ _ _ _ _ _ (le-ltb (d / n) r (omega (arith, more))) (le-ltb (d / n) (r + 1) (omega (arith, more)))
        (off columns n (d - r * n) within (omega (arith, high, next)))

-- and a row that is not in the set has none
pub row_passed : (rows columns : ℕ → Bool) (n r d : ℕ) → rows r ≡ false → crossing r n rows columns d ≡ crossing (r + 1) n rows columns d
row_passed rows columns n r d e = by_row (ℕ_discrete (d / n) r)
  where
    same : (a b x y : Bool) → a ≡ b → (a && (x && y)) ≡ (b && (x && y))
    same a b x y p = search (rules, tests)

    none : (a b x y : Bool) → x ≡ false → (a && (x && y)) ≡ (b && (x && y))
    none a b x y p = search (rules, tests)

    by_row : Dec (d / n ≡ r) → crossing r n rows columns d ≡ crossing (r + 1) n rows columns d
    by_row (yes q) = none (ltb (d / n) r) (ltb (d / n) (r + 1)) (rows (d / n)) (columns (d % n)) (ap rows q ∙ e)
    by_row (no q) = same (ltb (d / n) r) (ltb (d / n) (r + 1)) (rows (d / n)) (columns (d % n)) (search (rules, tests, q))

-- what is set up to c alone lies in the words up to that of c
pub first_words : (c q : ℕ) (b : Bool) → (b ≡ true → q ≤ c) → (ltb q (32 * (c / 32 + 1)) && b) ≡ b
first_words c q false h = grind (arith, nat_tests)
first_words c q true h =
    let l : q ≤ c = h refl in
    grind (arith, nat_tests)

module _ (A B : Rules) (c row column : ℕ) (s : Stands A B c row column) where
  some_columns : 0 < B.cells
  some_columns = by_some (dec_lt 0 B.cells)
    where
      by_some : Dec (0 < B.cells) → 0 < B.cells
      by_some (yes l) = l
      by_some (no l) = let z : B.cells ≡ 0 = omega (arith, l) in absurd (omega (arith, s.on, ap (λ k. A.cells * k) z))

  few_cells : A.cells * B.cells ≤ 4096
  few_cells = leb-true (A.cells * B.cells) 4096 (and_parts _ _ s.fits).0

  in_column : column < B.cells
  in_column = omega (arith, s.column_is, mod-lt c some_columns)

  in_row : row < A.cells
  in_row = omega (arith, s.row_is, (div-lt_iff_lt-mul {x = c} {y = A.cells} some_columns).1 s.on)

  -- one more row of the board, up to row: the words up to that of the column have all that is turned in it
  pub row_more : (P : Lawful B) (j n r : ℕ) (rows columns : ℕ → Bool) → n ≡ B.cells → columns ≡ B.holds column j → r ≤ row
      → rows r ≡ true → in_one (crossing r n rows columns) (raised (r * n) (held_below (32 * (column / 32 + 1)) columns)) ≡ crossing (r + 1) n rows columns
  row_more P j n r rows columns is_n is on held =
      ap (λ s. in_one (crossing r n rows columns) (raised (r * n) s)) (fun_ext (λ q. first_words column q (columns q) (λ e. not_above q e)))
      ∙ fun_ext (λ d. row_crossed rows columns A.cells n r d (omega (arith, some_columns, is_n))
      (λ q e. omega (arith, is_n, in_column, not_above q e)) (omega (arith, on, in_row)) few held)
    where
      not_above : (q : ℕ) → columns q ≡ true → q ≤ column
      not_above q e = P.not_above column j q ((λ i. sym is i q) ∙ e)

      few : A.cells * n ≤ 4096
      few = subst (λ k. k ≤ 4096) (λ i. A.cells * sym is_n i) few_cells

  -- all its rows
  pub rows_all : (P : Lawful A) (i n r : ℕ) (rows columns : ℕ → Bool) → n ≡ B.cells → rows ≡ A.holds row (i / B.count column) → columns ≡ B.holds column (i % B.count column)
      → i < A.count row * B.count column → row < r → crossing r n rows columns ≡ (product A B).holds c i
  rows_all P i n r rows columns is_n is_rows is_columns on all =
      fun_ext (λ d. (λ j. ltb (d / is_n j) r && (is_rows j (d / is_n j) && is_columns j (d % is_n j))) ∙ inside d ∙ there d)
      ∙ (λ j. (limited (sym s.fits j) (crossed A B)).holds c i)
    where
      on_both : (a b : Bool) (d : ℕ) (f : Bool) → ltb i (A.count row * B.count column) ≡ f → f ≡ true → (a ≡ true → d < r) → (ltb d r && (a && b)) ≡ (f && (a && b))
      on_both a b d f p q h = search (rules, tests)

      inside : (d : ℕ) → (ltb (d / B.cells) r && (A.holds row (i / B.count column) (d / B.cells) && B.holds column (i % B.count column) (d % B.cells)))
          ≡ (ltb i (A.count row * B.count column) && (A.holds row (i / B.count column) (d / B.cells) && B.holds column (i % B.count column) (d % B.cells)))
      inside d = on_both _ _ (d / B.cells) _ refl (lt-ltb i (A.count row * B.count column) on)
          (λ e. omega (arith, all, P.not_above row (i / B.count column) (d / B.cells) e))

      there : (d : ℕ) → (ltb i (A.count row * B.count column) && (A.holds row (i / B.count column) (d / B.cells) && B.holds column (i % B.count column) (d % B.cells)))
          ≡ (crossed A B).holds c i d
      there d = λ j. ltb i (A.count (s.row_is j) * B.count (s.column_is j)) && (A.holds (s.row_is j) (i / B.count (s.column_is j)) (d / B.cells) && B.holds (s.column_is j) (i % B.count (s.column_is j)) (d % B.cells))
