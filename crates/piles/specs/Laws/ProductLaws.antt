-- A product of lawful games is lawful, and its values are the nim products of theirs: the Tartan theorem. Assumes nothing.
use Rattle.std.specs.Prelude.{◌≡◌, ℕ, zero, suc, ◌+◌, ◌*◌, ◌/◌, ◌%◌, ◌^◌, ◌<◌, ◌≤◌, Bool, true, false, cond, ◌&&◌, ltb, ◌⊎◌, Some, None, Option, nat_le, nat_lt, refl}
use Rattle.std.proofs.Math.Path.{sym, ap}
use Rattle.std.proofs.Common.{◌∙◌, subst, inl, inr, mod-lt, div-lt_iff_lt-mul, le-div_iff_mul-le, mul-zero, zero-mul, lt_trans, arith}
use Rattle.std.proofs.Math.Decide.{dec_lt}
use Rattle.std.proofs.Math.Nat.{div-add-mod', mul-le-mul_right}
use borrow.Author.Tests.{lt-ltb, le-ltb, ltb-true, ltb-false, leb-true}
use Rattle.std.proofs.lemmas.Bool.{and_parts}
use Rattle.std.proofs.Math.Arith.{digits_lt, digits_div, digits_mod}
use Rattle.std.proofs.lemmas.Nat.{mul-le, xor_comm}
use Rattle.nimber_field.specs.Missing.{Missing}
use Rattle.nimber_field.specs.Nimber.{◌⊕◌, ◌⊗◌, Met}
use Rattle.nimber_field.proofs.Sums.{xor_twice}
use Rattle.nimber_field.proofs.Conway.{conway, all_met}
use Rattle.nimber_field.proofs.Products.{
  Small,
  product_small,
  product_zero,
  zero_product,
  excluded_is,
  unmoved,
  partner_is,
}
use Rattle.games.specs.Rules.{Rules, sum_held, rest, IsRest, Lawful, FreeReply, Replies}
use Rattle.games.specs.Laws.Sums.{sum_same, sum_whole}
use Rattle.games.specs.Laws.RowLaws.{First, first_exists}
use Rattle.piles.specs.Layers.{limited, partner, smallest_met, paired, met_answer, crossed, multiplies, product, Nothing, TartanTheorem}
use Rattle.piles.specs.Laws.Blocks.{sum_crossed, held_sum_small}
use Rattle.piles.specs.Laws.MixLaws.{limited_lawful, limited_replies}

-- the rest of a move is a 32-bit number
rest_small : (G : Rules) → Lawful G → (c i : ℕ) → Small (rest G c i)
rest_small G P c i = held_sum_small c (G.holds c i) G.worth P.nimber

-- there is nothing below a product with 0
some_factor : (m a b : ℕ) → m < a * b → 0 < b
some_factor m a zero h = absurd (omega (arith, subst (λ n. m < n) (mul-zero a) h))
some_factor m a (suc b) h = omega arith

-- a cell with no moves and value 0
nothing : (G : Rules) (c : ℕ) → G.count c ≡ 0 → G.worth c ≡ 0 → Missing (IsRest G c) (G.worth c)
nothing G c e f = record {
  misses = λ r. absurd (omega (arith, subst (λ n. r.move < n) e r.numbered));
  smallest = λ m h. absurd (omega (arith, subst (λ n. m < n) f h));
}

module _ (A B : Rules) (P : Lawful A) (Q : Lawful B) where
  abbrev X : Rules
  X = crossed A B

  -- at the cell for x and y, and its move for i and j
  module _ (x y i j : ℕ) (hx : x < A.cells) (hy : y < B.cells) (hi : i < A.count x) (hj : j < B.count y) where
    abbrev cell : ℕ
    cell = x * B.cells + y

    abbrev move : ℕ
    move = i * B.count y + j

    row : cell / B.cells ≡ x
    row = digits_div x hy

    column : cell % B.cells ≡ y
    column = digits_mod x hy

    count_is : X.count cell ≡ A.count x * B.count y
    count_is = λ k. A.count (row k) * B.count (column k)

    move_below : move < A.count x * B.count y
    move_below = digits_lt hi hj

    first_move : move / B.count y ≡ i
    first_move = digits_div i hj

    second_move : move % B.count y ≡ j
    second_move = digits_mod i hj

    worth_is : X.worth cell ≡ A.worth x ⊗ B.worth y
    worth_is = λ k. A.worth (row k) ⊗ B.worth (column k)

    holds_is : (d : ℕ) → X.holds cell move d ≡ A.holds x i (d / B.cells) && B.holds y j (d % B.cells)
    holds_is d =
        (λ k. nat_lt move (count_is k)
        && (A.holds (row k) (move / B.count (column k)) (d / B.cells) && B.holds (column k) (move % B.count (column k)) (d % B.cells)))
        ∙ (λ k. lt-ltb move (A.count x * B.count y) move_below k
        && (A.holds x (first_move k) (d / B.cells) && B.holds y (second_move k) (d % B.cells)))

    -- the coins that the move turns
    turned : ℕ → Bool
    turned d = A.holds x i (d / B.cells) && B.holds y j (d % B.cells)

    -- its highest coin is the one on the cell
    highest : (d : ℕ) → turned d ≡ true → d ≤ cell
    unfolding turned
    highest d e =
        let h = and_parts (A.holds x i (d / B.cells)) (B.holds y j (d % B.cells)) e in
        let l = mul-le-mul_right B.cells (P.not_above x i (d / B.cells) h.0) in
        omega (arith, l, Q.not_above y j (d % B.cells) h.1, div-add-mod' d B.cells)

    own : turned cell ≡ true
    unfolding turned
    own = (λ k. A.holds x i (row k) && B.holds y j (column k)) ∙ (λ k. P.own x i hi k && Q.own y j hj k)

    cell_below : cell < A.cells * B.cells
    cell_below = digits_lt hx hy

    rest_is : rest X cell move ≡ (A.worth x ⊗ B.worth y) ⊕ ((A.worth x ⊕ rest A x i) ⊗ (B.worth y ⊕ rest B y j))
    unfolding turned
    rest_is =
        sum_same cell (λ d. cond (X.holds cell move d) (X.worth d) 0) (λ d. cond (turned d) (X.worth d) 0)
        (λ d l. ap (λ b. cond b (X.worth d) 0) (holds_is d))
        ∙ sym (xor_twice v (sum_held cell turned X.worth))
        ∙ ap (λ n. v ⊕ n) (xor_comm v (sum_held cell turned X.worth) ∙ ap (λ n. sum_held cell turned X.worth ⊕ n) (sym worth_is))
        ∙ ap (λ n. v ⊕ n) (sym (sum_whole X.worth (A.cells * B.cells) turned cell cell_below own highest))
        ∙ ap (λ n. v ⊕ n) (sum_crossed A.cells B.cells (A.holds x i) (B.holds y j) A.worth B.worth P.nimber Q.nimber)
        ∙ ap (λ n. v ⊕ n) (λ k. part A x i hx (P.own x i hi) (λ d e. P.not_above x i d e) k ⊗ part B y j hy (Q.own y j hj) (λ d e. Q.not_above y j d e) k)
      where
        v : ℕ
        v = A.worth x ⊗ B.worth y

        part : (G : Rules) (c n : ℕ) → c < G.cells → G.holds c n c ≡ true → ((d : ℕ) → G.holds c n d ≡ true → d ≤ c)
            → sum_held G.cells (G.holds c n) G.worth ≡ G.worth c ⊕ rest G c n
        part G c n l o h = sum_whole G.worth G.cells (G.holds c n) c l o h ∙ xor_comm (rest G c n) (G.worth c)

    -- and so it is the number that Conway's rule excludes for the rests of the parts
    excluded_rest : rest X cell move
        ≡ (rest A x i ⊗ B.worth y) ⊕ (A.worth x ⊗ rest B y j) ⊕ (rest A x i ⊗ rest B y j)
    excluded_rest =
        rest_is
        ∙ sym (excluded_is (A.worth x) (B.worth y) (rest A x i) (rest B y j) (P.nimber x) (Q.nimber y) (rest_small A P x i) (rest_small B Q y j))

  -- the moves at the cell for x and y, by those of the parts
  record Parts (x y m : ℕ) : Type 0 where
    i : ℕ
    j : ℕ
    i_below : i < A.count x
    j_below : j < B.count y
    is : i * B.count y + j ≡ m

  parts : (x y m : ℕ) → m < A.count x * B.count y → Parts x y m
  parts x y m h = record {
    i = m / B.count y;
    j = m % B.count y;
    i_below = (div-lt_iff_lt-mul some).1 h;
    j_below = mod-lt m some;
    is = div-add-mod' m (B.count y);
  }
    where
      some : 0 < B.count y
      some = some_factor m (A.count x) (B.count y) h

  cell_count : (x y : ℕ) → y < B.cells → X.count (x * B.cells + y) ≡ A.count x * B.count y
  cell_count x y hy = λ k. A.count (digits_div x hy k) * B.count (digits_mod x hy k)

  cell_worth : (x y : ℕ) → y < B.cells → X.worth (x * B.cells + y) ≡ A.worth x ⊗ B.worth y
  cell_worth x y hy = λ k. A.worth (digits_div x hy k) ⊗ B.worth (digits_mod x hy k)

  crossed_misses : (x y : ℕ) → x < A.cells → y < B.cells → IsRest X (x * B.cells + y) (A.worth x ⊗ B.worth y) → ⊥
  crossed_misses x y hx hy r = at (parts x y r.move (subst (λ n. r.move < n) (cell_count x y hy) r.numbered))
    where
      at : Parts x y r.move → ⊥
      at p =
          by_factor (unmoved (A.worth x) (B.worth y) (rest A x p.i) (rest B y p.j) (P.nimber x) (Q.nimber y) (rest_small A P x p.i) (rest_small B Q y p.j) equal)
        where
          equal : (A.worth x ⊗ B.worth y) ⊕ ((A.worth x ⊕ rest A x p.i) ⊗ (B.worth y ⊕ rest B y p.j)) ≡ A.worth x ⊗ B.worth y
          equal =
              sym (rest_is x y p.i p.j hx hy p.i_below p.j_below)
              ∙ ap (rest X (x * B.cells + y)) p.is ∙ r.is

          by_factor : (A.worth x ≡ rest A x p.i) ⊎ (B.worth y ≡ rest B y p.j) → ⊥
          by_factor (inl e) = (P.smallest x).misses (record { move = p.i; numbered = p.i_below; is = sym e })
          by_factor (inr e) = (Q.smallest y).misses (record { move = p.j; numbered = p.j_below; is = sym e })

  -- moves of the parts that leave a' and b' make a move of the product
  joined : (x y w a' b' : ℕ) → x < A.cells → y < B.cells → w ≡ (a' ⊗ B.worth y) ⊕ (A.worth x ⊗ b') ⊕ (a' ⊗ b')
      → (f : IsRest A x a') → (g : IsRest B y b') → rest X (x * B.cells + y) (f.move * B.count y + g.move) ≡ w
  joined x y w a' b' hx hy e f g =
      excluded_rest x y f.move g.move hx hy f.numbered g.numbered
      ∙ (λ k. (f.is k ⊗ B.worth y) ⊕ (A.worth x ⊗ g.is k) ⊕ (f.is k ⊗ g.is k)) ∙ sym e

  crossed_smallest : (x y : ℕ) → x < A.cells → y < B.cells → Missing (IsRest X (x * B.cells + y)) (A.worth x ⊗ B.worth y)
  crossed_smallest x y hx hy = record {
    misses = crossed_misses x y hx hy;
    smallest = λ w h.
        let e = (conway (A.worth x) (B.worth y) (P.nimber x) (Q.nimber y)).smallest w h in
        let f = (P.smallest x).smallest e.a' e.a'_below in
        let g = (Q.smallest y).smallest e.b' e.b'_below in
        record {
          move = f.move * B.count y + g.move;
          numbered = subst (λ n. f.move * B.count y + g.move < n) (sym (cell_count x y hy)) (digits_lt f.numbered g.numbered);
          is = joined x y w e.a' e.b' hx hy e.is f g;
        };
  }

  -- where a cell stands: on the board it has its row and column, and off it there is nothing
  cell_is : (c : ℕ) → c / B.cells * B.cells + c % B.cells ≡ c
  cell_is c = div-add-mod' c B.cells

  has_columns : (c : ℕ) → c < A.cells * B.cells → 0 < B.cells
  has_columns c h = some_factor c A.cells B.cells h

  row_on : (c : ℕ) → c < A.cells * B.cells → c / B.cells < A.cells
  row_on c h = (div-lt_iff_lt-mul (has_columns c h)).1 h

  column_on : (c : ℕ) → c < A.cells * B.cells → c % B.cells < B.cells
  column_on c h = mod-lt c (has_columns c h)

  off : (c : ℕ) → A.cells * B.cells ≤ c → (A.cells ≤ c / B.cells) ⊎ (B.cells ≤ c % B.cells)
  off c h = by_columns (dec_lt 0 B.cells)
    where
      by_columns : Dec (0 < B.cells) → (A.cells ≤ c / B.cells) ⊎ (B.cells ≤ c % B.cells)
      by_columns (yes l) = inl ((le-div_iff_mul-le l).1 h)
      by_columns (no l) = inr (omega arith)

  crossed_count_off : (c : ℕ) → A.cells * B.cells ≤ c → X.count c ≡ 0
  crossed_count_off c h = by_part (off c h)
    where
      by_part : (A.cells ≤ c / B.cells) ⊎ (B.cells ≤ c % B.cells) → X.count c ≡ 0
      by_part (inl l) = ap (λ n. n * B.count (c % B.cells)) (P.count_off (c / B.cells) l) ∙ zero-mul (B.count (c % B.cells))
      by_part (inr l) = ap (λ n. A.count (c / B.cells) * n) (Q.count_off (c % B.cells) l) ∙ mul-zero (A.count (c / B.cells))

  crossed_worth_off : (c : ℕ) → A.cells * B.cells ≤ c → X.worth c ≡ 0
  crossed_worth_off c h = by_part (off c h)
    where
      by_part : (A.cells ≤ c / B.cells) ⊎ (B.cells ≤ c % B.cells) → X.worth c ≡ 0
      by_part (inl l) =
          ap (λ n. n ⊗ B.worth (c % B.cells)) (P.worth_off (c / B.cells) l) ∙ zero_product (B.worth (c % B.cells)) (Q.nimber (c % B.cells))
      by_part (inr l) =
          ap (λ n. A.worth (c / B.cells) ⊗ n) (Q.worth_off (c % B.cells) l) ∙ product_zero (A.worth (c / B.cells)) (P.nimber (c / B.cells))

  crossed_own : (c i : ℕ) → i < X.count c → X.holds c i c ≡ true
  crossed_own c i h = at (parts (c / B.cells) (c % B.cells) i h)
    where
      at : Parts (c / B.cells) (c % B.cells) i → X.holds c i c ≡ true
      at p =
          let k = B.count (c % B.cells) in
          let u : i / k ≡ p.i = ap (λ n. n / k) (sym p.is) ∙ digits_div p.i p.j_below in
          let v : i % k ≡ p.j = ap (λ n. n % k) (sym p.is) ∙ digits_mod p.i p.j_below in
          (λ t. lt-ltb i (X.count c) h t && (A.holds (c / B.cells) (u t) (c / B.cells) && B.holds (c % B.cells) (v t) (c % B.cells)))
          ∙ (λ t. P.own (c / B.cells) p.i p.i_below t && Q.own (c % B.cells) p.j p.j_below t)

  crossed_not_above : (c i d : ℕ) → X.holds c i d ≡ true → d ≤ c
  crossed_not_above c i d e =
      let m = i / B.count (c % B.cells) in
      let n = i % B.count (c % B.cells) in
      let h = and_parts (A.holds (c / B.cells) m (d / B.cells)) (B.holds (c % B.cells) n (d % B.cells)) (and_parts (nat_lt i (X.count c)) _ e).1 in
      let rows = mul-le-mul_right B.cells (P.not_above (c / B.cells) m (d / B.cells) h.0) in
      omega (arith, rows, Q.not_above (c % B.cells) n (d % B.cells) h.1, cell_is c, cell_is d)

  crossed_lawful : A.cells * B.cells ≤ 4096 → A.ceiling * B.ceiling ≤ 4194303 → Lawful X
  crossed_lawful small low = record {
    cells_bound = small;
    ceiling_bound = low;
    count_bound = λ c. mul-le _ _ _ _ (P.count_bound (c / B.cells)) (Q.count_bound (c % B.cells));
    count_off = crossed_count_off;
    worth_off = crossed_worth_off;
    numbered = λ c i d e. ltb-true i (X.count c) (and_parts _ _ e).0;
    own = crossed_own;
    not_above = crossed_not_above;
    nimber = λ c. product_small (A.worth (c / B.cells)) (B.worth (c % B.cells));
    smallest = λ c. smallest c (dec_lt c (A.cells * B.cells));
  }
    where
      smallest : (c : ℕ) → Dec (c < A.cells * B.cells) → Missing (IsRest X c) (X.worth c)
      smallest c (yes h) =
          subst (λ n. Missing (IsRest X n) (X.worth c)) (cell_is c) (crossed_smallest (c / B.cells) (c % B.cells) (row_on c h) (column_on c h))
      smallest c (no h) = nothing X c (crossed_count_off c (omega arith)) (crossed_worth_off c (omega arith))

  module _ (R : Replies A) (S : Replies B) where
    -- a part has a reply to what is below its value
    record Answered (G : Rules) (c w : ℕ) : Type 0 where
      number : ℕ
      is : G.answer c w ≡ Some number
      below : number < G.count c
      leaves : rest G c number ≡ w

    answered : (G : Rules) → Replies G → (c w : ℕ) → w < G.worth c → Answered G c w
    answered G T c w h = at (G.answer c w) refl (T c w)
      where
        at : (r : Option ℕ) → G.answer c w ≡ r → FreeReply G c w r → Answered G c w
        at None e f = absurd (omega arith)
        at (Some i) e f = record { number = i; is = e; below = f.1; leaves = f.2 }

    reply_at : (x y w : ℕ) → x < A.cells → y < B.cells → (b : Bool) → nat_lt w (A.worth x ⊗ B.worth y) ≡ b
        → FreeReply X (x * B.cells + y) w (cond b (met_answer A B x y w) None)
    reply_at x y w hx hy false e =
        subst (λ n. n ≤ w) (sym (cell_worth x y hy)) (ltb-false w (A.worth x ⊗ B.worth y) e)
    reply_at x y w hx hy true e =
        subst (FreeReply X (x * B.cells + y) w) (sym (λ k. paired (B.count y) (p.is k) (q.is k))) (
          subst (λ n. w < n) (sym (cell_worth x y hy)) h,
          subst (λ n. p.number * B.count y + q.number < n) (sym (cell_count x y hy)) (digits_lt p.below q.below),
          joined x y w a' b' hx hy (sym (partner_is a b w a' (P.nimber x) (Q.nimber y) (lt_trans h (product_small a b)) f.below))
              (record { move = p.number; numbered = p.below; is = p.leaves }) (record { move = q.number; numbered = q.below; is = q.leaves }),
        )
      where
        a : ℕ
        a = A.worth x

        b : ℕ
        b = B.worth y

        h : w < a ⊗ b
        h = ltb-true w (a ⊗ b) e

        met : Met a b w
        met = all_met a b w (P.nimber x) (Q.nimber y) h

        a' : ℕ
        a' = smallest_met a b w

        f : First a (λ n. ltb (partner a b w n) b) a'
        f = first_exists a (λ n. ltb (partner a b w n) b) met.a' met.a'_below (lt-ltb _ b met.below)

        b' : ℕ
        b' = partner a b w a'

        p : Answered A x a'
        p = answered A R x a' f.below

        q : Answered B y b'
        q = answered B S y b' (ltb-true b' b f.passes)

    -- from the value up there is no reply
    none : (c w : ℕ) → nat_lt w (X.worth c) ≡ false → FreeReply X c w (X.answer c w)
    none c w e =
        let is : X.answer c w ≡ None = ap (λ b. cond b (met_answer A B (c / B.cells) (c % B.cells) w) None) e in
        subst (FreeReply X c w) (sym is) (ltb-false w (X.worth c) e)

    crossed_replies : Replies X
    crossed_replies c w = at (dec_lt c (A.cells * B.cells))
      where
        at : Dec (c < A.cells * B.cells) → FreeReply X c w (X.answer c w)
        at (yes h) =
            subst (λ n. FreeReply X n w (X.answer c w)) (cell_is c)
            (reply_at (c / B.cells) (c % B.cells) w (row_on c h) (column_on c h) _ refl)
        at (no h) =
            let zero_value : X.worth c ≡ 0 = crossed_worth_off c (omega arith) in
            none c w (le-ltb w (X.worth c) (omega arith))

-- the value of a product with cells, by its own moves
pub tartan_theorem : TartanTheorem
tartan_theorem A B P Q = at (multiplies A B)
  where
    at : (b : Bool) → 0 < (limited b (crossed A B)).cells → (x y : ℕ) → x < A.cells → y < B.cells
        → Missing (IsRest (limited b (crossed A B)) (x * B.cells + y)) (A.worth x ⊗ B.worth y)
    at true h x y hx hy = crossed_smallest A B P Q x y hx hy
    at false h x y hx hy = absurd (omega arith)

within : (A B : Rules) → multiplies A B ≡ true → (A.cells * B.cells ≤ 4096) × (A.ceiling * B.ceiling ≤ 4194303)
within A B e =
    let h = and_parts (nat_le (A.cells * B.cells) 4096) (nat_le (A.ceiling * B.ceiling) 4194303) e in
    (leb-true _ _ h.0, leb-true _ _ h.1)

pub product_lawful : (A B : Rules) → Lawful A → Lawful B → Lawful (product A B)
product_lawful A B P Q =
    limited_lawful (multiplies A B) (crossed A B) (λ e. crossed_lawful A B P Q (within A B e).0 (within A B e).1)

pub product_replies : (A B : Rules) → Lawful A → Lawful B → Replies A → Replies B → Replies (product A B)
product_replies A B P Q R S = limited_replies (multiplies A B) (crossed A B) (λ e. crossed_replies A B P Q R S)

-- off the board a game has nothing
pub nothing_off : (G : Rules) → Lawful G → Replies G → (c : ℕ) → G.cells ≤ c → Nothing G c
nothing_off G P R c off = record {
  count = P.count_off c off;
  holds = λ i d. no_coin i d (G.holds c i d) refl;
  worth = P.worth_off c off;
  answer = λ w. no_reply w (G.answer c w) (R c w);
}
  where
    no_coin : (i d : ℕ) (b : Bool) → G.holds c i d ≡ b → b ≡ false
    no_coin i d true e = absurd (omega (arith, P.numbered c i d e, P.count_off c off))
    no_coin i d false e = refl

    no_reply : (w : ℕ) (r : Option ℕ) → FreeReply G c w r → r ≡ None
    no_reply w None f = refl
    no_reply w (Some i) f = absurd (omega (arith, f.0, P.worth_off c off))

-- the moves of a product with cells can be counted
pub moves_fit : (A B : Rules) → Lawful A → Lawful B → multiplies A B ≡ true → (x y m n : ℕ) → m ≡ A.count x → n ≡ B.count y → m * n < 2 ^ 32
moves_fit A B P Q e x y m n p q =
    subst (λ k. k < 2 ^ 32) (λ i. sym p i * sym q i)
    (omega (arith, mul-le (A.count x) (B.count y) A.ceiling B.ceiling (P.count_bound x) (Q.count_bound y), (within A B e).1))

reply_numbered : (G : Rules) → Replies G → (c w i : ℕ) → G.answer c w ≡ Some i → i < G.count c
reply_numbered G R c w i e = (subst (FreeReply G c w) e (R c w)).1

-- the number of the move that two replies make
pub reply_fits : (A B : Rules) → Lawful A → Lawful B → Replies A → Replies B → multiplies A B ≡ true → (x y a b i j k : ℕ)
    → A.answer x a ≡ Some i → B.answer y b ≡ Some j → k ≡ B.count y → i * k + j < 2 ^ 32
reply_fits A B P Q R S e x y a b i j k p q is =
    lt_trans (digits_lt (reply_numbered A R x a i p) (subst (λ n. j < n) (sym is) (reply_numbered B S y b j q)))
    (moves_fit A B P Q e x y (A.count x) k refl is)
