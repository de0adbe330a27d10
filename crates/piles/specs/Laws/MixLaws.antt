-- A mixture of lawful games is lawful. Assumes nothing.
use Rattle.std.specs.Prelude.{◌≡◌, ℕ, ◌+◌, ◌-◌, ◌<◌, ◌≤◌, Bool, true, false, cond, ◌&&◌, Some, None, Option, nat_le, nat_lt, refl}
use Rattle.std.proofs.Common.{sym, ap, ◌∙◌, subst, arith, lit<}
use Rattle.std.proofs.Math.Decide.{dec_lt}
use borrow.Author.Tests.{lt-ltb, le-ltb, le-leb, lt-leb, leb-true, clash}
use Rattle.std.specs.Int.Bits.{xor_zero_l}
use Rattle.std.proofs.lemmas.Bool.Decides.{nat_tests}
use Rattle.nimber_field.specs.Missing.{Missing}
use Rattle.nimber_field.specs.Nimber.{◌⊕◌}
use Rattle.games.specs.Rules.{Rules, nim_sum, rest, IsRest, Lawful, FreeReply, Replies}
use Rattle.games.specs.Laws.Sums.{sum_same, sum_zero}
use Rattle.piles.specs.Layers.{no_game, limited, side_by_side, mixes, mixture}
use Rattle.piles.specs.Laws.Blocks.{sum_append, missing_of}

pub no_game_lawful : Lawful no_game
no_game_lawful = record {
  cells_bound = omega arith;
  ceiling_bound = omega arith;
  count_bound = λ c. omega arith;
  count_off = λ c h. refl;
  worth_off = λ c h. refl;
  numbered = λ c i d e. absurd (clash e);
  own = λ c i h. absurd (omega arith);
  not_above = λ c i d e. absurd (clash e);
  nimber = λ c. lit< tt;
  smallest = λ c. record { misses = λ r. absurd (omega (arith, r.numbered)); smallest = λ m h. absurd (omega arith) };
}

pub no_game_replies : Replies no_game
no_game_replies c w = omega arith

-- cell c of M is like cell e of G
record Like (M : Rules) (c : ℕ) (G : Rules) (e : ℕ) : Type 0 where
  count : M.count c ≡ G.count e
  worth : M.worth c ≡ G.worth e
  answer : (w : ℕ) → M.answer c w ≡ G.answer e w
  rests : (i : ℕ) → rest M c i ≡ rest G e i

like_smallest : {M G : Rules} {c e : ℕ} → Like M c G e → Missing (IsRest G e) (G.worth e) → Missing (IsRest M c) (M.worth c)
like_smallest {M} {G} {c} {e} like h =
    subst (Missing (IsRest M c)) (sym like.worth)
    (missing_of (IsRest G e) (IsRest M c) (G.worth e)
    (λ w r. record {
      move = r.move;
      numbered = subst (λ n. r.move < n) (sym like.count) r.numbered;
      is = like.rests r.move ∙ r.is;
    })
    (λ w r. record {
      move = r.move;
      numbered = subst (λ n. r.move < n) like.count r.numbered;
      is = sym (like.rests r.move) ∙ r.is;
    })
    h)

like_reply : {M G : Rules} {c e : ℕ} → Like M c G e → (w : ℕ) → FreeReply G e w (G.answer e w) → FreeReply M c w (M.answer c w)
like_reply {M} {G} {c} {e} like w h = subst (FreeReply M c w) (sym (like.answer w)) (at (G.answer e w) h)
  where
    at : (r : Option ℕ) → FreeReply G e w r → FreeReply M c w r
    at None f = subst (λ n. n ≤ w) (sym like.worth) f
    at (Some i) f =
        (subst (λ n. w < n) (sym like.worth) f.0, subst (λ n. i < n) (sym like.count) f.1, like.rests i ∙ f.2)

module _ (A B : Rules) where
  abbrev M : Rules
  M = side_by_side A B

  -- a choice between the parts, at a cell of the first and of the second
  at_left : {X : Type 0} (c : ℕ) (x y : X) → c < A.cells → cond (nat_lt c A.cells) x y ≡ x
  at_left c x y l = ap (λ b. cond b x y) (lt-ltb c A.cells l)

  at_right : {X : Type 0} (c : ℕ) (x y : X) → A.cells ≤ c → cond (nat_lt c A.cells) x y ≡ y
  at_right c x y l = ap (λ b. cond b x y) (le-ltb c A.cells l)

  left_like : (c : ℕ) → c < A.cells → Like M c A c
  left_like c l = record {
    count = at_left c _ _ l;
    worth = at_left c _ _ l;
    answer = λ w. at_left c _ _ l;
    rests = λ i.
        sum_same c (λ d. cond (M.holds c i d) (M.worth d) 0) (λ d. cond (A.holds c i d) (A.worth d) 0)
        (λ d k.
        let same : M.holds c i d ≡ A.holds c i d = at_left c _ _ l in
        let worth : M.worth d ≡ A.worth d = at_left d _ _ (omega arith) in
        λ j. cond (same j) (worth j) 0);
  }

  right_rest : (c i : ℕ) → A.cells ≤ c → rest M c i ≡ rest B (c - A.cells) i
  right_rest c i l =
      ap (λ n. nim_sum n term) (omega arith) ∙ sum_append A.cells (c - A.cells) term
      ∙ (λ j. below j ⊕ above j) ∙ xor_zero_l (rest B (c - A.cells) i)
    where
      term : ℕ → ℕ
      term d = cond (M.holds c i d) (M.worth d) 0

      holds : (d : ℕ) → M.holds c i d ≡ nat_le A.cells d && B.holds (c - A.cells) i (d - A.cells)
      holds d = at_right c _ _ l

      below : nim_sum A.cells term ≡ 0
      below =
          sum_zero A.cells term
          (λ d k. ap (λ b. cond b (M.worth d) 0) (holds d ∙ ap (λ b. b && B.holds (c - A.cells) i (d - A.cells)) (lt-leb A.cells d k)))

      shifted : (d : ℕ) → A.cells + d - A.cells ≡ d
      shifted d = omega arith

      same : (d : ℕ) → M.holds c i (A.cells + d) ≡ B.holds (c - A.cells) i d
      same d = holds (A.cells + d) ∙ (λ j. le-leb A.cells (A.cells + d) (omega arith) j && B.holds (c - A.cells) i (shifted d j))

      worth : (d : ℕ) → M.worth (A.cells + d) ≡ B.worth d
      worth d = at_right (A.cells + d) _ _ (omega arith) ∙ ap B.worth (shifted d)

      above : nim_sum (c - A.cells) (λ d. term (A.cells + d)) ≡ rest B (c - A.cells) i
      above =
          sum_same (c - A.cells) (λ d. term (A.cells + d)) (λ d. cond (B.holds (c - A.cells) i d) (B.worth d) 0)
          (λ d k. λ j. cond (same d j) (worth d j) 0)

  right_like : (c : ℕ) → A.cells ≤ c → Like M c B (c - A.cells)
  right_like c l = record {
    count = at_right c _ _ l;
    worth = at_right c _ _ l;
    answer = λ w. at_right c _ _ l;
    rests = λ i. right_rest c i l;
  }

  -- what holds at the cells of both parts holds at every cell
  by_part : (F : ℕ → Type 0) → ((c : ℕ) → c < A.cells → F c) → ((c : ℕ) → A.cells ≤ c → F c) → (c : ℕ) → F c
  by_part F left right c = at (dec_lt c A.cells)
    where
      at : Dec (c < A.cells) → F c
      at (yes l) = left c l
      at (no l) = right c (omega arith)

  side_lawful : Lawful A → Lawful B → A.cells + B.cells ≤ 4096 → Lawful M
  side_lawful P Q small = record {
    cells_bound = small;
    ceiling_bound = omega (arith, P.ceiling_bound, Q.ceiling_bound);
    count_bound = λ c. grind (arith, nat_tests, P.count_bound, Q.count_bound);
    count_off = λ c h. grind (arith, nat_tests, Q.count_off);
    worth_off = λ c h. grind (arith, nat_tests, Q.worth_off);
    numbered = λ c i d e. grind (arith, nat_tests, P.numbered, Q.numbered);
    own = λ c i h. grind (arith, nat_tests, P.own, Q.own);
    not_above = λ c i d e. grind (arith, nat_tests, P.not_above, Q.not_above);
    nimber = λ c. grind (arith, nat_tests, P.nimber, Q.nimber);
    smallest = by_part (λ c. Missing (IsRest M c) (M.worth c)) (λ c l. like_smallest (left_like c l) (P.smallest c)) (λ c l. like_smallest (right_like c l) (Q.smallest (c - A.cells)));
  }

  side_replies : Replies A → Replies B → Replies M
  side_replies R S c w =
      by_part (λ c. FreeReply M c w (M.answer c w)) (λ c l. like_reply (left_like c l) w (R c w))
      (λ c l. like_reply (right_like c l) w (S (c - A.cells) w)) c

-- a game within limits, and the game with no cells otherwise
pub limited_lawful : (b : Bool) (G : Rules) → (b ≡ true → Lawful G) → Lawful (limited b G)
limited_lawful true G h = h refl
limited_lawful false G h = no_game_lawful

pub limited_replies : (b : Bool) (G : Rules) → (b ≡ true → Replies G) → Replies (limited b G)
limited_replies true G h = h refl
limited_replies false G h = no_game_replies

pub mixture_lawful : (A B : Rules) → Lawful A → Lawful B → Lawful (mixture A B)
mixture_lawful A B P Q =
    limited_lawful (mixes A B) (side_by_side A B) (λ e. side_lawful A B P Q (leb-true (A.cells + B.cells) 4096 e))

pub mixture_replies : (A B : Rules) → Replies A → Replies B → Replies (mixture A B)
mixture_replies A B R S = limited_replies (mixes A B) (side_by_side A B) (λ e. side_replies A B R S)
