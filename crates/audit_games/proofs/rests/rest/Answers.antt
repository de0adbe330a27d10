use lib.Bits.{bit_xor}
use native.Mathlib.Omega.{arith}
use Rattle.std.proofs.Common.{◌≡◌, ℕ, zero, suc, ◌+◌, Bool, true, false, List, ◌∷◌, cond, get_or, sym, refl, ap, ◌∙◌, rules, tests}
use Rattle.std.specs.List.{filter, fold, range_with_len}
use Rattle.std.proofs.lemmas.Iterator.{YieldsList-from_range}
use Rattle.std.proofs.lemmas.Iterator.Consumers.{YieldsList-from_filter, fold_from_yields_List}
use Rattle.games.specs.Rules.{nim_sum, sum_held}
use Rattle.games.specs.Laws.Sums.{held_last, lacks_last}
use Rattle.audit_games.proofs.rests.rest.Goals as goal

module _ (f : ℕ → ℕ) (set : ℕ → Bool) where
  abbrev add : ℕ → ℕ → ℕ
  add rest d = bit_xor rest (f d)

  -- the n numbers from a on that are held, added to those below a
  abbrev Added : ℕ → ℕ → Type 0
  Added n a = fold add (sum_held a set f) (filter set (range_with_len a n)) ≡ sum_held (a + n) set f

  after : (n a z : ℕ) → Added n (a + 1) → z ≡ sum_held (suc a) set f → fold add z (filter set (range_with_len (a + 1) n)) ≡ sum_held (a + suc n) set f
  after n a z h e =
      ap (λ y. fold add y (filter set (range_with_len (a + 1) n))) (e ∙ ap (λ k. sum_held k set f) (omega arith))
      ∙ h ∙ ap (λ k. sum_held k set f) (omega arith)

  abbrev from : ℕ → ℕ → Bool → List ℕ
  from n a b = cond b (a ∷ filter set (range_with_len (a + 1) n)) (filter set (range_with_len (a + 1) n))

  by_first : (n a : ℕ) (b : Bool) → set a ≡ b → Added n (a + 1) → Added (suc n) a
  by_first n a true e h = ap (λ b. fold add (sum_held a set f) (from n a b)) e ∙ after n a _ h (sym (held_last f a set e))
  by_first n a false e h = ap (λ b. fold add (sum_held a set f) (from n a b)) e ∙ after n a _ h (sym (lacks_last f a set e))

  added : (n a : ℕ) → Added n a
  added zero a = ap (λ k. sum_held k set f) (omega arith)
  added (suc n) a = by_first n a (set a) refl (added n (a + 1))

  none : 0 ≡ sum_held 0 set f
  unfolding nim_sum
  none = refl

  whole : (n : ℕ) → fold add 0 (filter set (range_with_len 0 n)) ≡ sum_held n set f
  whole n = ap (λ y. fold add y (filter set (range_with_len 0 n))) none ∙ added n 0 ∙ ap (λ k. sum_held k set f) (omega arith)

pub returns : goal.returns
returns g c =
    let f : ℕ → ℕ = λ d. get_or c.args.values.now d 0 in
    let set : ℕ → Bool = (g.G.Game.rules c.args.game.now).holds c.args.c c.args.i in
    fold_from_yields_List _ (λ rest d. bit_xor rest (f d)) 0 c.fold.result c.fold.ensures.ran
    (YieldsList-from_filter _ set (YieldsList-from_range 0 c.args.c c.args.c c.filter-turned.ensures.source (omega arith)) c.filter-turned.ensures.closure (λ x b q k. search (rules, tests)))
    (λ a x b q k. search (rules, tests))
    ∙ whole f set c.args.c
