use Rattle.std.proofs.Common.{rules, ◌≡◌, ℕ, ◌<◌, ◌≤◌, ◌+◌, length, get_or, cond, MatchOption, Option, Some, None, List, [], ◌∷◌, ◌++◌, vec_items, refl, sym, ap, subst, ◌∙◌, below_more}
use Rattle.std.proofs.Math.ListN.{get_or-append}
use Rattle.std.proofs.Math.Seq.{get_or-append_seam}
use native.Mathlib.Omega.{arith}
use Rattle.games.specs.Rules.{Rules}
use Rattle.games.specs.Laws.Sums.{sum_same}
use Rattle.audit_games.specs.Values.{rest_by, IsSmallest, EveryRest}
use Rattle.audit_games.proofs.rests.values.Goals as goal

module _ (G : Rules) (xs : List ℕ) (v : ℕ) where
  -- the rests at a cell need only the values below it
  same_rest : (b i : ℕ) → b ≤ length xs → rest_by G (xs ++ v ∷ []) b i ≡ rest_by G xs b i
  same_rest b i l =
      sum_same b (λ d. cond (G.holds b i d) (get_or (xs ++ v ∷ []) d 0) 0) (λ d. cond (G.holds b i d) (get_or xs d 0) 0)
      (λ d p. ap (λ n. cond (G.holds b i d) n 0) (get_or-append xs (v ∷ []) 0 d (omega arith)))

  kept : (b w : ℕ) → b ≤ length xs → IsSmallest G xs b w → IsSmallest G (xs ++ v ∷ []) b w
  kept b w l (missing, below) = (
    λ i p q. missing i p (sym (same_rest b i l) ∙ q),
    λ n p. let h = below n p in (h.0, h.1, same_rest b h.0 l ∙ h.2),
  )

  with_next : (c : ℕ) → c ≡ length xs → ((b : ℕ) → b < c → IsSmallest G xs b (get_or xs b 0)) → IsSmallest G xs c v
      → (b : ℕ) → b < c + 1 → IsSmallest G (xs ++ v ∷ []) b (get_or (xs ++ v ∷ []) b 0)
  with_next c e earlier next =
      below_more (λ b. IsSmallest G (xs ++ v ∷ []) b (get_or (xs ++ v ∷ []) b 0)) c
      (λ b p. subst (IsSmallest G (xs ++ v ∷ []) b) (sym (get_or-append xs (v ∷ []) 0 b (omega arith))) (kept b _ (omega arith) (earlier b p)))
      (subst (IsSmallest G (xs ++ v ∷ []) c) (sym (ap (λ k. get_or (xs ++ v ∷ []) k 0) e ∙ get_or-append_seam xs v [] 0)) (kept c v (omega arith) next))

pub loop-c-preserved : goal.loop-c-preserved
loop-c-preserved g c =
    let G : Rules = g.G.Game.rules c.args.game.now in
    let xs : List ℕ = vec_items c.loop-c.values in
    let e : vec_items c.push.new.self ≡ xs ++ c.in-Some.value ∷ [] = search rules in
    let n : c.loop-c.c ≡ length xs = sym c.loop-c.invariant.0 ∙ c.loop-c.values.ok.0 in
    let next : IsSmallest G c.deref.result.now c.loop-c.c c.in-Some.value = subst (λ r. MatchOption r (EveryRest G c.deref.result.now c.loop-c.c) (IsSmallest G c.deref.result.now c.loop-c.c)) c.in-Some.is c.in_ok-value.ensures in
    let seen : c.deref.result.now ≡ xs = c.deref.ensures.value in
    (search rules, subst (λ ys. (b : ℕ) → b < c.loop-c.c + 1 → IsSmallest G ys b (get_or ys b 0)) (sym e) (with_next G xs c.in-Some.value c.loop-c.c n c.loop-c.invariant.1 (subst (λ ys. IsSmallest G ys c.loop-c.c c.in-Some.value) seen next)))

pub returns : goal.returns
returns g c =
    let e : c.loop-c.c ≡ c.args.end = omega arith in
    (c.loop-c.invariant.0 ∙ e, λ b p. c.loop-c.invariant.1 b (omega arith))

no_value : (r : Option ℕ) (No : Type 0) (Yes : ℕ → Type 0) → ((v : ℕ) → r ≡ Some v → ⊥) → MatchOption r No Yes → No
no_value None No Yes n h = h
no_value (Some v) No Yes n h = absurd (n v refl)

pub returns-in_default : goal.returns-in_default
returns-in_default g c =
    let G : Rules = g.G.Game.rules c.args.game.now in
    let seen : c.deref.result.now ≡ vec_items c.loop-c.values = c.deref.ensures.value in
    let length_is : length (vec_items c.loop-c.values) ≡ c.loop-c.c = sym c.loop-c.values.ok.0 ∙ c.loop-c.invariant.0 in
    let every : EveryRest G c.deref.result.now c.loop-c.c = no_value c.in_ok-value.field-0 (EveryRest G c.deref.result.now c.loop-c.c) (IsSmallest G c.deref.result.now c.loop-c.c) c.in_default.not-Some c.in_ok-value.ensures in
    (c.loop-c.c, c.loop-c-test.true, vec_items c.loop-c.values, (length_is, c.loop-c.invariant.1), subst (λ xs. EveryRest G xs c.loop-c.c) seen every)
