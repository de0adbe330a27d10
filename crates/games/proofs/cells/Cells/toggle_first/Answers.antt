use Rattle.std.proofs.Common.{◌≡◌, ◌+◌, ◌-◌, ◌*◌, ◌/◌, ◌<◌, length, length-drop, drop, min, inl, inr, ◌^◌, sym, ap, ◌∙◌, arith, rules}
use mathlib.Core.Path.{fun_ext}
use Rattle.std.proofs.Math.Nat.{min-le_right}
use Rattle.nimber_field.specs.Tower.{differ}
use Rattle.nimber_field.proofs.Sums.{differ_false}
use Rattle.games.specs.Cells.{held, in_one, raised, marked_from}
use Rattle.games.proofs.CellBits.{below, first_left, next_word, nothing_marked, none_raised, first_raised}
use Rattle.games.proofs.cells.Cells.toggle_first.Goals as goal

pub loop-k-init : goal.loop-k-init
loop-k-init c =
    let first : c.into_iter-k-iterator.result.a.start ≡ 0 = search rules in
    record {
      last = search rules;
      within = search rules;
      rest = search rules;
      toggled = fun_ext (λ d.
          sym (ap (differ (held c.args.self.now d)) (ap (λ k. raised c.args.n (below (32 * k) (held c.args.other.now)) d) first ∙ none_raised c.args.n d (held c.args.other.now))
          ∙ differ_false (held c.args.self.now d)));
    }

pub overflow_mul-k : goal.overflow_mul-k
overflow_mul-k c =
    let s = c.in-Some.ensures.steps in
    omega (arith, s, c.loop-k.invariant.last)

pub overflow_add-k : goal.overflow_add-k
overflow_add-k c =
    let s = c.in-Some.ensures.steps in
    omega (arith, s, c.loop-k.invariant.last, c.if-n-lt-MOST_CELLS.true)

pub toggle_marked-requires : goal.toggle_marked-requires
toggle_marked-requires c =
    let s = c.in-Some.ensures.steps in
    omega (arith, s, c.loop-k.invariant.last, c.if-n-lt-MOST_CELLS.true)

pub loop-k-preserved-then-word-ne0 : goal.loop-k-preserved-then-word-ne0
unfolding held
loop-k-preserved-then-word-ne0 c =
    let k = c.loop-k.k-iterator.a.start in
    let words = c.args.other.now.words in
    let word = c.in-Some.word.now in
    let small : word < 2 ^ 32 = search rules in
    let s = c.in-Some.ensures.steps in
    let v = c.loop-k.invariant in
    let left = first_left words c.next.new.self.b.rest.now word k (sym v.rest ∙ s.1) in
    let this : c.in-Some.k ≡ k = omega (arith, s) in
    let next : k + 1 ≡ c.next.new.self.a.start = omega (arith, s) in
    record {
      last = omega (arith, s, v.last);
      within = omega (arith, s, v.last);
      rest = left.1 ∙ ap (λ i. drop i words) next;
      toggled = c.toggle_marked.ensures
          ∙ ap (λ i. in_one (held c.loop-k.self) (marked_from (32 * i + c.args.n) word)) this
          ∙ next_word (held c.loop-k.self) (held c.args.self.now) words word c.args.n k small left.0 v.toggled
          ∙ ap (λ i. in_one (held c.args.self.now) (raised c.args.n (below (32 * i) (held c.args.other.now)))) next;
    }

pub loop-k-preserved : goal.loop-k-preserved
unfolding held
loop-k-preserved c =
    let k = c.loop-k.k-iterator.a.start in
    let words = c.args.other.now.words in
    let word = c.in-Some.word.now in
    let s = c.in-Some.ensures.steps in
    let v = c.loop-k.invariant in
    let left = first_left words c.next.new.self.b.rest.now word k (sym v.rest ∙ s.1) in
    let next : k + 1 ≡ c.next.new.self.a.start = omega (arith, s) in
    record {
      last = omega (arith, s, v.last);
      within = omega (arith, s, v.last);
      rest = left.1 ∙ ap (λ i. drop i words) next;
      toggled = nothing_marked (held c.loop-k.self) (32 * k + c.args.n) word c.if-word-ne0.false
          ∙ next_word (held c.loop-k.self) (held c.args.self.now) words word c.args.n k (omega (arith, c.if-word-ne0.false)) left.0 v.toggled
          ∙ ap (λ i. in_one (held c.args.self.now) (raised c.args.n (below (32 * i) (held c.args.other.now)))) next;
    }

pub returns-in-None : goal.returns-in-None
unfolding held
returns-in-None c =
    let k = c.loop-k.k-iterator.a.start in
    let n = c.args.n in
    let v = c.loop-k.invariant in
    let long : length c.args.other.now.words ≡ 128 = search rules in
    let all : k ≡ min c.args.words (128 - n / 32)
    = elim c.in-None.ensures.steps as (λ _. k ≡ min c.args.words (128 - n / 32)) [
      | inl p ↦ omega (arith, p.1.1.0, v.last, v.within)
      | inr q ↦ omega (arith, q.1.0, long, v.last, v.within, min-le_right c.args.words (128 - n / 32), ap (λ l. length l) v.rest, length-drop k c.args.other.now.words)
    ] in
    v.toggled
    ∙ fun_ext (λ d. ap (differ (held c.args.self.now d)) (first_raised n k c.args.words d (held c.args.other.now) c.if-n-lt-MOST_CELLS.true all))
