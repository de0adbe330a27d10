use Rattle.std.proofs.Common.{◌≡◌, ◌+◌, cond, [], ◌∷◌, ◌++◌, is_ok, vec_items, vec_len, sym, refl, ap, ◌∙◌, subst, arith, take_all}
use Rattle.tables.specs.Runs.{run_of, run_on, Stands, Told}
use Rattle.tables.proofs.AdviceLaws.{promise}
use Rattle.tables.proofs.RunLaws.{run_next, replayed}
use Rattle.tables.proofs.replay.replay.Goals as goal

pub loop-call-init : goal.loop-call-init
unfolding run_on Told
loop-call-init g c =
    let stands = subst (λ x. Stands (g.G.Game.rules x) [] c.new-table.result.kept) (sym c.new-table.ensures.game) c.new-table.ensures.run in
    (c.new-replies.ensures.len, refl, stands, tt)

pub loop-call-preserved : goal.loop-call-preserved
loop-call-preserved g c =
    let i = c.loop-call.invariant in
    let more : vec_items c.push.new.self ≡ vec_items c.loop-call.replies ++ (c.call.result ∷ [])
    = c.push.ensures.items
    ∙ ap (λ r. cond (is_ok r) (vec_items c.loop-call.replies ++ (c.call.result ∷ [])) (vec_items c.loop-call.replies)) c.in_ok-push.was in
    let length_is = c.loop-call.replies.ok.0 in
    let next = run_next c.args.calls.now (vec_items c.loop-call.replies) (vec_items c.push.new.self) c.loop-call.call-index _ c.call.result
    c.loop-call-test.true (sym length_is ∙ i.0) more in
    let both = replayed _ _ (ap g.G.Game.rules i.1) _ _ _ _ _ _ next c.call.ensures.answer c.call.ensures.run i.2 i.3 in
    let counted = c.push.ensures.len
    ∙ ap (λ r. cond (is_ok r) (vec_len c.loop-call.replies + 1) (vec_len c.loop-call.replies)) c.in_ok-push.was
    ∙ ap (λ n. n + 1) i.0 in
    (counted, c.call.ensures.game ∙ i.1, both.0, both.1)

pub returns : goal.returns
returns g c =
    let i = c.loop-call.invariant in
    let whole = take_all c.loop-call.call-index c.args.calls.now c.loop-call-test.false in
    let told = subst (λ x. Told (g.G.Game.rules c.new-table.result.game) (run_of x (vec_items c.loop-call.replies))) whole i.3 in
    let here = subst (λ x. Told (g.G.Game.rules x) (run_of c.args.calls.now (vec_items c.loop-call.replies))) c.new-table.ensures.game told in (
      omega (arith, i.0, c.loop-call-test.false, c.loop-call.auto.call-index-end),
      promise _ (g.met.G.Game.lawful c.args.game) (g.met.G.Game.replies c.args.game) _ here,
    )
