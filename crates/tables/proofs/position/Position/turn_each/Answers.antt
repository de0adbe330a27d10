use Rattle.std.proofs.Common.{◌≡◌, ℕ, ◌<◌, ◌≤◌, true, sym, ap, ◌∙◌, refl, arith}
use Rattle.games.specs.Laws.Sums.{sum_past}
use Rattle.games.specs.Rules.{Rules, Lawful, nim_sum}
use Rattle.play.specs.Play.{turned}
use Rattle.play.proofs.Turning.{on_board}
use Rattle.tables.specs.Coins.{coins, one_held}
use Rattle.tables.proofs.Turned.{none_below, one_more, all_below, past_all, term_more}
use Rattle.tables.proofs.position.Position.turn_each.Given.{Over}
use Rattle.tables.proofs.position.Position.turn_each.Goals as goal

pub loop-d-init : goal.loop-d-init
unfolding nim_sum
loop-d-init g c = record {
  turned_below = none_below (coins c.args.self.now) ((g.G.Game.rules c.args.game.now).holds c.args.m.cell c.args.m.number);
  added = refl;
}

pub loop-d-preserved : goal.loop-d-preserved
loop-d-preserved g c =
    let G = g.G.Game.rules c.args.game.now in
    let P = g.met.G.Game.lawful c.args.game.now in
    let s = G.holds c.args.m.cell c.args.m.number in
    record {
      turned_below = c.turn_one-value.ensures.coins ∙ ap (λ u. turned u (one_held s c.loop-d.d)) c.loop-d.invariant.turned_below
          ∙ one_more (coins c.args.self.now) s c.loop-d.d (omega (arith, c.loop-d-test.true, c.min-end.ensures, c.size.ensures, P.cells_bound));
      added = term_more s G.worth c.loop-d.d c.loop-d.value c.turn_one-value.result c.loop-d.invariant.added c.turn_one-value.ensures.value;
    }

-- the loop has passed each cell that the move holds
passed : (g : Over) (c : goal.After-loop-d g) (e : ℕ) → (g.G.Game.rules c.args.game.now).holds c.args.m.cell c.args.m.number e ≡ true → e < c.loop-d.d
passed g c e q =
    let G = g.G.Game.rules c.args.game.now in
    let P = g.met.G.Game.lawful c.args.game.now in
    omega (
      arith,
      P.not_above c.args.m.cell c.args.m.number e q,
      on_board G P c.args.m.cell c.args.m.number (P.numbered c.args.m.cell c.args.m.number e q),
      c.loop-d-test.false,
      c.min-end.ensures,
      c.size.ensures,
      c.saturating_add.ensures,
      P.cells_bound,
    )

pub returns-clause-coins : goal.returns-clause-coins
returns-clause-coins g c =
    c.loop-d.invariant.turned_below ∙ all_below (coins c.args.self.now) ((g.G.Game.rules c.args.game.now).holds c.args.m.cell c.args.m.number) c.loop-d.d (passed g c)

pub returns-clause-value : goal.returns-clause-value
returns-clause-value g c =
    let G = g.G.Game.rules c.args.game.now in
    let P = g.met.G.Game.lawful c.args.game.now in
    let s = G.holds c.args.m.cell c.args.m.number in
    c.loop-d.invariant.added
    ∙ sym (sum_past G.worth c.loop-d.d G.cells s (omega (arith, c.loop-d-test.false, c.min-end.ensures, c.size.ensures)) (λ d a b. past_all s c.loop-d.d (passed g c) d a))
