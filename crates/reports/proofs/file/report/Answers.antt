use Rattle.std.proofs.Common.{◌≡◌, [], ◌∷◌, ◌++◌, vec_items, sym, refl, ap, ◌∙◌, subst, append-nil}
use Rattle.games.specs.Rules.{Lawful, Replies}
use Rattle.piles.specs.Numbered.{pile_of}
use Rattle.piles.specs.Laws.PileLaws.{pile_lawful, pile_replies}
use Rattle.tables.specs.Runs.{Stands}
use Rattle.transcripts.specs.Readings.{reading, start}
use Rattle.reports.specs.Reports.{Closes, fault_line}
use Rattle.reports.specs.Steps.{game_of}
use Rattle.reports.proofs.ReportLaws.{advance, less_left, none_found, reported_so, started}
use Rattle.reports.proofs.StepLaws.{fault_found, found_none}
use Rattle.reports.proofs.file.report.Goals as goal

pub loop-told-init : goal.loop-told-init
loop-told-init c =
    let e = c.in_ok-referee.ensures in
    let same : c.new.result.file.now ≡ c.args.file.now = c.new.ensures in
    let x = c.in_ok-referee.referee in (
      e.game ∙ ap game_of same,
      (
        [],
        started (game_of c.args.file.now) c.args.file.now (reading x.body) x.table.kept (vec_items c.new-lines.result) (e.reading ∙ ap start same)
            (subst (λ f. Stands (game_of f) [] x.table.kept) same e.run) c.new-lines.ensures.items,
      ),
    )

pub loop-told-smaller : goal.loop-told-smaller
loop-told-smaller c = less_left _ _ _ _ _ _ _ c.in-Ok-Some.field-0-is c.in-Ok-Some.ensures.does

pub loop-told-preserved : goal.loop-told-preserved
loop-told-preserved c =
    let i = c.loop-told.invariant in
    let lines = vec_items c.loop-told.lines in
    let a = advance (game_of c.args.file.now) _ i.0 c.args.file.now i.1.0 _ _ _ _ lines (vec_items c.extend_from_slice.new.self) _ _ c.in-Ok-Some.field-0-is i.1.1
    c.in-Ok-Some.ensures.does (c.in_ok-extend_from_slice-in-Ok-Some.ensures.items ∙ ap (λ t. lines ++ t) (c.as_bytes.ensures.bytes ∙ c.write.ensures)) in
    (ap (λ g. pile_of g.game) c.in-Ok-Some.ensures.game ∙ i.0, (i.1.0 ++ (a.0 ∷ []), a.1))

pub returns-in-Ok-None : goal.returns-in-Ok-None
returns-in-Ok-None c =
    let i = c.loop-told.invariant in
    let p = c.loop-told.referee.table.game.game in
    let lines = vec_items c.loop-told.lines in
    let f = none_found _ _ _ c.in-Ok-None.field-0-is c.in-Ok-None.ensures.does.gives in
    reported_so c.args.file.now i.1.0 _ _ lines [] lines (subst Lawful i.0 (pile_lawful p)) (subst Replies i.0 (pile_replies p)) i.1.1
    (subst (λ x. Closes i.1.0 x []) (sym f) (refl, i.1.1.ended (found_none _ f))) (sym (append-nil lines))

pub returns-in-Err : goal.returns-in-Err
returns-in-Err c =
    let i = c.loop-told.invariant in
    let p = c.loop-told.referee.table.game.game in
    let lines = vec_items c.loop-told.lines in
    let last = fault_line c.in-Err.fault in
    let f = fault_found _ _ _ c.in-Err.ensures.does.gives in
    reported_so c.args.file.now i.1.0 _ _ lines last (vec_items c.extend_from_slice-in-Err.new.self)
    (subst Lawful i.0 (pile_lawful p)) (subst Replies i.0 (pile_replies p)) i.1.1 (subst (λ x. Closes i.1.0 x last) (sym f) refl)
    (c.in_ok-extend_from_slice-in-Err.ensures.items ∙ ap (λ t. lines ++ t) (c.as_bytes-in-Err.ensures.bytes ∙ c.from.ensures))
