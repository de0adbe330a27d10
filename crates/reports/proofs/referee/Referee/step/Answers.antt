use Rattle.std.proofs.Common.{sym, ap, ◌∙◌, Err}
use Rattle.std.proofs.lemmas.Result.{err_from_is_err_and}
use Rattle.reports.proofs.StepLaws.{fault_told}
use Rattle.reports.proofs.referee.Referee.step.Goals as goal

pub returns-in_err-told-clause-does : goal.returns-in_err-told-clause-does
returns-in_err-told-clause-does c =
    let p = err_from_is_err_and c.from_residual.result c.from_residual.ensures.1 in
    (fault_told _ _ _ _ _ _ _ _ (sym c.is_small.ensures ∙ c.if-is_small.false) c.in_err-told.ensures.does (p.1 ∙ ap Err p.2)).0

pub returns-in_err-told-clause-again : goal.returns-in_err-told-clause-again
returns-in_err-told-clause-again c =
    let p = err_from_is_err_and c.from_residual.result c.from_residual.ensures.1 in
    (fault_told _ _ _ _ _ _ _ _ (sym c.is_small.ensures ∙ c.if-is_small.false) c.in_err-told.ensures.does (p.1 ∙ ap Err p.2)).1
