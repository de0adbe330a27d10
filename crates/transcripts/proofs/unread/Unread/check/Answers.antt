use Rattle.std.proofs.Common.{Ok, sym, ap, ◌∙◌}
use Rattle.std.proofs.lemmas.Result.{err_from_is_err_and}
use Rattle.transcripts.specs.Readings.{as_first, as_found, found}
use Rattle.transcripts.proofs.ReadingLaws.{head_first}
use Rattle.transcripts.proofs.unread.Unread.check.Goals as goal

pub returns-in_err-record : goal.returns-in_err-record
returns-in_err-record c =
    let p = err_from_is_err_and c.from_residual.result c.from_residual.ensures.1 in
    rw (p.1, p.2) (c.in_err-record.ensures.found ∙ ap found c.new-body.ensures)

pub returns-in-Some : goal.returns-in-Some
returns-in-Some c =
    let e = ap (λ o. as_found (Ok o)) (sym c.in-Some.is) in
    ap as_first c.head_in.ensures ∙ head_first c.args.self.now.file.now _ _ (e ∙ c.in_ok-record.ensures.found ∙ ap found c.new-body.ensures)
