use Rattle.nimber_field.proofs.Conway.{nimber_field, conway, only, all_met}
use Rattle.nimber_field.proofs.field.Goals as goal

pub returns : goal.returns
returns c = record { field = nimber_field; conway = conway; only = only; met = all_met }
