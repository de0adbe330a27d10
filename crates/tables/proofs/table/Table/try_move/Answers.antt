use Rattle.std.proofs.Common.{◌≡◌, refl, ap, rules}
use Rattle.tables.proofs.Values.{same_table}
use Rattle.tables.proofs.table.Table.try_move.Goals as goal

pub returns-clause-same : goal.returns-clause-same
returns-clause-same g c =
    let kept = c.args.self.now.kept in
    let back : c.drop-trial.new.self.0 ≡ kept.position = search rules in
    same_table _ _ refl (ap (λ p. record { position = p; state = kept.state; side = kept.side }) back) refl
