use Rattle.tables.proofs.RunLaws.{carried}
use Rattle.tables.proofs.table.Table.call.Goals as goal

pub returns : goal.returns
returns g c =
    let d = c.dispatch.ensures in
    record {
      game = d.game;
      answer = d.answer;
      after = d.after;
      run = λ h s. carried _ h c.args.call _ _ _ d.answer d.after s;
    }
