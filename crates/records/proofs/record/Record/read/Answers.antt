use Rattle.std.proofs.Common.{sym, ap, arith}
use Rattle.records.specs.Bytes.{framed}
use Rattle.records.specs.Records.{item_size}
use Rattle.records.proofs.Reading.{frame_within, sized}
use Rattle.records.proofs.record.Record.read.Goals as goal

pub returns-clause-within : goal.returns-clause-within
returns-clause-within c = omega (
  arith,
  ap item_size c.from_body.ensures.item,
  sized c.in_ok-kind-2.kind c.in_ok-kind.field-0.body.now (sym c.if-not-fits.ensures),
  frame_within c.args.file.now c.args.at (framed c.in_ok-kind.field-0) (sym c.in_ok-kind.ensures),
)
