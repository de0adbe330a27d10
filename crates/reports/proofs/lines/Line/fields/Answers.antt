use Rattle.std.proofs.Common.{◌≡◌, ◌+◌, ◌≤◌, [], ◌∷◌, ◌++◌, length, get_or, take, decimal, ap, append_assoc, arith, length-append}
use Rattle.reports.specs.Lines.{fields}
use Rattle.reports.proofs.Writing.{fields_more}
use Rattle.reports.proofs.lines.Line.fields.Goals as goal

pub loop-n-preserved : goal.loop-n-preserved
loop-n-preserved c =
    let xs = c.args.self.now in
    let ns = c.args.numbers.now in
    let so = fields (take c.loop-n.n-index ns) in
    let one = decimal (get_or ns c.loop-n.n-index 0) in
    let more = fields_more ns c.loop-n.n-index c.loop-n-test.true in
    let regroup : ((xs ++ so) ++ (32 ∷ [])) ++ one ≡ xs ++ (so ++ (32 ∷ one)) = simp append_assoc in
    let blank : c.byte.new.self ≡ c.loop-n.self ++ (32 ∷ []) = c.byte.ensures in
    let short : length c.number.new.self ≤ length c.byte.new.self + 10 = c.number.ensures.short in
    record { bytes = cc; short = omega (arith, ap length blank, length-append c.loop-n.self (32 ∷ [])) }
