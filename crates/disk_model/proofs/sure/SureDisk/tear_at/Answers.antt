use Rattle.disk_model.proofs.Words.{◌≡◌, arith, zip, length-zip, Torn-either}
use Rattle.std.proofs.Common.{length}
use Rattle.disk_model.proofs.Ranges.{torn_firm}
use Rattle.disk_model.proofs.sure.SureDisk.tear_at.Goals as goal

pub invariant_of-self : goal.invariant_of-self
invariant_of-self c =
    let d = c.self.inside in
    let old = zip d.held.items d.marks.items in
    let n = length c.args.bytes.now in
    let len : length old ≡ d.held.len = omega
    (arith, length-zip d.held.items d.marks.items, d.held.ok.0, d.marks.ok.0, c.self.invariant.0) in
    let e = c.with-self-inside.ensures in (
      omega (arith, c.tear.ensures.same_len, c.tear.new.marks.ok.0, c.tear.new.held.ok.0),
      torn_firm d.loose.from d.loose.to _ _ c.args.at n old _
          (Torn-either c.args.at c.args.bytes.now old _ c.tear.ensures.torn) c.self.invariant.1 e.no_later
          (omega (arith, e.from, len)) e.no_earlier (omega (arith, e.to)),
    )
