use Rattle.disk_model.proofs.Words.{◌≡◌, arith, sym, subst, zip, length-zip, Cells, Torn}
use Rattle.std.proofs.Common.{length}
use Rattle.disk_model.proofs.Ranges.{Torn-whole, torn_firm}
use Rattle.disk_model.proofs.sure.SureDiskDisk.write_at.Goals as goal

pub invariant_of-self-2 : goal.invariant_of-self-2
invariant_of-self-2 c =
    let d = c.self.inside in
    let old = zip d.held.items d.marks.items in
    let n = length c.args.bytes.now in
    let len : length old ≡ d.held.len = omega
    (arith, length-zip d.held.items d.marks.items, d.held.ok.0, d.marks.ok.0, c.self.invariant.0) in
    let e = c.with-self-inside.ensures in (
      omega (arith, c.put.ensures.same_len, c.put.new.marks.ok.0, c.put.new.held.ok.0),
      torn_firm d.loose.from d.loose.to _ _ c.args.at n old _
          (subst (λ (new : Cells). Torn c.args.at n old new) (sym c.in_ok-put.ensures.ok)
          (Torn-whole c.args.at c.args.bytes.now old)) c.self.invariant.1 e.no_later
          (omega (arith, e.from, len)) e.no_earlier (omega (arith, e.to)),
    )
