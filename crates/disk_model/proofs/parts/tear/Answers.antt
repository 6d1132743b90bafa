use Rattle.disk_model.proofs.Words.{◌≡◌, ◌+◌, ◌-◌, ◌∙◌, Bool, true, List, min, replicate, ap, arith, take_at, spliced}
use Rattle.std.proofs.Common.{length}
use Rattle.disk_model.proofs.Tears.{tear_is}
use Rattle.disk_model.proofs.parts.tear.Goals as goal

pub returns-clause-torn : goal.returns-clause-torn
returns-clause-torn c =
    let held = c.args.held.now.items in
    let marks = c.args.marks.now.items in
    let n = length c.args.bytes.now in
    let from_is : c.min-from.result ≡ min c.args.at (length held) =
    omega (arith, c.min-from.ensures, c.len-len.ensures, c.args.held.now.ok.0) in
    let over_is : c.min-to.result - c.min-from.result
    ≡ min (c.args.at + n) (length held) - min c.args.at (length held) =
    omega (arith, from_is, c.min-to.ensures, c.len-len.ensures, c.args.held.now.ok.0) in
    tear_is c.args.at c.args.bytes.now held marks c.requires.same_len _ _ _ c.put.result
    (take_at c.mark.new.marks _ c.args.marks.now.len
    (omega (arith, c.mark.auto.marks, c.deref_mut.ensures.len)) ∙ c.mark.ensures
    ∙ ap (λ (l : List Bool). spliced c.min-from.result
    (replicate (c.min-to.result - c.min-from.result) true) l) c.deref_mut.ensures.value
    ∙ (λ i. spliced (from_is i) (replicate (over_is i) true) marks))
    c.put.ensures.ok c.put.ensures.err_held c.put.ensures.err_marks
