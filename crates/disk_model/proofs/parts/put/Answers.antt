use Rattle.disk_model.proofs.Words.{◌≡◌, ℕ, ◌+◌, ◌-◌, ◌++◌, replicate, true, ap, sym, ◌∙◌, arith, length-append, take_at, length-replicate, spliced_grown}
use Rattle.std.proofs.Common.{length}
use Rattle.disk_model.proofs.Zips.{zip_written}
use Rattle.disk_model.proofs.parts.put.Goals as goal

pub returns-in-Ok-clause-ok : goal.returns-in-Ok-clause-ok
returns-in-Ok-clause-ok c =
    let held = c.args.held.now.items in
    let marks = c.args.marks.now.items in
    let n = length c.args.bytes.now in
    let grown : c.grow.new.items.items ≡ marks ++ replicate
    (c.args.at + length (replicate n true) - length marks) true =
    c.in_ok-grow.ensures.ok
    ∙ ap (λ (k : ℕ). marks ++ replicate (c.args.at + k - length marks) true)
    (sym (length-replicate n true)) in
    zip_written c.args.at c.args.bytes.now held marks _ _ c.requires.same_len
    (take_at c.copy_into.new.held _ _ (omega (arith, c.copy_into.auto.held, c.deref_mut.ensures.len))
    ∙ c.copy_into.ensures
    ∙ spliced_grown c.args.at c.args.bytes.now held c.deref_mut.result.now 0
    (c.deref_mut.ensures.value ∙ c.in-Ok.ensures.ok))
    (take_at c.mark.new.marks _ _ (omega (arith, c.mark.auto.marks, c.deref_mut-in-Ok.ensures.len))
    ∙ c.mark.ensures ∙ spliced_grown c.args.at (replicate n true) marks c.deref_mut-in-Ok.result.now true
    (c.deref_mut-in-Ok.ensures.value ∙ grown))

pub returns-in-Ok-clause-same_len : goal.returns-in-Ok-clause-same_len
returns-in-Ok-clause-same_len c =
    let held = c.args.held.now.items in
    let marks = c.args.marks.now.items in
    let end = c.args.at + length c.args.bytes.now in
    let sizes : length c.mark.new.marks ≡ length c.copy_into.new.held =
    omega (
      arith,
      c.mark.auto.marks,
      c.deref_mut-in-Ok.ensures.value,
      c.copy_into.auto.held,
      c.deref_mut.ensures.value,
      ap length (c.deref_mut-in-Ok.ensures.value ∙ c.in_ok-grow.ensures.ok),
      ap length (c.deref_mut.ensures.value ∙ c.in-Ok.ensures.ok),
      length-append marks (replicate (end - length marks) true),
      length-append held (replicate {A = ℕ} (end - length held) 0),
      length-replicate (end - length marks) true,
      length-replicate {A = ℕ} (end - length held) 0,
      c.requires.same_len,
    ) in
    ap length (take_at c.mark.new.marks _ c.grow.new.items.len
    (omega (arith, c.mark.auto.marks, c.deref_mut-in-Ok.ensures.len))) ∙ sizes
    ∙ sym (ap length (take_at c.copy_into.new.held _ c.grow-2.new.items.len
    (omega (arith, c.copy_into.auto.held, c.deref_mut.ensures.len))))
