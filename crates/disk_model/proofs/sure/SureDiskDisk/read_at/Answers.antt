use Rattle.disk_model.proofs.Words.{[], ◌≡◌, drop, ap, ◌∙◌, sym, arith, rules, drop_all, firsts-zip, reads, read_part, take-nil, SureInMemory}
use Rattle.std.proofs.Common.{length}
use Rattle.disk_model.proofs.sure.SureDiskDisk.read_at.Goals as goal

pub returns-then-at-len-clause-bytes : goal.returns-then-at-len-clause-bytes
returns-then-at-len-clause-bytes c =
    let d = c.self.inside in
    let is : reads c.args.self.now.cells ≡ d.held.items =
    sym (ap (λ (disk : SureInMemory). reads disk.cells) c.self.view_is)
    ∙ firsts-zip d.held.items d.marks.items (omega (arith, d.held.ok.0, d.marks.ok.0, c.self.invariant)) in
    let none : drop c.args.at d.held.items ≡ [] = drop_all c.args.at d.held.items
    (omega (arith, d.held.ok.0)) in
    rw (is, none) (take-nil (length c.args.out.now))

pub returns-clause-bytes : goal.returns-clause-bytes
returns-clause-bytes c =
    let d = c.self.inside in
    let is : reads c.args.self.now.cells ≡ d.held.items =
    sym (ap (λ (disk : SureInMemory). reads disk.cells) c.self.view_is)
    ∙ firsts-zip d.held.items d.marks.items (omega (arith, d.held.ok.0, d.marks.ok.0, c.self.invariant)) in
    rw is (read_part d.held.items c.args.out.now c.copy_from_slice.new.self c.args.at c.min-n.result
    (omega arith) (omega arith) (search rules))
