use Rattle.vault_open.proofs.Words.{ℕ, List, take, ap, ◌∙◌, arith, take_at}
use Rattle.vault_open.proofs.Readings.{front_read}
use Rattle.vault_open.proofs.reading.read_disk.Goals as goal

pub returns-clause-bytes : goal.returns-clause-bytes
returns-clause-bytes g c = front_read (g.D.Disk.holds c.args.disk.now) (g.D.Disk.holds c.sync.new.self)
    (g.D.Disk.holds c.len.new.self) c.in_ok-len.len _ c.in_ok-count.count c.read_at.new.out
    c.truncate.new.self.items c.in_ok-sync.ensures.ok c.in_ok-len.ensures.same c.in_ok-len.ensures.len
    (omega arith) (c.deref_mut.ensures.len ∙ c.in_ok-bytes.ensures.len ∙ c.min.ensures)
    c.in_ok-count.ensures.bytes (c.truncate.ensures.items
    ∙ ap (λ (l : List ℕ). take c.in_ok-count.count l)
    (take_at c.read_at.new.out _ c.in_ok-bytes.bytes.len
    (omega (arith, c.read_at.auto.out, c.deref_mut.ensures.len))))
