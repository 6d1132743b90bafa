use Rattle.command_jobs.proofs.Words.{◌≡◌, ◌≤◌, length, take, is_some, devices_seen, left_of}
use Rattle.command_jobs.proofs.Feeding.{Waits}
use Rattle.command_jobs.proofs.stream.give_all.Given as goal

abbrev pub invariant-loop-length : goal.invariant-loop-length
invariant-loop-length g l = record {
  waits : Waits (take l.fn.first l.fn.stripe) (length l.fn.stripe) l.fn.vault
      (devices_seen g.D.Disk g.P.Provider l.fn.disk l.fn.providers) l.vault
      (devices_seen g.D.Disk g.P.Provider l.disk l.providers) l.stripe l.count l.length
      (g.S.Source.left l.fn.source) (g.S.Source.left l.source);
  tells : is_some (g.D.Disk.holds l.disk) ≡ is_some (g.D.Disk.holds l.fn.disk);
  faults : g.S.Source.faults l.fn.source ≤ g.S.Source.faults l.source;
  count : length l.providers ≡ length l.fn.providers;
}

abbrev pub decreases-loop-length : goal.decreases-loop-length
decreases-loop-length g l = left_of l.vault l.number
