use Rattle.command_jobs.proofs.Words.{◌≡◌, ◌+◌, ◌-◌, ◌≤◌, ℕ, List, length, Option, is_some, IfSome, option_map, Cells, synced, Provider, Goes, to_of, text_of, moves_of, State, IsPackOf, StandsPacking, devices}
use Rattle.command_jobs.proofs.PackCells.{OnDisk}
use Rattle.command_jobs.proofs.Packing.{OnPack}
use Rattle.command_jobs.proofs.pack.run_pack.Given as goal

abbrev pub invariant-loop-next : goal.invariant-loop-next
invariant-loop-next g l = record {
  is_of : IsPackOf l.vault l.job;
  number : l.job.number ≡ l.initial.job.number;
  to : to_of l.job.pack ≡ to_of l.initial.job.pack;
  text : text_of l.job.pack ≡ text_of l.initial.job.pack;
  cells : (told : Option Cells) → g.D.Disk.holds l.initial.disk ≡ option_map synced told
      → IfSome (g.D.Disk.holds l.initial.disk) (λ cells. 8 ≤ length cells) → 8 ≤ to_of l.initial.job.pack
      → Goes (OnDisk (moves_of l.job.pack) (to_of l.initial.job.pack)
      (to_of l.initial.job.pack + length (text_of l.initial.job.pack))) told (g.D.Disk.holds l.disk);
  way : (w : State) (moment : ℕ) (providers : List Provider)
      → StandsPacking l.initial.vault l.initial.job
      (devices (g.D.Disk.holds l.initial.disk) (g.D.Disk.faults l.initial.disk) providers) w
      → OnPack w l.initial.job.number moment l.vault l.job
      (devices (g.D.Disk.holds l.disk) (g.D.Disk.faults l.disk) providers);
  tells : is_some (g.D.Disk.holds l.disk) ≡ is_some (g.D.Disk.holds l.initial.disk);
  faults : g.D.Disk.faults l.initial.disk ≤ g.D.Disk.faults l.disk;
}

abbrev pub decreases-loop-next : goal.decreases-loop-next
decreases-loop-next g l = 5 - moves_of l.job.pack
