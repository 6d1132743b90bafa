use Rattle.command_jobs.proofs.Words.{◌≡◌, ◌≤◌, ℕ, length, Option, None, is_some, Kind, State, devices_seen, left_of, wants_of, told_of, Devices, OnWay}
use Rattle.command_jobs.proofs.Advancing.{StillBehind}
use Rattle.command_jobs.proofs.stream.advance.Given as goal

abbrev pub invariant-loop-vault : goal.invariant-loop-vault
invariant-loop-vault g l = record {
  went : (start w : State) (kind : Kind) (own : Option ℕ) (moment : ℕ) (d : Devices)
      → (way : OnWay start kind own w moment l.initial.vault d
      (devices_seen g.D.Disk g.P.Provider l.initial.disk l.initial.providers))
      → StillBehind start kind own w moment (told_of l.initial.vault l.number) way.only.job.place l.vault d
      (devices_seen g.D.Disk g.P.Provider l.disk l.providers);
  given : wants_of l.vault l.number ≡ None;
  told : told_of l.vault l.number ≡ told_of l.initial.vault l.number;
  tells : is_some (g.D.Disk.holds l.disk) ≡ is_some (g.D.Disk.holds l.initial.disk);
  left : left_of l.vault l.number ≤ left_of l.initial.vault l.number;
  count : length l.providers ≡ length l.initial.providers;
}

abbrev pub decreases-loop-vault : goal.decreases-loop-vault
decreases-loop-vault g l = left_of l.vault l.number
