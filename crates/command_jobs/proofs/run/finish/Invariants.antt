use Rattle.command_jobs.proofs.Words.{◌≡◌, ℕ, Option, is_some, Kind, State, devices_seen, left_of, Stands, IsStreamless, IsOnly, OnWay}
use Rattle.command_jobs.proofs.run.finish.Given as goal

abbrev pub invariant-loop-ended : goal.invariant-loop-ended
invariant-loop-ended g l = ((start w : State) (kind : Kind) (own : Option ℕ) (moment : ℕ)
    → IsOnly start kind own w
    → Stands l.initial.vault (devices_seen g.D.Disk g.P.Provider l.initial.disk l.initial.providers) w
    → OnWay start kind own w moment l.vault
    (devices_seen g.D.Disk g.P.Provider l.initial.disk l.initial.providers)
    (devices_seen g.D.Disk g.P.Provider l.disk l.providers))
    × IsStreamless l.vault × (is_some (g.D.Disk.holds l.disk) ≡ is_some (g.D.Disk.holds l.initial.disk))

abbrev pub decreases-loop-ended : goal.decreases-loop-ended
decreases-loop-ended g l = left_of l.vault l.number
