use Rattle.hail_client.proofs.Words.{◌≡◌, List, is_some, Moment, State, devices_seen, is_open, client_left, IsStanding, IsReached}
use Rattle.std.proofs.Common.{true, length}
use Rattle.hail_client.proofs.Runs.{IsOnWay}
use Rattle.hail_client.proofs.client.Client.run.Given as goal

abbrev pub invariant-loop-turn : goal.invariant-loop-turn
invariant-loop-turn g l = ((start : State) (ms : List Moment) → IsReached start ms l.initial.self
    (devices_seen g.D.Disk g.P.Provider l.initial.disk l.initial.providers) →
    IsOnWay start ms l.job l.self (devices_seen g.D.Disk g.P.Provider l.disk l.providers)) ×
    (is_open l.self ≡ true → IsStanding l.self (devices_seen g.D.Disk g.P.Provider l.disk l.providers)) ×
    (length l.providers ≡ length l.initial.providers) × (is_some (g.D.Disk.holds l.disk) ≡ is_some
    (g.D.Disk.holds l.initial.disk))

abbrev pub decreases-loop-turn : goal.decreases-loop-turn
decreases-loop-turn g l = client_left l.self l.job
