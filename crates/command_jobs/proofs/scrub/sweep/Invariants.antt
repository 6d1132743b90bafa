use Rattle.command_jobs.proofs.Words.{◌≡◌, ◌<◌, ◌≤◌, ℕ, [], true, false, length, map, State, MachineScrub, ScrubStands, scrub_left, provider_seen}
use Rattle.command_jobs.proofs.Sweeps.{OnSweep}
use Rattle.command_jobs.proofs.scrub.sweep.Given as goal

abbrev pub invariant-loop-answer : goal.invariant-loop-answer
invariant-loop-answer g l = (0 < scrub_left l.scrub) × (l.scrub.providers ≤ length l.providers) ×
    ((w : State) (m : MachineScrub) (moment : ℕ) → w.is_open ≡ true → w.is_barred ≡ false → w.jobs ≡ [] →
    ScrubStands l.initial.scrub (map (provider_seen g.P.Provider) l.initial.providers) w m →
    OnSweep w m moment l.scrub (map (provider_seen g.P.Provider) l.providers))

abbrev pub decreases-loop-answer : goal.decreases-loop-answer
decreases-loop-answer g l = scrub_left l.scrub
