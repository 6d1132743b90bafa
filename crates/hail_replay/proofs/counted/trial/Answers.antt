use Rattle.hail_replay.proofs.Words.{List, inr, refl, sym, subst, Entry, trial_commands, devices_of, RunsTo}
use Rattle.hail_replay.proofs.Loops.{none-run}
use Rattle.hail_replay.proofs.counted.trial.Goals as goal

pub returns-in-Err-clause-runs : goal.returns-in-Err-clause-runs
returns-in-Err-clause-runs g c = λ start before told L. inr (
  refl,
  refl,
  subst (λ (es : List Entry). RunsTo start before (trial_commands c.args.number) es
      (devices_of g.D.Disk g.P.Provider c.args.disk.now c.args.providers.now)) (sym c.new-heard.ensures)
      (none-run _ _ start before L),
)
