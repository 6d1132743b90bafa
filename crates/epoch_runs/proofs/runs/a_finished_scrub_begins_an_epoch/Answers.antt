use Rattle.std.proofs.Common.{◌++◌, List, ◌≤◌, length, ap, subst, refl}
use Rattle.machine_defs.specs.Damaged.{DamagesOnly}
use Rattle.machine_defs.specs.Examples.{set_up}
use Rattle.machine_defs.specs.Runs.{Moment, IsRun, now}
use Rattle.machine_defs.specs.States.{setup_in}
use Rattle.damage_run.proofs.CalmRun.{tell}
use Rattle.damage_run.proofs.Run.{starts}
use Rattle.epoch_runs.specs.Swept.{altered, robbed}
use Rattle.epoch_runs.proofs.Swept.{older, recent, later, recent-is, is-swept, run, run_swept, only, few, few_lost, since}
use Rattle.epoch_runs.proofs.runs.a_finished_scrub_begins_an_epoch.Goals as goal

pub returns : goal.returns
returns c = (let laws = c.scrubs_begin_epochs.ensures in
    let split = ap (λ (l : List Moment). later ++ l) recent-is in
    let run_all = subst (IsRun 8 set_up) split run in
    let run_old = subst (IsRun 8 set_up) recent-is run_swept in
    let only_old = subst (DamagesOnly altered) recent-is only in
    let few_old = subst (λ l. length altered ≤ (setup_in (now set_up l)).b) recent-is few in
    let few_all = subst (λ l. length robbed ≤ (setup_in (now set_up l)).b) split few_lost in
    let calm_old = laws.first 8 set_up (recent ++ older) altered starts run_old only_old few_old in
    let calm = laws.calm 8 set_up later recent older robbed starts run_all calm_old is-swept since few_all in (
      later ++ (recent ++ older),
      record {
        clean = (starts, tell);
        run = run_all;
        later = later;
        recent = recent;
        older = older;
        split = refl;
        swept = is-swept;
        before = (only_old, few_old);
        since = (since, few_all);
        mark = laws.mark 8 set_up older (recent ++ older) starts run_old is-swept;
        calm = calm;
        exact = laws.exact 8 set_up later recent older robbed starts tell run_all calm is-swept since;
      },
    ))
