use Rattle.hail_replay.proofs.Words.{Some, map, refl, ap₂, arith, IsSome, length-map, HasPlace, with_symbol, without_block, Init, Alter, Lose, Stop, Reopen, GetJob, DropJob, AuditJob, RepairJob, UpgradeJob, devices, replace_outcome}
use Rattle.record_codec.specs.Entries.{with_master}
use Rattle.provider_model.specs.Seen.{provider_seen}
use Rattle.hail_replay.specs.declared.came.Came.TheVariants as came
use Rattle.hail_replay.proofs.Same.{replaces_if}
use Rattle.hail_replay.proofs.Arms.{enough, init-kept, reopen-kept, stop-kept}
use Rattle.hail_replay.proofs.Behind.{once}
use Rattle.hail_replay.proofs.Performing.{performed-as, begun, scrub-begun, pack-begun, put-begun, stepped, replaced, listed}
use Rattle.hail_replay.proofs.event.perform.Goals as goal

pub returns-in-Init : goal.returns-in-Init
returns-in-Init g c =
    let ps = map (provider_seen g.P.Provider) c.args.providers.now in
    record {
      performed = performed-as _ _ _ _ _ _ _ c.in-Init.is (record {
        machine = λ start ms told R. once (Init (with_master c.in-Init.setup c.in-Init.master.0))
            (Some (came.Inited c.init.result)) _ _ _ _
            (λ w moment T. c.init.ensures.machine w ps moment told T) (λ w es T. refl) start ms R;
        kept = init-kept _ _ _ _ _ ps c.init.ensures.called.tells c.init.ensures.called.cause.never_falls
            (c.init.ensures.standing ps) c.requires.standing;
      });
    }

pub returns-in-Reopen : goal.returns-in-Reopen
returns-in-Reopen g c =
    let see = provider_seen g.P.Provider in
    let ps = map see c.args.providers.now in
    let count = length-map c.args.providers.now see in
    record {
      performed = performed-as _ _ _ _ _ _ _ c.in-Reopen.is (record {
        machine = λ start ms told R. once Reopen (Some (came.Reopened c.reopen.result)) _ _ _ _
            (λ w moment T. c.reopen.ensures.machine w ps moment told count T) (λ w es T. refl) start ms R;
        kept = reopen-kept _ _ _ _ _ _ ps _ c.reopen.result
            c.reopen.ensures.start.disk.called.tells c.reopen.ensures.start.disk.called.cause.never_falls count
            c.reopen.ensures.reopened.opens c.reopen.ensures.reopened.next_job c.reopen.ensures.opened;
      });
    }

pub returns-in-BeginPut : goal.returns-in-BeginPut
returns-in-BeginPut g c =
    record {
      performed = performed-as _ _ _ _ _ _ _ c.in-BeginPut.is
          (put-begun _ _ _ c.in-BeginPut.name c.in-BeginPut.bytes c.in-BeginPut.profile c.begin_put.result
          c.requires.standing (rw c.as_slice.ensures at c.begin_put.ensures.machine));
    }

pub returns-in-BeginGet : goal.returns-in-BeginGet
returns-in-BeginGet g c =
    record {
      performed = performed-as _ _ _ _ _ _ _ c.in-BeginGet.is
          (begun _ _ _ (GetJob c.in-BeginGet.name) c.begin_get.result c.requires.standing
          (rw c.as_slice-in-BeginGet.ensures at c.begin_get.ensures.machine));
    }

pub returns-in-BeginDrop : goal.returns-in-BeginDrop
returns-in-BeginDrop g c =
    record {
      performed = performed-as _ _ _ _ _ _ _ c.in-BeginDrop.is
          (begun _ _ _ (DropJob c.in-BeginDrop.name) c.begin_drop.result c.requires.standing
          (rw c.as_slice-in-BeginDrop.ensures at c.begin_drop.ensures.machine));
    }

pub returns-in-BeginAudit : goal.returns-in-BeginAudit
returns-in-BeginAudit g c =
    record {
      performed = performed-as _ _ _ _ _ _ _ c.in-BeginAudit.is
          (begun _ _ _ AuditJob c.begin_audit.result c.requires.standing c.begin_audit.ensures.machine);
    }

pub returns-in-BeginRepair : goal.returns-in-BeginRepair
returns-in-BeginRepair g c =
    record {
      performed = performed-as _ _ _ _ _ _ _ c.in-BeginRepair.is
          (begun _ _ _ RepairJob c.begin_repair.result c.requires.standing c.begin_repair.ensures.machine);
    }

pub returns-in-BeginUpgrade : goal.returns-in-BeginUpgrade
returns-in-BeginUpgrade g c =
    record {
      performed = performed-as _ _ _ _ _ _ _ c.in-BeginUpgrade.is
          (begun _ _ _ UpgradeJob c.begin_upgrade.result c.requires.standing c.begin_upgrade.ensures.machine);
    }

pub returns-in-BeginScrub : goal.returns-in-BeginScrub
returns-in-BeginScrub g c =
    record {
      performed = performed-as _ _ _ _ _ _ _ c.in-BeginScrub.is
          (scrub-begun _ _ _ c.begin_scrub.result c.requires.standing c.begin_scrub.ensures.machine);
    }

pub returns-in-BeginPack : goal.returns-in-BeginPack
returns-in-BeginPack g c =
    record {
      performed = performed-as _ _ _ _ _ _ _ c.in-BeginPack.is
          (pack-begun _ _ _ c.begin_pack.result c.requires.standing c.begin_pack.ensures.machine);
    }

pub step-requires : goal.step-requires
step-requires g c =
    let see = provider_seen g.P.Provider in
    let most = enough c.args.client.now
    (devices (g.D.Disk.holds c.args.disk.now) (g.D.Disk.faults c.args.disk.now)
    (map see c.args.providers.now)) c.requires.standing in
    let count = length-map c.args.providers.now see in
    omega (arith, most, count)

pub returns-in-Step : goal.returns-in-Step
returns-in-Step g c =
    let see = provider_seen g.P.Provider in
    record {
      performed = performed-as _ _ _ _ _ _ _ c.in-Step.is
          (stepped c.in-Step.job _ _ _ _ c.step.result c.requires.standing c.step.ensures.calls.tells
          (λ w moment T. (c.step.ensures.machine w moment T).makes) c.step.ensures.heard
          (λ none. (let n = c.step.ensures.no_job none in (
            n.0,
            ap₂ (λ disk ps. devices (g.D.Disk.holds disk) (g.D.Disk.faults disk) (map see ps)) n.1 n.2,
          ))));
    }

pub returns-in-Run : goal.returns-in-Run
returns-in-Run g c = record { performed = performed-as _ _ _ _ _ _ _ c.in-Run.is c.run_job.ensures.performed }

pub returns-in-Alter : goal.returns-in-Alter
returns-in-Alter g c =
    record {
      performed = performed-as _ _ _ _ _ _ _ c.in-Alter.is (replaced
          (Alter c.in-Alter.provider c.in-Alter.object c.in-Alter.stripe c.in-Alter.place c.in-Alter.symbol) _
          _ _ _ _ c.alter.result (λ w u h. replaces_if w _ c.in-Alter.provider
          (λ held. HasPlace (held c.in-Alter.object c.in-Alter.stripe) c.in-Alter.place)
          (with_symbol c.in-Alter.object c.in-Alter.stripe c.in-Alter.place c.in-Alter.symbol)
          (replace_outcome c.alter.result) u h) (λ w es. refl) c.alter.ensures.machine c.requires.standing);
    }

pub returns-in-Lose : goal.returns-in-Lose
returns-in-Lose g c =
    record {
      performed = performed-as _ _ _ _ _ _ _ c.in-Lose.is (replaced (Lose c.in-Lose.provider c.in-Lose.object
          c.in-Lose.stripe) _ _ _ _ _ c.lose.result (λ w u h. replaces_if w _ c.in-Lose.provider
          (λ held. IsSome (held c.in-Lose.object c.in-Lose.stripe))
          (without_block c.in-Lose.object c.in-Lose.stripe) (replace_outcome c.lose.result) u h)
          (λ w es. refl) c.lose.ensures.machine c.requires.standing);
    }

pub returns-in-Stop : goal.returns-in-Stop
returns-in-Stop g c =
    let ps = map (provider_seen g.P.Provider) c.args.providers.now in
    record {
      performed = performed-as _ _ _ _ _ _ _ c.in-Stop.is (record {
        machine = λ start ms told R. once (Stop c.in-Stop.picks) (Some came.Stopped) _ _ _ _
            (λ w moment T. (rw c.as_slice-in-Stop.ensures at c.stop.ensures.machine) w ps moment T)
            (λ w es T. refl) start ms R;
        kept = stop-kept _ _ _ _ _ _ ps c.stop.ensures.tells
            (let n = c.stop.ensures.count in omega (arith, n)) c.stop.ensures.closed c.stop.ensures.next_job;
      });
    }

pub returns-in-List : goal.returns-in-List
returns-in-List g c =
    record { performed = performed-as _ _ _ _ _ _ _ c.in-List.is (listed _ _ c.requires.standing) }
