use Rattle.hail_client.proofs.Words.{◌≡◌, map, None, Some, refl, ap, sym, subst, ◌∙◌, arith, ∥∥₁_map, Pack, provider_seen, IsBesideVault, StepsPackCells}
use Rattle.std.proofs.Common.{true}
use Rattle.vault_core.specs.Coming.{Coming}
use Rattle.vault.specs.Steps.{CallsNext}
use Rattle.record_codec.specs.declared.setup.Setup.{Setup}
use Rattle.hail_client.specs.declared.alone.Alone.TheVariants as alone
use Rattle.hail_client.specs.declared.turn.PackStep.TheVariants as pack_step
use Rattle.hail_client.proofs.Beside.{streamless-on, none-wait, free-works, beside-at, taken, number-taken}
use Rattle.hail_client.proofs.Made.{step-of, heard-of}
use Rattle.hail_client.proofs.Packed.{its-pack, pack-of, packs-on, packs-end, calls-pack}
use Rattle.hail_client.proofs.Scrubbed.{IsNext, going-at, there-at, next-at, beside-on, vault-coming, calls-scrub, has-next, goes-on, ends}
use Rattle.hail_client.proofs.client.Client.step.Given as given
use Rattle.hail_client.proofs.client.Client.step.Goals as goal

-- ---- a job of the vault

pub step-requires-clause-given : goal.step-requires-clause-given
step-requires-clause-given g c = none-wait c.in-Some.vault c.args.self.now.vault c.args.job c.in-Some.is
    (c.only_streams_wait.ensures c.in-Some.vault c.args.job) c.args.self.now.streamless

pub invariant_of-self-in_default-take : goal.invariant_of-self-in_default-take
invariant_of-self-in_default-take g c = record {
  at_work = free-works c.step.new.self c.take.new.self c.take.ensures.after;
  streamless = streamless-on c.in-Some.vault c.step.new.self c.args.self.now.vault c.in-Some.is
      c.step.ensures.leaves.streams c.args.self.now.streamless;
}

none-taken : (g : given.Over) (c : goal.After-providers-1 g) → c.args.self.now.alone ≡ None
none-taken g c = sym c.take.ensures.value ∙ c.in_default-take.is

pub returns-in_default-take-clause-machine : goal.returns-in_default-take-clause-machine
returns-in_default-take-clause-machine g c = step-of c.args.self.now _ c.in-Some.vault c.step.new.self
    c.args.job c.step.result _ _ c.in-Some.is (none-taken g c) refl c.take.ensures.after
    c.step.ensures.machine (let r = c.ranges.job.fits in omega (arith, r))

pub returns-in_default-take-clause-heard : goal.returns-in_default-take-clause-heard
returns-in_default-take-clause-heard g c = heard-of c.args.self.now c.args.self.now c.in-Some.vault
    c.step.new.self c.args.job c.step.result _ _ c.in-Some.is (none-taken g c) c.step.ensures.machine

pub returns-in_default-take-clause-calls : goal.returns-in_default-take-clause-calls
returns-in_default-take-clause-calls g c = subst (λ (coming : Coming). CallsNext g.D.Disk g.P.Provider coming
    c.args.disk.now c.args.providers.now c.step.new.disk c.step.new.providers)
    (sym (vault-coming c.args.self.now c.in-Some.vault c.args.job c.in-Some.is (none-taken g c)))
    c.step.ensures.calls

pub returns-in_default-take-clause-padded : goal.returns-in_default-take-clause-padded
returns-in_default-take-clause-padded g c = c.step.ensures.leaves.padded

-- ---- a scrub

-- it runs beside the vault
scrub-beside : (g : given.Over) (c : goal.After-step-arg-in-Scrub-2-1 g) →
    ∥ IsBesideVault c.in-Some.vault c.in-Scrub.running ∥₁
scrub-beside g c = beside-at c.args.self.now.vault c.args.self.now.alone c.in-Some.vault
    (alone.Scrub c.in-Scrub.running) c.in-Some.is
    (taken c.args.self.now.alone c.take.result c.in-Some-take.alone (alone.Scrub c.in-Scrub.running)
    c.take.ensures.value c.in-Some-take.is c.in-Scrub.is) c.args.self.now.at_work

pub step-requires-in-Scrub-clause-going : goal.step-requires-in-Scrub-clause-going
step-requires-in-Scrub-clause-going g c = going-at c.in-Some.vault c.in-Scrub.running (scrub-beside g c)

pub step-requires-in-Scrub-clause-there : goal.step-requires-in-Scrub-clause-there
step-requires-in-Scrub-clause-there g c = there-at c.args.self.now.vault c.in-Some.vault c.in-Scrub.running
    _ c.in-Some.is c.requires (scrub-beside g c)

pub invariant_of-self-in-More : goal.invariant_of-self-in-More
invariant_of-self-in-More g c = record {
  at_work = ∥∥₁_map (beside-at c.args.self.now.vault c.args.self.now.alone c.in-Some.vault
      (alone.Scrub c.in-Scrub.running) c.in-Some.is (taken c.args.self.now.alone c.take.result
      c.in-Some-take.alone (alone.Scrub c.in-Scrub.running) c.take.ensures.value c.in-Some-take.is
      c.in-Scrub.is) c.args.self.now.at_work) (beside-on c.in-Some.vault c.in-Scrub.running
      c.step-in-Scrub.new.self (map (provider_seen g.P.Provider) c.args.providers.now)
      (map (provider_seen g.P.Provider) c.step-in-Scrub.new.providers) c.in-More.ensures.over
      c.step-in-Scrub.ensures.providers (λ w m S. c.in-More.ensures.machine w m true S));
  streamless = streamless-on c.in-Some.vault c.in-Some.vault c.args.self.now.vault c.in-Some.is (λ x. x)
      c.args.self.now.streamless;
}

module _ (g : given.Over) (c : goal.Joined-self-4 g) where
  more-is : c.args.self.now.alone ≡ Some (alone.Scrub c.in-Scrub.running)
  more-is = taken c.args.self.now.alone c.take.result c.in-Some-take.alone (alone.Scrub c.in-Scrub.running)
      c.take.ensures.value c.in-Some-take.is c.in-Scrub.is

  more-number : c.in-Scrub.running.number ≡ c.args.job
  more-number = number-taken c.in-Some-take.alone (alone.Scrub c.in-Scrub.running) c.number.result c.args.job
      c.in-Scrub.is c.number.ensures c.if-number-job.false

  more-next : IsNext c.in-Scrub.running.scrub
  more-next = next-at c.in-Some.vault c.in-Scrub.running c.step-in-Scrub.new.self
      (map (provider_seen g.P.Provider) c.args.providers.now) (map (provider_seen g.P.Provider)
      c.step-in-Scrub.new.providers) _ (λ w m S. c.in-More.ensures.machine w m true S)
      (beside-at c.args.self.now.vault c.args.self.now.alone c.in-Some.vault (alone.Scrub c.in-Scrub.running)
      c.in-Some.is more-is c.args.self.now.at_work)

pub returns-in-More-clause-machine : goal.returns-in-More-clause-machine
returns-in-More-clause-machine g c = goes-on c.args.self.now c.in-Some.vault c.in-Scrub.running c.in-Some.is
    (more-is g c) (g.D.Disk.holds c.args.disk.now) (g.D.Disk.faults c.args.disk.now)
    (map (provider_seen g.P.Provider) c.args.providers.now) _
    (map (provider_seen g.P.Provider) c.step-in-Scrub.new.providers) c.args.job c.setup-n.result.n
    (let r = c.ranges.job.fits in omega (arith, r)) (more-number g c)
    (ap (λ (s : Setup). s.n) c.setup-n.ensures) c.step-in-Scrub.new.self refl refl
    (λ w m S. c.in-More.ensures.machine w m true S)

pub returns-in-More-clause-calls : goal.returns-in-More-clause-calls
returns-in-More-clause-calls g c =
    calls-scrub c.args.self.now c.in-Some.vault c.in-Scrub.running c.args.job c.in-Some.is (more-is g c)
    (more-number g c) (more-next g c) g.D.Disk g.P.Provider _ _ _ c.step-in-Scrub.ensures.calls

pub returns-in-More-clause-no_job : goal.returns-in-More-clause-no_job
returns-in-More-clause-no_job g c = λ e. has-next c.args.self.now c.in-Some.vault c.in-Scrub.running
    c.args.job c.in-Some.is (more-is g c) (more-number g c) (more-next g c) e

pub returns-in-More-clause-gone : goal.returns-in-More-clause-gone
returns-in-More-clause-gone g c = (
  λ e. absurd (let f = e in cc),
  λ e. has-next c.args.self.now c.in-Some.vault c.in-Scrub.running c.args.job c.in-Some.is (more-is g c)
      (more-number g c) (more-next g c) e,
)

pub invariant_of-self-in-Done : goal.invariant_of-self-in-Done
invariant_of-self-in-Done g c = record {
  at_work = free-works c.release.new.self c.take.new.self c.take.ensures.after;
  streamless = streamless-on c.in-Some.vault c.release.new.self c.args.self.now.vault c.in-Some.is
      c.release.ensures.streams c.args.self.now.streamless;
}

module _ (g : given.Over) (c : goal.After-drop-running-in-Done-8 g) where
  done-is : c.args.self.now.alone ≡ Some (alone.Scrub c.in-Scrub.running)
  done-is = taken c.args.self.now.alone c.take.result c.in-Some-take.alone (alone.Scrub c.in-Scrub.running)
      c.take.ensures.value c.in-Some-take.is c.in-Scrub.is

  done-number : c.in-Scrub.running.number ≡ c.args.job
  done-number = number-taken c.in-Some-take.alone (alone.Scrub c.in-Scrub.running) c.number.result c.args.job
      c.in-Scrub.is c.number.ensures c.if-number-job.false

  done-next : IsNext c.in-Scrub.running.scrub
  done-next = next-at c.in-Some.vault c.in-Scrub.running c.step-in-Scrub.new.self
      (map (provider_seen g.P.Provider) c.args.providers.now) (map (provider_seen g.P.Provider)
      c.step-in-Scrub.new.providers) _ (λ w m S. c.in-Done.ensures.machine w m true S)
      (beside-at c.args.self.now.vault c.args.self.now.alone c.in-Some.vault (alone.Scrub c.in-Scrub.running)
      c.in-Some.is done-is c.args.self.now.at_work)

pub returns-in-Done-clause-machine : goal.returns-in-Done-clause-machine
returns-in-Done-clause-machine g c = ends c.args.self.now c.in-Some.vault c.in-Scrub.running c.in-Some.is
    (done-is g c) (g.D.Disk.holds c.args.disk.now) (g.D.Disk.faults c.args.disk.now)
    (map (provider_seen g.P.Provider) c.args.providers.now) _ c.release.new.self
    (map (provider_seen g.P.Provider) c.step-in-Scrub.new.providers) c.args.job c.setup-n.result.n
    (let r = c.ranges.job.fits in omega (arith, r)) (done-number g c)
    (ap (λ (s : Setup). s.n) c.setup-n.ensures) c.step-in-Scrub.new.self c.in-Done.answer refl
    c.take.ensures.after (λ u d k h. c.release.ensures.free u d k h)
    (λ w m S. c.in-Done.ensures.machine w m true S)

pub returns-in-Done-clause-calls : goal.returns-in-Done-clause-calls
returns-in-Done-clause-calls g c =
    calls-scrub c.args.self.now c.in-Some.vault c.in-Scrub.running c.args.job c.in-Some.is (done-is g c)
    (done-number g c) (done-next g c) g.D.Disk g.P.Provider _ _ _ c.step-in-Scrub.ensures.calls

pub returns-in-Done-clause-no_job : goal.returns-in-Done-clause-no_job
returns-in-Done-clause-no_job g c = λ e. has-next c.args.self.now c.in-Some.vault c.in-Scrub.running
    c.args.job c.in-Some.is (done-is g c) (done-number g c) (done-next g c) e

pub returns-in-Done-clause-gone : goal.returns-in-Done-clause-gone
returns-in-Done-clause-gone g c = (
  λ e. absurd (let f = e in cc),
  λ e. has-next c.args.self.now c.in-Some.vault c.in-Scrub.running c.args.job c.in-Some.is (done-is g c)
      (done-number g c) (done-next g c) e,
)

-- ---- a pack

pub step_pack-requires : goal.step_pack-requires
step_pack-requires g c = pack-of c.in-Some.vault c.in-Pack.running
    (beside-at c.args.self.now.vault c.args.self.now.alone c.in-Some.vault (alone.Pack c.in-Pack.running)
    c.in-Some.is
    (taken c.args.self.now.alone c.take.result c.in-Some-take.alone (alone.Pack c.in-Pack.running)
    c.take.ensures.value c.in-Some-take.is c.in-Pack.is) c.args.self.now.at_work)

pub invariant_of-self-in-Done-step_pack : goal.invariant_of-self-in-Done-step_pack
invariant_of-self-in-Done-step_pack g c = record {
  at_work = free-works c.step_pack.new.self c.take.new.self c.take.ensures.after;
  streamless = streamless-on c.in-Some.vault c.step_pack.new.self c.args.self.now.vault c.in-Some.is
      c.step_pack.ensures.leaves.streams c.args.self.now.streamless;
}

pub returns-in-More-step_pack-clause-machine : goal.returns-in-More-step_pack-clause-machine
returns-in-More-step_pack-clause-machine g c = packs-on c.args.self.now c.in-Some.vault c.in-Pack.running
    c.args.job c.in-Some.is (taken c.args.self.now.alone c.take.result c.in-Some-take.alone
    (alone.Pack c.in-Pack.running) c.take.ensures.value c.in-Some-take.is c.in-Pack.is)
    (number-taken c.in-Some-take.alone (alone.Pack c.in-Pack.running) c.number.result c.args.job c.in-Pack.is
    c.number.ensures c.if-number-job.false) (g.D.Disk.holds c.args.disk.now)
    (g.D.Disk.holds c.step_pack.new.disk) (g.D.Disk.faults c.args.disk.now)
    (g.D.Disk.faults c.step_pack.new.disk) (map (provider_seen g.P.Provider) c.args.providers.now)
    (let r = c.ranges.job.fits in omega (arith, r)) _ c.step_pack.new.self refl c.in-More-step_pack.next refl
    (λ w S. c.in-More-step_pack.ensures.machine w _ true S)

pub returns-in-Done-step_pack-clause-machine : goal.returns-in-Done-step_pack-clause-machine
returns-in-Done-step_pack-clause-machine g c = packs-end c.args.self.now c.in-Some.vault c.in-Pack.running
    c.args.job c.in-Some.is (taken c.args.self.now.alone c.take.result c.in-Some-take.alone
    (alone.Pack c.in-Pack.running) c.take.ensures.value c.in-Some-take.is c.in-Pack.is)
    (number-taken c.in-Some-take.alone (alone.Pack c.in-Pack.running) c.number.result c.args.job c.in-Pack.is
    c.number.ensures c.if-number-job.false) (g.D.Disk.holds c.args.disk.now)
    (g.D.Disk.holds c.step_pack.new.disk) (g.D.Disk.faults c.args.disk.now)
    (g.D.Disk.faults c.step_pack.new.disk) (map (provider_seen g.P.Provider) c.args.providers.now)
    (let r = c.ranges.job.fits in omega (arith, r)) _ c.step_pack.new.self refl c.in-Done-step_pack.answer
    c.take.ensures.after (λ w S. c.in-Done-step_pack.ensures.machine w _ true S)

pub returns-in-More-step_pack-clause-packs : goal.returns-in-More-step_pack-clause-packs
returns-in-More-step_pack-clause-packs g c = λ p is. subst (λ (q : Pack). StepsPackCells q pack_step.More
    (g.D.Disk.holds c.args.disk.now) (g.D.Disk.holds c.step_pack.new.disk))
    (its-pack c.args.self.now.alone c.in-Pack.running p (taken c.args.self.now.alone c.take.result
    c.in-Some-take.alone (alone.Pack c.in-Pack.running) c.take.ensures.value c.in-Some-take.is c.in-Pack.is)
    is) c.in-More-step_pack.ensures.moves

pub returns-in-Done-step_pack-clause-packs : goal.returns-in-Done-step_pack-clause-packs
returns-in-Done-step_pack-clause-packs g c = λ p is. subst (λ (q : Pack). StepsPackCells q
    (pack_step.Done c.in-Done-step_pack.answer) (g.D.Disk.holds c.args.disk.now)
    (g.D.Disk.holds c.step_pack.new.disk)) (its-pack c.args.self.now.alone c.in-Pack.running p
    (taken c.args.self.now.alone c.take.result c.in-Some-take.alone (alone.Pack c.in-Pack.running)
    c.take.ensures.value c.in-Some-take.is c.in-Pack.is) is) c.in-Done-step_pack.ensures.moves

pub returns-in-More-step_pack-clause-calls : goal.returns-in-More-step_pack-clause-calls
returns-in-More-step_pack-clause-calls g c = calls-pack c.args.self.now c.in-Some.vault c.in-Pack.running
    c.args.job c.in-Some.is (taken c.args.self.now.alone c.take.result c.in-Some-take.alone
    (alone.Pack c.in-Pack.running) c.take.ensures.value c.in-Some-take.is c.in-Pack.is)
    (number-taken c.in-Some-take.alone (alone.Pack c.in-Pack.running) c.number.result c.args.job c.in-Pack.is
    c.number.ensures c.if-number-job.false) g.D.Disk g.P.Provider _ _ _ _ c.step_pack.ensures.calls

pub returns-in-Done-step_pack-clause-calls : goal.returns-in-Done-step_pack-clause-calls
returns-in-Done-step_pack-clause-calls g c = calls-pack c.args.self.now c.in-Some.vault c.in-Pack.running
    c.args.job c.in-Some.is (taken c.args.self.now.alone c.take.result c.in-Some-take.alone
    (alone.Pack c.in-Pack.running) c.take.ensures.value c.in-Some-take.is c.in-Pack.is)
    (number-taken c.in-Some-take.alone (alone.Pack c.in-Pack.running) c.number.result c.args.job c.in-Pack.is
    c.number.ensures c.if-number-job.false) g.D.Disk g.P.Provider _ _ _ _ c.step_pack.ensures.calls
