use Rattle.vault.proofs.Words.{true, false, arith, map, [], ◌∷◌, ◌++◌, sym, ap, subst, ◌∙◌, length-map, refl, spelling, Coming, calls_disk, called_provider, moves_before_next, MovesCells, sight, IsNoAction}
use Rattle.vault.specs.Seen.{closed_gate_of}
use Rattle.vault.specs.Steps.{CallsNext}
use Rattle.vault.specs.declared.turn.Turn.TheVariants as turn
use Rattle.vault.proofs.AtWork.{works_on, providers_fit}
use Rattle.vault.proofs.Free.{step_made}
use Rattle.vault.proofs.Called.{calls-none, calls-nothing, acts-none, idle-leaves, unchanged}
use Rattle.vault.proofs.Idle.{step-waits, step-unknown, step-barred}
use Rattle.vault.proofs.vault.Vault.step.Goals as goal

pub invariant_of-self : goal.invariant_of-self
invariant_of-self g c =
    let seen = sight false g.P.Provider in
    record {
      at_work = works_on c.args.self.now.desk c.act.new.self (g.D.Disk.faults c.args.disk.now)
          (g.D.Disk.faults c.act.new.disk) c.args.job (map seen c.args.providers.now)
          (map seen c.act.new.providers) c.act.result
          (omega (arith, c.requires.handed, length-map c.args.providers.now seen)) c.act.ensures.acted.streams
          (λ w stands. c.act.ensures.machine w 0 false stands) c.args.self.now.at_work;
    }

pub next-requires : goal.next-requires
next-requires g c = c.requires.given

-- ---- an action

pub act-requires-clause-next : goal.act-requires-clause-next
act-requires-clause-next g c = record {
  wants = c.requires.given;
  value = sym c.in-Act.ensures.value;
  machine = c.in-Act.ensures.machine;
}

pub act-requires-clause-there : goal.act-requires-clause-there
act-requires-clause-there g c = λ j called. omega (
  arith,
  c.requires.handed,
  c.in-Act.ensures.within j (ap called_provider (sym c.in-Act.ensures.value) ∙ called),
  providers_fit c.args.self.now.desk c.args.self.now.at_work,
)

pub act-requires-clause-at_work : goal.act-requires-clause-at_work
act-requires-clause-at_work g c = c.args.self.now.at_work

pub returns-in-Act : goal.returns-in-Act
returns-in-Act g c = record {
  machine = λ w moment stands. step_made w moment c.args.job c.act.result _ _ _ stands.free
      (c.act.ensures.machine w moment true stands.desk);
  calls = subst (λ (x : Coming). CallsNext g.D.Disk g.P.Provider x c.args.disk.now c.args.providers.now
      c.act.new.disk c.act.new.providers) c.in-Act.ensures.value c.act.ensures.calls;
  moves = λ w entry stands given calls. subst (λ (x : Coming). MovesCells (moves_before_next x)
      (closed_gate_of c.args.self.now) (spelling entry ++ 0 ∷ []) c.act.result
      (g.D.Disk.holds c.args.disk.now) (g.D.Disk.holds c.act.new.disk)) c.in-Act.ensures.value
      (c.act.ensures.moves w entry stands.desk given (ap calls_disk c.in-Act.ensures.value ∙ calls));
  left = c.act.ensures.acted.left;
  no_job = (
    λ is. absurd (c.act.ensures.acted.acted (subst IsNoAction (sym is) tt)),
    λ none. absurd (acts-none _ (c.in-Act.ensures.value ∙ none)),
  );
  waits = λ none. absurd (c.act.ensures.acted.acted none);
  leaves = record {
    padded = c.act.ensures.acted.padded;
    held = refl;
    streams = c.act.ensures.acted.streams.none;
    told = λ number j is. c.act.ensures.acted.streams.told number j is;
  };
}

-- ---- no action

pub returns-in-Waiting : goal.returns-in-Waiting
returns-in-Waiting g c = record {
  machine = λ w moment stands. step_made w moment c.args.job _ c.args.self.now _ _ stands.free
      (step-waits c.args.self.now.desk w _ moment c.args.job stands.desk _
      (c.in-Waiting.ensures.machine w stands.desk.core));
  calls = calls-nothing g.D.Disk g.P.Provider _ _ _ _ c.in-Waiting.ensures.value refl refl;
  moves = λ w entry stands given calls. calls-none _ _ c.in-Waiting.ensures.value refl calls;
  waits = λ none. (unchanged c.args.self.now, refl, refl);
  left = λ more. absurd (let f = more in cc);
  no_job = (λ e. absurd (let f = e in cc), λ none. absurd (let f = c.in-Waiting.ensures.value ∙ none in cc));
  leaves = idle-leaves c.args.self.now (turn.Waiting c.in-Waiting.holder) tt;
}

pub returns-in-NoSuchJob : goal.returns-in-NoSuchJob
returns-in-NoSuchJob g c = record {
  machine = λ w moment stands. step_made w moment c.args.job _ c.args.self.now _ _ stands.free
      (step-unknown c.args.self.now.desk w _ moment c.args.job stands.desk
      (c.in-NoSuchJob.ensures.machine w stands.desk.core));
  calls = calls-nothing g.D.Disk g.P.Provider _ _ _ _ c.in-NoSuchJob.ensures.value refl refl;
  moves = λ w entry stands given calls. calls-none _ _ c.in-NoSuchJob.ensures.value refl calls;
  waits = λ none. (unchanged c.args.self.now, refl, refl);
  left = λ more. absurd (let f = more in cc);
  no_job = (λ e. sym c.in-NoSuchJob.ensures.value, λ none. refl);
  leaves = idle-leaves c.args.self.now turn.NoSuchJob tt;
}

pub returns-in-MustReopen : goal.returns-in-MustReopen
returns-in-MustReopen g c = record {
  machine = λ w moment stands. step_made w moment c.args.job _ c.args.self.now _ _ stands.free
      (step-barred c.args.self.now.desk w _ moment c.args.job stands.desk
      (c.in-MustReopen.ensures.machine w stands.desk.core));
  calls = calls-nothing g.D.Disk g.P.Provider _ _ _ _ c.in-MustReopen.ensures.value refl refl;
  moves = λ w entry stands given calls. calls-none _ _ c.in-MustReopen.ensures.value refl calls;
  waits = λ none. (unchanged c.args.self.now, refl, refl);
  left = λ more. absurd (let f = more in cc);
  no_job = (λ e. absurd (let f = e in cc), λ none. absurd (let f = c.in-MustReopen.ensures.value ∙ none in cc));
  leaves = idle-leaves c.args.self.now turn.MustReopen tt;
}
