use Rattle.vault.proofs.Words.{◌≡◌, ℕ, refl, Result, Ok, Err, OnErr, BeginFault, IsSameDesk}
use Rattle.machine_defs.specs.Jobs.{PutJob}
use Rattle.vault.proofs.Free.{not_free, begin_made}
use Rattle.vault.proofs.Streams.{stream_works}
use Rattle.vault.proofs.vault.Vault.begin_stream.Goals as goal

-- what holds on an Err holds on it with what holds anyway
on_err_with : (r : Result ℕ BeginFault) (A B : Type 0) → OnErr r A → B → OnErr r (A × B)
on_err_with (Ok job) A B a b = tt
on_err_with (Err why) A B a b = (a, b)

pub returns-in_err-unheld-clause-machine : goal.returns-in_err-unheld-clause-machine
returns-in_err-unheld-clause-machine c = λ w d moment bytes stands are few.
    absurd (not_free c.args.self.now.held c.in_err-unheld.ensures.held stands.free)

pub returns-clause-machine : goal.returns-clause-machine
returns-clause-machine c = λ w d moment bytes stands are few.
    begin_made w moment (PutJob c.args.name.now bytes) c.args.profile _ _ d stands.free
    (c.begin_stream.ensures.machine w d moment bytes stands.desk are few)

pub invariant_of-self : goal.invariant_of-self
invariant_of-self c =
    record {
      at_work = stream_works c.args.self.now.desk c.begin_stream.new.self c.args.name.now c.args.profile
          c.begin_stream.result c.begin_stream.ensures.opens c.begin_stream.ensures.machine
          c.args.self.now.at_work;
    }

pub returns-clause-open : goal.returns-clause-open
returns-clause-open c = c.begin_stream.ensures.opens.opened

pub returns-clause-unchanged : goal.returns-clause-unchanged
returns-clause-unchanged c = on_err_with c.begin_stream.result
    (IsSameDesk c.args.self.now.desk c.begin_stream.new.self) (c.args.self.now.held ≡ c.args.self.now.held)
    c.begin_stream.ensures.opens.unchanged refl
