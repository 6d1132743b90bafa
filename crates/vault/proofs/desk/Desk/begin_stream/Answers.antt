use Rattle.vault.proofs.Words.{refl, Err, ◌∷◌, ◌∙◌, sym, subst, AreBytes, PutJob, BeginFault, err-is, DeskMakesBegin}
use Rattle.vault_core.specs.declared.wish.BeginFault.TheVariants as fault
use Rattle.vault.proofs.Begun.{aims-counted, memory-alone, turned_down, found_none}
use Rattle.vault.proofs.Puts.{name_cause, causes_of_put, bad-profile}
use Rattle.vault.proofs.Streams.{stream-task, opens_none, unchanged_desk}
use Rattle.vault.proofs.desk.Desk.begin_stream.Goals as goal

pub returns-in_err-name-clause-machine : goal.returns-in_err-name-clause-machine
returns-in_err-name-clause-machine c = λ w d moment bytes stands are few.
    let v = c.args.self.now in
    let name = c.args.name.now in
    let kind = PutJob name bytes in
    let why = c.in_err-name.field-0.0 in
    let causes = causes_of_put w name bytes c.args.profile in
    (rw (← (err-is c.from_residual.result why c.from_residual.ensures.1)) at
    (turned_down v v d w moment kind c.args.profile stands why
    (aims-counted w (name_cause name ∷ causes) ∙ c.in_err-name.ensures.refused w causes stands.core)))

pub returns-then-is_unknown-clause-machine : goal.returns-then-is_unknown-clause-machine
returns-then-is_unknown-clause-machine c = λ w d moment bytes stands are few.
    let v = c.args.self.now in
    let name = c.args.name.now in
    let causes = name_cause name ∷ causes_of_put w name bytes c.args.profile in
    turned_down v v d w moment (PutJob name bytes) c.args.profile stands fault.BadProfile
    (aims-counted w causes ∙ c.in_ok-name.ensures.free w causes stands.core
    ∙ bad-profile w name bytes c.args.profile c.in_ok-name.ensures.is_name
    (sym c.is_unknown.ensures ∙ c.if-is_unknown.true))

pub returns-in_err-bench-clause-machine : goal.returns-in_err-bench-clause-machine
returns-in_err-bench-clause-machine c = λ w d moment bytes stands are few.
    let v = c.args.self.now in
    let kind = PutJob c.args.name.now bytes in
    let why = c.in_err-bench.field-0.0 in
    (rw (← (err-is c.from_residual-in_err-bench.result why c.from_residual-in_err-bench.ensures.1)) at
    (subst (λ (f : BeginFault). DeskMakesBegin w moment kind c.args.profile (Err f) v d)
    (sym (memory-alone c.bench_for.result why c.bench_for.ensures.err c.in_err-bench.was))
    (found_none v v d w moment kind c.args.profile stands)))

pub returns-clause-machine : goal.returns-clause-machine
returns-clause-machine c = λ w d moment bytes stands are few.
    let v = c.args.self.now in
    (rw c.in_ok-name.ensures.named at (c.admit_stream.ensures.machine w d moment bytes stands
    (subst AreBytes (sym c.in_ok-name.ensures.named) c.in_ok-name.ensures.bytes, are) few
    (λ accepted. stream-task v d w moment _ bytes c.args.profile _ _ _ stands c.in_ok-bench.ensures.ok
    c.profile_of_put-chosen.ensures refl)))

pub returns-in_err-name-clause-opens : goal.returns-in_err-name-clause-opens
returns-in_err-name-clause-opens c =
    let v = c.args.self.now in
    (rw (← (err-is c.from_residual.result c.in_err-name.field-0.0 c.from_residual.ensures.1)) at
    (opens_none v v c.in_err-name.field-0.0 (unchanged_desk v)))

pub returns-then-is_unknown-clause-opens : goal.returns-then-is_unknown-clause-opens
returns-then-is_unknown-clause-opens c =
    opens_none c.args.self.now c.args.self.now fault.BadProfile (unchanged_desk c.args.self.now)

pub returns-in_err-bench-clause-opens : goal.returns-in_err-bench-clause-opens
returns-in_err-bench-clause-opens c =
    let v = c.args.self.now in
    (rw (← (err-is c.from_residual-in_err-bench.result c.in_err-bench.field-0.0
    c.from_residual-in_err-bench.ensures.1)) at (opens_none v v c.in_err-bench.field-0.0 (unchanged_desk v)))
