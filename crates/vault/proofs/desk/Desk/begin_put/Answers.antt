use Rattle.vault.proofs.Words.{Err, List, ℕ, ◌∷◌, ◌∙◌, ◌<◌, sym, subst, arith, largest_file, AreBytes, PutJob, ToPut, BeginFault, err-is, DeskMakesBegin}
use Rattle.std.proofs.Common.{length}
use Rattle.vault_core.specs.declared.wish.BeginFault.TheVariants as fault
use Rattle.vault.proofs.Begun.{aims-counted, memory-alone, turned_down, found_none}
use Rattle.vault.proofs.Puts.{name_cause, causes_of_put, bad-profile, too-long, put-task}
use Rattle.vault.proofs.desk.Desk.begin_put.Goals as goal

pub returns-in_err-name-clause-machine : goal.returns-in_err-name-clause-machine
returns-in_err-name-clause-machine c = λ w d moment stands.
    let v = c.args.self.now in
    let name = c.args.name.now in
    let kind = PutJob name c.args.bytes in
    let why = c.in_err-name.field-0.0 in
    let causes = causes_of_put w name c.args.bytes c.args.profile in
    (rw (← (err-is c.from_residual.result why c.from_residual.ensures.1)) at
    (turned_down v v d w moment kind c.args.profile stands why
    (aims-counted w (name_cause name ∷ causes) ∙ c.in_err-name.ensures.refused w causes stands.core)))

pub returns-then-is_unknown-clause-machine : goal.returns-then-is_unknown-clause-machine
returns-then-is_unknown-clause-machine c = λ w d moment stands.
    let v = c.args.self.now in
    let name = c.args.name.now in
    let causes = name_cause name ∷ causes_of_put w name c.args.bytes c.args.profile in
    turned_down v v d w moment (PutJob name c.args.bytes) c.args.profile stands fault.BadProfile
    (aims-counted w causes ∙ c.in_ok-name.ensures.free w causes stands.core
    ∙ bad-profile w name c.args.bytes c.args.profile c.in_ok-name.ensures.is_name
    (sym c.is_unknown.ensures ∙ c.if-is_unknown.true))

pub returns-then-length-clause-machine : goal.returns-then-length-clause-machine
returns-then-length-clause-machine c = λ w d moment stands.
    let v = c.args.self.now in
    let name = c.args.name.now in
    let causes = name_cause name ∷ causes_of_put w name c.args.bytes c.args.profile in
    turned_down v v d w moment (PutJob name c.args.bytes) c.args.profile stands fault.TooLong
    (aims-counted w causes ∙ c.in_ok-name.ensures.free w causes stands.core
    ∙ too-long w name c.args.bytes c.args.profile c.in_ok-name.ensures.is_name
    (sym c.is_unknown.ensures ∙ c.if-is_unknown.false) (subst (λ (bytes : List ℕ). largest_file < length
    bytes) c.as_slice-length.ensures
    c.if-length.true))

pub returns-in_err-bench-clause-machine : goal.returns-in_err-bench-clause-machine
returns-in_err-bench-clause-machine c = λ w d moment stands.
    let v = c.args.self.now in
    let kind = PutJob c.args.name.now c.args.bytes in
    let why = c.in_err-bench.field-0.0 in
    (rw (← (err-is c.from_residual-in_err-bench.result why c.from_residual-in_err-bench.ensures.1)) at
    (subst (λ (f : BeginFault). DeskMakesBegin w moment kind c.args.profile (Err f) v d)
    (sym (memory-alone c.bench_for.result why c.bench_for.ensures.err c.in_err-bench.was))
    (found_none v v d w moment kind c.args.profile stands)))

pub admit-requires-clause-size : goal.admit-requires-clause-size
admit-requires-clause-size c = omega (arith, c.if-length.false)

pub returns-clause-machine : goal.returns-clause-machine
returns-clause-machine c = λ w d moment stands.
    let v = c.args.self.now in
    c.admit.ensures.machine w d moment (PutJob c.args.name.now c.args.bytes) stands
    (λ i. ToPut (c.in_ok-name.ensures.named i) (length (c.as_slice-length.ensures i)))
    (c.in_ok-name.ensures.bytes, subst AreBytes c.as_slice.ensures c.bytes_are_bytes.ensures)
    (λ accepted. put-task v d w moment c.args.name.now c.args.profile _ _ _ stands
    c.in_ok-bench.ensures.ok c.profile_of_put-chosen.ensures)
