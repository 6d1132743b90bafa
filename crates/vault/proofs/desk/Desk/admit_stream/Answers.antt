use Rattle.vault.proofs.Words.{refl, ◌∙◌, ap, ◌++◌, ◌∷◌, [], Some, arith, PutJob}
use Rattle.vault_core.specs.declared.wish.BeginFault.TheVariants as fault
use Rattle.vault.specs.declared.tasks.Task.TheVariants as task
use Rattle.vault.proofs.Begun.{admitted}
use Rattle.vault.proofs.Refused.{refused}
use Rattle.vault.proofs.Streams.{opens_none}
use Rattle.vault.proofs.desk.Desk.admit_stream.Goals as goal

pub returns-then-is_err-clause-machine : goal.returns-then-is_err-clause-machine
returns-then-is_err-clause-machine c = λ w d moment bytes stands spelled few is. refused c.args.self.now _ d w
    moment (PutJob c.args.name bytes) c.args.profile fault.Memory stands refl c.reserve.ensures.items
    (record { setup = refl; master = refl; shape = refl; base = refl }) refl (λ memory. absurd (memory refl))

pub returns-in-Err-clause-machine : goal.returns-in-Err-clause-machine
returns-in-Err-clause-machine c = λ w d moment bytes stands spelled few is. refused c.args.self.now _ d w
    moment (PutJob c.args.name bytes) c.args.profile c.in-Err.why stands c.in-Err.ensures.begins.unchanged
    c.reserve.ensures.items (record { setup = refl; master = refl; shape = refl; base = refl }) refl
    (c.in-Err.ensures.begins.refused w (PutJob c.args.name bytes) stands.core (refl, few))

pub returns-in-Ok-clause-machine : goal.returns-in-Ok-clause-machine
returns-in-Ok-clause-machine c = λ w d moment bytes stands spelled few is.
    let kind = PutJob c.args.name bytes in
    let accepted = c.in-Ok.ensures.begins.accepted w kind stands.core (refl, few) in
    let next = stands.core.next_job in
    admitted c.args.self.now _ d w moment kind c.args.profile stands c.in-Ok.number (task.Stream c.args.task)
    (c.in-Ok.ensures.begins.begun w kind moment stands.core (refl, few) spelled) accepted c.in-Ok.ensures.begins.number
    (is accepted)
    (λ m other. c.in-Ok.ensures.others m (λ e. other (e ∙ next)))
    (Some 0) (rw (c.in-Ok.ensures.begins.number ∙ next) at c.in-Ok.ensures.open)
    (record { within = omega arith; last = λ stripe e. absurd (omega arith) })
    (c.push_reserved.ensures.items
    ∙ ap (λ l. l ++ (record { number = c.in-Ok.number; task = task.Stream c.args.task }) ∷ [])
    c.reserve.ensures.items)
    (record { setup = refl; master = refl; shape = refl; base = refl }) refl

pub returns-then-is_err-clause-opens : goal.returns-then-is_err-clause-opens
returns-then-is_err-clause-opens c = opens_none c.args.self.now _ fault.Memory (record {
  core = refl;
  setup = refl;
  master = refl;
  base = refl;
  flight = refl;
  jobs = c.reserve.ensures.items;
})

pub returns-in-Err-clause-opens : goal.returns-in-Err-clause-opens
returns-in-Err-clause-opens c = opens_none c.args.self.now _ c.in-Err.why (record {
  core = c.in-Err.ensures.begins.unchanged;
  setup = refl;
  master = refl;
  base = refl;
  flight = refl;
  jobs = c.reserve.ensures.items;
})

pub returns-in-Ok-clause-opens : goal.returns-in-Ok-clause-opens
returns-in-Ok-clause-opens c = record {
  unchanged = tt;
  number = c.in-Ok.ensures.begins.number;
  opened = c.in-Ok.ensures.open;
  others = c.in-Ok.ensures.others;
  setup = c.in-Ok.ensures.begins.setup;
}
