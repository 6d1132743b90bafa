-- What the answers of the calls are as outcomes of the machine. An answer is None where no vault is open.
--
--   client_begin_outcome result == of a begin
--   UnlessBegun result P        == P holds unless the begin was accepted
--   step_outcome result         == of a step
--   job_goes_on result          == the job of a step, or its scrub or pack, goes on
--   IfJob result P              == P holds of the turn, where the step was one of a job of the vault
--   HeardIs turn entries        == the end of a job tells that it heard these; a scrub and a pack hear nothing
--   UnlessPack result P         == P holds, where the step was none of a pack
--   started result              == how the start within a reopening went
--   reopen_outcome result       == of a reopening
--   UnlessBadJournal result P   == P holds unless what the reopening read was no journal, which is no outcome
--                                  of the machine
--   replace_outcome result      == of an alteration or a loss
--   names_outcome files         == of a list of the files in effect, by the table that has them
use Rattle.std.specs.Prelude.{◌≡◌, ℕ, List, [], Bool, true, false, Option, Some, None, Result, Ok, Err}
use Rattle.machine_defs.specs.Heard.{Entry}
use Rattle.machine_defs.specs.Refusals as refusal
use Rattle.machine_defs.specs.Refusals.{Refusal}
use Rattle.machine_defs.specs.Events as events
use Rattle.machine_defs.specs.Events.{Outcome}
use Rattle.vault_core.specs.declared.wish.BeginFault.{BeginFault}
use Rattle.vault_table.specs.Values.{Kept}
use Rattle.vault_open.specs.declared.fault.StartFault.{StartFault}
use Rattle.vault_open.specs.declared.fault.StartFault.TheVariants as start_fault
use Rattle.hail_scrub.specs.declared.turn.ScrubTurn.TheVariants as scrub_turn
use Rattle.hail_scrub.specs.Stands.{scrub_outcome}
use Rattle.vault.specs.declared.turn.Turn.{Turn}
use Rattle.vault.specs.declared.turn.Turn.TheVariants as turn
use Rattle.vault.specs.Outcomes as vault
use Rattle.vault.specs.Packing.{pack_answer}
use Rattle.hail_client.specs.declared.turn.ClientTurn.{ClientTurn}
use Rattle.hail_client.specs.declared.turn.ClientTurn.TheVariants as client_turn
use Rattle.hail_client.specs.declared.turn.PackStep.{PackStep}
use Rattle.hail_client.specs.declared.turn.PackStep.TheVariants as pack_step
use Rattle.hail_client.specs.declared.fault.ReopenFault.{ReopenFault}
use Rattle.hail_client.specs.declared.fault.ReopenFault.TheVariants as reopen_fault

-- the outcome of a begin
abbrev pub client_begin_outcome : Option (Result ℕ BeginFault) → Outcome
client_begin_outcome None = events.Closed
client_begin_outcome (Some result) = vault.begin_outcome result

-- a fact of a begin that was not accepted
abbrev pub UnlessBegun : Option (Result ℕ BeginFault) → Type 0 → Type 0
UnlessBegun (Some (Ok job)) P = Unit {0}
UnlessBegun result P = P

-- the outcome of a step of a pack
abbrev pub pack_step_outcome : PackStep → Outcome
pack_step_outcome pack_step.More = events.More
pack_step_outcome (pack_step.Done answer) = events.Ended (pack_answer answer)

-- the outcome of a step
abbrev pub step_outcome : Option ClientTurn → Outcome
step_outcome None = events.Closed
step_outcome (Some (client_turn.Job t)) = vault.outcome_of t
step_outcome (Some (client_turn.Scrub n t)) = scrub_outcome n t
step_outcome (Some (client_turn.Pack t)) = pack_step_outcome t

-- the job of a step goes on
abbrev pub job_goes_on : Option ClientTurn → Bool
job_goes_on (Some (client_turn.Job turn.More)) = true
job_goes_on (Some (client_turn.Scrub n scrub_turn.More)) = true
job_goes_on (Some (client_turn.Pack pack_step.More)) = true
job_goes_on result = false

-- a fact of the turn, where the step was one of a job of the vault
abbrev pub IfJob : Option ClientTurn → (Turn → Type 0) → Type 0
IfJob (Some (client_turn.Job t)) P = P t
IfJob result P = Unit {0}

-- what was heard by the end of a job; a scrub and a pack hear nothing
abbrev pub HeardIs : ClientTurn → List Entry → Type 0
HeardIs (client_turn.Job t) entries = vault.IfEnded t (λ ended. ended.heard ≡ entries)
HeardIs (client_turn.Scrub n t) entries = entries ≡ []
HeardIs (client_turn.Pack t) entries = entries ≡ []

-- a fact of a step, where it was none of a pack
abbrev pub UnlessPack : Option ClientTurn → Type 0 → Type 0
UnlessPack (Some (client_turn.Pack t)) P = Unit {0}
UnlessPack result P = P

-- why a start gave no vault
abbrev pub start_refusal : StartFault → Refusal
start_refusal start_fault.DiskFault = refusal.DiskFault
start_refusal start_fault.NotSetUp = refusal.NotSetUp
start_refusal (start_fault.BadJournal at) = refusal.BadJournal at
start_refusal start_fault.Memory = refusal.Memory

-- the start within a reopening, which went well where too few providers were handed in
abbrev pub started : Result Unit ReopenFault → Result Unit StartFault
started (Err (reopen_fault.NotOpened why)) = Err why
started result = Ok tt

-- why no vault is open after a reopening
abbrev pub reopen_refusal : ReopenFault → Refusal
reopen_refusal (reopen_fault.NotOpened why) = start_refusal why
reopen_refusal reopen_fault.TooFewProviders = refusal.TooFewProviders

-- the outcome of a reopening
abbrev pub reopen_outcome : Result Unit ReopenFault → Outcome
reopen_outcome (Ok done) = events.Opened
reopen_outcome (Err why) = events.Refused (reopen_refusal why)

-- a fact of a reopening, unless what it read was no journal
abbrev pub UnlessBadJournal : Result Unit ReopenFault → Type 0 → Type 0
UnlessBadJournal (Err (reopen_fault.NotOpened (start_fault.BadJournal at))) P = Unit {0}
UnlessBadJournal result P = P

-- the outcome of an alteration or a loss
abbrev pub replace_outcome : Bool → Outcome
replace_outcome true = events.Replaced
replace_outcome false = events.NothingHeld

-- the outcome of a list of the files in effect
abbrev pub names_outcome : Option Kept → Outcome
names_outcome None = events.Closed
names_outcome (Some table) = events.Listed table.files
