-- What comes next for a job, by what a contract sees of a core.
--
--   seen_action a                  == the action of the machine
--   Coming, seen_next              == what comes next: an action, the job to wait for, or why none does; the
--                                     same of an answer
--   next_in c number               == what comes next for the job of a number
--   most_of s j                    == how many steps a job may still make at most
--   left_in c number               == the same of the job of a number; None where there is none
--   core_left c number             == the same; 0 where there is none
--   written_in c number            == the record that the job's append writes, whether or not it is in one
--   entry_in c number              == the same; None outside an append
--   called_provider coming         == the provider that the next action calls: of a store, a fetch, an ask, a
--                                     removal
--   calls_disk coming              == what comes next is a move of an append, the only action that calls the
--                                     disk
--   HasReply c number coming reply == the reply is one that this action has
--   TakesReply c number reply      == the reply is one that the next action has
use Rattle.std.specs.Prelude.{◌≡◌, ℕ, ◌==◌, ◌&&◌, Bool, true, false, not, List, Option, None, Some, is_some, unwrap_or, slice_get, if◌then◌else◌}
use Rattle.std.specs.Option.{option_map}
use Rattle.column_defs.specs.Verdicts.{Sums}
use Rattle.record_defs.specs.Records.{Setup, Record, PutStart, Drop, AuditStart, AuditDone, RepairDone, Version}
use Rattle.record_defs.specs.Table.{find_file}
use Rattle.machine_defs.specs.Jobs.{Aim, ToPut, ToGet, ToDrop, ToAudit, ToRepair, ToUpgrade}
use Rattle.machine_defs.specs.Appends.{done_record}
use Rattle.machine_defs.specs.Actions.{Action, WriteBody, SyncBody, WriteGate, SyncGate, Store, Fetch, Ask, Work, Remove, End}
use Rattle.machine_defs.specs.Left.{most_after}
use Rattle.record_codec.specs.Entries.{IsPadded}
use Rattle.vault_table.specs.Values.{Kept, id_after}
use Rattle.vault_core.specs.declared.action.Action.{Action as ActionValue}
use Rattle.vault_core.specs.declared.action.Action.TheVariants as act
use Rattle.vault_core.specs.declared.action.Next.{Next}
use Rattle.vault_core.specs.declared.action.Next.TheVariants as next
use Rattle.vault_core.specs.declared.reply.Reply.{Reply}
use Rattle.vault_core.specs.declared.reply.Reply.TheVariants as reply
use Rattle.vault_core.specs.View.{CoreJob, CoreView, planned, rest_in, appends_in, job_in}

-- the action of the machine
abbrev pub seen_action : ActionValue → Action
seen_action act.WriteBody = WriteBody
seen_action act.SyncBody = SyncBody
seen_action act.WriteGate = WriteGate
seen_action act.SyncGate = SyncGate
seen_action (act.Store provider object stripe) = Store provider object stripe
seen_action (act.Fetch provider object stripe) = Fetch provider object stripe
seen_action (act.Ask provider object round) = Ask provider object round
seen_action (act.Work object stripe) = Work object stripe
seen_action (act.Remove provider object) = Remove provider object
seen_action act.End = End

-- what comes next for a job
pub data Coming : Type 0 where
  Acts : (action : Action) → Coming
  Waits : (holder : ℕ) → Coming
  IsNoJob : Coming
  IsBarred : Coming

-- what an answer says of it
abbrev pub seen_next : Next → Coming
seen_next (next.Act a) = Acts (seen_action a)
seen_next (next.Waiting holder) = Waits holder
seen_next next.NoSuchJob = IsNoJob
seen_next next.MustReopen = IsBarred

-- the name of a drop is not in effect
abbrev pub is_gone : Kept → Aim → Bool
is_gone t (ToDrop name) = not (is_some (find_file t.files name))
is_gone t aim = false

-- an action begins an append
abbrev pub begins_append : Option Action → Bool
begins_append (Some WriteBody) = true
begins_append action = false

-- an action is a move of an append
abbrev pub is_move : Option Action → Bool
is_move (Some WriteBody) = true
is_move (Some SyncBody) = true
is_move (Some WriteGate) = true
is_move (Some SyncGate) = true
is_move action = false

-- a drop that has not begun its append and whose name is not in effect
abbrev pub is_idle : Kept → CoreJob → Bool
is_idle t j = is_gone t j.plan.aim && (j.place == 0)

-- the next action of a job; an idle drop has only its end left
abbrev pub action_next : Setup → Kept → CoreJob → Option Action
action_next s t j = if is_idle t j then Some End else slice_get (planned s j.plan) j.place

-- an action waits where it begins an append and another is in flight
abbrev pub waits_or_acts : Option ℕ → Option Action → Coming
waits_or_acts flight None = IsNoJob
waits_or_acts (Some holder) (Some WriteBody) = Waits holder
waits_or_acts flight (Some action) = Acts action

-- what comes next for a job, if it runs
abbrev pub next_of : CoreView → Option CoreJob → Coming
next_of c None = IsNoJob
next_of c (Some j) = waits_or_acts c.append (action_next c.setup c.table j)

-- what comes next for the job of a number
abbrev pub next_in : CoreView → ℕ → Coming
next_in c number = if c.barred then IsBarred else next_of c (job_in c.jobs number)

-- how many steps a job may still make at most: a removal from each provider counts until it is decided
abbrev pub most_of : Setup → CoreJob → ℕ
most_of s j = most_after s j.plan.aim (rest_in s j)

-- the same of the job of a number
abbrev pub left_in : CoreView → ℕ → Option ℕ
left_in c number = option_map (most_of c.setup) (job_in c.jobs number)

-- the same; 0 where there is none
abbrev pub core_left : CoreView → ℕ → ℕ
core_left c number = unwrap_or (left_in c number) 0

-- the record of a job's append, of which so many appends have not ended: a put and an audit have two
abbrev pub written_as : Kept → ℕ → ℕ → ℕ → Sums → Aim → Option Record
written_as t appends profile subject sums (ToPut name size) =
    Some (if appends == 2 then PutStart (id_after t) name else done_record t.version subject size profile)
written_as t appends profile subject sums (ToGet name) = None
written_as t appends profile subject sums (ToDrop name) = Some (Drop name)
written_as t appends profile subject sums ToAudit =
    Some (if appends == 2 then AuditStart t.next_audit
    else AuditDone subject sums.undecided sums.counts)
written_as t appends profile subject sums ToRepair = Some (RepairDone subject)
written_as t appends profile subject sums ToUpgrade = Some Version

-- the same of a running job
abbrev pub written_by : Setup → Kept → CoreJob → Option Record
written_by s t j = written_as t (appends_in s j) j.plan.profile j.plan.subject j.sums j.plan.aim

-- the same of a job that runs
abbrev pub written_of : Setup → Kept → Option CoreJob → Option Record
written_of s t None = None
written_of s t (Some j) = written_by s t j

-- the record that the append of the job of a number writes, whether or not it is in one
abbrev pub written_in : CoreView → ℕ → Option Record
written_in c number = written_of c.setup c.table (job_in c.jobs number)

-- the record that a job's append writes, if it is in one
abbrev pub entry_of_job : Setup → Kept → CoreJob → Option Record
entry_of_job s t j = if is_move (action_next s t j) then written_by s t j else None

-- the same of the job of a number
abbrev pub entry_of_found : Setup → Kept → Option CoreJob → Option Record
entry_of_found s t None = None
entry_of_found s t (Some j) = entry_of_job s t j

-- the record that the append of the job of a number writes
abbrev pub entry_in : CoreView → ℕ → Option Record
entry_in c number = entry_of_found c.setup c.table (job_in c.jobs number)

-- the provider that an action calls
abbrev pub provider_of : Action → Option ℕ
provider_of (Store j object stripe) = Some j
provider_of (Fetch j object stripe) = Some j
provider_of (Ask j object round) = Some j
provider_of (Remove j object) = Some j
provider_of action = None

-- the provider that the next action calls
abbrev pub called_provider : Coming → Option ℕ
called_provider (Acts action) = provider_of action
called_provider coming = None

-- what comes next is a move of an append, the only action that calls the disk
abbrev pub calls_disk : Coming → Bool
calls_disk (Acts action) = is_move (Some action)
calls_disk coming = false

-- an action asks a provider
abbrev pub asks_next : Option Action → Bool
asks_next (Some (Ask j object round)) = true
asks_next action = false

-- the first of these actions is the last ask of an audit
abbrev pub is_last_ask : List Action → Bool
is_last_ask actions = asks_next (slice_get actions 0) && begins_append (slice_get actions 1)

-- the same of the job of a number
abbrev pub is_last_ask_of : Setup → Option CoreJob → Bool
is_last_ask_of s None = false
is_last_ask_of s (Some j) = is_last_ask (rest_in s j)

-- A reply is one that an action of a job has; the last ask of an audit has a verdict. A sync may be told
-- Memory, though none takes any: so one function makes all moves of an append.
abbrev pub HasReply : CoreView → ℕ → Coming → Reply → Type 0
HasReply c number (Acts WriteBody) reply.Done = Unit {0}
HasReply c number (Acts WriteBody) reply.Failed = Unit {0}
HasReply c number (Acts WriteBody) reply.Memory = Unit {0}
HasReply c number (Acts SyncBody) reply.Done = Unit {0}
HasReply c number (Acts SyncBody) reply.Failed = Unit {0}
HasReply c number (Acts SyncBody) reply.Memory = Unit {0}
HasReply c number (Acts WriteGate) reply.Done = Unit {0}
HasReply c number (Acts WriteGate) reply.Failed = Unit {0}
HasReply c number (Acts WriteGate) reply.Memory = Unit {0}
HasReply c number (Acts SyncGate) reply.Done = Unit {0}
HasReply c number (Acts SyncGate) reply.Failed = Unit {0}
HasReply c number (Acts SyncGate) reply.Memory = Unit {0}
HasReply c number (Acts (Store j object stripe)) reply.Done = Unit {0}
HasReply c number (Acts (Store j object stripe)) reply.Failed = Unit {0}
HasReply c number (Acts (Store j object stripe)) reply.Memory = Unit {0}
HasReply c number (Acts (Fetch j object stripe)) reply.Done = Unit {0}
HasReply c number (Acts (Ask j object round)) reply.Done =
    is_last_ask_of c.setup (job_in c.jobs number) ≡ false
HasReply c number (Acts (Ask j object round)) (reply.Verdict undecided counts) =
    (is_last_ask_of c.setup (job_in c.jobs number) ≡ true) × (counts.n ≡ c.setup.n) × IsPadded counts
HasReply c number (Acts (Work object stripe)) reply.Done = Unit {0}
HasReply c number (Acts (Work object stripe)) (reply.Lost row) = Unit {0}
HasReply c number (Acts (Remove j object)) reply.Done = Unit {0}
HasReply c number (Acts End) reply.Done = Unit {0}
HasReply c number coming r = ⊥

-- a reply is one that what comes next for a job has
abbrev pub TakesReply : CoreView → ℕ → Reply → Type 0
TakesReply c number r = HasReply c number (next_in c number) r
