-- Each event but a list of the names and a later call of the program writes one line.
use Rattle.line_laws.proofs.Words.{ℕ, zero, suc, Bool, true, false, List, [], ◌∷◌, Option, Some, None, IsSome, nat_lt, Refusal, Event, Init, Begin, BeginAt, BeginScrub, BeginPack, Step, Alter, Lose, Stop, Reopen, Names, Continue, Outcome, Ready, Refused, Opened, Begun, More, Waiting, Ended, Replaced, NothingHeld, Stopped, Closed, State, Append, Scrub, Pack, Alone, Scrubbing, Packing, AsksForOneLine, WritesOneLine}
use Rattle.std.proofs.Common.{◌==◌}
use Rattle.record_defs.specs.Records.{Setup, is_setup}
use Rattle.device_defs.specs.Providers.{Held, with_symbol, without_block, HasPlace}
use Rattle.machine_defs.specs.Jobs.{Kind, PutJob, Job, job_of}
use Rattle.machine_defs.specs.Actions.{Action, WriteBody, SyncBody, WriteGate, SyncGate, Store, Fetch, Ask, Work, Remove, End}
use Rattle.machine_defs.specs.Begins.{BeginsAt}
use Rattle.machine_defs.specs.Appends.{Moves}
use Rattle.machine_defs.specs.Steps.{next_action, holder_of, Acts, ActsOrWaits, StepsOn, StepsJob, StepsMine, StepsOne, StepsOpen, Steps}
use Rattle.machine_defs.specs.Alone.{number_alone, Scrubs, StepsScrub, Packs, StepsAlone, BeginsAlone}
use Rattle.machine_defs.specs.Openings.{Stops, Reopens, InitsClosed, InitsBy, Inits}
use Rattle.machine_defs.specs.Replacements.{ReplacesAt, ReplacesIf}
use Rattle.machine_defs.specs.Machine.{Happens}

module _ (old new : State) where
  module _ (job : Job) where
    moves : (action : Action) (flight : Option Append) (r : Outcome) → Moves old job action flight r new →
        WritesOneLine r
    moves WriteBody flight More h = tt
    moves WriteBody flight (Ended how) h = tt
    moves SyncBody (Some a) More h = tt
    moves SyncBody (Some a) (Ended how) h = tt
    moves WriteGate (Some a) More h = tt
    moves WriteGate (Some a) (Ended how) h = tt
    moves SyncGate (Some a) More h = tt
    moves SyncGate (Some a) (Ended how) h = tt
    moves action flight r h = absurd h

    acts : (action : Action) (r : Outcome) → Acts old job action r new → WritesOneLine r
    acts (Store j o s) More h = tt
    acts (Store j o s) (Ended how) h = tt
    acts (Fetch j o s) More h = tt
    acts (Ask j o round) More h = tt
    acts (Work o s) More h = tt
    acts (Work o s) (Ended how) h = tt
    acts (Remove j o) More h = tt
    acts End (Ended how) h = tt
    acts action r h = moves action old.append r h

    acts_or_waits : (action : Action) (holder : Option ℕ) (r : Outcome) →
        ActsOrWaits old job action holder r new → WritesOneLine r
    acts_or_waits action (Some n) (Waiting h) w = tt
    acts_or_waits action None r h = acts action r h
    acts_or_waits action (Some n) r h = absurd h

    steps_on : (action : Option Action) (r : Outcome) → StepsOn old job action r new → WritesOneLine r
    steps_on None r h = absurd h
    steps_on (Some action) r h = acts_or_waits action (holder_of old.append action) r h

  steps_job : (job : Option Job) (r : Outcome) → StepsJob old job r new → WritesOneLine r
  steps_job None (Refused why) h = tt
  steps_job (Some job) r h = steps_on job (next_action old job) r h
  steps_job None r h = absurd h

  scrubs : (scrub : Scrub) (action : Action) (rest : List Action) (r : Outcome) →
      Scrubs old scrub action rest r new → WritesOneLine r
  scrubs scrub (Fetch j object stripe) rest More h = tt
  scrubs scrub (Work object stripe) rest More h = tt
  scrubs scrub (Work object stripe) rest (Ended how) h = tt
  scrubs scrub (Store j object stripe) rest More h = tt
  scrubs scrub (Store j object stripe) rest (Ended how) h = tt
  scrubs scrub End rest (Ended how) h = tt
  scrubs scrub action rest r h = absurd h

  steps_scrub : (scrub : Scrub) (todo : List Action) (r : Outcome) → StepsScrub old scrub todo r new →
      WritesOneLine r
  steps_scrub scrub [] r h = absurd h
  steps_scrub scrub (action ∷ rest) r h = scrubs scrub action rest r h

  packs : (pack : Pack) (moves : ℕ) (r : Outcome) → Packs old pack moves r new → WritesOneLine r
  packs pack zero More h = tt
  packs pack zero (Ended how) h = tt
  packs pack (suc zero) More h = tt
  packs pack (suc zero) (Ended how) h = tt
  packs pack (suc (suc zero)) More h = tt
  packs pack (suc (suc zero)) (Ended how) h = tt
  packs pack (suc (suc (suc zero))) More h = tt
  packs pack (suc (suc (suc zero))) (Ended how) h = tt
  packs pack (suc (suc (suc (suc zero)))) (Ended how) h = tt
  packs pack moves r h = absurd h

  steps_alone : (x : Alone) (r : Outcome) → StepsAlone old x r new → WritesOneLine r
  steps_alone (Scrubbing scrub) r h = steps_scrub scrub scrub.todo r h
  steps_alone (Packing pack) r h = packs pack pack.moves r h

  steps_mine : (number : ℕ) (x : Alone) (mine : Bool) (r : Outcome) → StepsMine old number x mine r new →
      WritesOneLine r
  steps_mine number x true r h = steps_alone x r h
  steps_mine number x false r h = steps_job (job_of old.jobs number) r h

  steps_one : (number : ℕ) (alone : Option Alone) (r : Outcome) → StepsOne old number alone r new →
      WritesOneLine r
  steps_one number None r h = steps_job (job_of old.jobs number) r h
  steps_one number (Some x) r h = steps_mine number x (number_alone x == number) r h

  steps_open : (number : ℕ) (is_barred : Bool) (r : Outcome) → StepsOpen old number is_barred r new →
      WritesOneLine r
  steps_open number true (Refused why) h = tt
  steps_open number false r h = steps_one number old.alone r h
  steps_open number true r h = absurd h

  steps : (number : ℕ) (is_open : Bool) (r : Outcome) → Steps old number is_open r new → WritesOneLine r
  steps number false Closed h = tt
  steps number true r h = steps_open number old.is_barred r h
  steps number false r h = absurd h

  stops : (r : Outcome) → Stops old r new → WritesOneLine r
  stops Stopped h = tt
  stops r h = absurd h

  reopens : (r : Outcome) → Reopens old r new → WritesOneLine r
  reopens Opened h = tt
  reopens (Refused why) h = tt
  reopens r h = absurd h

  inits_closed : (s : Setup) (r : Outcome) → InitsClosed old s r new → WritesOneLine r
  inits_closed s (Refused why) h = tt
  inits_closed s Ready h = tt
  inits_closed s r h = absurd h

  inits_by : (s : Setup) (good : Bool) (r : Outcome) → InitsBy old s good r new → WritesOneLine r
  inits_by s false (Refused why) h = tt
  inits_by s true r h = inits_closed s r h
  inits_by s false r h = absurd h

  inits : (s : Setup) (is_open : Bool) (r : Outcome) → Inits old s is_open r new → WritesOneLine r
  inits s true (Refused why) h = tt
  inits s false r h = inits_by s (is_setup s) r h
  inits s true r h = absurd h

  replaces : (j : ℕ) (IsThere : Held → Type 0) (changed : Held → Held) (r : Outcome) →
      ReplacesAt old j IsThere changed r new → WritesOneLine r
  replaces j IsThere changed Replaced h = tt
  replaces j IsThere changed NothingHeld h = tt
  replaces j IsThere changed r h = absurd h

  replaces_if : (handed : Bool) (j : ℕ) (IsThere : Held → Type 0) (changed : Held → Held) (r : Outcome) →
      ReplacesIf handed old j IsThere changed r new → WritesOneLine r
  replaces_if true j IsThere changed r h = replaces j IsThere changed r h
  replaces_if false j IsThere changed NothingHeld h = tt
  replaces_if false j IsThere changed r h = absurd h

  begins : (limit moment : ℕ) (kind : Kind) (profile : Option ℕ) (r : Outcome) →
      BeginsAt limit moment old kind profile r new → WritesOneLine r
  begins limit moment kind profile Closed h = tt
  begins limit moment kind profile (Refused why) h = tt
  begins limit moment kind profile (Begun job) h = tt
  begins limit moment kind profile r h = absurd h

  begins_alone : (why : Option Refusal) (x : Alone) (r : Outcome) → BeginsAlone old why x r new →
      WritesOneLine r
  begins_alone why x Closed h = tt
  begins_alone why x (Refused refused) h = tt
  begins_alone why x (Begun job) h = tt
  begins_alone why x r h = absurd h

  -- what an event writes that asks for one line
  pub happened : (limit moment : ℕ) (event : Event) (r : Outcome) → AsksForOneLine event →
      Happens limit moment old event r new → WritesOneLine r
  happened limit moment (Init s) r asks h = inits s old.is_open r h
  happened limit moment (Begin kind) r asks h = begins limit moment kind None r h
  happened limit moment (BeginAt profile name bytes) r asks h =
      begins limit moment (PutJob name bytes) (Some profile) r h
  happened limit moment (Step number) r asks h = steps number old.is_open r h
  happened limit moment (Alter j object stripe place symbol) r asks h = replaces_if (nat_lt j old.handed) j
      (λ held. HasPlace (held object stripe) place) (with_symbol object stripe place symbol) r h
  happened limit moment (Lose j object stripe) r asks h = replaces_if (nat_lt j old.handed) j
      (λ held. IsSome (held object stripe)) (without_block object stripe) r h
  happened limit moment (Stop picks) r asks h = stops r h
  happened limit moment Reopen r asks h = reopens r h
  happened limit moment Names r asks h = absurd asks
  happened limit moment Continue r asks h = absurd asks
  happened limit moment event r asks h = begins_alone _ _ r h
