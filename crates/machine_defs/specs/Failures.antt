-- Failed calls of devices in a run, told by how events end and by what calls gave and left.
--
--   Count                         == a count of faults: the disk's, that of a provider's stores, that of
--                                    its other calls
--   count_in count w              == its value in a state
--   IsDiskFault event outcome     == a disk call failed: a step, a reopening or an init ended so
--   IsStoreFault j outcome        == a store of provider j failed: a step ended so
--   GaveAmiss old m job j action  == a fetch, an ask or a removal of provider j gave or left something else
--                                    than one that goes well
--   IsFailure count old m         == the moment after this state was a failed call that this count counts
--   HasFailures count start ms n  == so many of these moments, at least, were such failed calls
--   RoseBy before now n           == a count rose by so many at least, or stands at its last value
use Rattle.std.specs.Prelude.{◌≡◌, ◌⊎◌, ℕ, suc, ◌+◌, ◌≤◌, List, [], ◌∷◌, Option, Some}
use Rattle.std.specs.Option.{option_map}
use Rattle.column_defs.specs.Challenges.{honest_answer}
use Rattle.device_defs.specs.Faults.{last_count}
use Rattle.device_defs.specs.Providers.{without_object}
use Rattle.device_defs.specs.ProviderCalls.{FetchGives, AskGives}
use Rattle.machine_defs.specs.Jobs.{Job, Fetched, Answered, job_of, advanced_with}
use Rattle.machine_defs.specs.Actions.{Action, Fetch, Ask, Remove}
use Rattle.machine_defs.specs.Refusals as refusal
use Rattle.machine_defs.specs.Answers as answer
use Rattle.machine_defs.specs.Events.{Event, Init, Step, Reopen, Outcome, Refused, Ended}
use Rattle.machine_defs.specs.States.{State, setup_in, worked_object}
use Rattle.machine_defs.specs.Audits.{asked_challenge}
use Rattle.machine_defs.specs.Runs.{Moment, now}
use Rattle.machine_defs.specs.Deeds.{Makes}

-- a count of faults: the disk's, that of a provider's stores, that of its other calls
pub data Count : Type 0 where
  OfDisk : Count
  OfStores : (provider : ℕ) → Count
  OfOthers : (provider : ℕ) → Count

-- its value in a state
abbrev pub count_in : Count → State → ℕ
count_in OfDisk w = w.disk_faults
count_in (OfStores j) w = (w.providers j).store_faults
count_in (OfOthers j) w = (w.providers j).other_faults

-- a disk call failed
abbrev pub IsDiskFault : Event → Outcome → Type 0
IsDiskFault (Step number) (Ended answer.DiskFault) = Unit {0}
IsDiskFault Reopen (Refused refusal.DiskFault) = Unit {0}
IsDiskFault (Init setup) (Refused refusal.DiskFault) = Unit {0}
IsDiskFault event outcome = ⊥

-- a store of a provider failed
abbrev pub IsStoreFault : ℕ → Event → Outcome → Type 0
IsStoreFault j (Step number) (Ended (answer.ProviderFault k)) = k ≡ j
IsStoreFault j event outcome = ⊥

-- A fetch gave no block that one which goes well gives, an ask no such answer, or a removal left something
-- of the object.
abbrev pub GaveAmiss : State → Moment → Job → ℕ → Action → Type 0
GaveAmiss old m job j (Fetch k object stripe) = (k ≡ j)
    × ((block : Option (List ℕ)) → job_of m.state.jobs job.number ≡ Some
    (advanced_with job (Fetched j object stripe block)) →
    FetchGives (worked_object old job object).profile.size object stripe (old.providers j).held block → ⊥)
GaveAmiss old m job j (Ask k object round) = (k ≡ j)
    × ((symbol : Option ℕ) → job_of m.state.jobs job.number ≡ Some
    (advanced_with job (Answered j object round symbol)) →
    AskGives (honest_answer (asked_challenge (setup_in old) job object round)) object (old.providers j).held
    symbol → ⊥)
GaveAmiss old m job j (Remove k object) = (k ≡ j)
    × ((m.state.providers j).held ≡ option_map (without_object object) (old.providers j).held → ⊥)
GaveAmiss old m job j action = ⊥

-- a fetch, an ask or a removal of a provider failed
pub record IsOtherFault (j : ℕ) (old : State) (m : Moment) : Type 0 where
  pub job : Job
  pub action : Action
  pub makes : Makes old m job action
  pub amiss : GaveAmiss old m job j action

-- a failed call that a count counts
abbrev pub IsFailure : Count → State → Moment → Type 0
IsFailure OfDisk old m = IsDiskFault m.event m.outcome
IsFailure (OfStores j) old m = IsStoreFault j m.event m.outcome
IsFailure (OfOthers j) old m = IsOtherFault j old m

-- so many of these moments, at least, were such failed calls
abbrev pub HasFailures : Count → State → List Moment → ℕ → Type 0
HasFailures count start [] n = n ≡ 0
HasFailures count start (m ∷ ms) n = HasFailures count start ms n
    ⊎ ((fewer : ℕ) × (n ≡ suc fewer) × IsFailure count (now start ms) m × HasFailures count start ms fewer)

-- a count rose by so many at least, or stands at its last value
abbrev pub RoseBy : ℕ → ℕ → ℕ → Type 0
RoseBy before now n = (before + n ≤ now) ⊎ (last_count ≤ now)
