-- The headline.
--
--   every schedule of ..  == IsStart start, IsRun limit start ms (States, Runs): moments, the newest first,
--                            of events in any order, each of which may come to what Happens allows (Machine)
--   job steps             == the event Step (Events), and what it may come to: Steps (Steps)
--   replacements of ..    == the events Alter and Lose that came to Replaced: Alters, Loses (Replacements)
--   stops                 == the event Stop: all jobs are given up, and a record in doubt is in effect or is
--                            not: Stops (Openings)
--   a get that ends Ok    == a step of its job that came to Ended (Got bytes) (Answers, Events)
--   has written ..        == `bytes` of Got, in IsRightGet (Halves)
--   last put in effect    == begin_state.bytes file.id of the file in effect under the name at the get's
--   under its name           begin (Halves). They are the bytes of the put that drew the file's number:
--                            `bytes_are` of IsSafe below, and `stay` of laws::done_puts_are_whole of
--                            second_half_laws
--   unless a fetched row  == HoldsForgery (Heard) of what the get's fetches gave: IsForgery (column_defs,
--   is a forgery             Forgeries)
--   a calm run            == IsCalm relies (since start) (Calm): while a get or a repair runs, at most b
--                            providers were replaced since the begin of the audit that was the last settled
--                            one at the job's begin; and the same while a scrub runs: AreScrubsCalm
--                            (since start) (Scrubs)
--   no audit missed       == NoneMissed (Missed): each audit whose last record came into effect flags each
--   damage                   provider that was wrong at its begin and was not replaced since
--   each get of a stored  == SecondHalf (Halves): its begin is refused for three causes alone, and a step
--   name ends Ok             that ends it gives the bytes in effect at its begin
--   or a scrub run ..     == beside this half: calm counted from finished scrubs, for gets, repairs and
--                            scrubs (IsScrubCalm, Scrubs), it holds whatever audits missed; and each
--                            provider that was not replaced since the begin of the last scrub that ended Ok
--                            holds its own columns exactly (IsExact, Own of second_half_laws)
--   save for want of      == refusal.Memory of a begin, in IsGetRefusal (Halves); no step of a get finds none
--   memory
--   or a counted fault    == CountRose (Halves): a count of the disk or of a provider rose since the get's
--                            begin
--   acknowledged files    == EndsPut (Survival): a step of a put's job came to Ended Put
--   survive every stop    == IsKept (Survival), at every later moment, with any stops between, until a
--                            record that takes the file out has come to the third move of its append
--                            (NeverTakenOut)
--   numbers               == HasStored, HasAsked (Deeds): no two puts store under one number, no two audits
--                            make one challenge
use Rattle.std.specs.Prelude.{◌≡◌, ℕ, List, ◌∷◌, ◌++◌, length}
use Rattle.record_defs.specs.Table.{File, file_as}
use Rattle.machine_defs.specs.Jobs.{Job}
use Rattle.machine_defs.specs.States.{State}
use Rattle.machine_defs.specs.Runs.{Moment, now}
use Rattle.machine_defs.specs.Calm.{IsCalm, since, relies}
use Rattle.machine_defs.specs.Missed.{NoneMissed}
use Rattle.machine_defs.specs.Scrubs.{AreScrubsCalm, IsScrubCalm, scrubbed}
use Rattle.machine_defs.specs.Halves.{AllTell, FirstHalf, SecondHalf}
use Rattle.machine_defs.specs.Survival.{EndsPut, HasComeIn, NeverTakenOut, IsKept}
use Rattle.machine_defs.specs.Deeds.{HasStored, HasAsked}
use Rattle.second_half_laws.specs.Own.{IsExact}

-- the file of a put
abbrev pub file_of_put : Job → List ℕ → List ℕ → File
file_of_put job name bytes = file_as name job.subject (length bytes) job.profile

-- What became of the file of a put that ended well by this moment: it had come in before the put ended, and
-- is in effect now, in the records and in these with the one in doubt added, unless a record that takes it
-- out has come to its third move since; and its object number stands for the bytes of the put.
pub record IsSafe (start : State) (later : List Moment) (m : Moment) (before : List Moment) (job : Job)
    (name bytes : List ℕ) : Type 0 where
  pub came : HasComeIn start before name (file_of_put job name bytes)
  pub kept : NeverTakenOut name (later ++ m ∷ came.later) →
      IsKept (now start (later ++ m ∷ before)) name (file_of_put job name bytes)
  pub bytes_are : (now start (later ++ m ∷ before)).bytes job.subject ≡ bytes

-- the first half: each get that ended with bytes gave those in effect under its name at its begin, unless a
-- fetched row is a forgery
abbrev pub GetsAreRight : State → List Moment → Type 0
GetsAreRight start ms = FirstHalf start ms

-- the second half: in a calm run, with calm scrubs, in which no audit missed damage, of providers that tell
-- what they hold, each get of a stored name ends well
abbrev pub CalmGetsEndWell : State → List Moment → Type 0
CalmGetsEndWell start ms =
    AllTell start → IsCalm relies (since start) ms → AreScrubsCalm (since start) ms → NoneMissed start ms
    → SecondHalf start ms

-- the second half by scrubs: in a run that is calm counted from finished scrubs, of providers that tell what
-- they hold, each get of a stored name ends well, whatever audits missed
abbrev pub ScrubCalmGetsEndWell : State → List Moment → Type 0
ScrubCalmGetsEndWell start ms = AllTell start → IsScrubCalm start ms → SecondHalf start ms

-- in such a run each provider that was not replaced since the begin of the last scrub that had ended Ok at a
-- moment holds from that moment on its own column exactly, of each stripe of each file in effect
abbrev pub ScrubbedProvidersAreExact : State → List Moment → Type 0
ScrubbedProvidersAreExact start ms =
    AllTell start → IsScrubCalm start ms → (later before : List Moment) → ms ≡ later ++ before
    → IsExact start ms (scrubbed start before)

-- the file of each put that ended well is safe now
abbrev pub AcknowledgedFilesSurvive : State → List Moment → Type 0
AcknowledgedFilesSurvive start ms =
    (later before : List Moment) (m : Moment) (job : Job) (name bytes : List ℕ) →
    ms ≡ later ++ m ∷ before → EndsPut start m before job name bytes
    → IsSafe start later m before job name bytes

-- the headline, of one run
pub record Headline (start : State) (ms : List Moment) : Type 0 where
  pub gets_are_right : GetsAreRight start ms
  pub calm_gets_end_well : CalmGetsEndWell start ms
  pub scrub_calm_gets_end_well : ScrubCalmGetsEndWell start ms
  pub scrubbed_providers_are_exact : ScrubbedProvidersAreExact start ms
  pub acknowledged_files_survive : AcknowledgedFilesSurvive start ms
  -- no two puts store under one number, and no two audits make one challenge; a job is told by its begin
  pub one_put : (begun other object : ℕ) → HasStored start ms begun object → HasStored start ms other object
      → begun ≡ other
  pub one_audit : (begun other number object round : ℕ) → HasAsked start ms begun number object round →
      HasAsked start ms other number object round → begun ≡ other
