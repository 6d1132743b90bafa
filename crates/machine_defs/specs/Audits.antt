-- The verdict of an audit on what its asks gave.
--
--   challenge_in s job object size round  == the challenge of a round of an audit to a file of so many bytes
--   asked_challenge s job object round    == the same to a file that the audit works on
--   JudgesFiles s job fs old new          == the rounds of these files, one after the other, turn these
--                                          sums into those
--   HasSums s job sums                    == the sums of an audit over all that it heard
use Rattle.std.specs.Prelude.{◌≡◌, ℕ, List, [], ◌∷◌, length, replicate}
use Rattle.column_defs.specs.Challenges.{Challenge, challenge_of}
use Rattle.column_defs.specs.Verdicts.{Sums, Judges}
use Rattle.record_defs.specs.Records.{Setup}
use Rattle.machine_defs.specs.Jobs.{Pinned, Job}
use Rattle.machine_defs.specs.Setups.{profiled, object_of}
use Rattle.machine_defs.specs.Actions.{rounds_of}
use Rattle.machine_defs.specs.Given.{answers_given, pinned_size, pinned_profile}

-- the challenge of a round of a job for a file of this length
abbrev pub challenge_in : Setup → Job → ℕ → ℕ → ℕ → Challenge
challenge_in s job object size round = challenge_of (object_of s object) size s.picks job.subject round

-- the challenge of a round of a job to a file that it works on
abbrev pub asked_challenge : Setup → Job → ℕ → ℕ → Challenge
asked_challenge s job object round =
    challenge_in (profiled s (pinned_profile s.profile job.pinned object)) job object
    (pinned_size job.pinned object) round

-- one round of a file is judged by what all providers answered
abbrev pub JudgesRound : Setup → Job → Pinned → ℕ → Sums → Sums → Type 0
JudgesRound s job f round old new =
    Judges (object_of (profiled s f.profile) f.id)
    (challenge_in (profiled s f.profile) job f.id (length f.bytes) round)
    (answers_given job.given s.n f.id round) old new

-- rounds of a file are judged one after the other
abbrev pub JudgesRounds : Setup → Job → Pinned → List ℕ → Sums → Sums → Type 0
JudgesRounds s job f [] old new = new ≡ old
JudgesRounds s job f (round ∷ more) old new =
    (mid : Sums) × JudgesRound s job f round old mid × JudgesRounds s job f more mid new

-- files are judged one after the other
abbrev pub JudgesFiles : Setup → Job → List Pinned → Sums → Sums → Type 0
JudgesFiles s job [] old new = new ≡ old
JudgesFiles s job (f ∷ fs) old new =
    (mid : Sums) × JudgesRounds s job f (rounds_of (profiled s f.profile) (length f.bytes)) old mid
    × JudgesFiles s job fs mid new

-- the sums of an audit over all that it heard
abbrev pub HasSums : Setup → Job → Sums → Type 0
HasSums s job sums = JudgesFiles s job job.pinned (record { counts = replicate s.n 0; undecided = 0 }) sums
