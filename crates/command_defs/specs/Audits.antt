-- What an audit leaves and counts whose job was the only one. What it heard decides alone on its counts.
--
--   files_by_number files            == files in ascending order of their object numbers
--   questions s files                == a question for each file that has a stripe and each round, in order
--   answer_heard x object round j    == the answer that the ask of provider j in a round gave, by what was
--                                       heard
--   answer_entries x                 == an entry for each question and each provider of the setup, in order
--   HearsRounds x number             == these entries were heard, and each provider that tells gave its
--                                       honest answer to the challenge, or none where its count rose
--   JudgesAll x number asked old new == the rounds of these questions, one after the other, turn these sums
--                                       into those
--   AuditIsCut x                     == an audit that a fault of the disk cut off, at its first record or at
--                                       its last one
--   AuditLeaves x answer             == what an audit leaves where it ended with this answer
use Rattle.std.specs.Prelude.{◌≡◌, ◌⊎◌, ℕ, ◌<◌, List, [], ◌∷◌, map, replicate, nat_lt, Option, None, Some, IfSome, if◌then◌else◌}
use Rattle.std.specs.List.{flat_map}
use Rattle.code_defs.specs.Points.{upto}
use Rattle.column_defs.specs.Challenges.{Challenge, challenge_of, honest_answer}
use Rattle.column_defs.specs.Verdicts.{Sums, Judges}
use Rattle.device_defs.specs.Faults.{Rose}
use Rattle.record_defs.specs.Records.{Setup, Record, AuditStart, AuditDone}
use Rattle.record_defs.specs.Table.{File, files_of, next_audit}
use Rattle.machine_defs.specs.Jobs.{Answered}
use Rattle.machine_defs.specs.Setups.{profiled}
use Rattle.machine_defs.specs.Actions.{rounds_of}
use Rattle.machine_defs.specs.Given.{answer_given, answers_given}
use Rattle.machine_defs.specs.Heard.{Entry, given_to}
use Rattle.machine_defs.specs.Answers.{Answer, Audited, DiskFault, Memory}
use Rattle.command_defs.specs.Ran.{Ran, setup_at_begin, object_at_begin, job_number, SameHeld, NoFetches, IsWhole, IsCut}
use Rattle.command_defs.specs.Truthful.{IsTruthful}

-- a file among others in ascending order of their numbers
abbrev pub with_number : File → List File → List File
with_number f [] = f ∷ []
with_number f (g ∷ gs) = if nat_lt f.id g.id then f ∷ g ∷ gs else g ∷ with_number f gs

-- files in ascending order of their numbers
abbrev pub files_by_number : List File → List File
files_by_number [] = []
files_by_number (f ∷ fs) = with_number f (files_by_number fs)

-- a question: of a file in a round
pub record Question : Type 0 where
  pub file : File
  pub round : ℕ

-- a question for each file that has a stripe and each round
abbrev pub questions : Setup → List File → List Question
questions s files =
    flat_map (λ (f : File). map (λ round. record { file = f; round = round })
    (rounds_of (profiled s f.profile) f.size)) (files_by_number files)

-- the questions of an audit
abbrev pub questions_of : Ran → List Question
questions_of x = questions (setup_at_begin x) (files_of x.records)

-- the challenge of a question
abbrev pub challenge_at : Ran → ℕ → Question → Challenge
challenge_at x number q =
    challenge_of (object_at_begin x q.file) q.file.size (setup_at_begin x).picks number q.round

-- the answer that an ask gave
abbrev pub answer_heard : Ran → ℕ → ℕ → ℕ → Option ℕ
answer_heard x object round j = answer_given (given_to job_number x.heard) object round j

-- one entry for each question and provider, in order
abbrev pub answer_entries : Ran → List Entry
answer_entries x =
    flat_map (λ (q : Question). map
    (λ j. record {
      job = job_number;
      given = Answered j q.file.id q.round (answer_heard x q.file.id q.round j);
    })
    (upto (setup_at_begin x).n)) (questions_of x)

-- each question was asked of each provider
pub record HearsRounds (x : Ran) (number : ℕ) : Type 0 where
  pub heard : x.heard ≡ answer_entries x
  pub truthful : (j : ℕ) → j < (setup_at_begin x).n → IfSome (x.old j).held (λ held.
      IsTruthful (λ (q : Question). answer_heard x q.file.id q.round j)
      (λ (q : Question). honest_answer (challenge_at x number q) (held q.file.id))
      (questions_of x) (x.old j).other_faults (x.new j).other_faults)

-- one round is judged by what all providers answered
abbrev pub JudgesOne : Ran → ℕ → Question → Sums → Sums → Type 0
JudgesOne x number q old new =
    Judges (object_at_begin x q.file) (challenge_at x number q)
    (answers_given (given_to job_number x.heard) (setup_at_begin x).n q.file.id q.round) old new

-- rounds are judged one after the other
abbrev pub JudgesAll : Ran → ℕ → List Question → Sums → Sums → Type 0
JudgesAll x number [] old new = new ≡ old
JudgesAll x number (q ∷ qs) old new =
    (mid : Sums) × JudgesOne x number q old mid × JudgesAll x number qs mid new

-- the sums of an audit of which nothing was asked yet
abbrev pub no_sums : Ran → Sums
no_sums x = record { counts = replicate (setup_at_begin x).n 0; undecided = 0 }

-- the counts of an audit are the verdicts on what it heard
abbrev pub CountsHeard : Ran → ℕ → ℕ → List ℕ → Type 0
CountsHeard x number undecided counts =
    JudgesAll x number (questions_of x) (no_sums x) (record { counts = counts; undecided = undecided })

-- the records that an audit appends, the oldest first
abbrev pub audit_records : List Record → ℕ → List ℕ → List Record
audit_records records undecided counts =
    AuditStart (next_audit records) ∷ AuditDone (next_audit records) undecided counts ∷ []

-- an audit that a fault of the disk cut off: at its first record it has heard nothing, at its last one it
-- has heard all. The record in doubt is the very one that was being written, and an end in doubt has the
-- verdicts on what was heard
pub data AuditIsCut (x : Ran) : Type 0 where
  at_start : x.after ≡ x.records → (x.doubt ≡ None) ⊎ (x.doubt ≡ Some (AuditStart (next_audit x.records)))
      → x.heard ≡ [] → AuditIsCut x
  before_done : x.after ≡ AuditStart (next_audit x.records) ∷ x.records → x.doubt ≡ None
      → HearsRounds x (next_audit x.records) → AuditIsCut x
  at_done : (undecided : ℕ) (counts : List ℕ) → x.after ≡ AuditStart (next_audit x.records) ∷ x.records →
      x.doubt ≡ Some (AuditDone (next_audit x.records) undecided counts)
      → HearsRounds x (next_audit x.records) →
      CountsHeard x (next_audit x.records) undecided counts → AuditIsCut x

-- what an audit leaves of its own
abbrev pub AuditGives : Ran → Answer → Type 0
AuditGives x (Audited number undecided counts) =
    (number ≡ next_audit x.records) × IsWhole x (audit_records x.records undecided counts)
    × HearsRounds x number × CountsHeard x number undecided counts
AuditGives x DiskFault = Rose x.disk_before x.disk_after × AuditIsCut x
AuditGives x Memory = (undecided : ℕ) × (counts : List ℕ) × IsCut x (audit_records x.records undecided counts)
AuditGives x answer = ⊥

-- what an audit leaves: it fetches nothing, and providers hold what they held
pub record AuditLeaves (x : Ran) (answer : Answer) : Type 0 where
  pub gives : AuditGives x answer
  pub held : SameHeld x
  pub fetches : NoFetches x
