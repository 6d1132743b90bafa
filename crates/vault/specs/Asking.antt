-- What an ask does to what an audit works with.
--
--   pin_among pinned object                     == the file of an object number among those that a job works
--                                                  on; None where there is none
--   pin_in c job object                         == the same of those of a running job
--   profile_or other file                       == the profile of a file, and the other one where there is
--                                                  none
--   IsQuestion v job object round q             == the file, the audit's number, the round and the picks of
--                                                  an ask
--   challenge_put master q                      == the challenge of it
--   GrowsAnswers old new ask symbol             == one answer more was heard
--   last_answers n symbols                      == the last n answers
--   HasJudged master q old new                  == the round of the last answers turned the sums of the audit
--                                                  into those
--   TakesAsk master q k old new symbol          == provider k was asked, and the round was judged where it is
--                                                  the last
--   HasRoomForAsk a, CanJudge q t, CanAsk q k t == there is room for an answer; the round can be judged;
--                                                  both, where there has to be
--   Asked, MayAsk                               == the same of what a job works with
--   sums_on t                                   == the sums of an audit so far
--   TellsAsk is_last t reply                    == the reply to an ask: a verdict to the last, with the sums
--                                                  of what the audit works with
--   IsAuditing t                                == an audit works with it
--   MayTell n t                                 == its counts are padded, and those of so many providers
--   MayPut v job object                         == there is such a file, which has rows
use Rattle.std.specs.Prelude.{◌≡◌, ℕ, ◌+◌, ◌-◌, ◌*◌, ◌≤◌, ◌<◌, ◌^◌, ◌==◌, Bool, true, false, List, [], ◌∷◌, ◌++◌, length, drop, Option, None, Some, IfSome, vec_len, vec_capacity, nat_lt, position, slice_get}
use Rattle.std.specs.List.{list_all}
use Rattle.column_defs.specs.Challenges.{Challenge, challenge_of}
use Rattle.code_defs.specs.Profiles.{profile_of}
use Rattle.record_defs.specs.Records.{largest_file}
use Rattle.code_points.specs.Profile.{plain_profile}
use Rattle.column_defs.specs.Objects.{Object, stripes}
use Rattle.column_defs.specs.Verdicts.{Sums, Judges}
use Rattle.file_layout.specs.Files.{shaped_object}
use Rattle.record_codec.specs.Entries.{IsPadded}
use Rattle.audit_verdict.specs.Rounds.{sums_of}
use Rattle.vault_core.specs.View.{CoreJob, CoreView, job_in}
use Rattle.vault_core.specs.declared.pinned.Pinned.{Pinned}
use Rattle.vault_core.specs.declared.reply.Reply.{Reply}
use Rattle.vault_core.specs.declared.reply.Reply.TheVariants as reply
use Rattle.vault.specs.declared.question.Question.{Question}
use Rattle.vault.specs.declared.heard.Ask.{Ask}
use Rattle.vault.specs.declared.heard.Answers.{Answers}
use Rattle.vault.specs.declared.tasks.AuditTask.{AuditTask}
use Rattle.vault.specs.declared.tasks.Task.{Task}
use Rattle.vault.specs.declared.tasks.Task.TheVariants as task
use Rattle.vault.specs.declared.desk.Desk.{Desk}

-- the file at a place
abbrev pub pin_at : List Pinned → Option ℕ → Option Pinned
pin_at fs None = None
pin_at fs (Some k) = slice_get fs k

-- the file of an object number
abbrev pub pin_among : List Pinned → ℕ → Option Pinned
pin_among fs object = pin_at fs (position (λ (f : Pinned). f.id == object) fs)

-- the same of the files of a job, if it runs
abbrev pub pin_of_job : Option CoreJob → ℕ → Option Pinned
pin_of_job None object = None
pin_of_job (Some j) object = pin_among j.plan.pins object

-- the same of those of the job of a number
abbrev pub pin_in : CoreView → ℕ → ℕ → Option Pinned
pin_in c job object = pin_of_job (job_in c.jobs job) object

-- the profile of a file, and this one where there is none
abbrev pub profile_or : ℕ → Option Pinned → ℕ
profile_or other None = other
profile_or other (Some f) = f.profile

-- the number of a job as an audit, if it runs
abbrev pub IsAuditNumber : Option CoreJob → ℕ → Type 0
IsAuditNumber None number = ⊥
IsAuditNumber (Some j) number = number ≡ j.plan.subject

-- the file, the audit's number, the round and the picks of an ask
pub record IsQuestion (v : Desk) (job object round : ℕ) (q : Question) : Type 0 where
  pub id_is : q.file.id ≡ object
  pub shape_is : q.file.shape ≡ v.shape
  pub file : Pinned
  pub found : pin_in v.core job object ≡ Some file
  pub profile_is : plain_profile q.file.profile ≡ profile_of file.profile
  pub length_is : q.file.length ≡ file.length
  pub number_is : IsAuditNumber (job_in v.core.jobs job) q.number
  pub round_is : q.round ≡ round
  pub picks_is : q.picks ≡ v.setup.picks

-- the challenge of an ask
abbrev pub challenge_put : List ℕ → Question → Challenge
challenge_put master q = challenge_of (shaped_object master q.file) q.file.length q.picks q.number q.round

-- one answer more was heard
pub record GrowsAnswers (old new : Answers) (ask : Ask) (symbol : Option ℕ) : Type 0 where
  pub job : new.job ≡ old.job
  pub asks : new.asks.items ≡ old.asks.items ++ ask ∷ []
  pub symbols : new.symbols.items ≡ old.symbols.items ++ symbol ∷ []
  pub room_asks : vec_capacity old.asks ≤ vec_capacity new.asks
  pub room_symbols : vec_capacity old.symbols ≤ vec_capacity new.symbols

-- the last answers
abbrev pub last_answers : ℕ → List (Option ℕ) → List (Option ℕ)
last_answers n symbols = drop (length symbols - n) symbols

-- the sums of an audit so far
abbrev pub sums_on : AuditTask → Sums
sums_on t = sums_of t.counts t.undecided

-- the round of the last answers was judged
pub record HasJudged (master : List ℕ) (q : Question) (old new : AuditTask) : Type 0 where
  pub judges : Judges (shaped_object master q.file) (challenge_put master q)
      (last_answers q.file.shape.n old.heard.symbols.items) (sums_on old) (sums_on new)
  pub n_is : new.counts.n ≡ old.counts.n
  pub padded : IsPadded old.counts → IsPadded new.counts
  pub heard : new.heard ≡ old.heard

-- what an ask was for
abbrev pub ask_put : Question → ℕ → Ask
ask_put q k = record { provider = k; object = q.file.id; round = q.round }

-- one answer more was heard, and nothing else changed
pub record HasHeard (q : Question) (k : ℕ) (old new : AuditTask) (symbol : Option ℕ) : Type 0 where
  pub heard : GrowsAnswers old.heard new.heard (ask_put q k) symbol
  pub number : IfSome symbol (λ s. s < 2 ^ 128)
  pub counts : new.counts ≡ old.counts
  pub undecided : new.undecided ≡ old.undecided

-- provider k was asked, and the round was judged where it is the last
pub record TakesAsk (master : List ℕ) (q : Question) (k : ℕ) (old new : AuditTask)
    (symbol : Option ℕ) : Type 0 where
  pub mid : AuditTask
  pub hears : HasHeard q k old mid symbol
  pub judged : k + 1 ≡ q.file.shape.n → HasJudged master q mid new
  pub kept : (k + 1 ≡ q.file.shape.n → ⊥) → new ≡ mid

-- there is room for one more answer
pub record HasRoomForAsk (a : Answers) : Type 0 where
  pub asks : vec_len a.asks + 1 ≤ vec_capacity a.asks
  pub symbols : vec_len a.symbols + 1 ≤ vec_capacity a.symbols

-- the counters have room, and the counts are those of so many providers
pub record CanCount (n : ℕ) (t : AuditTask) : Type 0 where
  pub n_is : t.counts.n ≡ n
  pub small : list_all (λ count. nat_lt count (2 ^ 31)) t.counts.by ≡ true
  pub few : t.undecided < 2 ^ 31

-- a round can be judged
pub record CanJudge (n : ℕ) (t : AuditTask) : Type 0 where
  pub counts : CanCount n t
  pub heard : n ≤ vec_len t.heard.symbols

-- an ask can be made
pub record CanAsk (n k : ℕ) (t : AuditTask) : Type 0 where
  pub room : HasRoomForAsk t.heard
  pub counts : CanCount n t
  pub heard : k + 1 ≡ n → n ≤ vec_len t.heard.symbols + 1

-- the same of what a job works with
abbrev pub Asked : List ℕ → Question → ℕ → Task → Task → Option ℕ → Type 0
Asked master q k (task.Audit t) (task.Audit u) symbol = TakesAsk master q k t u symbol
Asked master q k old new symbol = ⊥

-- a job can ask
abbrev pub MayAsk : ℕ → ℕ → Task → Type 0
MayAsk n k (task.Audit t) = CanAsk n k t
MayAsk n k t = ⊥

-- the reply to an ask: a verdict to the last, with the sums of what the audit works with
abbrev pub TellsAsk : Bool → Task → Reply → Type 0
TellsAsk true (task.Audit t) (reply.Verdict undecided counts) =
    (undecided ≡ t.undecided) × (counts ≡ t.counts)
TellsAsk false t reply.Done = Unit {0}
TellsAsk is_last t r = ⊥

-- an audit works with it
abbrev pub IsAuditing : Task → Type 0
IsAuditing (task.Audit t) = Unit {0}
IsAuditing t = ⊥

-- an audit whose counts are padded, of so many providers
abbrev pub MayTell : ℕ → Task → Type 0
MayTell n (task.Audit t) = (t.counts.n ≡ n) × IsPadded t.counts
MayTell n t = ⊥

-- an object of the shape of a vault, at a profile
abbrev pub vault_object : Desk → ℕ → ℕ → Object
vault_object v profile object =
    record {
      shape = record { n = v.shape.n; l = v.shape.l; b = v.shape.b };
      profile = profile_of profile;
      master = [];
      id = object;
    }

-- an ask can be put: there is such a file, which has rows, and the picks are within their limits
pub record MayPut (v : Desk) (job object : ℕ) : Type 0 where
  pub some_picks : 1 ≤ v.setup.picks
  pub few_picks : v.setup.picks ≤ 64
  pub file : Pinned
  pub found : pin_in v.core job object ≡ Some file
  pub few : file.length ≤ largest_file
  pub rows : 1 ≤ stripes (vault_object v file.profile object) file.length * (profile_of file.profile).size
