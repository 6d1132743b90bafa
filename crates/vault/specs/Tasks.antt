-- What a running job works with, and how it matches the job of the machine.
--
--   answered_gifts o r c answers older == what was given, after what is older, once asks of the providers
--                                         from c on gave these answers in a round
--   HasFetched o s c blocks given      == the last c blocks are what the fetches of the stripe in work gave
--   IsInWork phase blocks rows given   == the same where a stripe is fetched; where it is opened the rows are
--                                         its symbols
--   AreOfSetup s benches               == each bench is that of an object of the setup at some profile
--   OneHas P xs                        == one of these has it
--   HasBenchFor s profile benches      == one of them is that of such an object at this profile
--   IsAtHand s pinned phase bench      == the bench is that of the object in work, by the profile of its file
--   IsPutTask, IsStream, IsGet, IsDrop, IsAudit, IsRepair, IsUpgrade s task job rest
--                                      == what a job of this kind works with
--   IsTask s job rest task             == one of these
--   AreRunning s running jobs          == the running jobs, in order, with what they work with
use Rattle.std.specs.Prelude.{◌≡◌, ◌⊎◌, ℕ, ◌+◌, ◌*◌, ◌^◌, ◌<◌, ◌≤◌, Bool, List, [], ◌∷◌, ◌++◌, length, replicate, Option, vec_len, vec_capacity}
use Rattle.std.specs.List.{flat_map}
use Rattle.std.specs.Option.{ForSome}
use Rattle.algebra_laws.specs.Lists.{Each}
use Rattle.code_defs.specs.Points.{upto}
use Rattle.column_defs.specs.Objects.{bytes_of_symbols, stripe_symbols, symbols_in}
use Rattle.column_defs.specs.Verdicts.{Sums}
use Rattle.record_defs.specs.Records.{Setup}
use Rattle.record_codec.specs.Entries.{counted, IsPadded}
use Rattle.column_codec.specs.PresentBlocks.{present_blocks}
use Rattle.machine_defs.specs.Jobs.{PutJob, GetJob, DropJob, AuditJob, RepairJob, UpgradeJob, Pinned, Given, Answered, Job}
use Rattle.machine_defs.specs.Setups.{pinned_stripes}
use Rattle.machine_defs.specs.Given.{symbols_given, pinned_profile}
use Rattle.machine_defs.specs.Actions.{Action, actions_left}
use Rattle.machine_defs.specs.Heard.{entries_of}
use Rattle.stripe_bench.specs.declared.blocks.Blocks.{Blocks}
use Rattle.column_codec.specs.declared.bench.Bench.{Bench}
use Rattle.vault.specs.declared.tasks.PutTask.{PutTask}
use Rattle.vault.specs.declared.tasks.StreamTask.{StreamTask}
use Rattle.vault.specs.declared.tasks.GetTask.{GetTask}
use Rattle.vault.specs.declared.tasks.AuditTask.{AuditTask}
use Rattle.vault.specs.declared.tasks.RepairTask.{RepairTask}
use Rattle.vault.specs.declared.tasks.Task.{Task}
use Rattle.vault.specs.declared.tasks.Task.TheVariants as task
use Rattle.vault.specs.declared.tasks.Running.{Running}
use Rattle.column_codec.specs.Bench.{bench_object}
use Rattle.stripe_bench.specs.Bench.{IsBench}
use Rattle.stripe_bench.specs.Gifts.{fetched_gifts}
use Rattle.vault.specs.Heard.{entries_fetched, answered_entries}
use Rattle.vault.specs.Orders.{Phase, Between, Fetching, Opened, GoesOn, OpensFrom, fetches_left, works_left, asks_left}
use Rattle.vault.specs.Rounds.{Round, rounds_in, JudgesEach, AsksOn}

-- what was given, once asks of the providers from c on gave these answers in a round
abbrev pub answered_gifts : ℕ → ℕ → ℕ → List (Option ℕ) → List Given → List Given
answered_gifts o r c [] older = older
answered_gifts o r c (symbol ∷ symbols) older =
    answered_gifts o r (c + 1) symbols (Answered c o r symbol ∷ older)

-- the last blocks are what the fetches of the stripe in work gave
pub record HasFetched (o s c : ℕ) (b : Blocks) (given : List Given) : Type 0 where
  pub flags_before : List Bool
  pub flags : List Bool
  pub symbols_before : List ℕ
  pub symbols : List ℕ
  pub older : List Given
  pub present_is : b.present.items ≡ flags_before ++ flags
  pub symbols_is : b.symbols.items ≡ symbols_before ++ symbols
  pub count : length flags ≡ c
  pub size : length symbols ≡ c * b.size
  pub given_is : given ≡ fetched_gifts o s 0 (present_blocks b.size flags symbols) older

-- what is at hand of the stripe in work
abbrev pub IsInWork : Phase → Blocks → List ℕ → List Given → Type 0
IsInWork Between b rows given = Unit {0}
IsInWork (Fetching o s c) b rows given = HasFetched o s c b given
IsInWork (Opened o s) b rows given = rows ≡ symbols_given given o s

-- how many blocks of the stripe in work are fetched
abbrev pub fetched_in : Phase → ℕ
fetched_in (Fetching o s c) = c
fetched_in phase = 0

-- each bench is that of an object of the setup, at a profile of its own
abbrev pub AreOfSetup : Setup → List Bench → Type 0
AreOfSetup s benches = Each (λ b. (p : ℕ) × IsBench s p b) benches

-- one of these has it
abbrev pub OneHas : {X : Type 0} → (X → Type 0) → List X → Type 0
OneHas P [] = ⊥
OneHas P (x ∷ xs) = P x ⊎ OneHas P xs

-- one of these benches is that of an object of the setup at this profile
abbrev pub HasBenchFor : Setup → ℕ → List Bench → Type 0
HasBenchFor s profile benches = OneHas (λ b. IsBench s profile b) benches

-- the bench is that of the object in work
abbrev pub IsAtHand : Setup → List Pinned → Phase → Bench → Type 0
IsAtHand s pinned Between bench = Unit {0}
IsAtHand s pinned (Fetching o t c) bench = IsBench s (pinned_profile s.profile pinned o) bench
IsAtHand s pinned (Opened o t) bench = IsBench s (pinned_profile s.profile pinned o) bench

-- a put has its bytes
pub record IsPutTask (s : Setup) (t : PutTask) (job : Job) : Type 0 where
  pub name : List ℕ
  pub kind : job.kind ≡ PutJob name t.bytes
  pub bench : IsBench s job.profile t.bench

-- a stream has the symbols of the stripe at hand, out of its file
pub record IsStream (s : Setup) (t : StreamTask) (job : Job) : Type 0 where
  pub name : List ℕ
  pub bytes : List ℕ
  pub kind : job.kind ≡ PutJob name bytes
  pub bench : IsBench s job.profile t.bench
  pub rows : ForSome t.at_hand (λ stripe. t.bench.rows.items ≡ symbols_in (bench_object t.bench) bytes stripe)

-- a get has what it heard and what it opened so far, and room for the rest
pub record IsGet (s : Setup) (t : GetTask) (job : Job) (rest : List Action) : Type 0 where
  pub name : List ℕ
  pub kind : job.kind ≡ GetJob name
  pub file : Pinned
  pub pinned : job.pinned ≡ file ∷ []
  pub length_is : t.length ≡ length file.bytes
  pub bench : IsBench s file.profile t.bench
  pub size : t.fetched.blocks.size ≡ t.bench.keys.file.profile.size
  pub job_is : t.fetched.job ≡ job.number
  pub object_is : t.fetched.object ≡ file.id
  pub n_is : t.fetched.n ≡ s.n
  pub heard : entries_fetched t.fetched ≡ entries_of job.number job.given
  pub symbols : length t.fetched.blocks.symbols.items
      ≡ length t.fetched.blocks.present.items * t.fetched.blocks.size
  pub phase : Phase
  pub order : GoesOn s.n phase rest
  pub in_work : IsInWork phase t.fetched.blocks t.bench.rows.items job.given
  pub opened : ℕ
  pub opens : OpensFrom file.id (pinned_stripes s file) opened rest
  pub count : length t.fetched.blocks.present.items ≡ opened * s.n + fetched_in phase
  pub bytes : t.bytes.items ≡ flat_map (λ stripe. bytes_of_symbols (symbols_given job.given file.id stripe))
      (upto opened)
  pub few : length t.fetched.blocks.present.items + fetches_left rest ≤ 2 ^ 32
  pub room_present : vec_len t.fetched.blocks.present
      + fetches_left rest ≤ vec_capacity t.fetched.blocks.present
  pub room_symbols : vec_len t.fetched.blocks.symbols
      + fetches_left rest * t.fetched.blocks.size ≤ vec_capacity t.fetched.blocks.symbols
  pub room_bytes : vec_len t.bytes + works_left rest * (16 * stripe_symbols (bench_object t.bench))
      ≤ vec_capacity t.bytes

-- an upgrade works with nothing
abbrev pub IsUpgrade : Job → Type 0
IsUpgrade job = job.kind ≡ UpgradeJob

-- a drop works with nothing
pub record IsDrop (job : Job) : Type 0 where
  pub name : List ℕ
  pub kind : job.kind ≡ DropJob name

-- the sums before the first round
abbrev pub empty_sums : Setup → Sums
empty_sums s = record { counts = replicate s.n 0; undecided = 0 }

-- the last answers are what the asks of the round in work gave
pub record HasAnswered (x : Round) (c : ℕ) (symbols : List (Option ℕ)) (given : List Given) : Type 0 where
  pub before : List (Option ℕ)
  pub now : List (Option ℕ)
  pub older : List Given
  pub symbols_is : symbols ≡ before ++ now
  pub count : length now ≡ c
  pub given_is : given ≡ answered_gifts x.file.id x.number 0 now older

-- what is at hand of the round in work, the first of these
abbrev pub IsAsked : List Round → ℕ → List (Option ℕ) → List Given → Type 0
IsAsked [] c symbols given = Unit {0}
IsAsked (x ∷ xs) c symbols given = HasAnswered x c symbols given

-- an audit has what it heard, the sums of the rounds that are over, and room for the rest
pub record IsAudit (s : Setup) (t : AuditTask) (job : Job) (rest : List Action) : Type 0 where
  pub kind : job.kind ≡ AuditJob
  pub job_is : t.heard.job ≡ job.number
  pub heard : answered_entries t.heard.job t.heard.asks.items t.heard.symbols.items
      ≡ entries_of job.number job.given
  pub asks : length t.heard.asks.items ≡ length t.heard.symbols.items
  pub over : List Round
  pub left : List Round
  pub rounds : rounds_in s job.pinned ≡ over ++ left
  pub opening : job.place < 4 → over ≡ []
  pub asked : ℕ
  pub order : AsksOn s.n left asked rest
  pub in_work : IsAsked left asked t.heard.symbols.items job.given
  pub counts : (t.counts.n ≡ s.n) × IsPadded t.counts
  pub sums : JudgesEach s job over (empty_sums s)
      (record { counts = counted t.counts; undecided = t.undecided })
  pub room_asks : vec_len t.heard.asks + asks_left rest ≤ vec_capacity t.heard.asks
  pub room_symbols : vec_len t.heard.symbols + asks_left rest ≤ vec_capacity t.heard.symbols

-- a repair has what is at hand of the stripe in work, a bench for each file, and room for the blocks of each
pub record IsRepair (s : Setup) (t : RepairTask) (job : Job) (rest : List Action) : Type 0 where
  pub kind : job.kind ≡ RepairJob
  pub benches : AreOfSetup s (t.bench ∷ t.others.items)
  pub each : (o : ℕ) → HasBenchFor s (pinned_profile s.profile job.pinned o) (t.bench ∷ t.others.items)
  pub size : t.blocks.size ≡ t.bench.keys.file.profile.size
  pub phase : Phase
  pub bench : IsAtHand s job.pinned phase t.bench
  pub order : GoesOn s.n phase rest
  pub in_work : IsInWork phase t.blocks t.bench.rows.items job.given
  pub present : length t.blocks.present.items ≡ fetched_in phase
  pub symbols : length t.blocks.symbols.items ≡ fetched_in phase * t.blocks.size
  pub room_present : s.n ≤ vec_capacity t.blocks.present
  pub room_symbols : s.n * 128 ≤ vec_capacity t.blocks.symbols

-- what a job works with
abbrev pub IsTask : Setup → Job → List Action → Task → Type 0
IsTask s job rest (task.Put t) = IsPutTask s t job
IsTask s job rest (task.Stream t) = IsStream s t job
IsTask s job rest (task.Get t) = IsGet s t job rest
IsTask s job rest task.Drop = IsDrop job
IsTask s job rest (task.Audit t) = IsAudit s t job rest
IsTask s job rest (task.Repair t) = IsRepair s t job rest
IsTask s job rest task.Upgrade = IsUpgrade job

-- a running job with what it works with
pub record IsRunning (s : Setup) (r : Running) (job : Job) : Type 0 where
  pub number : r.number ≡ job.number
  pub task : IsTask s job (actions_left s job) r.task

-- the running jobs, in order, with what they work with
abbrev pub AreRunning : Setup → List Running → List Job → Type 0
AreRunning s [] [] = Unit {0}
AreRunning s (r ∷ rs) (j ∷ js) = IsRunning s r j × AreRunning s rs js
AreRunning s [] (j ∷ js) = ⊥
AreRunning s (r ∷ rs) [] = ⊥
