-- The actions of a job, in order.
--
--   Action                    == one action: a move of an append, one call of a provider, the work on a
--                                stripe, or the end
--   append_actions            == the four moves of an append
--   PinsOf P                  == how a list of pinned files is read, whatever a pinned file is
--   Plan P                    == all that the actions of a job hang on, with pinned files of any kind
--   plan_actions p s plan aim == the actions of a plan
--   plan_of job               == the plan of a job of the machine
--   actions_of s job          == all actions of a job; its place is an index into them
--   actions_left s job        == those that it has not yet made
--   ends_append action        == the action is the fourth move of an append
--   appends_left s job        == how many appends the job has not yet finished
--
-- Files go in ascending order of their object numbers, stripes from 0 on, and in each stripe or round
-- providers from 0 to n - 1.
use Rattle.std.specs.Prelude.{ℕ, ◌==◌, Bool, true, false, List, [], ◌∷◌, ◌++◌, length, drop, map, count_by, if◌then◌else◌}
use Rattle.std.specs.List.{flat_map}
use Rattle.code_defs.specs.Points.{upto}
use Rattle.record_defs.specs.Records.{Setup}
use Rattle.machine_defs.specs.Jobs.{Kind, Aim, ToPut, ToGet, ToDrop, ToAudit, ToRepair, ToUpgrade, aim_of, Pinned, Job}
use Rattle.machine_defs.specs.Setups.{profiled, stripes_of}

-- one action of a job, which makes at most one device call
pub data Action : Type 0 where
  WriteBody : Action
  SyncBody : Action
  WriteGate : Action
  SyncGate : Action
  Store : (provider object stripe : ℕ) → Action
  Fetch : (provider object stripe : ℕ) → Action
  Ask : (provider object round : ℕ) → Action
  Work : (object stripe : ℕ) → Action
  Remove : (provider object : ℕ) → Action
  End : Action

-- an append is four actions
abbrev pub append_actions : List Action
append_actions = WriteBody ∷ SyncBody ∷ WriteGate ∷ SyncGate ∷ []

-- one action for each provider
abbrev pub on_each_provider : Setup → (ℕ → Action) → List Action
on_each_provider s action = map action (upto s.n)

-- the actions for each stripe of a file of so many bytes
abbrev pub on_each_stripe : Setup → ℕ → (ℕ → List Action) → List Action
on_each_stripe s size actions = flat_map actions (upto (stripes_of s size))

-- how a list of pinned files is read: by the machine, which has their bytes, and by a program that has
-- their lengths
pub record PinsOf (P : Type 0) : Type 0 where
  pub id : P → ℕ
  pub profile : P → ℕ
  pub size : P → ℕ

-- the machine's pinned files
abbrev pub machine_pins : PinsOf Pinned
machine_pins = record { id = λ f. f.id; profile = λ f. f.profile; size = λ f. length f.bytes }

-- the stores of a put of so many bytes at a profile: each stripe on each provider
abbrev pub store_plan : Setup → ℕ → ℕ → ℕ → List Action
store_plan s profile subject size =
    on_each_stripe (profiled s profile) size (λ stripe. on_each_provider s (λ j. Store j subject stripe))

-- those of a job
abbrev pub store_actions : Setup → Job → List ℕ → List Action
store_actions s job bytes = store_plan s job.profile job.subject (length bytes)

-- a fetch from each provider, and the work on what they gave
abbrev pub open_actions : Setup → ℕ → ℕ → List Action
open_actions s object stripe = on_each_provider s (λ j. Fetch j object stripe) ++ Work object stripe ∷ []

-- the fetches and the work of a get: stripe by stripe of its file
abbrev pub read_plan : {P : Type 0} → PinsOf P → Setup → List P → List Action
read_plan p s pins =
    flat_map (λ f. on_each_stripe (profiled s (p.profile f)) (p.size f) (open_actions s (p.id f))) pins

-- those of a job
abbrev pub read_actions : Setup → List Pinned → List Action
read_actions s pinned = read_plan machine_pins s pinned

-- a store on each provider that a repair rewrites
abbrev pub rewrite_plan : Setup → (ℕ → Bool) → ℕ → ℕ → List Action
rewrite_plan s flagged object stripe =
    flat_map (λ j. if flagged j then Store j object stripe ∷ [] else []) (upto s.n)

-- those of a job
abbrev pub rewrite_actions : Setup → Job → ℕ → ℕ → List Action
rewrite_actions s job object stripe = rewrite_plan s job.flagged object stripe

-- the fetches, the work and the stores of a repair
abbrev pub repair_plan : {P : Type 0} → PinsOf P → Setup → (ℕ → Bool) → List P → List Action
repair_plan p s flagged pins =
    flat_map (λ f. on_each_stripe (profiled s (p.profile f)) (p.size f)
    (λ stripe. open_actions s (p.id f) stripe ++ rewrite_plan s flagged (p.id f) stripe)) pins

-- those of a job
abbrev pub repair_actions : Setup → Job → List Action
repair_actions s job = repair_plan machine_pins s job.flagged job.pinned

-- a file of no stripes is asked for in no round
abbrev pub rounds_of : Setup → ℕ → List ℕ
rounds_of s size = if stripes_of s size == 0 then [] else upto s.rounds

-- the asks of an audit: each file in each round of each provider
abbrev pub ask_plan : {P : Type 0} → PinsOf P → Setup → List P → List Action
ask_plan p s pins =
    flat_map (λ f. flat_map (λ round. on_each_provider s (λ j. Ask j (p.id f) round))
    (rounds_of (profiled s (p.profile f)) (p.size f))) pins

-- those of a job
abbrev pub ask_actions : Setup → Job → List Action
ask_actions s job = ask_plan machine_pins s job.pinned

-- the removals of the object that is taken away, if there is one
abbrev pub remove_plan : Setup → List ℕ → List Action
remove_plan s older = flat_map (λ object. on_each_provider s (λ j. Remove j object)) older

-- those of a job
abbrev pub remove_actions : Setup → Job → List Action
remove_actions s job = remove_plan s job.older

-- All that the actions of a job hang on. A program keeps one for each job, with its own kind of pinned files.
pub record Plan (P : Type 0) : Type 0 where
  pub aim : Aim
  pub profile : ℕ
  pub subject : ℕ
  pub older : List ℕ
  pub flagged : ℕ → Bool
  pub pins : List P

-- the actions of a plan
abbrev pub plan_actions : {P : Type 0} → PinsOf P → Setup → Plan P → Aim → List Action
plan_actions p s plan (ToPut name size) =
    append_actions ++ (store_plan s plan.profile plan.subject size
    ++ (append_actions ++ (remove_plan s plan.older ++ End ∷ [])))
plan_actions p s plan (ToGet name) = read_plan p s plan.pins ++ End ∷ []
plan_actions p s plan (ToDrop name) = append_actions ++ (remove_plan s plan.older ++ End ∷ [])
plan_actions p s plan ToAudit = append_actions ++ (ask_plan p s plan.pins ++ (append_actions ++ End ∷ []))
plan_actions p s plan ToRepair = repair_plan p s plan.flagged plan.pins ++ (append_actions ++ End ∷ [])
plan_actions p s plan ToUpgrade = append_actions ++ End ∷ []

-- the plan of a job of the machine
abbrev pub plan_of : Job → Plan Pinned
plan_of job =
    record {
      aim = aim_of job.kind;
      profile = job.profile;
      subject = job.subject;
      older = job.older;
      flagged = job.flagged;
      pins = job.pinned;
    }

-- the actions of a job, by its kind
abbrev pub actions_by : Setup → Job → Kind → List Action
actions_by s job kind = plan_actions machine_pins s (plan_of job) (aim_of kind)

-- the actions of a job
unfoldable pub actions_of : Setup → Job → List Action
actions_of s job = actions_by s job job.kind

-- the actions that a job has not yet made
abbrev pub actions_left : Setup → Job → List Action
actions_left s job = drop job.place (actions_of s job)

-- an action is the last one of an append
abbrev pub ends_append : Action → Bool
ends_append SyncGate = true
ends_append action = false

-- how many appends a job has not yet finished
abbrev pub appends_left : Setup → Job → ℕ
appends_left s job = count_by ends_append (actions_left s job)
