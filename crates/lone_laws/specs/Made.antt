-- What actions do to providers, and what they give the job that makes them, where no other job runs.
--
--   With                                 == what the actions of a job are made with: the setup, the job's
--                                           kind, the profile of the file that a put stores, the number that
--                                           its challenges are of, and the files that it works on
--   put_made x object                    == the object under whose number a put stores
--   object_made x object                 == the object of a number among those that a job works on
--   block_stored x given j object stripe == the block that a job stores: of a put's bytes, or of the symbols
--                                           that its work gave
--   challenge_made x object round        == the challenge of an ask
--   CallsOne old j call new              == provider j was called so, and all others are as before
--   Did x action old new given now       == an action that went on: providers, and what was given by then,
--                                           before and after it
--   Made x actions old new given now     == these actions went on, one after the other, the first one first
use Rattle.std.specs.Prelude.{◌≡◌, ℕ, List, [], ◌∷◌, Option}
use Rattle.column_defs.specs.Objects.{Object}
use Rattle.column_defs.specs.Challenges.{Challenge, challenge_of, honest_answer}
use Rattle.column_defs.specs.Columns.{columns, column_of_symbols}
use Rattle.column_defs.specs.Opened.{GivesSymbols}
use Rattle.record_defs.specs.Records.{Setup}
use Rattle.device_defs.specs.Providers.{Provider}
use Rattle.device_defs.specs.ProviderCalls.{Stores, Fetches, Asks, Removes}
use Rattle.machine_defs.specs.Jobs.{Kind, PutJob, Pinned, Given, Fetched, Answered, Worked}
use Rattle.machine_defs.specs.Setups.{profiled, object_of}
use Rattle.machine_defs.specs.Actions.{Action, Store, Fetch, Ask, Work, Remove}
use Rattle.machine_defs.specs.States.{with_provider}
use Rattle.machine_defs.specs.Given.{blocks_given, symbols_given, pinned_size, pinned_profile}

-- what the actions of a job are made with
pub record With : Type 0 where
  pub setup : Setup
  pub kind : Kind
  pub profile : ℕ
  pub subject : ℕ
  pub pinned : List Pinned

-- the object under whose number a put stores
abbrev pub put_made : With → ℕ → Object
put_made x object = object_of (profiled x.setup x.profile) object

-- the object of a number among those that a job works on
abbrev pub object_made : With → ℕ → Object
object_made x object =
    object_of (profiled x.setup (pinned_profile x.setup.profile x.pinned object)) object

-- the block that a job stores
abbrev pub block_stored : With → Kind → List Given → ℕ → ℕ → ℕ → List ℕ
block_stored x (PutJob name bytes) given j object stripe = columns (put_made x object) bytes j stripe
block_stored x kind given j object stripe =
    column_of_symbols (object_made x object) (symbols_given given object stripe) j stripe

-- the challenge of an ask
abbrev pub challenge_made : With → ℕ → ℕ → Challenge
challenge_made x object round =
    challenge_of (object_made x object) (pinned_size x.pinned object) x.setup.picks x.subject round

-- one provider was called, and all others are as before
abbrev pub CallsOne : (ℕ → Provider) → ℕ → (Provider → Provider → Type 0) → (ℕ → Provider) → Type 0
CallsOne old j call new = (p : Provider) × call (old j) p × (new ≡ with_provider old j p)

-- an action that went on
abbrev pub Did : With → Action → (ℕ → Provider) → (ℕ → Provider) → List Given → List Given → Type 0
Did x (Store j object stripe) old new given now =
    CallsOne old j (Stores object stripe (block_stored x x.kind given j object stripe)) new × (now ≡ given)
Did x (Fetch j object stripe) old new given now =
    (block : Option (List ℕ)) × CallsOne old j (λ p q. Fetches (object_made x object).profile.size
    object stripe p block q) new
    × (now ≡ Fetched j object stripe block ∷ given)
Did x (Ask j object round) old new given now =
    (symbol : Option ℕ) × CallsOne old j
    (λ p q. Asks (honest_answer (challenge_made x object round)) object p symbol q) new
    × (now ≡ Answered j object round symbol ∷ given)
Did x (Work object stripe) old new given now =
    (symbols : List ℕ) × GivesSymbols (object_made x object) stripe
    (blocks_given given x.setup.n object stripe) symbols
    × (new ≡ old) × (now ≡ Worked object stripe symbols ∷ given)
Did x (Remove j object) old new given now = CallsOne old j (Removes object) new × (now ≡ given)
Did x action old new given now = (new ≡ old) × (now ≡ given)

-- actions that went on, the first one first
abbrev pub Made : With → List Action → (ℕ → Provider) → (ℕ → Provider) → List Given → List Given → Type 0
Made x [] old new given now = (new ≡ old) × (now ≡ given)
Made x (action ∷ actions) old new given now =
    (mid : ℕ → Provider) × (so_far : List Given) × Did x action old mid given so_far
    × Made x actions mid new so_far now
