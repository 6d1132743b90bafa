-- The trial of a seed: a file is put; in each of three epochs one provider loses its blocks, the file is
-- got, an audit and a repair follow, and it is got again. In the first two epochs a repair is first cut off
-- by a stop.
--
--   trial_key seed, trial_bytes seed            == the master key, of the 32 draws behind the first, and the
--                                                  file, of the 65,536 behind these
--   losing_provider seed epoch                  == the provider that loses its blocks: the first draw chooses
--                                                  it in epoch 0, then the next
--   trial_setup seed                            == the setup
--   opening seed                                == init, reopening, and the put, which is job 1 and makes
--                                                  object 1
--   losses provider n                           == the provider loses the blocks of the first n stripes of
--                                                  the object
--   whole kind job                              == a begin, and its job up to its end
--   cut job                                     == the begin of a repair, ten steps of it, a stop and a
--                                                  reopening
--   epoch provider job, last_epoch provider job == an epoch whose first job has this number
--   trial_commands seed                         == all of these, in order
use Rattle.std.specs.Prelude.{ℕ, ◌+◌, ◌/◌, ◌%◌, ◌^◌, List, [], ◌∷◌, ◌++◌, map, replicate, codes}
use Rattle.code_defs.specs.Points.{upto}
use Rattle.record_defs.specs.Records.{Setup}
use Rattle.machine_defs.specs.Jobs.{Kind, PutJob, GetJob, AuditJob, RepairJob}
use Rattle.machine_defs.specs.Events.{Init, Begin, Step, Lose, Stop, Reopen}
use Rattle.machine_defs.specs.Transcripts.{Instruction, Once, RunJob}
use Rattle.trial_maker.specs.Draws.{draw, bytes_behind}

-- the master key
abbrev pub trial_key : ℕ → List ℕ
trial_key seed = bytes_behind seed 1 32

-- the file
abbrev pub trial_bytes : ℕ → List ℕ
trial_bytes seed = bytes_behind seed 33 65536

-- the provider that loses its blocks in an epoch
abbrev pub losing_provider : ℕ → ℕ → ℕ
losing_provider seed epoch = (draw seed 1 / 2 ^ 33 % 6 + epoch) % 6

-- the setup
abbrev pub trial_setup : ℕ → Setup
trial_setup seed =
    record {
      n = 6;
      l = 3;
      b = 1;
      profile = 2;
      rounds = 4;
      picks = 8;
      tolerance = 0;
      master = trial_key seed;
    }

-- the name of the file
abbrev pub trial_name : List ℕ
trial_name = codes "trial"

-- a begin, and its job up to its end
abbrev pub whole : Kind → ℕ → List Instruction
whole kind job = Once (Begin kind) ∷ RunJob job ∷ []

-- init, reopening and the put
unfoldable pub opening : ℕ → List Instruction
opening seed = Once (Init (trial_setup seed)) ∷ Once Reopen ∷ whole (PutJob trial_name (trial_bytes seed)) 1

-- a provider loses the blocks of the first n stripes of the object
unfoldable pub losses : ℕ → ℕ → List Instruction
losses provider n = map (λ stripe. Once (Lose provider 1 stripe)) (upto n)

-- a repair that is cut off by a stop
unfoldable pub cut : ℕ → List Instruction
cut job = Once (Begin RepairJob) ∷ (replicate 10 (Once (Step job)) ++ Once (Stop []) ∷ Once Reopen ∷ [])

-- an epoch whose first job has this number
unfoldable pub epoch : ℕ → ℕ → List Instruction
epoch provider job =
    losses provider 57 ++ whole (GetJob trial_name) job ++ whole AuditJob (job + 1) ++ cut (job + 2)
    ++ whole RepairJob (job + 3)
    ++ whole (GetJob trial_name) (job + 4)

-- the last epoch: no repair is cut off
unfoldable pub last_epoch : ℕ → ℕ → List Instruction
last_epoch provider job =
    losses provider 57 ++ whole (GetJob trial_name) job ++ whole AuditJob (job + 1)
    ++ whole RepairJob (job + 2) ++ whole (GetJob trial_name) (job + 3)

-- the events of the trial
unfoldable pub trial_commands : ℕ → List Instruction
trial_commands seed =
    opening seed ++ epoch (losing_provider seed 0) 2 ++ epoch (losing_provider seed 1) 7
    ++ last_epoch (losing_provider seed 2) 12
