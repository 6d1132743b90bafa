-- The room that records take in the journal.
--
--   append_sizes version s aim      == in a version of the journal, the sizes of the records that a job
--                                      appends, in order, each with its gate
--   room_left version s aim appends == the room that the records of a job still need of which so many appends
--                                      have not ended: a record counts until its append ends
--   reserved version s job          == the same of a running job
use Rattle.std.specs.Prelude.{ℕ, ◌+◌, ◌-◌, ◌*◌, ◌==◌, List, [], ◌∷◌, drop, length, sum, if◌then◌else◌}
use Rattle.record_defs.specs.Records.{Setup}
use Rattle.machine_defs.specs.Jobs.{Aim, ToPut, ToGet, ToDrop, ToAudit, ToRepair, ToUpgrade, aim_of, Job}
use Rattle.machine_defs.specs.Actions.{appends_left}

-- the sizes of the records that a job appends, in order, each with its gate
abbrev pub append_sizes : ℕ → Setup → Aim → List ℕ
append_sizes version s (ToPut name size) = (11 + length name) ∷ (if version == 2 then 15 else 14) ∷ []
append_sizes version s (ToGet name) = []
append_sizes version s (ToDrop name) = (3 + length name) ∷ []
append_sizes version s ToAudit = 10 ∷ (15 + 4 * s.n) ∷ []
append_sizes version s ToRepair = 10 ∷ []
append_sizes version s ToUpgrade = 3 ∷ []

-- the room that the records of a job still need of which so many appends have not ended
abbrev pub room_left : ℕ → Setup → Aim → ℕ → ℕ
room_left version s aim appends =
    sum (drop (length (append_sizes version s aim) - appends) (append_sizes version s aim))

-- the room that a running job's records still need
abbrev pub reserved : ℕ → Setup → Job → ℕ
reserved version s job = room_left version s (aim_of job.kind) (appends_left s job)
