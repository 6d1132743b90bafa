-- The schedule of the run, and what it writes.
--
--   name, byte    == the name and the bytes of the file that is put
--   schedule      == the commands, the newest first
--   written_lines == all that they write
--   IsOutright ms == these moments carry it out, from a start of four providers that tell, at limit 8; two
--                    jobs run at once; the run is calm, and no audit missed damage
use Rattle.std.specs.Prelude.{◌≡◌, ℕ, List, [], ◌∷◌, length, codes}
use Rattle.std.specs.List.{flat_map}
use Rattle.machine_defs.specs.Lines.{line}
use Rattle.machine_defs.specs.Transcripts.{Instruction, Once, RunJob, CarriesOut}
use Rattle.damage_run.specs.Words.{PutJob, GetJob, AuditJob, RepairJob, Begin, Step, Lose, Reopen, IsStart, Moment, IsRun, now, first_moments, IsCalm, since, relies, AreScrubsCalm, NoneMissed, AllTell, set_up}

-- the file: its name is "a"
abbrev pub name : List ℕ
name = 97 ∷ []

-- its one byte
abbrev pub byte : List ℕ
byte = 111 ∷ []

-- The commands, the newest first: a put; a get begins and fetches; a block of provider 2 is lost; an audit
-- begins, and the get ends while it runs; the audit ends; a repair; a block of provider 0 is lost; and
-- another get.
abbrev pub schedule : List Instruction
schedule = RunJob 5 ∷ Once (Begin (GetJob name)) ∷ Once (Lose 0 1 0) ∷ RunJob 4 ∷ Once (Begin RepairJob)
    ∷ RunJob 3 ∷ RunJob 2 ∷ Once (Step 3) ∷ Once (Begin AuditJob) ∷ Once (Lose 2 1 0)
    ∷ Once (Step 2) ∷ Once (Step 2) ∷ Once (Step 2) ∷ Once (Step 2) ∷ Once (Begin (GetJob name))
    ∷ RunJob 1 ∷ Once (Begin (PutJob name byte)) ∷ Once Reopen ∷ []

-- all that they write
abbrev pub written_lines : List ℕ
written_lines = flat_map line (codes "opened" ∷ codes "job 1" ∷ codes "put"
    ∷ codes "job 2" ∷ codes "more" ∷ codes "more" ∷ codes "more" ∷ codes "more"
    ∷ codes "replaced" ∷ codes "job 3" ∷ codes "more" ∷ codes "got 6f"
    ∷ codes "audited 1 undecided 0 counts 0 0 1 0"
    ∷ codes "job 4" ∷ codes "repaired 1" ∷ codes "replaced" ∷ codes "job 5" ∷ codes "got 6f" ∷ [])

-- these moments carry it out, and both halves speak of them
pub record IsOutright (ms : List Moment) : Type 0 where
  pub clean : IsStart set_up
  pub tell : AllTell set_up
  pub run : IsRun 8 set_up ms
  pub carried_out : CarriesOut schedule ms written_lines
  pub two_jobs : length (now set_up (first_moments 22 ms)).jobs ≡ 2
  pub calm : IsCalm relies (since set_up) ms
  pub scrubs : AreScrubsCalm (since set_up) ms
  pub found : NoneMissed set_up ms
