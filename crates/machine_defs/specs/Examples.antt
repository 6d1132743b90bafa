-- Setups, records and states for the worked rows.
--
--   six, four              == a setup of six providers, three of them primary, and one of four, one of them
--                             primary
--   opened records bytes   == an open vault over these records, where each object number stands for these
--                             bytes
--   one_file, flagged_file == a file of 100 bytes over six providers; then an audit that flags provider 0
--   beginning_job w kind   == a job of this kind that begins now
--   set_up                 == the start over a journal whose only record is the setup of four providers
--   putting                == an open vault over that journal in which a put of one byte has begun
use Rattle.std.specs.Prelude.{ℕ, true, false, List, [], ◌∷◌, replicate, codes, None, Some}
use Rattle.record_defs.specs.Records.{Setup, Record, SetUp, PutStart, PutDone, AuditStart, AuditDone}
use Rattle.record_defs.specs.Areas.{A}
use Rattle.device_defs.specs.Providers.{Provider}
use Rattle.machine_defs.specs.Jobs.{Kind, PutJob, Job}
use Rattle.machine_defs.specs.States.{State}
use Rattle.machine_defs.specs.Begins.{new_job}
use Rattle.record_defs.specs.Examples.{four}

-- six providers, three of them primary, and blocks of sixteen symbols
abbrev pub six : Setup
six =
    record {
      n = 6;
      l = 3;
      b = 1;
      profile = 1;
      rounds = 4;
      picks = 8;
      tolerance = 0;
      master = replicate 32 0;
    }

-- a provider that holds nothing and counts nothing
abbrev pub empty_provider : Provider
empty_provider =
    record { held = Some (λ object stripe. None); store_faults = 0; other_faults = 0; fetches = 0 }

-- an open vault over these records
abbrev pub opened : List Record → List ℕ → State
opened records bytes = record {
  records = records;
  journal = records;
  area = A;
  is_switching = false;
  bytes = λ id. bytes;
  audits = λ number. 0;
  jobs = [];
  next_job = 1;
  alone = None;
  append = None;
  doubt = None;
  providers = λ j. empty_provider;
  handed = 16;
  disk_faults = 0;
  is_open = true;
  is_barred = false;
}

-- a file of 100 bytes
abbrev pub one_file : List Record
one_file = PutDone 1 100 ∷ PutStart 1 (codes "notes.txt") ∷ SetUp six ∷ []

-- then an audit that flags provider 0
abbrev pub flagged_file : List Record
flagged_file = AuditDone 1 0 (4 ∷ 0 ∷ 0 ∷ 0 ∷ 0 ∷ 0 ∷ []) ∷ AuditStart 1 ∷ one_file

-- a hundred bytes
abbrev pub hundred : List ℕ
hundred = replicate 100 7

-- the job that begins now
abbrev pub beginning_job : State → Kind → Job
beginning_job w kind = new_job w 0 kind

-- the start over a journal whose only record is the setup of four providers
abbrev pub set_up : State
set_up = record (opened (SetUp four ∷ []) []) { is_open = false }

-- an open vault over the setup of four providers in which a put of one byte has begun
abbrev pub putting : State
putting = record (opened (SetUp four ∷ []) []) {
  jobs = beginning_job (opened (SetUp four ∷ []) []) (PutJob (codes "a") (111 ∷ [])) ∷ [];
  next_job = 2;
}
