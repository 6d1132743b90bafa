-- A packed journal: few records that fold to the same table. Lists of records have the newest first.
--
--   AreAlike rs qs      == the tables of two lists of records are alike: running audits and started puts are
--                          left out
--   with_files files rs == records with these files in effect on top, the last of them first
--   packed rs           == the records of a packed journal, from its table: the setup, the version, the next
--                          numbers, each file in byte order of the names, and the due audit if there is one
use Rattle.std.specs.Prelude.{◌≡◌, List, [], ◌∷◌, Option, None, Some}
use Rattle.record_defs.specs.Records.{Setup, Record, SetUp, Version, Resume, InEffect, RepairDue}
use Rattle.record_defs.specs.Table.{File, Due, setup_of, version_of, next_id, next_audit, files_of, due_of}

-- two tables are alike
pub record AreAlike (rs qs : List Record) : Type 0 where
  pub setup : setup_of rs ≡ setup_of qs
  pub version : version_of rs ≡ version_of qs
  pub id : next_id rs ≡ next_id qs
  pub audit : next_audit rs ≡ next_audit qs
  pub files : files_of rs ≡ files_of qs
  pub due : due_of rs ≡ due_of qs

-- a file in effect, as a record of a packed journal
abbrev pub as_record : File → Record
as_record f = InEffect f.id f.size f.profile f.name

-- records with these files in effect on top
abbrev pub with_files : List File → List Record → List Record
with_files [] rs = rs
with_files (f ∷ fs) rs = with_files fs (as_record f ∷ rs)

-- records with the due audit on top
abbrev pub with_due : Option Due → List Record → List Record
with_due None rs = rs
with_due (Some due) rs = RepairDue due.number due.counts ∷ rs

-- the records of a setup
abbrev pub with_setup : Option Setup → List Record
with_setup None = []
with_setup (Some s) = SetUp s ∷ []

-- the records of a packed journal
abbrev pub packed : List Record → List Record
packed rs =
    with_due (due_of rs) (with_files (files_of rs)
    (Resume (next_id rs) (next_audit rs) ∷ Version ∷ with_setup (setup_of rs)))
