-- Lists of records for the worked rows; the newest record first.
use Rattle.std.specs.Prelude.{ℕ, List, [], ◌∷◌, ◌++◌, replicate, codes}
use Rattle.record_defs.specs.Records.{Setup, Record, SetUp, PutStart, PutDone, AuditStart, AuditDone, Version}
use Rattle.record_defs.specs.Journal.{text}

-- a setup of four providers, one of them primary, with a tolerance of 0
abbrev pub four : Setup
four =
    record {
      n = 4;
      l = 1;
      b = 1;
      profile = 0;
      rounds = 1;
      picks = 1;
      tolerance = 0;
      master = replicate 32 0;
    }

-- a file of three bytes is put under the name a
abbrev pub first_put : List Record
first_put = PutDone 1 3 ∷ PutStart 1 (codes "a") ∷ SetUp four ∷ []

-- then one of five bytes under the same name
abbrev pub second_put : List Record
second_put = PutDone 2 5 ∷ PutStart 2 (codes "a") ∷ first_put

-- then an audit counts one wrong round of the third provider
abbrev pub audited : List Record
audited = AuditDone 1 0 (0 ∷ 0 ∷ 1 ∷ 0 ∷ []) ∷ AuditStart 1 ∷ second_put

-- then the journal has its second version
abbrev pub raised : List Record
raised = Version ∷ audited

-- a store that was set up
abbrev pub four_set_up : List Record
four_set_up = SetUp four ∷ []

-- a disk with the text of that store in its first area and, behind a filling, that of no record in its second
abbrev pub two_areas : List ℕ → List ℕ
two_areas filling = text four_set_up ++ (filling ++ 0 ∷ [])
