-- The plain data of the program's records.
--
--   with_master setup key == the setup of the definitions, with its master key
--   counted counts        == the numbers of the n providers
--   IsPadded counts       == at most 16 numbers, and 0 at the places from n on
--   entry_of r            == the record of the definitions
--   IsInGrammar r         == each field is within its limits, and the counts are padded
use Rattle.std.specs.Prelude.{◌≡◌, ◌≤◌, ◌-◌, ℕ, List, length, take, drop, replicate, IsTrue}
use Rattle.record_defs.specs.Records.{SetUp, PutStart, PutDone, Drop, AuditStart, AuditDone, RepairDone, PutDoneIn, Version, Resume, InEffect, RepairDue, is_in_grammar}
use Rattle.record_defs.specs.Records.{Setup as SetupData, Record as Entry}
use Rattle.record_codec.specs.declared.setup.Setup.{Setup}
use Rattle.record_codec.specs.declared.counts.Counts.{Counts}
use Rattle.record_codec.specs.declared.records.Record.{Record}
use Rattle.record_codec.specs.declared.records.Record.TheVariants as kind

-- a setup with its master key
abbrev pub with_master : Setup → List ℕ → SetupData
with_master s key =
    record {
      n = s.n;
      l = s.l;
      b = s.b;
      profile = s.profile;
      rounds = s.rounds;
      picks = s.picks;
      tolerance = s.tolerance;
      master = key;
    }

-- the numbers of the n providers
abbrev pub counted : Counts → List ℕ
counted counts = take counts.n counts.by

-- at most 16 numbers, and zeros behind them
pub record IsPadded (counts : Counts) : Type 0 where
  pub room : length counts.by ≡ 16
  pub at_most : counts.n ≤ 16
  pub zeros : drop counts.n counts.by ≡ replicate (16 - counts.n) 0

-- the plain data of a record
abbrev pub entry_of : Record → Entry
entry_of (kind.Setup s key) = SetUp (with_master s key)
entry_of (kind.PutStart id name) = PutStart id name
entry_of (kind.PutDone id length) = PutDone id length
entry_of (kind.Drop name) = Drop name
entry_of (kind.AuditStart number) = AuditStart number
entry_of (kind.AuditDone number undecided counts) = AuditDone number undecided (counted counts)
entry_of (kind.RepairDone number) = RepairDone number
entry_of (kind.PutDoneIn id length profile) = PutDoneIn id length profile
entry_of kind.Version = Version
entry_of (kind.Resume id audit) = Resume id audit
entry_of (kind.File id length profile name) = InEffect id length profile name
entry_of (kind.Due number counts) = RepairDue number (counted counts)

-- the counts of a record are padded
abbrev pub HasPadding : Record → Type 0
HasPadding (kind.Setup s key) = Unit {0}
HasPadding (kind.PutStart id name) = Unit {0}
HasPadding (kind.PutDone id length) = Unit {0}
HasPadding (kind.Drop name) = Unit {0}
HasPadding (kind.AuditStart number) = Unit {0}
HasPadding (kind.AuditDone number undecided counts) = IsPadded counts
HasPadding (kind.RepairDone number) = Unit {0}
HasPadding (kind.PutDoneIn id length profile) = Unit {0}
HasPadding kind.Version = Unit {0}
HasPadding (kind.Resume id audit) = Unit {0}
HasPadding (kind.File id length profile name) = Unit {0}
HasPadding (kind.Due number counts) = IsPadded counts

-- a record is in the grammar: each field is within its limits, and the counts are padded
pub record IsInGrammar (r : Record) : Type 0 where
  pub spelled : IsTrue (is_in_grammar (entry_of r))
  pub padded : HasPadding r
