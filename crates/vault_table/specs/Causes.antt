-- How a table takes a record.
use Rattle.std.specs.Prelude.{◌≡◌, ℕ, Bool, true, false, IsTrue, Option, Some, None, Result, Ok, Err}
use Rattle.record_defs.specs.Records.{Record, PutStart, Version}
use Rattle.record_defs.specs.Acceptance.{Refused as Reason, NoSetup, SecondSetup, BadId, NotStarted, TooMany, NoName, BadAudit, NoRepair, OldKind, OldVersion, NewVersion, BadResume, NameTwice}
use Rattle.vault_table.specs.declared.entry.Refused.{Refused}
use Rattle.vault_table.specs.declared.entry.Refused.TheVariants as fault
use Rattle.vault_table.specs.Values.{Kept, started_at, put_done_refusal, refusal, with_done, with_record}

-- The answer says why the record is refused. Where memory ran out the record was not refused.
abbrev pub IsCause : Refused → Option Reason → Type 0
IsCause fault.NoSetup why = why ≡ Some NoSetup
IsCause fault.SecondSetup why = why ≡ Some SecondSetup
IsCause fault.BadId why = why ≡ Some BadId
IsCause fault.NotStarted why = why ≡ Some NotStarted
IsCause fault.TooMany why = why ≡ Some TooMany
IsCause fault.NoName why = why ≡ Some NoName
IsCause fault.BadAudit why = why ≡ Some BadAudit
IsCause fault.NoRepair why = why ≡ Some NoRepair
IsCause fault.OldKind why = why ≡ Some OldKind
IsCause fault.OldVersion why = why ≡ Some OldVersion
IsCause fault.NewVersion why = why ≡ Some NewVersion
IsCause fault.BadResume why = why ≡ Some BadResume
IsCause fault.NameTwice why = why ≡ Some NameTwice
IsCause fault.Memory why = why ≡ None

-- the record is a PutStart
abbrev pub is_put_start : Record → Bool
is_put_start (PutStart id name) = true
is_put_start r = false

-- the record raises the version
abbrev pub is_version : Record → Bool
is_version Version = true
is_version r = false

-- memory may be wanted for a record
abbrev pub MayWant : Refused → Record → ℕ → Type 0
MayWant fault.Memory r spare = IsTrue (is_put_start r) × (spare ≡ 0)
MayWant why r spare = Unit {0}

-- a table goes on by a record that it does not refuse, and else stays as it is
abbrev pub Applies : Kept → Record → Result Unit Refused → Kept → Type 0
Applies old r (Ok x) new = (refusal old r ≡ None) × (new ≡ with_record old r)
Applies old r (Err why) new = IsCause why (refusal old r) × (new ≡ old) × MayWant why r old.spare

-- a put's end with this profile is taken, unless it was not started or no name fits in; the version is not
-- looked at
abbrev pub EndsStartedPut : Kept → ℕ → ℕ → ℕ → Result Unit Refused → Kept → Type 0
EndsStartedPut old id size profile (Ok x) new =
    (put_done_refusal old (started_at old id) ≡ None) × (new ≡ with_done old id size profile)
EndsStartedPut old id size profile (Err fault.Memory) new = ⊥
EndsStartedPut old id size profile (Err why) new =
    IsCause why (put_done_refusal old (started_at old id)) × (new ≡ old)
