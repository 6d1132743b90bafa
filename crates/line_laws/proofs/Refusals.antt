-- The texts of refusals, read back.
use Rattle.line_laws.proofs.Words.{◌≡◌, drop, refl, ap, Refusal, MustReopen, Busy, BadName, TooLong, NoSuchName, TooManyFiles, RepairDue, NothingDue, JournalFull, BadSetup, BadJournal, Already, NotSetUp, TooFewProviders, NoSuchJob, BadProfile, OldVersion, NewVersion, PackTooLong, line, refusal_text, IsToldRefusal}
use Rattle.machine_defs.specs.Refusals.{Memory, DiskFault}
use Rattle.line_laws.proofs.Digits.{number-tells}
use Rattle.line_laws.proofs.Marks.{differ}

-- the text of a refusal tells it
pub refusals-tell : (a b : Refusal) → IsToldRefusal b → line (refusal_text a) ≡ line (refusal_text b) → a ≡ b
refusals-tell MustReopen MustReopen told same = refl
refusals-tell Busy Busy told same = refl
refusals-tell BadName BadName told same = refl
refusals-tell TooLong TooLong told same = refl
refusals-tell NoSuchName NoSuchName told same = refl
refusals-tell TooManyFiles TooManyFiles told same = refl
refusals-tell RepairDue RepairDue told same = refl
refusals-tell NothingDue NothingDue told same = refl
refusals-tell JournalFull JournalFull told same = refl
refusals-tell Memory Memory told same = refl
refusals-tell BadSetup BadSetup told same = refl
refusals-tell DiskFault DiskFault told same = refl
refusals-tell (BadJournal m) (BadJournal n) told same =
    ap BadJournal (number-tells m n told (ap (drop 11) same))
refusals-tell Already Already told same = refl
refusals-tell NotSetUp NotSetUp told same = refl
refusals-tell TooFewProviders TooFewProviders told same = refl
refusals-tell NoSuchJob NoSuchJob told same = refl
refusals-tell BadProfile BadProfile told same = refl
refusals-tell OldVersion OldVersion told same = refl
refusals-tell NewVersion NewVersion told same = refl
refusals-tell PackTooLong PackTooLong told same = refl
refusals-tell a b told same = absurd (differ 0 3 6 (line (refusal_text a)) (line (refusal_text b)) refl same)
