-- The journal that a disk holds and the history have alike tables, and a put that runs is started in both.
use Rattle.machine_defs.proofs.Words.{next_id, next_audit, ◌≡◌, suc, cond, refl, ap, ◌∙◌, Record, Setup, SetUp, PutStart, PutDone, Drop, AuditStart, AuditDone, RepairDone, PutDoneIn, Version, setup_of, version_of, started_as, profile_in, with_put, without_file, files_of, due_of, exceeds}
use Rattle.std.proofs.Common.{ℕ, List, ◌∷◌, Some}
use Rattle.record_defs.specs.Acceptance.{AreAccepted}
use Rattle.record_defs.specs.Packed.{AreAlike, packed}
use Rattle.record_defs.proofs.PackLaws.{packed_are}
use Rattle.machine_defs.proofs.Done.{put_ended}
use Rattle.machine_defs.proofs.Written.{IsAppended}

-- tables are alike where they are so part by part
alike-by : {rs qs : List Record} → setup_of rs ≡ setup_of qs → version_of rs ≡ version_of qs →
    next_id rs ≡ next_id qs → next_audit rs ≡ next_audit qs → files_of rs ≡ files_of qs →
    due_of rs ≡ due_of qs → AreAlike rs qs
alike-by setup version id audit files due =
    record { setup = setup; version = version; id = id; audit = audit; files = files; due = due }

-- a put's end, where there is one, is of a number that both have started in the same way
abbrev pub StartsAlike : List Record → List Record → Record → Type 0
StartsAlike rs qs r = (id : ℕ) → put_ended r ≡ Some id → started_as rs id ≡ started_as qs id

-- tables stay alike with one more record on both
pub alike-more : (rs qs : List Record) (r : Record) → IsAppended r → StartsAlike rs qs r → AreAlike rs qs →
    AreAlike (r ∷ rs) (r ∷ qs)
alike-more rs qs (SetUp s) appended starts a = alike-by refl a.version a.id a.audit a.files a.due
alike-more rs qs (PutStart id name) appended starts a =
    alike-by a.setup a.version (ap suc a.id) a.audit a.files a.due
alike-more rs qs (PutDone id size) appended starts a = alike-by a.setup a.version a.id a.audit
    (ap (λ fs. with_put fs (started_as rs id) id size (profile_in (setup_of rs))) a.files
    ∙ (ap (λ o. with_put (files_of qs) o id size (profile_in (setup_of rs))) (starts id refl)
    ∙ ap (λ o. with_put (files_of qs) (started_as qs id) id size (profile_in o)) a.setup)) a.due
alike-more rs qs (Drop name) appended starts a =
    alike-by a.setup a.version a.id a.audit (ap (λ fs. without_file fs name) a.files) a.due
alike-more rs qs (AuditStart number) appended starts a =
    alike-by a.setup a.version a.id (ap suc a.audit) a.files a.due
alike-more rs qs (AuditDone number undecided counts) appended starts a =
    alike-by a.setup a.version a.id a.audit a.files
    (ap (λ o. cond (exceeds o counts) (Some (record { number = number; counts = counts })) (due_of rs)) a.setup
    ∙ ap (λ d. cond (exceeds (setup_of qs) counts) (Some (record { number = number; counts = counts })) d) a.due)
alike-more rs qs (RepairDone number) appended starts a = alike-by a.setup a.version a.id a.audit a.files refl
alike-more rs qs (PutDoneIn id size profile) appended starts a = alike-by a.setup a.version a.id a.audit
    (ap (λ fs. with_put fs (started_as rs id) id size profile) a.files
    ∙ ap (λ o. with_put (files_of qs) o id size profile) (starts id refl)) a.due
alike-more rs qs Version appended starts a = alike-by a.setup refl a.id a.audit a.files a.due
alike-more rs qs r appended starts a = absurd appended

alike-trans : (rs qs ps : List Record) → AreAlike rs qs → AreAlike qs ps → AreAlike rs ps
alike-trans rs qs ps a b = alike-by (a.setup ∙ b.setup) (a.version ∙ b.version) (a.id ∙ b.id)
    (a.audit ∙ b.audit) (a.files ∙ b.files) (a.due ∙ b.due)

-- a packed journal is alike to the history that its journal was alike to
pub packed-alike : (journal history : List Record) (s : Setup) → AreAccepted journal →
    setup_of journal ≡ Some s → version_of journal ≡ 2 → AreAlike journal history →
    AreAlike (packed journal) history
packed-alike journal history s accepted set second a =
    alike-trans (packed journal) journal history (packed_are journal accepted s set second).1 a
