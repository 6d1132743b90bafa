-- What a start says of a disk, in the words of the commands.
use Rattle.command_jobs.proofs.Words.{◌≡◌, ℕ, List, Option, Some, None, Result, Ok, Err, refl, ap, sym, subst, ◌∙◌, inl, inr, IfSome, IfErr, option_map, Cells, reads, Goes, reads-firm, Record, Area, journal_read, IsRead, IsResynced, AreRecords, unopened_of, IsUnopened}
use Rattle.std.specs.Result.{IsErrAnd}
use Rattle.std.specs.Prelude.{IsErrOf}
use Rattle.vault_open.specs.declared.fault.StartFault.{StartFault}
use Rattle.vault_open.specs.declared.fault.StartFault.TheVariants as start_fault
use Rattle.vault_open.specs.Causes.{IsStartFault}
use Rattle.vault_open.specs.Disks.{ReadsDisk, StartsOver}
use Rattle.vault_open.proofs.Stores.{reads-as}
use Rattle.command_jobs.specs.Opened.{HasReadStore}
use Rattle.command_jobs.specs.declared.open.Unopened.TheVariants as unopened

-- records that a disk reads are records of a journal
pub read-records : (told : Option Cells) (area : Area) (rs : List Record) → IsRead told area rs →
    AreRecords area rs
read-records told area rs r =
    record { some = r.some; in_grammar = r.in_grammar; accepted = r.accepted; room = r.room }

-- why a disk is not opened can be read off it
pub fault-seen : (told : Option Cells) (handed : ℕ) (why : StartFault) →
    IfSome told (λ cells. IsStartFault (journal_read cells) why) → IsUnopened told handed (unopened_of why)
fault-seen told handed start_fault.DiskFault h = tt
fault-seen None handed start_fault.NotSetUp h = tt
fault-seen (Some cells) handed start_fault.NotSetUp h = h
fault-seen None handed (start_fault.BadJournal at) h = tt
fault-seen (Some cells) handed (start_fault.BadJournal at) h = h
fault-seen told handed start_fault.Memory h = tt

-- a start that fails reads the disk as an opening does that fails for the same cause
pub unopened-reads : {T U : Type 0} {old new : Option Cells} {f g : ℕ} (why : StartFault) →
    StartsOver {T = T} old new f g (Err why) →
    ReadsDisk old new f g (HasReadStore {T = U} (Err (unopened_of why)))
    (IsErrOf {T = U} (Err (unopened_of why)) unopened.DiskFault)
unopened-reads start_fault.DiskFault start = reads-as (λ j. j) (λ e. refl) (λ e. refl) start.disk
unopened-reads start_fault.NotSetUp start = reads-as (λ j. j) (λ e. absurd cc) (λ e. absurd cc) start.disk
unopened-reads (start_fault.BadJournal at) start =
    reads-as (λ j. j) (λ e. absurd cc) (λ e. absurd cc) start.disk
unopened-reads start_fault.Memory start = reads-as (λ j. j) (λ e. absurd cc) (λ e. absurd cc) start.disk

-- a disk that is synced again reads as before
pub reads-resynced : (old new : Option Cells) → Goes IsResynced old new →
    option_map reads new ≡ option_map reads old
reads-resynced None None h = refl
reads-resynced (Some old) (Some new) (inl e) = ap (λ cells. Some (reads cells)) e
reads-resynced (Some old) (Some new) (inr e) =
    ap (λ cells. Some (reads cells)) e ∙ ap (λ bytes. Some bytes) (reads-firm (reads old))
reads-resynced _ _ h = absurd h

-- what holds of an error holds of each result that is this error
pub told-by : {A E : Type 0} (r : Result A E) (x : E) (P : E → Type 0) → IsErrAnd r (λ e. e ≡ x) → P x →
    IfErr r P
told-by (Ok a) x P h p = absurd h
told-by (Err e) x P h p = subst P (sym h) p
