-- How an `init` ends that has come to the disk.
use Rattle.hail_top.proofs.Words.{◌≡◌, ℕ, List, refl, sym, subst, arith, IfSome, Rose, Goes, Seen, Ending, IsRefused, sinking, WritesLine, ready_line, InitsDisk, FailsToInit, InitFault, ending_with, init_ending}
use Rattle.device_defs.specs.Images.{EachImage}
use Rattle.record_defs.specs.Records.{Setup}
use Rattle.command_defs.specs.Inits as inits
use Rattle.opening_defs.specs.Journals.{IsSetUpOn, IsResynced, MayBeLeft, journal_read}
use Rattle.vault_open.specs.Causes.{IsInitFault, IsNoWrite}
use Rattle.vault_open.specs.declared.fault.InitFault.TheVariants as init_fault
use Rattle.hail_top.proofs.Refused.{refused-told}

-- a store is ready, and that was told
pub ready-told : (s : Setup) (old new : Seen) (end : Ending) (line : List ℕ) (status : ℕ) →
    end ≡ ending_with status 0 → line ≡ ready_line → WritesLine line status (sinking old new)
    → Goes (IsSetUpOn s) old.disk new.disk → new.providers ≡ old.providers → InitsDisk s old new end
ready-told s old new end line status is line_is written set_up same =
    subst (λ (e : Ending). InitsDisk s old new e) (sym is) (inits.ready (record {
      written = subst (λ (text : List ℕ). WritesLine text status (sinking old new)) line_is written;
      place = refl;
      heard = refl;
      disk = set_up;
      providers = same;
    }))

-- a disk was not set up
pub not_set_up-told : (s : Setup) (old new : Seen) (end : Ending) (why : InitFault) → end ≡ init_ending why
    → IfSome old.disk (λ cells. IsInitFault (journal_read cells) s why)
    → (IsNoWrite why → Goes IsResynced old.disk new.disk)
    → IfSome old.disk (λ cells. EachImage new.disk (MayBeLeft s cells))
    → (why ≡ init_fault.DiskFault → Rose old.disk_faults new.disk_faults)
    → new.providers ≡ old.providers → new.sink ≡ old.sink → InitsDisk s old new end
not_set_up-told s old new end why is cause looked left rose same silent =
    subst (λ (e : Ending). InitsDisk s old new e) (sym is) (by_fault why cause looked rose)
  where
    failed : (status : ℕ) → FailsToInit status s old new (ending_with status 0)
    failed status = record {
      status_is = refl;
      place = refl;
      heard = refl;
      images = left;
      providers = same;
      sink = silent;
    }

    refused : (status at : ℕ) → (status ≡ 70 → ⊥) → Goes IsResynced old.disk new.disk →
        IsRefused status at old new (ending_with status at)
    refused status at fault goes = refused-told status at old new (ending_with status at) refl goes same silent
        (λ e. absurd (fault e))

    by_fault : (why : InitFault) → IfSome old.disk (λ cells. IsInitFault (journal_read cells) s why) →
        (IsNoWrite why → Goes IsResynced old.disk new.disk)
        → (why ≡ init_fault.DiskFault → Rose old.disk_faults new.disk_faults) →
        InitsDisk s old new (init_ending why)
    by_fault init_fault.BadSetup cause looked rose = inits.no_memory (failed 70)
    by_fault init_fault.DiskFault cause looked rose = inits.disk_fault (rose refl) (failed 12)
    by_fault (init_fault.BadJournal at) cause looked rose =
        inits.bad_journal at cause (refused 8 at (λ e. omega (arith, e)) (looked tt))
    by_fault init_fault.Already cause looked rose =
        inits.already cause (refused 10 0 (λ e. omega (arith, e)) (looked tt))
    by_fault init_fault.Memory cause looked rose = inits.no_memory (failed 70)
