-- How an `init` ends before it comes to the disk, or with the disk's end.
use Rattle.hail_top.proofs.Words.{◌≡◌, ℕ, ◌<◌, true, List, [], length, refl, subst, arith, Rose, is_setup, SetupData, Numbers, IsKeyForm, longest_key, Seen, Ending, ReadsAtMost, ReadsUpTo, SameSource, setup_with, InitsDisk, AnswersInit, bad_key, keyed, with_master, resynced-equal, ReadFault, ending_with, unread_ending, IsSetupFor}
use Rattle.command_defs.specs.Inits.{too_few_providers, source_fault, no_memory}
use Rattle.record_codec.specs.declared.setup.Setup.{Setup}
use Rattle.hail_top.specs.declared.reading.ReadFault.TheVariants as read_fault
use Rattle.hail_top.proofs.Refused.{refused-told}

-- the source gave a key
pub keyed-told : (setup : Setup) (numbers : Numbers) (old new : Seen) (end : Ending) (bytes key : List ℕ) →
    IsSetupFor setup numbers (length old.providers) → ReadsUpTo longest_key old.source new.source bytes →
    IsKeyForm bytes key → InitsDisk (with_master setup key) old new end → AnswersInit numbers old new end
keyed-told setup numbers old new end bytes key for reads form inits = keyed bytes key for.fits for.enough
    reads form (subst (λ (s : SetupData). InitsDisk s old new end) (for.same key) inits)

-- the source gave no key
pub bad_key-told : (setup : Setup) (numbers : Numbers) (old new : Seen) (end : Ending) (bytes : List ℕ) →
    IsSetupFor setup numbers (length old.providers) → ReadsUpTo longest_key old.source new.source bytes →
    ((key : List ℕ) → IsKeyForm bytes key → ⊥) → end ≡ ending_with 18 0 → new.disk ≡ old.disk →
    new.providers ≡ old.providers → new.sink ≡ old.sink → AnswersInit numbers old new end
bad_key-told setup numbers old new end bytes for reads none is same_disk same silent =
    bad_key bytes for.fits for.enough reads none (refused-told 18 0 old new end is
    (resynced-equal old.disk new.disk same_disk) same silent (λ e. omega (arith, e)))

-- the source was not read
pub unread-told : (setup : Setup) (numbers : Numbers) (old new : Seen) (end : Ending) (fault : ReadFault) →
    IsSetupFor setup numbers (length old.providers) → ReadsAtMost longest_key old.source new.source →
    end ≡ unread_ending fault → (fault ≡ read_fault.Failed → Rose old.source_faults new.source_faults) →
    new.disk ≡ old.disk → new.disk_faults ≡ old.disk_faults → new.providers ≡ old.providers →
    new.sink ≡ old.sink → AnswersInit numbers old new end
unread-told setup numbers old new end read_fault.Failed for few is rose same_disk same_count same silent =
    source_fault for.fits for.enough (rose refl) few (refused-told 14 0 old new end is
    (resynced-equal old.disk new.disk same_disk) same silent (λ e. omega (arith, e)))
unread-told setup numbers old new end read_fault.Memory for few is rose same_disk same_count same silent =
    no_memory few (refused-told 70 0 old new end is (resynced-equal old.disk new.disk same_disk) same silent
    (λ e. same_count))

-- too few providers are handed in
pub too_few-told : (numbers : Numbers) (old new : Seen) (end : Ending) →
    is_setup (setup_with numbers []) ≡ true → length old.providers < numbers.n → end ≡ ending_with 22 0
    → SameSource old new → new.disk ≡ old.disk → new.providers ≡ old.providers → new.sink ≡ old.sink →
    AnswersInit numbers old new end
too_few-told numbers old new end fits few is same_source same_disk same silent =
    too_few_providers fits few same_source (refused-told 22 0 old new end is
    (resynced-equal old.disk new.disk same_disk) same silent (λ e. omega (arith, e)))
