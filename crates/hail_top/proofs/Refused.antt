-- A command that ended without a word.
use Rattle.hail_top.proofs.Words.{◌≡◌, ℕ, refl, sym, subst, Seen, Ending, KeepsDisk, IsRefused, ending_with}

-- the disk was at most synced, the providers are as before, and nothing was written
pub refused-told : (status at : ℕ) (old new : Seen) (end : Ending) → end ≡ ending_with status at →
    KeepsDisk old new → new.providers ≡ old.providers → new.sink ≡ old.sink →
    (status ≡ 70 → new.disk_faults ≡ old.disk_faults) → IsRefused status at old new end
refused-told status at old new end is kept same silent no_fault = subst
    (λ (e : Ending). IsRefused status at old new e) (sym is) (record {
      status_is = refl;
      place = refl;
      heard = refl;
      disk = kept;
      providers = same;
      sink = silent;
      no_fault = no_fault;
    })
