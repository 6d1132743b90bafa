-- The objects of the only file of a job.
use Rattle.vault.proofs.Words.{◌≡◌, ℕ, List, [], ◌∷◌, ap, sym, ◌∙◌, eq-eqb, pinned_profile, Job, profiled, object_of, State, setup_in, worked_object, cond_true}
use Rattle.std.proofs.Common.{◌==◌}
use Rattle.machine_defs.specs.Jobs.{Pinned}

-- the object of the only file of a job is at the file's profile
pub worked-own : (w : State) (job : Job) (file : Pinned) (o : ℕ) → job.pinned ≡ file ∷ [] → o ≡ file.id →
    object_of (profiled (setup_in w) file.profile) o ≡ worked_object w job o
worked-own w job file o pinned same = ap (λ (p : ℕ). object_of (profiled (setup_in w) p) o) (sym own)
  where
    own : pinned_profile (setup_in w).profile job.pinned o ≡ file.profile
    own = ap (λ (fs : List Pinned). pinned_profile (setup_in w).profile fs o) pinned
        ∙ cond_true (file.id == o) file.profile (setup_in w).profile (eq-eqb file.id o (sym same))
