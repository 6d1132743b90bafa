-- Why a begin is refused that finds no other job.
use Rattle.job_laws.proofs.Words.{◌≡◌, ℕ, false, List, Option, None, Some, refl, is_some, File, DropJob, aim_of, State, file_in, begin_refusal, sight_of, causes, none-applies}
use Rattle.std.proofs.Common.{not}
use Rattle.machine_defs.proofs.Sights.{stored-file}

-- a drop that begins has a file
pub drop-has : (limit : ℕ) (w : State) (name : List ℕ) → begin_refusal limit w (DropJob name) ≡ None →
    (f : File) × (file_in w name ≡ Some f)
drop-has limit w name h = by_file (file_in w name) refl (cc (
  stored-file w name,
  (none-applies (causes limit (sight_of w) (aim_of (DropJob name)) None) h).1.1.1.0,
))
  where
    by_file : (o : Option File) → file_in w name ≡ o → not (is_some (file_in w name)) ≡ false →
        (f : File) × (file_in w name ≡ Some f)
    by_file None e n = cc
    by_file (Some f) e n = (f, e)
