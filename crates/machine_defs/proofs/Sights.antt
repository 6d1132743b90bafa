-- The aims of running jobs, and the names in effect that a sight finds.
use Rattle.machine_defs.proofs.Words.{◌≡◌, Bool, suc, refl, ap, is_some, list_any, find-files_of, Aim, aim_of, Job, State, file_in, aims_of, sight_of, is_stored}
use Rattle.std.proofs.Common.{◌||◌, ℕ, List, [], ◌∷◌, length}

-- a test of the aims of running jobs is one of the jobs
pub any-aims : (test : Aim → Bool) (js : List Job)
    → list_any test (aims_of js) ≡ list_any (λ (j : Job). test (aim_of j.kind)) js
any-aims test [] = refl
any-aims test (j ∷ js) = ap (λ b. test (aim_of j.kind) || b) (any-aims test js)

-- there is one aim for each running job
pub length-aims : (js : List Job) → length (aims_of js) ≡ length js
length-aims [] = refl
length-aims (j ∷ js) = ap suc (length-aims js)

-- a name is in effect where the table has it
pub stored-file : (w : State) (name : List ℕ) → is_stored (sight_of w) name ≡ is_some (file_in w name)
stored-file w name = ap is_some (find-files_of w.records name)
