-- A job with a next action runs.
use Rattle.vault.proofs.Words.{◌≡◌, ℕ, Bool, true, false, cond, Option, None, Some, refl, sym, is_some, option_map, false≢true, none-some, CoreJob, CoreView, job_in, IsNoJob, IsBarred, next_of, next_in, RunsIn}
use Rattle.machine_defs.specs.Actions.{Action}
use Rattle.vault_core.specs.Coming.{Acts}

none_acts : (a : Action) → IsNoJob ≡ Acts a → ⊥
none_acts a e = cc

barred_acts : (a : Action) → IsBarred ≡ Acts a → ⊥
barred_acts a e = cc

by_found : (c : CoreView) (o : Option CoreJob) (a : Action) → next_of c o ≡ Acts a → is_some o ≡ true
by_found c None a e = absurd (none_acts a e)
by_found c (Some j) a e = refl

by_barred : (b : Bool) (c : CoreView) (o : Option CoreJob) (a : Action) →
    cond b IsBarred (next_of c o) ≡ Acts a → is_some o ≡ true
by_barred true c o a e = absurd (barred_acts a e)
by_barred false c o a e = by_found c o a e

-- a job whose action comes next runs
pub runs_next : (c : CoreView) (number : ℕ) (a : Action) → next_in c number ≡ Acts a → RunsIn c number
runs_next c number a e = by_barred c.barred c (job_in c.jobs number) a e

-- what is read off a job that runs is there
pub read_there : {X : Type 0} (f : CoreJob → X) (o : Option CoreJob) → is_some o ≡ true →
    option_map f o ≡ None → ⊥
read_there f None there none = false≢true there
read_there f (Some j) there none = none-some (f j) (sym none)

-- and so is what is made of it
pub made_there : {Y Z : Type 0} (g : Y → Z) (r : Option Y) (f : CoreJob → Z) (o : Option CoreJob) →
    is_some o ≡ true → option_map g r ≡ option_map f o → r ≡ None → ⊥
made_there g None f o there e none = read_there f o there (sym e)
made_there g (Some y) f o there e none = none-some y (sym none)
