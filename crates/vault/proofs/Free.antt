-- A vault that is not held goes on as its desk does; one that is held has nothing under way.
use Rattle.vault.proofs.Words.{◌≡◌, ◌≤◌, ℕ, true, false, List, [], ◌∷◌, Option, None, Result, refl, ap, sym, ◌∙◌, arith, is_some, AllZip, false≢true, Setup, Kind, Job, State, IsJobOf, IsNoJob, next_in, next_of, CoreJob, CoreView, job_in, BeginFault, Devices, Turn, Vault, DeskMakesBegin, DeskMakesStep, MakesBegin, MakesStep}
use Rattle.std.proofs.Common.{length}

-- what is held is not free
pub not_free : (o : Option ℕ) → is_some o ≡ true → o ≡ None → ⊥
not_free o held free = false≢true (sym (ap is_some free) ∙ held)

-- a begin of its desk is one of the vault
pub begin_made : (w : State) (moment : ℕ) (kind : Kind) (own : Option ℕ) (result : Result ℕ BeginFault)
    (v : Vault) (d : Devices) → v.held ≡ None → DeskMakesBegin w moment kind own result v.desk d
    → MakesBegin w moment kind own result v d
begin_made w moment kind own result v d free made = record {
  state = made.state;
  begins = made.begins;
  stands = record { free = free; desk = made.stands };
}

-- a step of its desk is one of the vault
pub step_made : (w : State) (moment job : ℕ) (turn : Turn) (v : Vault) (old new : Devices) → v.held ≡ None
    → DeskMakesStep w moment job turn v.desk old new → MakesStep w moment job turn v old new
step_made w moment job turn v old new free made = record {
  state = made.state;
  happens = made.happens;
  stands = record { free = free; desk = made.stands };
  heard = made.heard;
  beyond = made.beyond;
  torn = made.torn;
}

-- ---- no jobs

-- where the core has no job, the machine has none
pub none_run : (s : Setup) (cs : List CoreJob) (js : List Job) → AllZip (IsJobOf s) cs js → length cs ≤ 0
    → js ≡ []
none_run s [] [] are few = refl
none_run s [] (j ∷ js) are few = absurd are
none_run s (c ∷ cs) js are few = absurd (omega (arith, few))

-- and where the machine has none, the core has none
pub none_kept : (s : Setup) (cs : List CoreJob) (js : List Job) → AllZip (IsJobOf s) cs js → js ≡ [] → cs ≡ []
none_kept s [] js are none = refl
none_kept s (c ∷ cs) [] are none = absurd are
none_kept s (c ∷ cs) (j ∷ js) are none = absurd (let e = ap (λ l. length l) none in omega arith)

-- then nothing comes next
pub none_comes : (c : CoreView) (job : ℕ) → c.barred ≡ false → c.jobs ≡ [] → next_in c job ≡ IsNoJob
none_comes c job free none = rw free (ap (λ (js : List CoreJob). next_of c (job_in js job)) none)
