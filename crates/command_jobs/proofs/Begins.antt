-- The begin of a job that is the only one: its words, and the profile that it names.
use Rattle.command_jobs.proofs.Words.{◌≡◌, ℕ, [], ◌∷◌, ◌++◌, Option, Some, None, refl, ap, ◌∙◌, eq-eqb, Kind, job_of, Begun, IsSpelledKind, State, BeginsAt, beginning, cond_true, MayName, kind_of}
use Rattle.std.proofs.Common.{◌==◌}
use Rattle.state_laws.specs.Sound.{IsSound}
use Rattle.command_jobs.specs.declared.job.Job.{Job}

-- ---- the profile

-- a job that reads no source names none
pub may-name : (j : Job) → MayName (kind_of j) None
may-name j = MayName.none refl

-- ---- words

-- the words of a job that began are bytes
pub spelled-begun : (w new : State) (moment : ℕ) (kind : Kind) (own : Option ℕ) (number : ℕ) →
    w.jobs ≡ [] → BeginsAt 8 moment w kind own (Begun number) new → IsSound 8 new → IsSpelledKind kind
spelled-begun w new moment kind own number none (opened, allowed, is_number, is) sound =
    (sound.jobs w.next_job (beginning w moment kind own) (ap (λ (v : State). job_of v.jobs w.next_job) is
    ∙ (ap (λ js. job_of (js ++ beginning w moment kind own ∷ []) w.next_job) none
    ∙ cond_true (w.next_job == w.next_job) (Some (beginning w moment kind own)) None
    (eq-eqb w.next_job w.next_job refl)))).spelled
