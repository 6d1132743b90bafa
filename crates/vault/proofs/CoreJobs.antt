-- The jobs of a core beside those of the machine.
use Rattle.vault.proofs.Words.{◌≡◌, ℕ, List, [], ◌∷◌, map, Option, Some, None, refl, sym, ap, subst, ◌∙◌, inl, inr, AllZip, cases_Bool, Setup, Plan, AuditJob, Job, job_of, cond_true, cond_false, same_value, IsJobOf, HasTold, seen_plan, shown, pin_of, PinnedFile, CoreJob, job_in}
use Rattle.std.proofs.Common.{◌==◌}

-- a job of the machine has its job in the core
pub record CoreOf (s : Setup) (cs : List CoreJob) (k : ℕ) (j : Job) : Type 0 where
  pub job : CoreJob
  pub runs : job_in cs k ≡ Some job
  pub is : IsJobOf s job j

-- a job of the machine has its job in the core
pub core_of : (s : Setup) (cs : List CoreJob) (js : List Job) (k : ℕ) (j : Job) → AllZip (IsJobOf s) cs js →
    job_of js k ≡ Some j → CoreOf s cs k j
core_of s [] [] k j are runs = (cc runs)
core_of s (c ∷ cs) (x ∷ js) k j are runs = elim (cases_Bool (x.number == k)) [
  | inl t ↦ (
      record {
        job = c;
        runs = cond_true (c.number == k) (Some c) (job_in cs k) (ap (λ n. n == k) are.0.number ∙ t);
        is = subst (λ y. IsJobOf s c y) (same_value _ x j (cond_true _ (Some x) (job_of js k) t) runs) are.0;
      })
  | inr f ↦ (
      let more = core_of s cs js k j are.1 (sym (cond_false _ (Some x) (job_of js k) f) ∙ runs) in
      record {
        job = more.job;
        runs = cond_false (c.number == k) (Some c) (job_in cs k) (ap (λ n. n == k) are.0.number ∙ f)
            ∙ more.runs;
        is = more.is;
      })
]
core_of s _ _ k j are runs = absurd are

-- ---- a plan, as a core sees it

pub shown_profile : (told : Option ℕ) (j : Job) → (shown told (seen_plan j)).profile ≡ j.profile
shown_profile None j = refl
shown_profile (Some stripes) j = refl

pub shown_subject : (told : Option ℕ) (j : Job) → (shown told (seen_plan j)).subject ≡ j.subject
shown_subject None j = refl
shown_subject (Some stripes) j = refl

pub shown_pins : (told : Option ℕ) (j : Job) → (shown told (seen_plan j)).pins ≡ map pin_of j.pinned
shown_pins None j = refl
shown_pins (Some stripes) j = refl

-- the profile of a job of a core
pub profile_same : (s : Setup) (c : CoreJob) (j : Job) → IsJobOf s c j → c.plan.profile ≡ j.profile
profile_same s c j is = ap (λ (p : Plan PinnedFile). p.profile) is.plan ∙ shown_profile c.told j

-- an audit is no open stream
pub audit_untold : (s : Setup) (told : Option ℕ) (j : Job) → j.kind ≡ AuditJob → HasTold s told j
    → told ≡ None
audit_untold s None j is has = refl
audit_untold s (Some stripes) j is has = absurd (rw is at has)
