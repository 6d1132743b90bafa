-- What a vault tells of its only job where that is an open stream.
use Rattle.command_jobs.proofs.Words.{◌≡◌, ℕ, ◌+◌, ◌*◌, true, List, [], ◌∷◌, Option, Some, None, refl, ap, sym, subst, ◌∙◌, inl, inr, is_some, AllZip, eq-eqb, cases_Bool, eqb-true, some-not-none, Plan, chosen, Kind, State, setup_in, cond_true, cond_false, IsJobOf, shown, seen_plan, stripe_size, CoreJob, job_in, told_by, wanted_at, wanted_by, Vault, Stands, wants_of, told_of, stripe_by, stripe_of, KeepsTold, Devices, IsOnly}
use Rattle.std.proofs.Common.{◌==◌}
use Rattle.record_defs.specs.Records.{Setup}
use Rattle.machine_defs.specs.Jobs.{Job}
use Rattle.vault_core.specs.declared.pinned.Pinned.{Pinned}

-- ---- the one job of a core

record OneOf (s : Setup) (cs : List CoreJob) (job : Job) : Type 0 where
  one : CoreJob
  found : job_in cs 1 ≡ Some one
  is : IsJobOf s one job

one-of : (s : Setup) (cs : List CoreJob) (js : List Job) (job : Job) → js ≡ job ∷ [] → job.number ≡ 1 →
    AllZip (IsJobOf s) cs js → OneOf s cs job
one-of s [] js job e n h = absurd (subst (λ (xs : List Job). AllZip (IsJobOf s) [] xs) e h)
one-of s (c ∷ cs) js job e n h = (let k = subst (λ (xs : List Job). AllZip (IsJobOf s) (c ∷ cs) xs) e h in
    record {
      one = c;
      found = cond_true (c.number == 1) (Some c) (job_in cs 1) (eq-eqb c.number 1 (k.0.number ∙ n));
      is = k.0;
    })

shown-profile : (told : Option ℕ) (p : Plan Pinned) → (shown told p).profile ≡ p.profile
shown-profile None p = refl
shown-profile (Some k) p = refl

-- ---- where it waits

pub record Waiting (n place : ℕ) (told wanted : Option ℕ) : Type 0 where
  pub stripes : ℕ
  pub told_is : told ≡ Some stripes
  pub place_is : place ≡ 4 + stripes * n
  pub wanted_is : wanted ≡ Some stripes

waiting : (s : Setup) (place : ℕ) (told : Option ℕ) → is_some (wanted_at s place told) ≡ true →
    Waiting s.n place told (wanted_at s place told)
waiting s place None h = cc
waiting s place (Some k) h = elim (cases_Bool (place == 4 + k * s.n)) [
  | inl t ↦ record {
    stripes = k;
    told_is = refl;
    place_is = eqb-true place (4 + k * s.n) t;
    wanted_is = cond_true (place == 4 + k * s.n) (Some k) None t;
  }
  | inr f ↦ absurd (let e = sym (ap is_some (cond_false (place == 4 + k * s.n) (Some k) None f)) ∙ h in cc)
]

not-there : (s : Setup) (place k : ℕ) → wanted_at s place (Some k) ≡ None → place ≡ 4 + k * s.n → ⊥
not-there s place k none at = some-not-none (wanted_at s place (Some k)) k
    (cond_true (place == 4 + k * s.n) (Some k) None (eq-eqb place (4 + k * s.n) at)) none

module _ (start : State) (kind : Kind) (own : Option ℕ) (w : State) (v : Vault) (d : Devices)
    (only : IsOnly start kind own w) (S : Stands v d w) where
  one : OneOf v.desk.core.setup v.desk.core.jobs only.job
  one = one-of v.desk.core.setup v.desk.core.jobs w.jobs only.job only.walked.jobs only.walked.number
      S.desk.core.jobs

  setup-is : v.desk.core.setup ≡ setup_in start
  setup-is = S.desk.core.setup ∙ only.walked.setup

  told-is : told_of v 1 ≡ one.one.told
  told-is = ap told_by one.found

  wants-is : wants_of v 1 ≡ wanted_at v.desk.core.setup only.job.place (told_of v 1)
  wants-is = ap (wanted_by v.desk.core.setup) one.found
      ∙ (ap (λ p. wanted_at v.desk.core.setup p one.one.told) one.is.place
      ∙ ap (wanted_at v.desk.core.setup only.job.place) (sym told-is))

  -- what was told of it before is told of it still
  pub told-kept : (old : Vault) → KeepsTold old v 1 → told_of v 1 ≡ told_of old 1
  told-kept old keeps = told-is ∙ keeps one.one one.found

  -- a stream that waits is behind the stores of the stripes given
  pub waits-at : is_some (wants_of v 1) ≡ true →
      Waiting (setup_in start).n only.job.place (told_of v 1) (wants_of v 1)
  waits-at h =
      (let x = waiting v.desk.core.setup only.job.place (told_of v 1) (sym (ap is_some wants-is) ∙ h) in
      record {
        stripes = x.stripes;
        told_is = x.told_is;
        place_is = x.place_is ∙ ap (λ (s : Setup). 4 + x.stripes * s.n) setup-is;
        wanted_is = wants-is ∙ x.wanted_is;
      })

  -- one that does not is not there
  pub goes-on : (stripes : ℕ) → told_of v 1 ≡ Some stripes → wants_of v 1 ≡ None →
      only.job.place ≡ 4 + stripes * (setup_in start).n → ⊥
  goes-on stripes told none at = not-there v.desk.core.setup only.job.place stripes
      (sym (ap (wanted_at v.desk.core.setup only.job.place) told) ∙ (sym wants-is ∙ none))
      (at ∙ ap (λ (s : Setup). 4 + stripes * s.n) (sym setup-is))

  -- how many bytes its stripes have
  pub stripe-is : stripe_of v 1 ≡ stripe_size (setup_in start) (chosen (setup_in start) own)
  stripe-is = ap (stripe_by v.desk.core.setup) one.found
      ∙ (ap (λ (s : Setup). stripe_size s one.one.plan.profile) setup-is
      ∙ ap (stripe_size (setup_in start)) (ap (λ (p : Plan Pinned). p.profile) one.is.plan
      ∙ (shown-profile one.one.told (seen_plan only.job) ∙ only.walked.profile_is)))
