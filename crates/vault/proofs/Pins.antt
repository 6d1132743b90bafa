-- The files that a running job works on, as a core keeps them.
use Rattle.vault.proofs.Words.{◌≡◌, ℕ, suc, ◌+◌, ◌≤◌, true, false, cond, List, [], ◌∷◌, map, Option, Some, None, refl, sym, ap, ◌∙◌, inl, inr, arith, zero-add, position_from, AllZip, option_map, cases_Bool, eq-eqb, ne_eqb, position_from-zero, Each, Setup, Plan, pinned_profile, Job, job_of, State, setup_in, cond_true, cond_false, same_value, AreAscending, CoreIs, IsJobOf, pin_of, CoreJob, CoreView, job_in, PinnedValue, pin_at, pin_among, pin_of_job, pin_in, profile_or}
use Rattle.std.proofs.Common.{◌==◌}
use Rattle.machine_defs.specs.Jobs.{Pinned}
use Rattle.vault.proofs.Asks.{above, each_both}
use Rattle.vault.proofs.JobPlaces.{one_further, from_zero}
use Rattle.vault.proofs.CoreJobs.{shown_pins}

-- ---- the file of a number among those of a job

-- the place of a number, by recursion
abbrev at_id : List PinnedValue → ℕ → Option ℕ
at_id [] k = None
at_id (f ∷ fs) k = cond (f.id == k) (Some 0) (option_map suc (at_id fs k))

from_is : (fs : List PinnedValue) (k i : ℕ) → position_from (λ (f : PinnedValue). f.id == k) i fs
    ≡ option_map (λ p. p + i) (at_id fs k)
from_is [] k i = refl
from_is (f ∷ fs) k i =
    elim (f.id == k) as (λ b. cond b (Some i) (position_from (λ (x : PinnedValue). x.id == k) (i + 1) fs)
    ≡ option_map (λ p. p + i) (cond b (Some 0) (option_map suc (at_id fs k)))) [
      | true ↦ ap Some (sym (zero-add i))
      | false ↦ from_is fs k (i + 1) ∙ one_further i (at_id fs k)
    ]

-- the file of a number, by recursion
abbrev pub pin_by_id : List PinnedValue → ℕ → Option PinnedValue
pin_by_id [] k = None
pin_by_id (f ∷ fs) k = cond (f.id == k) (Some f) (pin_by_id fs k)

behind_one : (f : PinnedValue) (fs : List PinnedValue) (o : Option ℕ) →
    pin_at (f ∷ fs) (option_map suc o) ≡ pin_at fs o
behind_one f fs None = refl
behind_one f fs (Some q) = refl

at_is : (fs : List PinnedValue) (k : ℕ) → pin_at fs (at_id fs k) ≡ pin_by_id fs k
at_is [] k = refl
at_is (f ∷ fs) k = elim (f.id == k) as (λ b. pin_at (f ∷ fs) (cond b (Some 0) (option_map suc (at_id fs k))) ≡
    cond b (Some f) (pin_by_id fs k)) [
      | true ↦ refl
      | false ↦ behind_one f fs (at_id fs k) ∙ at_is fs k
    ]

-- the first file of a number is the one that is found
pub among_is : (fs : List PinnedValue) (k : ℕ) → pin_among fs k ≡ pin_by_id fs k
among_is fs k = ap (pin_at fs) (position_from-zero (λ (f : PinnedValue). f.id == k) fs ∙ from_is fs k 0
    ∙ from_zero (at_id fs k)) ∙ at_is fs k

-- each of the files of a job is found by its number
pub pins_found : (low : ℕ) (fs : List Pinned) → AreAscending low fs →
    Each (λ (f : Pinned). pin_by_id (map pin_of fs) f.id ≡ Some (pin_of f)) fs
pins_found low [] h = tt
pins_found low (g ∷ fs) h = (
  cond_true (g.id == g.id) (Some (pin_of g)) (pin_by_id (map pin_of fs) g.id) (eq-eqb g.id g.id refl),
  each_both (λ f. pin_by_id (map pin_of fs) f.id ≡ Some (pin_of f)) (λ f. g.id + 1 ≤ f.id)
      (λ f. pin_by_id (map pin_of (g ∷ fs)) f.id ≡ Some (pin_of f)) fs
      (λ f found far. cond_false (g.id == f.id) (Some (pin_of g)) (pin_by_id (map pin_of fs) f.id)
      (ne_eqb g.id f.id (λ e. absurd (omega arith))) ∙ found) (pins_found (g.id + 1) fs h.1)
      (above (g.id + 1) (g.id + 1) fs (omega arith) h.1),
)

-- the profile of the file that is found is the one of the machine
pub profile_found : (other : ℕ) (fs : List Pinned) (o : ℕ) →
    profile_or other (pin_by_id (map pin_of fs) o) ≡ pinned_profile other fs o
profile_found other [] o = refl
profile_found other (f ∷ fs) o =
    elim (f.id == o) as (λ b. profile_or other (cond b (Some (pin_of f)) (pin_by_id (map pin_of fs) o))
    ≡ cond b f.profile (pinned_profile other fs o)) [
      | true ↦ refl
      | false ↦ profile_found other fs o
    ]

-- ---- the job of a core

-- a job of the machine stands in the core
pub core_job : (s : Setup) (cs : List CoreJob) (js : List Job) (k : ℕ) (j : Job) → AllZip (IsJobOf s) cs js →
    job_of js k ≡ Some j → (c : CoreJob) × (job_in cs k ≡ Some c) × IsJobOf s c j
core_job s [] [] k j are runs = (cc runs)
core_job s (c ∷ cs) (x ∷ js) k j are runs = elim (cases_Bool (x.number == k)) [
  | inl t ↦ (
      let same = same_value _ x j (cond_true (x.number == k) (Some x) (job_of js k) t) runs in (
        c,
        cond_true (c.number == k) (Some c) (job_in cs k) (ap (λ n. n == k) are.0.number ∙ t),
        (rw same at are.0),
      ))
  | inr f ↦ (
      let r = core_job s cs js k j are.1 (sym (cond_false (x.number == k) (Some x) (job_of js k) f) ∙ runs) in (
        r.0,
        cond_false (c.number == k) (Some c) (job_in cs k) (ap (λ n. n == k) are.0.number ∙ f)
            ∙ r.1,
        r.2,
      ))
]
core_job s _ _ k j are runs = absurd are

-- what the core finds of a file that a job works on
pub pin_is : (c : CoreView) (w : State) (number o : ℕ) (job : Job) → CoreIs c w →
    job_of w.jobs number ≡ Some job → pin_in c number o ≡ pin_by_id (map pin_of job.pinned) o
pin_is c w number o job is runs =
    let j = core_job c.setup c.jobs w.jobs number job is.jobs runs in
    ap (λ (x : Option CoreJob). pin_of_job x o) j.1
    ∙ ap (λ (p : Plan PinnedValue). pin_among p.pins o) j.2.plan
    ∙ ap (λ (l : List PinnedValue). pin_among l o) (shown_pins j.0.told job)
    ∙ among_is (map pin_of job.pinned) o

-- so it knows the profile of a file as the machine does
pub profile_is : (c : CoreView) (w : State) (number o other : ℕ) (job : Job) → CoreIs c w →
    job_of w.jobs number ≡ Some job → other ≡ (setup_in w).profile
    → profile_or other (pin_in c number o) ≡ pinned_profile (setup_in w).profile job.pinned o
profile_is c w number o other job is runs same =
    (λ i. profile_or (same i) (pin_is c w number o job is runs i))
    ∙ profile_found (setup_in w).profile job.pinned o

-- ---- what the core tells of the files of a job

-- where it tells none there is no such file
pub told_none : (j : Option CoreJob) (o : ℕ) → None ≡ option_map (λ (x : CoreJob). x.plan.pins) j →
    pin_of_job j o ≡ None
told_none None o e = refl
told_none (Some j) o e = absurd (let f : None ≡ Some j.plan.pins = e in cc)

-- where it tells some, the file is among these
pub told_some : (j : Option CoreJob) (pins : List PinnedValue) (o : ℕ) →
    Some pins ≡ option_map (λ (x : CoreJob). x.plan.pins) j → pin_of_job j o ≡ pin_among pins o
told_some None pins o e = absurd (cc e)
told_some (Some j) pins o e = ap (λ l. pin_among l o) (same_value _ j.plan.pins pins refl (sym e))
