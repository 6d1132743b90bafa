-- A core in which a job has gone on: it is kept, and the job has fewer steps left.
use Rattle.vault_core.proofs.Words.{◌≡◌, ℕ, ◌+◌, ◌-◌, ◌<◌, Some, None, refl, ap, sym, ◌∙◌, arith, Global, slice_get, with_item, Setup, Counts, Inside, CoreJob, CoreView, wanted_by, core_job, view_of, setup_kept, is_upgrade, aim_of_wish, IsJobKept, IsCore, core_left}
use Rattle.std.specs.Prelude.{Option}
use Rattle.std.specs.declared.vec.Vec.{Vec}
use Rattle.vault_core.specs.declared.job.Job.{Job}
use Rattle.vault_core.specs.declared.job.Task.{Task}
use Rattle.vault_core.proofs.Goes.{left_some}
use Rattle.vault_core.proofs.Kept.{other_core, jobs_set}
use Rattle.vault_core.proofs.Moving.{WentOn}
use Rattle.vault_core.proofs.Told.{told_went, LeavesTold, leaves_set}
use Rattle.vault_core.proofs.Falls.{placed_falls}

-- what stays of a job that makes an action, and what does not
pub record Advances (old new : Job) : Type 0 where
  pub number : new.number ≡ old.number
  pub told : new.told ≡ old.told
  pub wish : new.wish ≡ old.wish
  pub profile : new.profile ≡ old.profile
  pub place : new.place ≡ old.place + 1
  pub left : new.left < old.left

-- so it is of one that first took something in
pub advanced : {old mid new : Job} {k u n left : ℕ} {older : Option ℕ} {tasks : Vec Task Global} {cs :
    Counts} →
    mid ≡ record old { subject = k; tasks = tasks; undecided = u; counts = cs } →
    new ≡ record mid { older = older; cursor = new.cursor; appends = n; place = mid.place + 1; left = left } →
    new.left < old.left → Advances old new
advanced took same fewer = record {
  number = ap (λ j. j.number) same ∙ ap (λ j. j.number) took;
  told = ap (λ j. j.told) same ∙ ap (λ j. j.told) took;
  wish = ap (λ j. j.wish) same ∙ ap (λ j. j.wish) took;
  profile = ap (λ j. j.profile) same ∙ ap (λ j. j.profile) took;
  place = ap (λ j. j.place) same ∙ ap (λ j. j.place + 1) took;
  left = fewer;
}

-- and of one that is kept
pub advances : {s : Setup} {old mid new : Job} {k u : ℕ} {tasks : Vec Task Global} {cs : Counts} →
    IsJobKept s old → mid ≡ record old { subject = k; tasks = tasks; undecided = u; counts = cs } →
    new ≡ record mid { cursor = new.cursor; place = mid.place + 1; left = mid.left - 1 } → Advances old new
advances kept took same = advanced took same
    (omega (arith, ap (λ (j : Job). j.left) same, left_some kept, ap (λ (j : Job). j.left) took))

-- a job at a place, and the one that it has become
module _ {a : Inside} {c : CoreView} (place : ℕ) {old new : Job} (v : view_of a ≡ c) (h : IsCore a)
    (here : slice_get (view_of a).jobs place ≡ Some (core_job old)) (is : Advances old new) where
  -- the core with it is kept
  pub on_core : (flight : Option ℕ) → WentOn (setup_kept a) old new →
      wanted_by c.setup (slice_get c.jobs place) ≡ None →
      IsCore (record a { jobs = with_item a.jobs place new; append = flight })
  on_core flight went free = other_core (with_item a.jobs place new) place flight refl refl here is.number
      (ap (λ w. is_upgrade (aim_of_wish w)) is.wish) went.kept
      (told_went place old new v h here free is.told is.wish is.profile is.place) went.room went.starts h

  -- it has fewer steps left
  pub on_falls : (s : CoreView) → IsJobKept (setup_kept a) old → IsJobKept (setup_kept a) new →
      s.setup ≡ setup_kept a → s.jobs ≡ (view_of (record a { jobs = with_item a.jobs place new })).jobs →
      (j : CoreJob) → slice_get c.jobs place ≡ Some j → core_left s j.number < core_left c j.number
  on_falls s kept next setup js =
      placed_falls a c s place old new v h here kept next is.left (setup ∙ ap (λ x. x.setup) v)
      (js ∙ jobs_set a c (with_item a.jobs place new) place new v refl) is.number

  -- so it has in the core with it
  pub on_same : (flight : Option ℕ) → IsJobKept (setup_kept a) old → IsJobKept (setup_kept a) new →
      (j : CoreJob) → slice_get c.jobs place ≡ Some j →
      core_left (view_of (record a { jobs = with_item a.jobs place new; append = flight })) j.number
      < core_left c j.number
  on_same flight kept next =
      on_falls (view_of (record a { jobs = with_item a.jobs place new; append = flight })) kept next refl refl

  -- and each stream was given as many stripes as before
  pub on_told : (s : CoreView) → s.jobs ≡ (view_of (record a { jobs = with_item a.jobs place new })).jobs →
      LeavesTold c s
  on_told s js = leaves_set c s place (core_job old) (core_job new)
      (ap (λ x. slice_get x.jobs place) (sym v) ∙ here) is.number is.told
      (js ∙ jobs_set a c (with_item a.jobs place new) place new v refl)
