-- A job as it is made stands for the job that the machine adds.
use Rattle.vault_core.proofs.Words.{◌≡◌, ℕ, ◌^◌, ◌≤◌, Bool, true, false, List, [], ◌∷◌, Some, None, length, map, inl, inr, refl, ap, sym, subst, ◌∙◌, arith, nat_lt, slice_get, cases_Bool, false≢true, In, Sums, Setup, File, Due, find_file, files_of, due_of, find-files_of, Kind, PutJob, RepairJob, ToPut, ToGet, ToAudit, ToRepair, Aim, aim_of, PinnedBytes, actions_of, machine_pins, pinned_file, pinned_for, due_number, due_flags, subject_at_begin, chosen, beginning, pin_by, pin_each, pin_found, pins_by, State, setup_in, file_in, counted, Kept, Wish, core_pins, plan_in, flag_at, stripe_size, IsLongest, IsTold, IsKindOf, IsAimOf, pin_of, seen_plan, sums_at_start, is_audit_kind, longest, shown, IsPutFrom, HasTold, IsJobOf, asks_next, listed_older, plan_kept, core_job, sums_kept, MayBegin, pin_of_file, pins_for, subject_for, IsMade, aim_of_wish, profile_named}
use Rattle.std.proofs.Common.{◌*◌, Option}
use Rattle.std.specs.Prelude.{◌&&◌, not, replicate}
use Rattle.machine_defs.proofs.RecordFacts.{listed_file}
use Rattle.state_laws.specs.Follows.{AreHeld}
use Rattle.vault_core.specs.declared.wish.Wish.TheVariants as wish
use Rattle.vault_core.specs.declared.job.Job.{Job}
use Rattle.vault_core.proofs.Alike.{IsLikeFoldOf}
use Rattle.vault_core.proofs.Links.{shown_aim}
use Rattle.vault_core.proofs.Begun.{take-zeros}

-- ---- pinned files

map-pin : (p : PinnedBytes) (qs : List PinnedBytes) →
    map pin_of (pin_by machine_pins p qs) ≡ pin_by core_pins (pin_of p) (map pin_of qs)
map-pin p [] = refl
map-pin p (q ∷ qs) = elim (cases_Bool (nat_lt p.id q.id)) [
  | inl t ↦ rw t refl
  | inr f ↦ rw f (ap (λ ps. pin_of q ∷ ps) (map-pin p qs))
]

pin-file : (w : State) (f : File) → length (w.bytes f.id) ≡ f.size → pin_of_file f ≡ pin_of (pinned_file w f)
pin-file w f e = ap (λ k. record { id = f.id; length = k; profile = f.profile }) (sym e)

pins-all : (w : State) (fs : List File) → ((f : File) → In f fs → length (w.bytes f.id) ≡ f.size) →
    pin_each core_pins pin_of_file fs ≡ map pin_of (pin_each machine_pins (pinned_file w) fs)
pins-all w [] h = refl
pins-all w (f ∷ fs) h = ap (λ p. pin_by core_pins p (pin_each core_pins pin_of_file fs))
    (pin-file w f (h f (inl refl)))
    ∙ (ap (pin_by core_pins (pin_of (pinned_file w f))) (pins-all w fs (λ g i. h g (inr i)))
    ∙ sym (map-pin (pinned_file w f) (pin_each machine_pins (pinned_file w) fs)))

pins-one : (w : State) (o : Option File) → ((f : File) → o ≡ Some f → length (w.bytes f.id) ≡ f.size) →
    pin_found pin_of_file o ≡ map pin_of (pin_found (pinned_file w) o)
pins-one w None h = refl
pins-one w (Some f) h = ap (λ p. p ∷ []) (pin-file w f (h f refl))

pins-aim : (t : Kept) (w : State) (aim : Aim) → IsLikeFoldOf w.records t → AreHeld w.bytes w.records →
    pins_by core_pins pin_of_file (find_file t.files) t.files aim
    ≡ map pin_of (pins_by machine_pins (pinned_file w) (file_in w) (files_of w.records) aim)
pins-aim t w aim fold held = by aim
  where
    all : pin_each core_pins pin_of_file t.files ≡ map pin_of
        (pin_each machine_pins (pinned_file w) (files_of w.records))
    all = ap (pin_each core_pins pin_of_file) fold.files
        ∙ pins-all w (files_of w.records) (λ f i. (held f.name f (listed_file w.records f i)).1)

    by : (x : Aim) → pins_by core_pins pin_of_file (find_file t.files) t.files x
        ≡ map pin_of (pins_by machine_pins (pinned_file w) (file_in w) (files_of w.records) x)
    by (ToGet name) = ap (pin_found pin_of_file) (ap (λ (fs : List File). find_file fs name) fold.files
        ∙ find-files_of w.records name) ∙ pins-one w (file_in w name) (λ f e. (held name f e).1)
    by ToAudit = all
    by ToRepair = all
    by aim = refl

-- the files that a job of a wish works on are those that the machine pins
pub pins-are : (t : Kept) (w : State) (v : Wish) (k : Kind) → IsLikeFoldOf w.records t → AreHeld w.bytes w.records →
    IsKindOf v k → pins_for t v ≡ map pin_of (pinned_for w k)
pins-are t w v k fold held kind =
    ap (pins_by core_pins pin_of_file (find_file t.files) t.files) kind ∙ pins-aim t w (aim_of k) fold held

-- ---- the job

abbrev sums_of : List ℕ → ℕ → Sums
sums_of counts undecided = record { counts = counts; undecided = undecided }

-- a job of this kind has its number from its begin on by its aim
abbrev aimed_subject : Option Due → Aim → ℕ
aimed_subject due ToRepair = due_number due
aimed_subject due aim = 0

subject-wish : (t : Kept) (v : Wish) → subject_for t v ≡ aimed_subject t.due (aim_of_wish v)
subject-wish t wish.Repair = refl
subject-wish t (wish.Put name size own) = refl
subject-wish t v = refl

subject-kind : (w : State) (k : Kind) → subject_at_begin w k ≡ aimed_subject (due_of w.records) (aim_of k)
subject-kind w RepairJob = refl
subject-kind w k = refl

module _ {t : Kept} {s : Setup} (w : State) (moment : ℕ) {v : Wish} (k : Kind) {job : Job}
    (made : IsMade t s w.next_job v job) (most : s.n ≤ 16)
    (fold : IsLikeFoldOf w.records t) (setup : s ≡ setup_in w) (held : AreHeld w.bytes w.records)
    (kind : IsAimOf job.told v k) (begins : MayBegin job.told v) where
  -- what does not hang on the length of a put's file is the same of both aims
  same-aim : {X : Type 0} (f : Aim → X) →
      ((name : List ℕ) (a b : ℕ) → f (ToPut name a) ≡ f (ToPut name b)) → f (aim_of_wish v) ≡ f (aim_of k)
  same-aim f h = by job.told kind
    where
      level : (aim : Aim) → f (longest aim) ≡ f aim
      level (ToPut name size) = h name (2 ^ 22) size
      level aim = refl

      by : (o : Option ℕ) → IsAimOf o v k → f (aim_of_wish v) ≡ f (aim_of k)
      by None e = ap f e
      by (Some n) e = ap f e ∙ level (aim_of k)

  made-pins : job.pinned.items ≡ map pin_of (pinned_for w k)
  made-pins = made.pinned
      ∙ (same-aim (pins_by core_pins pin_of_file (find_file t.files) t.files) (λ name a b. refl)
      ∙ pins-aim t w (aim_of k) fold held)

  made-flags : (i : ℕ) → flag_at job.flagged i ≡ due_flags (setup_in w).tolerance (due_of w.records) i
  made-flags i = made.flags i
      ∙ (ap (λ d. due_flags s.tolerance d i) fold.due
      ∙ ap (λ x. due_flags x.tolerance (due_of w.records) i) setup)

  made-subject : job.subject ≡ subject_at_begin w k
  made-subject = made.subject ∙ (subject-wish t v
      ∙ (ap (λ (d : Option Due). aimed_subject d (aim_of_wish v)) fold.due
      ∙ (same-aim (aimed_subject (due_of w.records)) (λ name a b. refl) ∙ sym (subject-kind w k))))

  made-aim : aim_of_wish job.wish ≡ shown_aim job.told (aim_of k)
  made-aim = ap aim_of_wish made.wish ∙ by job.told kind
    where
      by : (o : Option ℕ) → IsAimOf o v k → aim_of_wish v ≡ shown_aim o (aim_of k)
      by None e = e
      by (Some n) e = e

  made-profile : job.profile ≡ chosen (setup_in w) (profile_named v)
  made-profile = made.profile ∙ ap (λ x. chosen x (profile_named v)) setup

  made-older : listed_older job.older ≡ []
  made-older = ap listed_older made.older

  made-sums : sums_kept job ≡ sums_at_start s
  made-sums = ap (λ c. sums_of (counted c) job.undecided) made.counts
      ∙ (ap (λ xs. sums_of xs job.undecided) (take-zeros s.n 16 most)
      ∙ ap (sums_of (replicate s.n 0)) made.undecided)

  made-plan : plan_in (plan_kept job) ≡ shown job.told (seen_plan (beginning w moment k (profile_named v)))
  made-plan = (λ i. record {
    aim = made-aim i;
    profile = made-profile i;
    subject = made-subject i;
    older = made-older i;
    flagged = λ j. made-flags j i;
    pins = made-pins i;
  }) ∙ by job.told
    where
      by : (o : Option ℕ) →
          record (seen_plan (beginning w moment k (profile_named v))) { aim = shown_aim o (aim_of k) }
          ≡ shown o (seen_plan (beginning w moment k (profile_named v)))
      by None = refl
      by (Some n) = refl

  made-told : HasTold s job.told (beginning w moment k (profile_named v))
  made-told = by job.told kind begins
    where
      put : (n size : ℕ) (x : Kind) → n ≡ 0 → IsLongest (longest (aim_of x)) → IsPutFrom (n * size) (aim_of x)
      put n size (PutJob name bytes) z l = subst (λ m. m * size ≤ length bytes) (sym z) (omega arith)
      put n size kind z l = absurd l

      by : (o : Option ℕ) → IsAimOf o v k → MayBegin o v →
          HasTold s o (beginning w moment k (profile_named v))
      by None e m = tt
      by (Some n) e m = put n (stripe_size s (chosen (setup_in w) (profile_named v))) k m.0
          (subst IsLongest e m.1)

  -- a job as it is made stands for the job that the machine adds
  pub made-is : IsTold s (core_job job) → IsJobOf s (core_job job) (beginning w moment k (profile_named v))
  made-is within = record {
    number = made.number;
    plan = made-plan;
    told = made-told;
    within = within;
    place = made.place;
    unjudged = λ a l. made-sums;
    judged = λ h. absurd (early (is_audit_kind k) h);
  }
    where
      early : (b : Bool) → (b && (false && not (asks_next
          (slice_get (actions_of s (beginning w moment k (profile_named v))) 0)))) ≡ true → ⊥
      early true h = false≢true h
      early false h = false≢true h
