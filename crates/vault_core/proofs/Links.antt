-- A job of a core and the job of the machine that it stands for: what comes next, what is left, and what it
-- draws and takes away.
use Rattle.vault_core.proofs.Words.{◌≡◌, ℕ, ◌+◌, ◌^◌, ◌<◌, ◌≤◌, Bool, true, false, List, [], ◌∷◌, ◌++◌, Some, None, map, inl, inr, refl, ap, sym, subst, ◌∙◌, arith, ◌⊎◌, if◌then◌else◌, ◌==◌, is_some, slice_get, count_by, AllZip, flat_map, list_any, cases_lt, lt-ltb, le-ltb, ne_eqb, eq-eqb, Setup, File, find_file, next_id, next_audit, find-files_of, profiled, Kind, PutJob, GetJob, DropJob, AuditJob, RepairJob, Aim, ToPut, aim_of, PinnedBytes, Action, WriteBody, End, append_actions, on_each_provider, on_each_stripe, open_actions, rewrite_plan, rounds_of, Ask, Plan, plan_actions, actions_by, actions_of, actions_left, appends_left, ends_append, State, setup_in, file_in, is_first_append, subject_drawn, removable, taken_out, is_idle_drop, next_action, next_stands, stripe_size, next-left, get-drop, put-first, put-later, audit-first, audit-later, put-second, audit-second, gates, onward, count-onward, Kept, id_after, CoreJob, core_pins, planned, planned_by, rest_in, appends_in, wanted_at, is_gone, is_idle, action_next, pin_of, seen_plan, longest, shown, IsPutFrom, HasTold, IsJobOf, IsToldAs, is_pinned_in, removable_in, number_as, number_drawn, taken_as, taken_by}
use Rattle.std.proofs.Common.{◌*◌, drop}
use Rattle.std.specs.Prelude.{Option, ◌&&◌, ◌||◌, not}
use Rattle.std.proofs.lemmas.List.Folds.{flat_map-map}
use Rattle.machine_defs.specs.Jobs.{Job}
use Rattle.vault_core.specs.declared.pinned.Pinned.{Pinned}
use Rattle.vault_core.proofs.Alike.{IsLikeFoldOf}
use Rattle.vault_core.proofs.Places.{any-map}
use Rattle.vault_core.proofs.Told.{below}
use Rattle.vault_core.proofs.Fronts.{shared, shared-stands, shared-appends}

-- ---- the actions

-- a plan without bytes has the actions of its job
pub planned-seen : (s : Setup) (m : Job) → planned_by s (seen_plan m) ≡ actions_of s m
unfolding planned_by actions_of
planned-seen s m = by m.kind
  where
    by : (k : Kind) → plan_actions core_pins s (seen_plan m) (aim_of k) ≡ actions_by s m k
    by (GetJob name) = ap (λ xs. xs ++ End ∷ [])
        (flat_map-map (λ f. on_each_stripe (profiled s f.profile) f.length (open_actions s f.id))
        pin_of m.pinned)
    by AuditJob = ap (λ xs. append_actions ++ (xs ++ (append_actions ++ End ∷ [])))
        (flat_map-map (λ f. flat_map (λ round. on_each_provider s (λ j. Ask j f.id round))
        (rounds_of (profiled s f.profile) f.length)) pin_of m.pinned)
    by RepairJob = ap (λ xs. xs ++ (append_actions ++ End ∷ []))
        (flat_map-map (λ f. on_each_stripe (profiled s f.profile) f.length
        (λ stripe. open_actions s f.id stripe ++ rewrite_plan s m.flagged f.id stripe)) pin_of m.pinned)
    by kind = refl

-- ---- the parts of a plan

-- the aim of a job as a core sees it
abbrev pub shown_aim : Option ℕ → Aim → Aim
shown_aim None aim = aim
shown_aim (Some told) aim = longest aim

module _ (s : Setup) (c : CoreJob) (m : Job) (is : IsJobOf s c m) (closed : c.told ≡ None) where
  -- a job that is no open stream has the same actions
  pub list-is : planned s c.plan ≡ actions_of s m
  list-is = ap (planned_by s) (is.plan ∙ ap (λ o. shown o (seen_plan m)) closed) ∙ planned-seen s m

  -- what is left is the same
  pub rest-is : rest_in s c ≡ actions_left s m
  rest-is = λ i. drop (is.place i) (list-is i)

module _ {s : Setup} {c : CoreJob} {m : Job} (is : IsJobOf s c m) where
  aim-of : (o : Option ℕ) → (shown o (seen_plan m)).aim ≡ shown_aim o (aim_of m.kind)
  aim-of None = refl
  aim-of (Some k) = refl

  -- it is for the same, but for the length of an open stream's file
  pub aim-is : c.plan.aim ≡ shown_aim c.told (aim_of m.kind)
  aim-is = ap (λ (p : Plan Pinned). p.aim) is.plan ∙ aim-of c.told

  profile-of : (o : Option ℕ) → (shown o (seen_plan m)).profile ≡ m.profile
  profile-of None = refl
  profile-of (Some k) = refl

  -- it has the same profile
  pub profile-is : c.plan.profile ≡ m.profile
  profile-is = ap (λ (p : Plan Pinned). p.profile) is.plan ∙ profile-of c.told

  subject-of : (o : Option ℕ) → (shown o (seen_plan m)).subject ≡ m.subject
  subject-of None = refl
  subject-of (Some k) = refl

  -- and the same number
  pub subject-is : c.plan.subject ≡ m.subject
  subject-is = ap (λ (p : Plan Pinned). p.subject) is.plan ∙ subject-of c.told

  pins-of : (o : Option ℕ) → (shown o (seen_plan m)).pins ≡ map pin_of m.pinned
  pins-of None = refl
  pins-of (Some k) = refl

  -- it works on the same files
  pub pins-are-same : c.plan.pins ≡ map pin_of m.pinned
  pins-are-same = ap (λ (p : Plan Pinned). p.pins) is.plan ∙ pins-of c.told

  -- what does not hang on the length of a put's file is the same of both aims
  pub aim-alike : {X : Type 0} (f : Aim → X) →
      ((name : List ℕ) (a b : ℕ) → f (ToPut name a) ≡ f (ToPut name b)) → f c.plan.aim ≡ f (aim_of m.kind)
  aim-alike f h = ap f aim-is ∙ by c.told (aim_of m.kind)
    where
      by : (o : Option ℕ) (aim : Aim) → f (shown_aim o aim) ≡ f aim
      by (Some k) (ToPut name size) = h name (2 ^ 22) size
      by o aim = refl

  -- an audit is no stream
  pub audit-closed : m.kind ≡ AuditJob → c.told ≡ None
  audit-closed kind = by c.told is.told
    where
      by : (o : Option ℕ) → HasTold s o m → o ≡ None
      by None h = refl
      by (Some k) h = absurd (rw kind at h)

  -- so many appends are left
  pub appends-is : appends_in s c ≡ appends_left s m
  appends-is = by c.told refl is.within
    where
      by : (o : Option ℕ) → c.told ≡ o → IsToldAs s c o → appends_in s c ≡ appends_left s m
      by None e h = ap (count_by ends_append) (rest-is s c m is e)
      by (Some k) e h = shared-appends is.place (shared is e h) h.0

  -- where it does not wait for a stripe, the same action comes next
  pub stands-is : wanted_at s c.place c.told ≡ None →
      slice_get (planned s c.plan) c.place ≡ slice_get (actions_of s m) m.place
  stands-is = by c.told refl is.within
    where
      by : (o : Option ℕ) → c.told ≡ o → IsToldAs s c o → wanted_at s c.place o ≡ None →
          slice_get (planned s c.plan) c.place ≡ slice_get (actions_of s m) m.place
      by None e h free = λ i. slice_get (list-is s c m is e i) (is.place i)
      by (Some k) e h free = shared-stands is.place (shared is e h) (below c.place (4 + k * s.n) k free h.0)

-- ---- changes of a plan

-- an open stream stays one of a job of this kind and profile
pub told-same : (s : Setup) (o : Option ℕ) (m n : Job) → m.kind ≡ n.kind → m.profile ≡ n.profile →
    HasTold s o m → HasTold s o n
told-same s None m n kind profile h = tt
told-same s (Some k) m n kind profile h =
    rw kind at (subst (λ (p : ℕ). IsPutFrom (k * stripe_size s p) (aim_of m.kind)) profile h)

-- with another number
pub shown-subject : (o : Option ℕ) (p : Plan Pinned) (k : ℕ) →
    record (shown o p) { subject = k } ≡ shown o (record p { subject = k })
shown-subject None p k = refl
shown-subject (Some n) p k = refl

-- with another object to take away
pub shown-older : (o : Option ℕ) (p : Plan Pinned) (k : List ℕ) →
    record (shown o p) { older = k } ≡ shown o (record p { older = k })
shown-older None p k = refl
shown-older (Some n) p k = refl

-- ---- the first append

-- a put has two appends left exactly while it is at its first one
pub put-two : (s : Setup) (m : Job) (name bytes : List ℕ) → m.kind ≡ PutJob name bytes →
    (appends_left s m == 2) ≡ is_first_append m
put-two s m name bytes kind = elim (cases_lt m.place 4) [
  | inl l ↦ eq-eqb (appends_left s m) 2 (put-first s m name bytes kind l) ∙ sym (lt-ltb m.place 4 l)
  | inr l ↦ ne_eqb (appends_left s m) 2 (λ e. absurd (omega (arith, put-later s m name bytes kind l, e)))
      ∙ sym (le-ltb m.place 4 l)
]

-- so has an audit
pub audit-two : (s : Setup) (m : Job) → m.kind ≡ AuditJob → (appends_left s m == 2) ≡ is_first_append m
audit-two s m kind = elim (cases_lt m.place 4) [
  | inl l ↦ eq-eqb (appends_left s m) 2 (audit-first s m kind l) ∙ sym (lt-ltb m.place 4 l)
  | inr l ↦ ne_eqb (appends_left s m) 2 (λ e. absurd (omega (arith, audit-later s m kind l, e)))
      ∙ sym (le-ltb m.place 4 l)
]

-- a name has the same file in the table of a core and in the records that it was folded from
pub file_here : (t : Kept) (w : State) (name : List ℕ) → IsLikeFoldOf w.records t →
    find_file t.files name ≡ file_in w name
file_here t w name f = ap (λ fs. find_file fs name) f.files ∙ find-files_of w.records name

-- the number that its append draws, or has drawn, is the machine's
pub number_same : (w : State) (t : Kept) (c : CoreJob) (m : Job) → IsLikeFoldOf w.records t →
    IsJobOf (setup_in w) c m → number_drawn (setup_in w) t c ≡ subject_drawn w m m.kind
number_same w t c m f is = (λ i. number_as t (appends-is is i) (subject-is is i) c.plan.aim) ∙
    (aim-alike is (number_as t (appends_left (setup_in w) m) m.subject) (λ name a b. refl) ∙ by m.kind refl)
  where
    by : (k : Kind) → m.kind ≡ k →
        number_as t (appends_left (setup_in w) m) m.subject (aim_of k) ≡ subject_drawn w m k
    by (PutJob name bytes) e =
        ap (λ b. if b then id_after t else m.subject) (put-two (setup_in w) m name bytes e)
        ∙ ap (λ i. if is_first_append m then i else m.subject) f.id
    by AuditJob e = ap (λ b. if b then t.next_audit else m.subject) (audit-two (setup_in w) m e)
        ∙ ap (λ i. if is_first_append m then i else m.subject) f.audit
    by kind e = refl

-- ---- what is pinned, and what is taken away

pinned_jobs : (s : Setup) (cs : List CoreJob) (js : List Job) (id : ℕ) → AllZip (IsJobOf s) cs js →
    is_pinned_in cs id ≡ list_any (λ (j : Job). list_any (λ (f : PinnedBytes). f.id == id) j.pinned) js
pinned_jobs s [] [] id h = refl
pinned_jobs s (c ∷ cs) (j ∷ js) id h =
    ap (λ b. b || is_pinned_in cs id) (ap (list_any (λ file. file.id == id)) (pins-are-same h.0)
    ∙ sym (any-map pin_of (λ file. file.id == id) j.pinned))
    ∙ ap (λ b. list_any (λ f. f.id == id) j.pinned || b) (pinned_jobs s cs js id h.1)
pinned_jobs s _ _ id h = absurd h

removable_same : (s : Setup) (cs : List CoreJob) (w : State) (o : Option File) →
    AllZip (IsJobOf s) cs w.jobs → removable_in cs o ≡ removable w o
removable_same s cs w None h = refl
removable_same s cs w (Some f) h = ap (λ b. if b then [] else f.id ∷ []) (pinned_jobs s cs w.jobs f.id h)

-- the object that its append takes out of effect is the machine's
pub taken_same : (w : State) (t : Kept) (cs : List CoreJob) (c : CoreJob) (m : Job) → IsLikeFoldOf w.records t →
    AllZip (IsJobOf (setup_in w)) cs w.jobs → IsJobOf (setup_in w) c m →
    taken_by (setup_in w) t cs c ≡ taken_out w m m.kind
taken_same w t cs c m f all is = ap (λ k. taken_as t cs k c.plan.aim) (appends-is is) ∙ (aim-alike is
    (taken_as t cs (appends_left (setup_in w) m)) (λ name a b. refl) ∙ by m.kind refl)
  where
    here : (name : List ℕ) → removable_in cs (find_file t.files name) ≡ removable w (file_in w name)
    here name = ap (removable_in cs) (file_here t w name f) ∙ removable_same (setup_in w) cs w
        (file_in w name) all

    by : (k : Kind) → m.kind ≡ k → taken_as t cs (appends_left (setup_in w) m) (aim_of k) ≡ taken_out w m k
    by (PutJob name bytes) e = ap (λ b. if b then [] else removable_in cs (find_file t.files name))
        (put-two (setup_in w) m name bytes e)
        ∙ ap (λ xs. if is_first_append m then [] else xs) (here name)
    by (DropJob name) e = here name
    by kind e = refl

-- ---- what comes next

-- a drop is idle in a core as in the machine
pub idle_same : (w : State) (t : Kept) (c : CoreJob) (m : Job) → IsLikeFoldOf w.records t →
    IsJobOf (setup_in w) c m → is_idle_drop w m m.kind ≡ is_idle t c
idle_same w t c m f is = by m.kind
    ∙ sym (ap (λ (b : Bool). b && (c.place == 0)) (aim-alike is (is_gone t) (λ name a b. refl))
    ∙ ap (λ (p : ℕ). is_gone t (aim_of m.kind) && (p == 0)) is.place)
  where
    swap : (a b : Bool) → (a && b) ≡ (b && a)
    swap true true = refl
    swap true false = refl
    swap false true = refl
    swap false false = refl

    by : (k : Kind) → is_idle_drop w m k ≡ (is_gone t (aim_of k) && (m.place == 0))
    by (DropJob name) = swap (m.place == 0) (not (is_some (file_in w name)))
        ∙ ap (λ (o : Option File). not (is_some o) && (m.place == 0)) (sym (file_here t w name f))
    by kind = refl

-- the next action is the same
pub next_same : (w : State) {t : Kept} {c : CoreJob} {m : Job} → IsLikeFoldOf w.records t →
    IsJobOf (setup_in w) c m → wanted_at (setup_in w) c.place c.told ≡ None →
    next_action w m ≡ action_next (setup_in w) t c
next_same w {t} {c} {m} f is free =
    ap (λ (b : Bool). if b then Some End else slice_get (actions_of (setup_in w) m) m.place)
    (idle_same w t c m f is)
    ∙ ap (λ (o : Option Action). if is_idle t c then Some End else o) (sym (stands-is is free))

module _ (w : State) {c : CoreJob} {m : Job} {a : Action} (is : IsJobOf (setup_in w) c m)
    (next : next_action w m ≡ Some a) (on : a ≡ End → ⊥) where
  -- a job of a core that is no open stream has before it the machine's next action and all behind it
  pub left-here : c.told ≡ None → rest_in (setup_in w) c ≡ a ∷ drop (m.place + 1) (actions_of (setup_in w) m)
  left-here closed = rest-is (setup_in w) c m is closed ∙ next-left w m a next on

  -- the first action that a job of a core has not yet made is the machine's next
  pub head-here : wanted_at (setup_in w) c.place c.told ≡ None → slice_get (rest_in (setup_in w) c) 0 ≡ Some a
  head-here free = get-drop (planned (setup_in w) c.plan) c.place
      ∙ (stands-is is free ∙ next_stands w m a next on)

-- the first move of an append leaves as many appends, whatever number it draws
pub drawn-appends : (w : State) (m : Job) → next_action w m ≡ Some WriteBody →
    appends_left (setup_in w) (onward m (subject_drawn w m m.kind) m.given) ≡ appends_left (setup_in w) m
drawn-appends w m next = by m.kind refl (cases_lt m.place 4)
  where
    same : subject_drawn w m m.kind ≡ m.subject →
        appends_left (setup_in w) (onward m (subject_drawn w m m.kind) m.given) ≡ appends_left (setup_in w) m
    same e = ap (λ n. appends_left (setup_in w) (onward m n m.given)) e
        ∙ (let c = count-onward w m m.given WriteBody next (λ f. cc) in let z : gates WriteBody ≡ 0 = refl in
        omega (arith, c, z))

    by : (k : Kind) → m.kind ≡ k → (m.place < 4) ⊎ (4 ≤ m.place) →
        appends_left (setup_in w) (onward m (subject_drawn w m m.kind) m.given) ≡ appends_left (setup_in w) m
    by (PutJob name bytes) k (inl l) = (put-second w m (onward m (subject_drawn w m m.kind) m.given)
        name bytes k next l refl refl).1
    by (PutJob name bytes) k (inr l) = same (ap (subject_drawn w m) k
        ∙ ap (λ b. if b then next_id w.records else m.subject) (le-ltb m.place 4 l))
    by AuditJob k (inl l) = (audit-second w m (onward m (subject_drawn w m m.kind) m.given)
        k next l refl refl).1
    by AuditJob k (inr l) = same (ap (subject_drawn w m) k
        ∙ ap (λ b. if b then next_audit w.records else m.subject) (le-ltb m.place 4 l))
    by kind k p = same (ap (subject_drawn w m) k)
