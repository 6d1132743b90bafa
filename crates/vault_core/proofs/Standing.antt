-- What comes next for a job, in a core and in a state of the machine that it stands for.
use Rattle.vault_core.proofs.Words.{◌≡◌, ℕ, ◌+◌, Bool, true, false, List, [], ◌∷◌, Some, None, length, inl, inr, refl, ap, sym, subst, ◌∙◌, arith, is_some, ◌==◌, ◌⊎◌, if◌then◌else◌, slice_get, option_map, cases_Bool, cases_lt, lt-ltb, le-ltb, false≢true, each_get, each_append, each_map, each_flat, Sums, Setup, Record, PutStart, AuditStart, AuditDone, next_id, Kind, PutJob, GetJob, AuditJob, aim_of, job_of, Action, WriteBody, Fetch, Ask, Work, End, on_each_provider, on_each_stripe, open_actions, read_actions, actions_by, actions_of, actions_left, appends_left, upto, profiled, stripes_of, State, Append, setup_in, Writes, done_record, is_first_append, most_left, most_after, is_idle_drop, next_action, holder_of, Kept, id_after, in_order-first, get-drop, ActionValue, CoreJob, CoreView, planned, rest_in, appends_in, job_in, wanted_at, wanted_by, wants_in, is_open_stream, IsToldAs, Coming, Waits, IsNoJob, IsBarred, seen_action, seen_next, is_idle, action_next, is_move, asks_next, waits_or_acts, next_of, next_in, most_of, left_in, written_as, written_by, entry_of_job, entry_of_found, entry_in, IsJobOf, IsCoreFlight, CoreIs, ComesNext, IsNextOf, IsEntryOf}
use Rattle.std.proofs.Common.{◌*◌, drop}
use Rattle.std.specs.Prelude.{Option}
use Rattle.machine_defs.specs.Jobs.{Job}
use Rattle.vault_core.specs.declared.action.Action.TheVariants as act
use Rattle.vault_core.specs.declared.action.Next.{Next}
use Rattle.vault_core.specs.declared.action.Next.TheVariants as next
use Rattle.vault_core.proofs.Told.{below}
use Rattle.vault_core.proofs.Fronts.{shared, shared-early}
use Rattle.vault_core.specs.Coming.{Acts}
use Rattle.vault_core.proofs.Alike.{IsLikeFoldOf, table-like}
use Rattle.vault_core.proofs.Pairs.{pair_some, pair_none}
use Rattle.vault_core.proofs.Links.{shown_aim, aim-is, profile-is, subject-is, aim-alike, rest-is, appends-is, stands-is, put-two, audit-two, next_same}
use Rattle.vault_core.proofs.Judging.{asked_whole}

-- ---- how many steps may remain

most_same : (s : Setup) (c : CoreJob) (m : Job) → IsJobOf s c m → c.told ≡ None → most_of s c ≡ most_left s m
most_same s c m is closed =
    ap (λ aim. most_after s aim (rest_in s c)) (aim-is is ∙ ap (λ o. shown_aim o (aim_of m.kind)) closed) ∙ ap
    (most_after s (aim_of m.kind)) (rest-is s c m is closed)

not_open : (j : CoreJob) → is_some j.told ≡ false → j.told ≡ None
not_open j h = by j.told h
  where
    by : (o : Option ℕ) → is_some o ≡ false → o ≡ None
    by None e = refl
    by (Some k) e = absurd (false≢true (sym e))

-- a job that is no open stream may still make as many steps in a core as in the machine
pub left_same : {c : CoreView} {w : State} (k : ℕ) → CoreIs c w → is_open_stream (job_in c.jobs k) ≡ false →
    left_in c k ≡ option_map (most_left (setup_in w)) (job_of w.jobs k)
left_same {c} {w} k is closed = by (job_in c.jobs k) refl
  where
    by : (o : Option CoreJob) → job_in c.jobs k ≡ o →
        option_map (most_of c.setup) (job_in c.jobs k) ≡ option_map (most_left (setup_in w)) (job_of w.jobs k)
    by None e = ap (option_map (most_of c.setup)) e
        ∙ sym (ap (option_map (most_left (setup_in w))) (pair_none c.setup c.jobs w.jobs k is.jobs e))
    by (Some j) e = (let p = pair_some c.setup c.jobs w.jobs k j is.jobs e in
        ap (option_map (most_of c.setup)) e
        ∙ (ap Some (most_same c.setup j p.job p.is (not_open j (sym (ap is_open_stream e) ∙ closed))
        ∙ ap (λ s. most_left s p.job) is.setup)
        ∙ sym (ap (option_map (most_left (setup_in w))) p.runs)))

-- ---- the record of an append

-- what stands at a place is first when all before it is dropped
pub get-first : (xs : List Action) (p : ℕ) → slice_get (drop p xs) 0 ≡ slice_get xs p
get-first xs p = get-drop xs p

no_ask : (o : Option Action) → is_move o ≡ true → asks_next o ≡ false
no_ask (Some (Ask j o t)) h = absurd (false≢true h)
no_ask o h = refl

-- the record that a job of a core writes is the machine's
writes_same : (w : State) (t : Kept) (c : CoreJob) (m : Job) (entry : Record) →
    IsLikeFoldOf w.records t → IsJobOf (setup_in w) c m → wanted_at (setup_in w) c.place c.told ≡ None →
    is_move (slice_get (planned (setup_in w) c.plan) c.place) ≡ true →
    written_by (setup_in w) t c ≡ Some entry → Writes w m m.kind entry
writes_same w t c m entry f is free mv e = by m.kind refl (sym ((λ i. written_as t (appends-is is i)
    (profile-is is i) (subject-is is i) c.sums c.plan.aim) ∙ written_alike) ∙ e)
  where
    first : (k : ℕ) → c.told ≡ Some k → IsToldAs (setup_in w) c (Some k) →
        wanted_at (setup_in w) c.place (Some k) ≡ None → (appends_left (setup_in w) m == 2) ≡ true
    first k o told waits = (let sh = shared is o told in
        put-two (setup_in w) m sh.name sh.bytes sh.kind
        ∙ lt-ltb m.place 4 (omega (
          arith,
          shared-early is.place sh (below c.place (4 + k * (setup_in w).n) k waits told.0) mv,
          is.place,
        )))

    -- a stream is at its first append, whose record does not hang on its length
    written_alike : written_as t (appends_left (setup_in w) m) m.profile m.subject c.sums c.plan.aim
        ≡ written_as t (appends_left (setup_in w) m) m.profile m.subject c.sums (aim_of m.kind)
    written_alike = by_told c.told refl is.within free
      where
        by_told : (o : Option ℕ) → c.told ≡ o → IsToldAs (setup_in w) c o →
            wanted_at (setup_in w) c.place o ≡ None →
            written_as t (appends_left (setup_in w) m) m.profile m.subject c.sums c.plan.aim
            ≡ written_as t (appends_left (setup_in w) m) m.profile m.subject c.sums (aim_of m.kind)
        by_told None o told waits = ap (written_as t (appends_left (setup_in w) m) m.profile m.subject c.sums)
            (aim-is is ∙ ap (λ x. shown_aim x (aim_of m.kind)) o)
        by_told (Some k) o told waits = aim-alike is (written_as t (appends_left (setup_in w) m) m.profile
            m.subject c.sums) (λ name a b. rw (first k o told waits) refl)

    is_it : (x r : Record) → Some x ≡ Some r → r ≡ x
    is_it x r h = cc

    no_more : asks_next (slice_get (actions_of (setup_in w) m) m.place) ≡ false
    no_more = no_ask (slice_get (actions_of (setup_in w) m) m.place)
        (sym (ap is_move (stands-is is free)) ∙ mv)

    by : (k : Kind) → m.kind ≡ k →
        written_as t (appends_left (setup_in w) m) m.profile m.subject c.sums (aim_of k) ≡ Some entry →
        Writes w m k entry
    by (PutJob name bytes) k h = is_it _ entry h
        ∙ (ap (λ b. if b then PutStart (id_after t) name
        else done_record t.version m.subject (length bytes) m.profile)
        (put-two (setup_in w) m name bytes k)
        ∙ (ap (λ i. if is_first_append m then PutStart i name
        else done_record t.version m.subject (length bytes) m.profile) f.id
        ∙ ap (λ v. if is_first_append m then PutStart (next_id w.records) name
        else done_record v m.subject (length bytes) m.profile) f.version))
    by (GetJob name) k h = cc h
    by AuditJob k h = elim (cases_lt m.place 4) [
      | inl l ↦ rw (lt-ltb m.place 4 l) (is_it _ entry (ap (λ b. Some (if b then AuditStart t.next_audit else
          AuditDone m.subject c.sums.undecided c.sums.counts)) (sym (audit-two (setup_in w) m k ∙
          lt-ltb m.place 4 l)) ∙ h)
          ∙ ap AuditStart f.audit)
      | inr l ↦ rw (le-ltb m.place 4 l) (
        c.sums,
        is.judged (asked_whole (setup_in w) m k l no_more),
        is_it _ entry (ap (λ b. Some (if b then AuditStart t.next_audit else AuditDone m.subject
            c.sums.undecided c.sums.counts)) (sym (audit-two (setup_in w) m k ∙ le-ltb m.place 4 l)) ∙ h),
      )
    ]
    by _ k h = is_it _ entry h

-- ---- what comes next

-- the job for which one has to wait whose next action begins an append
abbrev pub core_holder : Option ℕ → Action → Option ℕ
core_holder (Some h) WriteBody = Some h
core_holder flight action = None

acts_or_waits : (flight : Option ℕ) (x : Action) →
    ((waits_or_acts flight (Some x) ≡ Acts x) × (core_holder flight x ≡ None)) ⊎
    ((h : ℕ) × ((waits_or_acts flight (Some x) ≡ Waits h) × (core_holder flight x ≡ Some h)))
acts_or_waits (Some h) WriteBody = inr (h, (refl, refl))
acts_or_waits flight x = inl (refl, refl)

-- a job runs in a core, with its next action and the job that it waits for
pub record Comes (c : CoreView) (k : ℕ) (a : Action) (holder : Option ℕ) : Type 0 where
  pub unbarred : c.barred ≡ false
  pub job : CoreJob
  pub runs : job_in c.jobs k ≡ Some job
  pub comes : action_next c.setup c.table job ≡ Some a
  pub waits : core_holder c.append a ≡ holder

coming_job : (c : CoreView) (k : ℕ) → c.barred ≡ false → next_in c k ≡ next_of c (job_in c.jobs k)
coming_job c k b = ap (λ x. if x then IsBarred else next_of c (job_in c.jobs k)) b

coming_action : (c : CoreView) (k : ℕ) (j : CoreJob) → c.barred ≡ false → job_in c.jobs k ≡ Some j →
    next_in c k ≡ waits_or_acts c.append (action_next c.setup c.table j)
coming_action c k j b e = coming_job c k b ∙ ap (next_of c) e

acts_default : (flight : Option ℕ) (a : ActionValue) → (a ≡ act.WriteBody → ⊥) →
    waits_or_acts flight (Some (seen_action a)) ≡ Acts (seen_action a)
acts_default (Some h) act.WriteBody other = absurd (other refl)
acts_default o a other = refl

-- where an action other than the first move of an append comes next
pub acts_next : (c : CoreView) (k : ℕ) {j : CoreJob} {a : ActionValue} → c.barred ≡ false →
    job_in c.jobs k ≡ Some j → action_next c.setup c.table j ≡ Some (seen_action a) →
    (a ≡ act.WriteBody → ⊥) → Acts (seen_action a) ≡ next_in c k
acts_next c k {j} {a} b e x other = sym (coming_action c k j b e ∙ ap (waits_or_acts c.append) x
    ∙ acts_default c.append a other)

-- what holds of each thing that may come next holds of what comes next for the job of a number
by_coming : (c : CoreView) (k : ℕ) (P : Coming → Type 0) → (c.barred ≡ true → P IsBarred) →
    (c.barred ≡ false → job_in c.jobs k ≡ None → P IsNoJob) →
    (c.barred ≡ false → (j : CoreJob) → job_in c.jobs k ≡ Some j → action_next c.setup c.table j ≡ None →
    P IsNoJob) →
    ((a : Action) → Comes c k a None → P (Acts a)) →
    ((a : Action) (held : ℕ) → Comes c k a (Some held) → P (Waits held)) → P (next_in c k)
by_coming c k P barred none stops acts waits = elim (cases_Bool c.barred) [
  | inl b ↦ subst P (sym (ap (λ x. if x then IsBarred else next_of c (job_in c.jobs k)) b)) (barred b)
  | inr b ↦ (rw (← (coming_job c k b)) at (of_job b (job_in c.jobs k) refl))
]
  where
    of_action : (b : c.barred ≡ false) (j : CoreJob) (o : Option Action) → job_in c.jobs k ≡ Some j →
        action_next c.setup c.table j ≡ o → P (waits_or_acts c.append o)
    of_action b j None e f = stops b j e f
    of_action b j (Some x) e f = elim (acts_or_waits c.append x) [
      | inl w ↦ (rw (← w.0) at (acts x (record { unbarred = b; job = j; runs = e; comes = f; waits = w.1 })))
      | inr w ↦ (rw (← w.1.0) at (waits x w.0 (record {
        unbarred = b;
        job = j;
        runs = e;
        comes = f;
        waits = w.1.1;
      })))
    ]

    of_job : (b : c.barred ≡ false) (o : Option CoreJob) → job_in c.jobs k ≡ o → P (next_of c o)
    of_job b None e = none b e
    of_job b (Some j) e = of_action b j (action_next c.setup c.table j) e refl

-- where an action comes next
pub acts_comes : (c : CoreView) (k : ℕ) (a : Action) → next_in c k ≡ Acts a → Comes c k a None
acts_comes c k a h = by_coming c k (λ x. x ≡ Acts a → Comes c k a None) (λ b e. cc) (λ b n e. cc)
    (λ b j r n e. cc) (λ x w e. let same : x ≡ a = cc in (rw same at w)) (λ x held w e. cc) h

-- where a job waits
waits_comes : (c : CoreView) (k held : ℕ) → next_in c k ≡ Waits held → (a : Action) × Comes c k a (Some held)
waits_comes c k held h = by_coming c k (λ x. x ≡ Waits held → (a : Action) × Comes c k a (Some held))
    (λ b e. cc) (λ b n e. cc) (λ b j r n e. cc) (λ x w e. cc) (λ x other w e. let same : other ≡ held = cc in
    (x, subst (λ n. Comes c k x (Some n)) same w)) h

-- where no such job runs, or its list of actions is at its end
pub missing : (c : CoreView) (k : ℕ) → next_in c k ≡ IsNoJob →
    (c.barred ≡ false) × ((job_in c.jobs k ≡ None) ⊎
    ((j : CoreJob) × ((job_in c.jobs k ≡ Some j) × (action_next c.setup c.table j ≡ None))))
missing c k h = by_coming c k (λ x. x ≡ IsNoJob → (c.barred ≡ false) ×
    ((job_in c.jobs k ≡ None) ⊎
    ((j : CoreJob) × ((job_in c.jobs k ≡ Some j) × (action_next c.setup c.table j ≡ None))))) (λ b e. cc)
    (λ b n e. (b, inl n)) (λ b j r n e. (b, inr (j, (r, n)))) (λ x w e. cc) (λ x held w e. cc) h

-- only a core that is barred tells a job so
pub bars : (c : CoreView) (k : ℕ) → next_in c k ≡ IsBarred → c.barred ≡ true
bars c k h = by_coming c k (λ x. x ≡ IsBarred → c.barred ≡ true) (λ b e. b) (λ b n e. cc)
    (λ b j r n e. cc) (λ x w e. cc) (λ x held w e. cc) h

-- ---- what comes next in the machine

holder_same : (c : CoreView) (o : Option Append) (a : Action) → IsCoreFlight c o →
    holder_of o a ≡ core_holder c.append a
holder_same c None a h = none a ∙ ap (λ x. core_holder x a) (sym h)
  where
    none : (x : Action) → holder_of None x ≡ core_holder None x
    none _ = refl
holder_same c (Some f) a h = some a ∙ ap (λ x. core_holder x a) (sym h.0)
  where
    some : (x : Action) → holder_of (Some f) x ≡ core_holder (Some f.job) x
    some _ = refl

-- a job of a core stands for a job of the machine under any setup that equals its own
pub same_job : {s t : Setup} {c : CoreJob} {m : Job} → s ≡ t → IsJobOf s c m → IsJobOf t c m
same_job e is = rw e at is

-- a job does not wait for a stripe where its number does not
pub free_here : {c : CoreView} {w : State} (k : ℕ) {j : CoreJob} → CoreIs c w → wants_in c k ≡ None →
    job_in c.jobs k ≡ Some j → wanted_at (setup_in w) j.place j.told ≡ None
free_here {c} k is free e = rw is.setup at (sym (ap (wanted_by c.setup) e) ∙ free)

-- what comes next in a core comes next in the machine that it stands for
pub comes_next : {c : CoreView} {w : State} {k : ℕ} {a : Action} {held : Option ℕ} → CoreIs c w →
    wants_in c k ≡ None → Comes c k a held → ComesNext w k a held
comes_next {c} {w} {k} {a} is free h =
    let p = pair_some c.setup c.jobs w.jobs k h.job is.jobs h.runs in
    record {
      unbarred = sym is.barred ∙ h.unbarred;
      job = p.job;
      runs = p.runs;
      comes = next_same w (table-like c w is) (same_job is.setup p.is) (free_here k is free h.runs)
          ∙ (ap (λ s. action_next s c.table h.job) (sym is.setup) ∙ h.comes);
      holder = holder_same c w.append a is.append ∙ h.waits;
    }

some_next : (c : CoreView) (w : State) (k : ℕ) (j : CoreJob) → CoreIs c w → wants_in c k ≡ None →
    job_in c.jobs k ≡ Some j → action_next c.setup c.table j ≡ None → ⊥
some_next c w k j is free e f = elim (cases_Bool (is_idle c.table j)) [
  | inl b ↦ (cc (sym (ap (λ (x : Bool). if x then Some End
      else slice_get (planned c.setup j.plan) j.place) b) ∙ f))
  | inr b ↦ (let p = pair_some c.setup c.jobs w.jobs k j is.jobs e in
      let o = in_order-first _ (actions_left (setup_in w) p.job) (is.sound.jobs k p.job p.runs).order in
      cc (sym o.1 ∙ (get-first (actions_of (setup_in w) p.job) p.job.place ∙ (sym (stands-is (same_job
      is.setup p.is) (free_here k is free e))
      ∙ (ap (λ (s : Setup). slice_get (planned s j.plan) j.place) (sym is.setup)
      ∙ (sym (ap (λ (x : Bool). if x then Some End else slice_get (planned c.setup j.plan) j.place) b)
      ∙ f))))))
]

-- the answer to what comes next is right for the machine
pub next_machine : (c : CoreView) (w : State) (k : ℕ) (r : Next) → CoreIs c w → wants_in c k ≡ None →
    seen_next r ≡ next_in c k → IsNextOf w k r
next_machine c w k (next.Act a) is free e = comes_next is free (acts_comes c k (seen_action a) (sym e))
next_machine c w k (next.Waiting h) is free e =
    let r = waits_comes c k h (sym e) in (r.0, comes_next is free r.1)
next_machine c w k next.NoSuchJob is free e = let r = missing c k (sym e) in (
  sym is.barred ∙ r.0,
  elim r.1 [
    | inl n ↦ pair_none c.setup c.jobs w.jobs k is.jobs n
    | inr s ↦ absurd (some_next c w k s.0 is free s.1.0 s.1.1)
  ],
)
next_machine c w k next.MustReopen is free e = sym is.barred ∙ bars c k (sym e)

-- ---- the record that is written

actions_kind : (s : Setup) (m : Job) (k : Kind) → m.kind ≡ k → actions_of s m ≡ actions_by s m k
unfolding actions_of
actions_kind s m k e = ap (actions_by s m) e

-- a get appends nothing
NoMove : Action → Type 0
NoMove a = is_move (Some a) ≡ false

get_moves : (s : Setup) (m : Job) (name : List ℕ) (a : Action) → m.kind ≡ GetJob name →
    slice_get (actions_of s m) m.place ≡ Some a → is_move (Some a) ≡ false
unfolding NoMove
get_moves s m name a k e = each_get NoMove (actions_by s m (GetJob name)) m.place a
    (each_append NoMove (read_actions s m.pinned) (End ∷ []) (each_flat NoMove
    (λ f. on_each_stripe (profiled s f.profile) (length f.bytes) (open_actions s f.id)) m.pinned
    (λ f. each_flat NoMove (open_actions s f.id) (upto (stripes_of (profiled s f.profile) (length f.bytes)))
    (λ t. each_append NoMove (on_each_provider s (λ j. Fetch j f.id t)) (Work f.id t ∷ [])
    (each_map NoMove (λ j. Fetch j f.id t) (upto s.n) (λ j. refl)) (refl, tt)))) (refl, tt))
    (ap (λ xs. slice_get xs m.place) (sym (actions_kind s m (GetJob name) k)) ∙ e)

-- a next action that is a move of an append is the one of its list
pub head_moves : (s : Setup) (t : Kept) (j : CoreJob) → is_move (action_next s t j) ≡ true →
    is_move (slice_get (planned s j.plan) j.place) ≡ true
head_moves s t j h = elim (cases_Bool (is_idle t j)) [
  | inl b ↦ absurd (false≢true
      (sym (ap (λ x. is_move (if x then Some End else slice_get (planned s j.plan) j.place)) b) ∙ h))
  | inr b ↦ sym (ap (λ x. is_move (if x then Some End else slice_get (planned s j.plan) j.place)) b)
      ∙ h
]

-- the record of a job that is in an append
pub in_append : (s : Setup) (t : Kept) (j : CoreJob) (e : Record) → entry_of_job s t j ≡ Some e →
    (is_move (action_next s t j) ≡ true) × (written_by s t j ≡ Some e)
in_append s t j e h = elim (cases_Bool (is_move (action_next s t j))) [
  | inl b ↦ (b, sym (ap (λ x. if x then written_by s t j else None) b) ∙ h)
  | inr b ↦ (cc (sym (ap (λ (x : Bool). if x then written_by s t j else None) b)
      ∙ h))
]

found_entry : (c : CoreView) (k : ℕ) (e : Record) → entry_in c k ≡ Some e →
    (j : CoreJob) × ((job_in c.jobs k ≡ Some j) × (entry_of_job c.setup c.table j ≡ Some e))
found_entry c k e h = by (job_in c.jobs k) refl
  where
    by : (o : Option CoreJob) → job_in c.jobs k ≡ o →
        (j : CoreJob) × ((job_in c.jobs k ≡ Some j) × (entry_of_job c.setup c.table j ≡ Some e))
    by None f = cc (sym (ap (entry_of_found c.setup c.table) f) ∙ h)
    by (Some j) f = (j, (f, sym (ap (entry_of_found c.setup c.table) f) ∙ h))

-- only a get writes nothing
nothing_get : (t : Kept) (k p a : ℕ) (sums : Sums) (o : Option ℕ) (kind : Kind) →
    written_as t k p a sums (shown_aim o (aim_of kind)) ≡ None → (name : List ℕ) × (kind ≡ GetJob name)
nothing_get t k p a sums o (GetJob name) h = (name, refl)
nothing_get t k p a sums None kind h = cc
nothing_get t k p a sums (Some n) kind h = cc

entry_none : (c : CoreView) (w : State) (k : ℕ) → CoreIs c w → wants_in c k ≡ None →
    entry_in c k ≡ None → (m : Job) → job_of w.jobs k ≡ Some m → is_move (next_action w m) ≡ false
entry_none c w k is free h m runs = by (job_in c.jobs k) refl
  where
    of_get : (name : List ℕ) → m.kind ≡ GetJob name → is_move (next_action w m) ≡ false
    of_get name q = by_action (slice_get (actions_of (setup_in w) m) m.place) refl
      where
        by_action : (o : Option Action) → slice_get (actions_of (setup_in w) m) m.place ≡ o →
            is_move (next_action w m) ≡ false
        by_action None f =
            ap (λ b. is_move (if b then Some End else slice_get (actions_of (setup_in w) m) m.place))
            (ap (is_idle_drop w m) q) ∙ ap is_move f
        by_action (Some a) f =
            ap (λ b. is_move (if b then Some End else slice_get (actions_of (setup_in w) m) m.place))
            (ap (is_idle_drop w m) q)
            ∙ (ap is_move f ∙ get_moves (setup_in w) m name a q f)

    by : (o : Option CoreJob) → job_in c.jobs k ≡ o → is_move (next_action w m) ≡ false
    by None f = (let g : None ≡ Some m = sym (pair_none c.setup c.jobs w.jobs k is.jobs f) ∙ runs in cc)
    by (Some j) f = (let p = pair_some c.setup c.jobs w.jobs k j is.jobs f in
        let same : Some p.job ≡ Some m = sym p.runs ∙ runs in
        let r : p.job ≡ m = cc in
        let q : IsJobOf (setup_in w) j m = subst (IsJobOf (setup_in w) j) r (same_job is.setup p.is) in
        let next : next_action w m ≡ action_next c.setup c.table j = next_same w (table-like c w is) q
        (free_here k is free f) ∙ ap (λ s. action_next s c.table j) (sym is.setup) in
        let entry : entry_of_job c.setup c.table j ≡ None = sym (ap (entry_of_found c.setup c.table) f) ∙ h in
        ap is_move next
        ∙ elim (cases_Bool (is_move (action_next c.setup c.table j))) [
          | inl b ↦ (let n : written_by c.setup c.table j ≡ None =
              sym (ap (λ x. if x then written_by c.setup c.table j else None) b) ∙ entry in
              let g = nothing_get c.table (appends_in c.setup j) j.plan.profile j.plan.subject j.sums j.told
              m.kind (ap (written_as c.table (appends_in c.setup j) j.plan.profile j.plan.subject j.sums) (sym
              (aim-is q)) ∙ n) in
              sym (ap is_move next) ∙ of_get g.0 g.1)
          | inr b ↦ b
        ])

-- the record that a core names for an append is the one that the machine writes
pub entry_machine : (c : CoreView) (w : State) (k : ℕ) (o : Option Record) → CoreIs c w →
    wants_in c k ≡ None → o ≡ entry_in c k → IsEntryOf w k o
entry_machine c w k None is free e = λ m runs. entry_none c w k is free (sym e) m runs
entry_machine c w k (Some r) is free e =
    let f = found_entry c k r (sym e) in
    let p = pair_some c.setup c.jobs w.jobs k f.0 is.jobs f.1.0 in
    let q = same_job is.setup p.is in
    let a = in_append c.setup c.table f.0 r f.1.1 in
    let next : next_action w p.job ≡ action_next c.setup c.table f.0 = next_same w (table-like c w is) q
    (free_here k is free f.1.0)
    ∙ ap (λ (s : Setup). action_next s c.table f.0) (sym is.setup) in
    record {
      job = p.job;
      runs = p.runs;
      moves = ap is_move next ∙ a.0;
      writes = writes_same w c.table f.0 p.job r (table-like c w is) q (free_here k is free f.1.0)
          (subst (λ (s : Setup). is_move (slice_get (planned s f.0.plan) f.0.place) ≡ true) is.setup
          (head_moves c.setup c.table f.0 a.0))
          (ap (λ (s : Setup). written_by s c.table f.0) (sym is.setup) ∙ a.1);
    }
