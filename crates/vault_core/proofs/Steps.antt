-- A core after a step of a job, and the state of the machine that it stands for then.
use Rattle.vault_core.proofs.Words.{◌≡◌, ℕ, ◌+◌, ◌<◌, ◌≤◌, ◌^◌, Bool, true, false, cond, List, [], ◌∷◌, Some, None, set, inl, inr, refl, ap, sym, subst, ◌∙◌, arith, is_some, ◌==◌, ◌⊎◌, if◌then◌else◌, slice_get, remove, AllZip, eq-eqb, ne_eqb, false≢true, Sums, Record, Setup, PutStart, PutDone, PutDoneIn, AuditStart, AuditDone, record_size, end_in, setup_of, refused, Kind, DropJob, AuditJob, Aim, ToPut, ToAudit, Given, Fetched, Answered, Worked, job_of, with_job, without_job, Action, WriteBody, SyncBody, WriteGate, SyncGate, Store, Fetch, Ask, Work, Remove, End, ends_append, actions_of, actions_left, appends_left, Outcome, More, Ended, Step, State, Append, Alone, setup_in, journal_end, file_in, going_on, ended, with_provider, HasSums, Moves, subject_drawn, taken_out, begun_append, done_append, done_record, Steps, StepsOpen, StepsOne, StepsJob, StepsOn, ActsOrWaits, is_idle_drop, next_action, holder_of, number_of, found_itself, same_value, IsSound, moves_before, moves_made, IsInOrder, get-drop, moves-first, events-sound, onward, mine, decided, drop-list, Counts, counted, Kept, IsFoldOf, id_after, next_stands, ActionValue, Reply, CoreJob, CoreView, planned, rest_in, appends_in, job_in, wanted_at, wants_in, ActsNext, seen_action, HasReply, is_last_ask_of, begins_append, action_next, is_move, asks_next, is_last_ask, written_as, written_by, written_of, written_in, entry_of_job, entry_of_found, entry_in, IsJobOf, IsCoreFlight, CoreIs, is_own, freed, ended_at, barred_at, with_at, stepped_job, judged, goes_plainly, number_as, number_drawn, drawn, gated, HasGated, IsEndAnswer, Tells, Inside, view_of, core_job, get_or, position, IsCore, IsJobKept, TakesReply, core_left, barred}
use Rattle.std.specs.Prelude.{Option, ◌&&◌, not}
use Rattle.machine_defs.specs.Appends.{moved, doubted}
use Rattle.machine_defs.specs.Jobs.{Job}
use Rattle.machine_defs.specs.States.{Doubt, DiskFails}
use Rattle.machine_defs.specs.Answers.{Answer, Lost, ProviderFault, DiskFault, Memory}
use Rattle.device_defs.specs.Providers.{Provider}
use Rattle.machine_defs.specs.Steps.{Acts}
use Rattle.machine_defs.specs.Machine.{Happens}
use Rattle.machine_defs.proofs.PinFacts.{setup_same}
use Rattle.state_laws.specs.SoundJobs.{IsSoundJob}
use Rattle.state_laws.proofs.Written.{setup-providers}
use Rattle.vault_core.specs.declared.action.Action.TheVariants as act
use Rattle.vault_core.specs.declared.reply.Reply.TheVariants as reply
use Rattle.vault_core.proofs.Alike.{table-like}
use Rattle.vault_core.proofs.Pairs.{IsFirst, pair_some, pair_with, pair_without, in_set_same, in_set_other, in_remove_other}
use Rattle.vault_core.proofs.Standing.{acts_comes, comes_next, same_job, free_here, in_append}
use Rattle.vault_core.proofs.Judging.{sums-on, on-moved, on-judged, on-drawn, on-gated}
use Rattle.vault_core.proofs.Onward.{audit-action}
use Rattle.vault_core.proofs.Links.{head-here, appends-is, drawn-appends}
use Rattle.vault_core.proofs.Counts.{gates, gates_behind}
use Rattle.vault_core.proofs.Gating.{by_written}
use Rattle.vault_core.proofs.Goes.{drop_one}
use Rattle.vault_core.specs.declared.job.Job.{Job as KeptJob}
use Rattle.vault_core.specs.Changes.{GoesOnBy}
use Rattle.vault_core.proofs.Falls.{StepHere, step_here, removed_falls}
use Rattle.vault_core.proofs.Told.{LeavesTold, leaves_set, leaves_removed}

-- ---- the machine's side of a step

-- the job of the machine, and what its action has come to
pub record OnMachine (c : CoreView) (k place : ℕ) (cj : CoreJob) (w new : State) (action : Action)
    (outcome : Outcome) : Type 0 where
  pub job : Job
  pub found : job_of w.jobs k ≡ Some job
  pub number : job.number ≡ k
  pub is : IsJobOf (setup_in w) cj job
  pub next : next_action w job ≡ Some action
  pub holder : holder_of w.append action ≡ None
  pub acts : Acts w job action outcome new
  pub sound : IsSound 8 new
  pub sound_job : IsSoundJob (setup_in w) w.records w.bytes (moves_made w.append k) job
  pub stands : CoreIs c w
  pub runs : job_in c.jobs k ≡ Some cj
  pub called : cj.number ≡ k
  pub here : slice_get c.jobs place ≡ Some cj
  pub first : IsFirst c.jobs k place
  pub comes : action_next c.setup c.table cj ≡ Some action
  pub free : wanted_at (setup_in w) cj.place cj.told ≡ None

-- a step that a core has a reply for is a step of the machine's job of that number
pub on_machine : {c : CoreView} {w : State} (new : State) {k place : ℕ} {r : Reply} {action : Action}
    (outcome : Outcome) (moment : ℕ) → (s : StepHere c k place r action) → CoreIs c w →
    wants_in c k ≡ None → k < 2 ^ 32 → Happens 8 moment w (Step k) outcome new →
    OnMachine c k place s.job w new action outcome
on_machine {c} {w} new {k} {action} outcome moment s is free l h =
    let n = comes_next is free (acts_comes c k action s.coming) in
    let p = pair_some c.setup c.jobs w.jobs k s.job is.jobs s.runs in
    let same = same_value (job_of w.jobs k) n.job p.job n.runs p.runs in
    let next = rw same at n.comes in
    let unbarred =
    subst (λ b. StepsOpen w k b outcome new) n.unbarred (subst (λ (b : Bool). Steps w k b outcome new)
    is.is_open h) in
    let here =
    subst (λ o. StepsJob w o outcome new) p.runs (subst (λ (x : Option Alone). StepsOne w k x outcome new)
    is.none_alone unbarred) in
    record {
      job = p.job;
      found = p.runs;
      number = number_of w.jobs k p.job p.runs;
      is = same_job is.setup p.is;
      next = next;
      holder = n.holder;
      acts = subst (λ o. ActsOrWaits w p.job action o outcome new) n.holder
          (subst (λ (o : Option Action). StepsOn w p.job o outcome new) next here);
      sound = events-sound 8 moment w is.sound (omega arith, omega arith) (Step k) outcome new l h;
      sound_job = is.sound.jobs k p.job p.runs;
      stands = is;
      runs = s.runs;
      called = s.number;
      here = s.here;
      first = s.first;
      comes = s.next;
      free = free_here k is free s.runs;
    }

-- ---- what a step leaves

-- what stays of a state
pub record Stays (w new : State) : Type 0 where
  pub is_open : new.is_open ≡ w.is_open
  pub records : new.records ≡ w.records
  pub journal : new.journal ≡ w.journal
  pub end : journal_end new ≡ journal_end w
  pub next_job : new.next_job ≡ w.next_job
  pub alone : new.alone ≡ w.alone

-- so much stays where the new state is one of which it does
pub stays_as : (w : State) {new m : State} → new ≡ m → m.is_open ≡ w.is_open → m.records ≡ w.records →
    m.journal ≡ w.journal → journal_end m ≡ journal_end w → m.next_job ≡ w.next_job → m.alone ≡ w.alone →
    Stays w new
stays_as w e opened records journal end next alone = subst (Stays w) (sym e) (record {
  is_open = opened;
  records = records;
  journal = journal;
  end = end;
  next_job = next;
  alone = alone;
})

-- a core with other jobs stands for a state in which so much stays
pub jobs_stand : {c : CoreView} {w new : State} (jobs : List CoreJob) (flight : Option ℕ) {b : Bool} →
    CoreIs c w → IsSound 8 new → Stays w new → AllZip (IsJobOf c.setup) jobs new.jobs → b ≡ new.is_barred →
    IsCoreFlight (record c { jobs = jobs; append = flight; barred = b }) new.append →
    CoreIs (record c { jobs = jobs; append = flight; barred = b }) new
jobs_stand {w} {new} jobs flight is sound stays js bar fl = record {
  sound = sound;
  is_open = stays.is_open ∙ is.is_open;
  none_alone = stays.alone ∙ is.none_alone;
  table = rw (← stays.journal) at is.table;
  setup = is.setup ∙ sym (setup_same new w (ap setup_of stays.records));
  end = is.end ∙ sym stays.end;
  jobs = js;
  next_job = is.next_job ∙ sym stays.next_job;
  append = fl;
  barred = bar;
}

-- a job goes on
set_stands : {c : CoreView} {w new : State} {k : ℕ} (place : ℕ) {cj : CoreJob} {m : Job} (flight : Option ℕ) →
    CoreIs c w → IsSound 8 new → IsFirst c.jobs k place → Stays w new →
    new.is_barred ≡ w.is_barred → new.jobs ≡ with_job w.jobs m → m.number ≡ k → IsJobOf (setup_in w) cj m →
    IsCoreFlight (record (with_at c place cj) { append = flight }) new.append →
    CoreIs (record (with_at c place cj) { append = flight }) new
set_stands {c} {w} {new} {k} place {cj} {m} flight is sound first stays bar js number job fl =
    jobs_stand (set c.jobs place cj) flight is sound stays (rw (← js) at (pair_with c.jobs w.jobs place
    is.jobs first number (same_job (sym is.setup) job))) (is.barred ∙ sym bar) fl

-- a job has ended
pub remove_stands : {c : CoreView} {w new : State} (k place : ℕ) (flight : Option ℕ) {b : Bool} → CoreIs c w →
    IsSound 8 new → IsFirst c.jobs k place → Stays w new →
    b ≡ new.is_barred → new.jobs ≡ without_job w.jobs k →
    IsCoreFlight (record c { jobs = remove c.jobs place; append = flight; barred = b }) new.append →
    CoreIs (record c { jobs = remove c.jobs place; append = flight; barred = b }) new
remove_stands {c} {w} {new} k place flight {b} is sound first stays bar js fl =
    jobs_stand (remove c.jobs place) flight is sound stays (rw (← js) at (pair_without c.setup c.jobs w.jobs k
    place 0 w.next_job is.jobs first is.sound.numbered)) bar fl

-- ---- the append in flight

-- an action before which a move of an append is made is a move of one
after_move : (a : Action) → 0 < moves_before a → is_move (Some a) ≡ true
after_move SyncBody l = refl
after_move WriteGate l = refl
after_move SyncGate l = refl
after_move a l = absurd (omega (arith, l))

-- the job whose append is in flight has a move of it next, which is not the first
pub flight-stands : {c : CoreView} {w : State} {m : Job} {a : Append} → CoreIs c w →
    job_of w.jobs a.job ≡ Some m → w.append ≡ Some a →
    (x : Action) × ((next_action w m ≡ Some x) × (slice_get (actions_of (setup_in w) m) m.place ≡ Some x)
    × (0 < moves_before x))
flight-stands {w} {m} {a} is runs e =
    let s = is.sound.append a e in
    let order : IsInOrder (moves_made w.append a.job) (actions_left (setup_in w) m) =
    (is.sound.jobs a.job m runs).order in
    let made : moves_made w.append a.job ≡ a.moves = ap (λ f. moves_made f a.job) e
    ∙ mine a a.job refl in
    let begun = s.begun in
    by_left (actions_left (setup_in w) m) refl
    (subst (λ n. IsInOrder n (actions_left (setup_in w) m)) made order) begun
  where
    by_left : (xs : List Action) → actions_left (setup_in w) m ≡ xs → IsInOrder a.moves xs → 1 ≤ a.moves →
        (x : Action) × ((next_action w m ≡ Some x)
        × (slice_get (actions_of (setup_in w) m) m.place ≡ Some x) × (0 < moves_before x))
    by_left [] f o l = absurd o
    by_left (x ∷ xs) f o l = (let before = moves-first a.moves x xs o in
        let stands : slice_get (actions_of (setup_in w) m) m.place ≡ Some x =
        sym (get-drop (actions_of (setup_in w) m) m.place) ∙ ap (λ ys. slice_get ys 0) f in
        let some : 0 < moves_before x = omega (arith, before, l) in
        (x, (busy x stands some m.kind refl, stands, some)))
      where
        -- a drop that has begun its append is not idle
        busy : (y : Action) → slice_get (actions_of (setup_in w) m) m.place ≡ Some y → 0 < moves_before y →
            (k : Kind) → m.kind ≡ k → next_action w m ≡ Some y
        busy y g n (DropJob name) k = ap (λ b. if b then Some End else slice_get (actions_of (setup_in w) m)
            m.place) (ap (is_idle_drop w m) k ∙ ap (λ b. b && not (is_some (file_in w name)))
            (ne_eqb m.place 0 (λ z. absurd (let r : Some WriteBody ≡ Some y = sym
            (ap (λ p. slice_get (actions_of (setup_in w) m) p) z
            ∙ ap (λ ys. slice_get ys 0) (drop-list (setup_in w) m name k)) ∙ g in
            let q : WriteBody ≡ y = cc in let u = ap moves_before q in omega (arith, n, u))))) ∙ g
        busy y g n kind k = ap (λ b. if b then Some End
            else slice_get (actions_of (setup_in w) m) m.place) (ap (is_idle_drop w m) k) ∙ g

-- so it has a move of it next
pub flight-moves : (c : CoreView) (w : State) (m : Job) (a : Append) → CoreIs c w →
    job_of w.jobs a.job ≡ Some m → w.append ≡ Some a → is_move (next_action w m) ≡ true
flight-moves c w m a is runs e =
    let f = flight-stands is runs e in ap is_move f.1.0 ∙ after_move f.0 f.1.2

-- with another job in the place of one that has no append in flight, the flight is that of the core still
pub flight_beside : (c : CoreView) (k place : ℕ) → IsFirst c.jobs k place → (x : CoreJob) → x.number ≡ k →
    (o : Option Append) → ((a : Append) → o ≡ Some a → a.job ≡ k → ⊥) → IsCoreFlight c o →
    IsCoreFlight (with_at c place x) o
flight_beside c k place first x n None other f = f
flight_beside c k place first x n (Some a) other f =
    (f.0, ap (written_of c.setup c.table) (in_set_other c.jobs k place a.job x first n (other a refl)) ∙ f.1)

-- no append is in flight where one begins
pub none_flies : (o : Option Append) → holder_of o WriteBody ≡ None → o ≡ None
none_flies None h = refl
none_flies (Some a) h = cc

core_none : (c : CoreView) (o : Option Append) → IsCoreFlight c o → o ≡ None → c.append ≡ None
core_none c o f e = rw e at f

-- ---- what a job writes

-- what a job writes stays while it has as many appends left
written_same : (s : Setup) (t : Kept) (i j : CoreJob) → j.plan.aim ≡ i.plan.aim →
    j.plan.profile ≡ i.plan.profile → appends_in s j ≡ appends_in s i →
    j.plan.subject ≡ number_drawn s t i → j.sums ≡ i.sums → written_by s t j ≡ written_by s t i
written_same s t i j a p n k u =
    (λ x. written_as t (n x) (p x) (k x) (u x) (a x)) ∙ by (appends_in s i) i.plan.aim
  where
    by : (m : ℕ) (aim : Aim) → written_as t m i.plan.profile (number_as t m i.plan.subject aim) i.sums aim
        ≡ written_as t m i.plan.profile i.plan.subject i.sums aim
    by m (ToPut name size) = put (m == 2)
      where
        put : (b : Bool) →
            Some (if b then PutStart (id_after t) name else done_record t.version (if b then id_after t else
            i.plan.subject) size i.plan.profile) ≡ Some (if b then PutStart (id_after t) name else done_record
            t.version i.plan.subject size i.plan.profile)
        put true = refl
        put false = refl
    by m ToAudit = audit (m == 2)
      where
        audit : (b : Bool) → Some (if b then AuditStart t.next_audit else AuditDone (if b then t.next_audit
            else i.plan.subject) i.sums.undecided i.sums.counts) ≡ Some (if b then AuditStart t.next_audit
            else AuditDone i.plan.subject i.sums.undecided i.sums.counts)
        audit true = refl
        audit false = refl
    by m aim = refl

-- no job writes a setup
no_setup : (t : Kept) (n p k : ℕ) (sums : Sums) (aim : Aim) (e : Record) (rs : List Record) →
    written_as t n p k sums aim ≡ Some e → setup_of (e ∷ rs) ≡ setup_of rs
no_setup t n p k sums aim e rs h =
    by_written t n p k sums (λ (a : Aim) (x : Record). setup_of (x ∷ rs) ≡ setup_of rs) (λ name size b. refl)
    (λ name size b. done size (t.version == 2)) (λ name. refl) (λ b. refl) (λ b. refl) refl refl aim e h
  where
    done : (size : ℕ) (v : Bool) →
        setup_of ((if v then PutDoneIn k size p else PutDone k size) ∷ rs) ≡ setup_of rs
    done size true = refl
    done size false = refl

-- ---- a job ends, or goes on by an action that is no move of an append

-- an action that goes plainly is not the end
not_end : (a : Action) → goes_plainly (Some a) ≡ true → a ≡ End → ⊥
not_end a p e = false≢true (ap (λ x. goes_plainly (Some x)) (sym e) ∙ p)

module _ {c : CoreView} {k place : ℕ} {cj : CoreJob} {w new : State} {a : Action} {outcome : Outcome}
    (o : OnMachine c k place cj w new a outcome) where
  -- the append in flight is not that of a job that makes another action
  not_own : (y : Append) → w.append ≡ Some y → is_move (Some a) ≡ false → y.job ≡ k → ⊥
  not_own y e still own = false≢true (sym still ∙ (ap is_move (sym o.next)
      ∙ flight-moves c w o.job y o.stands (ap (job_of w.jobs) own ∙ o.found) e))

  flight_on : is_move (Some a) ≡ false → (x : CoreJob) → x.number ≡ k →
      IsCoreFlight (with_at c place x) w.append
  flight_on still x n =
      flight_beside c k place o.first x n w.append (λ y e. not_own y e still) o.stands.append

  flight_off : is_move (Some a) ≡ false → IsCoreFlight (ended_at c place) w.append
  flight_off still = by w.append refl o.stands.append
    where
      by : (f : Option Append) → w.append ≡ f → IsCoreFlight c f → IsCoreFlight (ended_at c place) f
      by None e f = ap (λ x. if is_own x (slice_get c.jobs place) then None else x) f
      by (Some y) e f = (let other = not_own y e still in (
        ap (λ x. if is_own x (slice_get c.jobs place) then None else x) f.0 ∙ (ap (λ x. if is_own (Some y.job)
            x then None else Some y.job) o.here ∙ ap (λ b. if b then None else Some y.job) (ne_eqb y.job
            cj.number (λ e. other (e ∙ o.called)))),
        ap (written_of c.setup c.table) (in_remove_other c.jobs k place y.job o.first other) ∙ f.1,
      ))

  -- no append is in flight after one that was its own, or none
  none_off : (c.append ≡ None) ⊎ (c.append ≡ Some k) → freed c place ≡ None
  none_off (inl e) = ap (λ x. if is_own x (slice_get c.jobs place) then None else x) e
  none_off (inr e) = ap (λ x. if is_own x (slice_get c.jobs place) then None else x) e
      ∙ (ap (λ x. if is_own (Some k) x then None else Some k) o.here
      ∙ ap (λ b. if b then None else Some k) (eq-eqb k cj.number (sym o.called)))

  off_arm : (p : ℕ → Provider) → is_move (Some a) ≡ false → new ≡ record (ended w o.job) { providers = p } →
      CoreIs (ended_at c place) new
  off_arm p h e =
      remove_stands k place (freed c place) o.stands o.sound o.first (stays_as w e refl refl refl refl refl
      refl) (o.stands.barred ∙ sym (ap (λ s. s.is_barred) e)) (ap (λ s. s.jobs) e ∙
      ap (without_job w.jobs) o.number) (rw (← (ap (λ (s : State). s.append) e)) at (flight_off h))

  on_arm : (p : ℕ → Provider) (x : CoreJob) (m : Job) → x.number ≡ k → m.number ≡ k →
      is_move (Some a) ≡ false → new ≡ record (going_on w m) { providers = p } → IsJobOf (setup_in w) x m →
      CoreIs (with_at c place x) new
  on_arm p x m n q h e job = set_stands place c.append o.stands o.sound o.first
      (stays_as w e refl refl refl refl refl refl) (ap (λ s. s.is_barred) e) (ap (λ s. s.jobs) e) q job
      (rw (← (ap (λ (s : State). s.append) e)) at (flight_on h x n))

  -- an action that asks nothing is no last ask
  no_ask : goes_plainly (Some a) ≡ true → asks_next (Some a) ≡ false →
      is_last_ask (rest_in (setup_in w) cj) ≡ false
  no_ask plain h =
      ap (λ x. asks_next x && begins_append (slice_get (rest_in (setup_in w) cj) 1)) (head-here w o.is o.next
      (not_end a plain) o.free) ∙ ap (λ b. b && begins_append (slice_get (rest_in (setup_in w) cj) 1)) h

  -- the job, after an action that is not the last ask of an audit
  plain_arm : (p : ℕ → Provider) (given : List Given) → goes_plainly (Some a) ≡ true →
      is_move (Some a) ≡ false → is_last_ask (rest_in (setup_in w) cj) ≡ false →
      (given ≡ o.job.given) ⊎ (o.job.kind ≡ AuditJob → asks_next (Some a) ≡ true) →
      new ≡ record (going_on w (onward o.job o.job.subject given)) { providers = p } →
      CoreIs (with_at c place (stepped_job cj)) new
  plain_arm p given plain h last gave e = on_arm p (stepped_job cj) (onward o.job o.job.subject given)
      o.called o.number h e (on-moved w o.is o.next (not_end a plain) o.free given
      (sums-on w o.is o.next (not_end a plain) o.free given plain last gave))

  -- no audit makes an action that asks nothing and is no move
  no_audit : goes_plainly (Some a) ≡ true →
      ((s : Setup) (m : Job) → m.kind ≡ AuditJob → slice_get (actions_of s m) m.place ≡ Some a → ⊥) →
      o.job.kind ≡ AuditJob → asks_next (Some a) ≡ true
  no_audit plain never kind =
      absurd (never (setup_in w) o.job kind (next_stands w o.job a o.next (not_end a plain)))

  -- the append of a job ends by a fault of the disk
  bar_arm : Stays w new → new.is_barred ≡ true → new.jobs ≡ without_job w.jobs o.job.number →
      CoreIs (barred_at c place) new
  bar_arm stays barred js =
      remove_stands k place None o.stands o.sound o.first stays (sym barred) (js ∙ ap (without_job w.jobs)
      o.number) (subst (IsCoreFlight (barred_at c place)) (sym (o.sound.barred barred)) refl)

  -- it ends for want of memory
  free_arm : (c.append ≡ None) ⊎ (c.append ≡ Some k) → (flight : Option Append) → flight ≡ None →
      new ≡ record (ended w o.job) { append = flight } → CoreIs (ended_at c place) new
  free_arm own flight none e = remove_stands k place (freed c place) o.stands o.sound o.first
      (stays_as w e refl refl refl refl refl refl) (o.stands.barred ∙ sym (ap (λ s. s.is_barred) e))
      (ap (λ s. s.jobs) e ∙ ap (without_job w.jobs) o.number) (subst (IsCoreFlight (ended_at c place))
      (sym (ap (λ s. s.append) e ∙ none)) (none_off own))

  -- a job that is at a later move of its append, after this step
  flight_moved : (x : CoreJob) (y : Append) (flight : Option ℕ) → new.append ≡ Some y → y.job ≡ k →
      flight ≡ Some y.job → x.number ≡ k → written_by c.setup c.table x ≡ Some y.entry →
      IsCoreFlight (record (with_at c place x) { append = flight }) new.append
  flight_moved x y flight e own fl called writes =
      subst (IsCoreFlight (record (with_at c place x) { append = flight })) (sym e) (
        fl,
        ap (λ i. written_of c.setup c.table (job_in (set c.jobs place x) i)) own
            ∙ (ap (written_of c.setup c.table) (in_set_same c.jobs k place x o.first called) ∙ writes),
      )

  -- what the append in flight writes
  written_now : (y : Append) → w.append ≡ Some y → y.job ≡ k → written_by c.setup c.table cj ≡ Some y.entry
  written_now y e own = sym (ap (written_of c.setup c.table) o.runs)
      ∙ (subst (λ n. written_in c n ≡ Some y.entry) own (subst (IsCoreFlight c) e o.stands.append).1)

  -- an action that ends no append leaves as many of them
  gateless : ends_append a ≡ false → (a ≡ End → ⊥) →
      appends_in c.setup (stepped_job cj) ≡ appends_in c.setup cj
  gateless g on =
      let e = rw (← o.stands.setup) at (head-here w o.is o.next on o.free) in
      omega (
        arith,
        gates_behind (rest_in c.setup cj) a e,
        ap (λ (t : Bool). cond {A = ℕ} t 1 0) g,
        ap gates (drop_one cj.place (planned c.setup cj.plan)),
      )

  holds : (y : Append) → w.append ≡ Some y → c.append ≡ Some y.job
  holds y e = (subst (IsCoreFlight c) e o.stands.append).0

  -- a second or third move
  move_arm : (y : Append) (doubt : Option Doubt) (faults : ℕ) → goes_plainly (Some a) ≡ true →
      ends_append a ≡ false → asks_next (Some a) ≡ false → w.append ≡ Some y → y.job ≡ o.job.number →
      new ≡ record (moved (going_on w (onward o.job o.job.subject o.job.given)) y)
      { doubt = doubt; disk_faults = faults } →
      CoreIs (with_at c place (stepped_job cj)) new
  move_arm y doubt faults plain g quiet at own e =
      let on = not_end a plain in
      set_stands place c.append o.stands o.sound o.first (stays_as w e refl refl refl refl refl refl) (ap (λ
      s. s.is_barred) e) (ap (λ s. s.jobs) e) o.number (on-moved w o.is o.next on o.free o.job.given (sums-on
      w o.is o.next on o.free o.job.given plain (no_ask plain quiet) (inl refl)))
      (flight_moved (stepped_job cj) (record y { moves = y.moves + 1 }) c.append
      (ap (λ s. s.append) e) (own ∙ o.number) (holds y at) o.called
      ((ap (λ (n : ℕ). written_as c.table n cj.plan.profile cj.plan.subject cj.sums cj.plan.aim)
      (gateless g on)) ∙ written_now y at (own ∙ o.number)))

-- the first move
drawn_arm : {c : CoreView} {k place : ℕ} {cj : CoreJob} {w new : State} {outcome : Outcome}
    (o : OnMachine c k place cj w new WriteBody outcome) → (entry : Record) →
    ((y : Append) → new.append ≡ Some y → y.job ≡ k → entry_in c k ≡ Some y.entry) →
    (faults : ℕ) → new ≡ record (begun_append w o.job entry) { disk_faults = faults } →
    CoreIs (record (with_at c place (drawn cj (number_drawn c.setup c.table cj))) { append = Some cj.number })
    new
drawn_arm {c} {k} {place} {cj} {w} {new} o entry told faults e =
    let number = number_drawn c.setup c.table cj in
    let job : IsJobOf (setup_in w) (drawn cj number) (onward o.job (subject_drawn w o.job o.job.kind)
    o.job.given) =
    subst (λ s. IsJobOf (setup_in w) (drawn cj (number_drawn s c.table cj))
    (onward o.job (subject_drawn w o.job o.job.kind) o.job.given)) (sym o.stands.setup)
    (on-drawn w c.table cj o.job (table-like c w o.stands) o.is o.free o.next) in
    let f : new.append ≡ Some (record { job = o.job.number; entry = entry; moves = 1 }) =
    ap (λ s. s.append) e in
    let g : entry_in c k ≡ Some entry =
    told (record { job = o.job.number; entry = entry; moves = 1 }) f o.number in
    let h : entry_of_job c.setup c.table cj ≡ Some entry =
    sym (ap (entry_of_found c.setup c.table) o.runs) ∙ g in
    let old : IsJobOf c.setup cj o.job = same_job (sym o.stands.setup) o.is in
    let now : IsJobOf c.setup (drawn cj number) (onward o.job (subject_drawn w o.job o.job.kind) o.job.given)
    =
    same_job (sym o.stands.setup) job in
    let count : appends_in c.setup (drawn cj number) ≡ appends_in c.setup cj =
    appends-is now ∙ (ap (λ s. appends_left s (onward o.job (subject_drawn w o.job o.job.kind) o.job.given))
    o.stands.setup ∙ (drawn-appends w o.job o.next ∙ (ap (λ s. appends_left s o.job) (sym o.stands.setup) ∙
    sym (appends-is old)))) in
    let writes : written_by c.setup c.table (drawn cj number) ≡ Some entry =
    written_same c.setup c.table cj (drawn cj number) refl refl count refl refl
    ∙ (in_append c.setup c.table cj entry h).1 in
    set_stands place
    (Some cj.number) o.stands o.sound o.first (stays_as w e refl refl refl refl refl refl) (ap (λ s.
    s.is_barred) e) (ap (λ s. s.jobs) e) o.number job (flight_moved o (drawn cj number)
    (record { job = o.job.number; entry = entry; moves = 1 }) (Some cj.number) f o.number
    (ap (λ i. Some i) (o.called ∙ sym o.number)) o.called writes)

-- the fourth move
gated_arm : {c cnew : CoreView} {k place : ℕ} {cj : CoreJob} {w new : State} {outcome : Outcome}
    (o : OnMachine c k place cj w new SyncGate outcome) → (y : Append) → w.append ≡ Some y →
    y.job ≡ o.job.number →
    ((entry : Record) (rs : List Record) → written_by c.setup c.table cj ≡ Some entry → IsFoldOf rs c.table →
    refused rs entry ≡ None → HasGated c place cj entry rs cnew) →
    (faults : ℕ) → new ≡ record (done_append w o.job y) { disk_faults = faults } → CoreIs cnew new
gated_arm {c} {cnew} {k} {place} {cj} {w} {new} o y at own gates faults e =
    let writes = written_now o y at (own ∙ o.number) in
    let has = gates y.entry w.journal writes o.stands.table (o.stands.sound.append y at).follows.in_journal in
    let records : new.records ≡ y.entry ∷ w.records = ap (λ s. s.records) e in
    let journal : new.journal ≡ y.entry ∷ w.journal = ap (λ s. s.journal) e in
    let setup : setup_in new ≡ setup_in w = setup_same new w (ap setup_of records
    ∙ no_setup c.table (appends_in c.setup cj) cj.plan.profile cj.plan.subject cj.sums cj.plan.aim y.entry
    w.records writes) in
    let some : 0 < (setup_in w).n =
    (let p = (setup-providers 8 w o.stands.sound o.stands.is_open).0 in omega (arith, p)) in
    let all : AllZip (IsJobOf (setup_in w)) c.jobs w.jobs =
    subst (λ s. AllZip (IsJobOf s) c.jobs w.jobs) o.stands.setup o.stands.jobs in
    let job = on-gated w c.table c.jobs cj o.job (table-like c w o.stands) all o.is o.free o.next some in
    let zip : AllZip (IsJobOf (setup_in w)) (set c.jobs place (gated (setup_in w) c.table c.jobs cj))
    (with_job w.jobs (decided o.job (taken_out w o.job o.job.kind))) =
    pair_with c.jobs w.jobs place all o.first o.number job in
    let back : AllZip (IsJobOf c.setup) (set c.jobs place (gated c.setup c.table c.jobs cj))
    (with_job w.jobs (decided o.job (taken_out w o.job o.job.kind))) =
    subst (λ s. AllZip (IsJobOf s) (set c.jobs place (gated s c.table c.jobs cj))
    (with_job w.jobs (decided o.job (taken_out w o.job o.job.kind)))) (sym o.stands.setup) zip in
    subst (λ x. CoreIs x new) (sym has.others) (record {
      sound = o.sound;
      is_open = ap (λ s. s.is_open) e ∙ o.stands.is_open;
      none_alone = ap (λ s. s.alone) e ∙ o.stands.none_alone;
      table = subst (λ rs. IsFoldOf rs cnew.table) (sym journal) has.table;
      setup = o.stands.setup ∙ sym setup;
      end = (let a = ap journal_end e in let b = o.stands.end in
          let d : end_in w.area (y.entry ∷ w.journal) ≡ end_in w.area w.journal + (1 + record_size y.entry) =
          omega arith in
          omega (arith, a, b, d));
      jobs = subst (AllZip (IsJobOf c.setup) (set c.jobs place (gated c.setup c.table c.jobs cj)))
          (sym (ap (λ s. s.jobs) e)) back;
      next_job = o.stands.next_job ∙ sym (ap (λ s. s.next_job) e);
      append = subst (IsCoreFlight (record c {
        table = cnew.table;
        end = c.end + (1 + record_size y.entry);
        jobs = set c.jobs place (gated c.setup c.table c.jobs cj);
        append = None;
      }))
          (sym (ap (λ s. s.append) e)) refl;
      barred = o.stands.barred ∙ sym (ap (λ s. s.is_barred) e);
    })

-- ---- what a reply tells

-- an append is at no end of a job that ended well
moves_well : (w : State) (m : Job) (a : Action) (flight : Option Append) (answer : Answer) (new : State) →
    IsEndAnswer answer → Moves w m a flight (Ended answer) new → ⊥
moves_well w m a flight DiskFault new e h = absurd e
moves_well w m a flight Memory new e h = absurd e
moves_well w m SyncBody None answer new e h = absurd h
moves_well w m WriteGate None answer new e h = absurd h
moves_well w m SyncGate None answer new e h = absurd h
moves_well w m a flight answer new e h = absurd h

-- so another action than the end leaves the job running where it is done
goes_well : (w : State) (m : Job) (a : Action) (answer : Answer) (new : State) → (a ≡ End → ⊥) →
    IsEndAnswer answer → Acts w m a (Ended answer) new → ⊥
goes_well w m a (Lost stripe row) new n e h = absurd e
goes_well w m a (ProviderFault j) new n e h = absurd e
goes_well w m a DiskFault new n e h = absurd e
goes_well w m a Memory new n e h = absurd e
goes_well w m End answer new n e h = absurd (n refl)
goes_well w m WriteBody answer new n e h = moves_well w m WriteBody w.append answer new e h
goes_well w m SyncBody answer new n e h = moves_well w m SyncBody w.append answer new e h
goes_well w m WriteGate answer new n e h = moves_well w m WriteGate w.append answer new e h
goes_well w m SyncGate answer new n e h = moves_well w m SyncGate w.append answer new e h
goes_well w m a answer new n e h = absurd h

-- what a disk call leaves that failed
fails_so : (w : State) (m : Job) (new : State) (doubt : Option Doubt) →
    DiskFails w (record (barred (ended w m)) { doubt = doubt }) new →
    Stays w new × (new.is_barred ≡ true) × (new.jobs ≡ without_job w.jobs m.number)
fails_so w m new doubt h = (
  stays_as w h.3 refl refl refl refl refl refl,
  ap (λ (s : State). s.is_barred) h.3,
  ap (λ (s : State). s.jobs) h.3,
)

abbrev pub is_store : Action → Bool
is_store (Store j object stripe) = true
is_store action = false

-- failed: a move of an append
moves_fail : (w : State) (m : Job) (a : Action) (flight : Option Append) (new : State) → is_store a ≡ false →
    Moves w m a flight (Ended DiskFault) new →
    Stays w new × (new.is_barred ≡ true) × (new.jobs ≡ without_job w.jobs m.number)
moves_fail w m WriteBody flight new n h = fails_so w m new w.doubt h
moves_fail w m SyncBody (Some y) new n h = fails_so w m new w.doubt h.1
moves_fail w m WriteGate (Some y) new n h = fails_so w m new (doubted w y m).doubt h.1
moves_fail w m SyncGate (Some y) new n h = fails_so w m new w.doubt h.1
moves_fail w m a flight new n h = absurd h

-- a later move of an append is one of the append in flight
in_flight : (w : State) (m : Job) (a : Action) (flight : Option Append) (outcome : Outcome) (new : State) →
    0 < moves_before a → Moves w m a flight outcome new →
    (y : Append) × (flight ≡ Some y) × Moves w m a (Some y) outcome new
in_flight w m a (Some y) outcome new l h = (y, refl, h)
in_flight w m WriteBody None outcome new l h = absurd (omega (arith, l))
in_flight w m a None outcome new l h = absurd h

-- no move of an append ends by a fault of a provider
no_provider : (w : State) (m : Job) (a : Action) (flight : Option Append) (j : ℕ) (new : State) →
    Moves w m a flight (Ended (ProviderFault j)) new → ⊥
no_provider w m SyncBody None j new h = absurd h
no_provider w m WriteGate None j new h = absurd h
no_provider w m SyncGate None j new h = absurd h
no_provider w m a flight j new h = absurd h

-- the moves of an append that may fail, and their outcomes
acts_moves : (c : CoreView) (k : ℕ) (w : State) (m : Job) (a : Action) (outcome : Outcome) (new : State) →
    is_store a ≡ false → HasReply c k (ActsNext a) reply.Failed → Acts w m a outcome new →
    Moves w m a w.append outcome new
acts_moves c k w m WriteBody outcome new n r h = h
acts_moves c k w m SyncBody outcome new n r h = h
acts_moves c k w m WriteGate outcome new n r h = h
acts_moves c k w m SyncGate outcome new n r h = h
acts_moves c k w m (Store j object stripe) outcome new n r h = absurd (false≢true (sym n))
acts_moves c k w m a outcome new n r h = absurd r

module _ {c : CoreView} {k place : ℕ} {cj : CoreJob} {w new : State} where
  -- done: the first move
  pub begins_done : (outcome : Outcome) (o : OnMachine c k place cj w new WriteBody outcome) →
      Tells k reply.Done outcome new →
      ((y : Append) → new.append ≡ Some y → y.job ≡ k → entry_in c k ≡ Some y.entry) →
      CoreIs
      (record (with_at c place (drawn cj (number_drawn c.setup c.table cj))) { append = Some cj.number }) new
  begins_done More o t told = (let h : Moves w o.job WriteBody w.append More new = o.acts in
      drawn_arm o h.0 told h.2.0 h.2.2)
  begins_done (Ended answer) o t told = absurd (goes_well w o.job WriteBody answer new (λ e. cc) t o.acts)
  begins_done outcome o t told = absurd t

  -- done: the fourth move
  pub gates_done : (cnew : CoreView) (outcome : Outcome)
      (o : OnMachine c k place cj w new SyncGate outcome) → Tells k reply.Done outcome new →
      ((entry : Record) (rs : List Record) → written_by c.setup c.table cj ≡ Some entry →
      IsFoldOf rs c.table → refused rs entry ≡ None → HasGated c place cj entry rs cnew) → CoreIs cnew new
  gates_done cnew More o t gates =
      let (y, e, h) = in_flight w o.job SyncGate w.append More new (omega arith) o.acts in
      gated_arm o y e h.0.0 gates h.1.0 h.1.2
  gates_done cnew (Ended answer) o t gates = absurd (goes_well w o.job SyncGate answer new (λ e. cc) t o.acts)
  gates_done cnew outcome o t gates = absurd t

  -- done: the end
  pub ends_done : (outcome : Outcome) (o : OnMachine c k place cj w new End outcome) →
      Tells k reply.Done outcome new → CoreIs (ended_at c place) new
  ends_done More o t = absurd o.acts
  ends_done (Ended answer) o t = off_arm o w.providers refl o.acts.1
  ends_done outcome o t = absurd t

  -- done: any other
  more_done : (a : Action) (o : OnMachine c k place cj w new a More) → goes_plainly (Some a) ≡ true →
      HasReply c k (ActsNext a) reply.Done → CoreIs (with_at c place (stepped_job cj)) new
  more_done SyncBody o p h =
      let (y, e, g) = in_flight w o.job SyncBody w.append More new (omega arith) o.acts in
      move_arm o y w.doubt g.1.0 p refl refl e g.0.0 g.1.2
  more_done WriteGate o p h =
      let (y, e, g) = in_flight w o.job WriteGate w.append More new (omega arith) o.acts in
      move_arm o y (doubted w y o.job).doubt g.1.0 p refl refl e g.0.0 g.1.2
  more_done (Store j object stripe) o p h = plain_arm o (with_provider w.providers j o.acts.0) o.job.given p
      refl (no_ask o p refl) (inl refl) o.acts.2
  more_done (Remove j object) o p h = plain_arm o (with_provider w.providers j o.acts.0) o.job.given p refl
      (no_ask o p refl) (inl refl) o.acts.2
  more_done (Fetch j object stripe) o p h =
      plain_arm o (with_provider w.providers j o.acts.1.0) (Fetched j object stripe o.acts.0 ∷ o.job.given) p
      refl (no_ask o p refl) (inr (no_audit o p (λ s m. audit-action s m))) o.acts.1.2
  more_done (Work object stripe) o p h = plain_arm o w.providers (Worked object stripe o.acts.0 ∷ o.job.given)
      p refl (no_ask o p refl) (inr (no_audit o p (λ s m. audit-action s m))) o.acts.2
  more_done (Ask j object round) o p h = plain_arm o (with_provider w.providers j o.acts.1.0)
      (Answered j object round o.acts.0 ∷ o.job.given) p refl
      (rw o.stands.setup at (sym (ap (is_last_ask_of c.setup) o.runs) ∙ h)) (inr (λ kind. refl)) o.acts.1.2
  more_done action o p h = absurd (false≢true p)

  -- a plain action that is done leaves a core that stands for the machine's state after it
  pub plain_done : (a : Action) (outcome : Outcome) (o : OnMachine c k place cj w new a outcome) →
      Tells k reply.Done outcome new → goes_plainly (Some a) ≡ true → HasReply c k (ActsNext a) reply.Done →
      CoreIs (with_at c place (stepped_job cj)) new
  plain_done a More o t p h = more_done a o p h
  plain_done a (Ended answer) o t p h = absurd (goes_well w o.job a answer new (not_end a p) t o.acts)
  plain_done a outcome o t p h = absurd t

  -- failed: a store
  store_fails : (j object stripe : ℕ) (outcome : Outcome)
      (o : OnMachine c k place cj w new (Store j object stripe) outcome) →
      Tells k reply.Failed outcome new → CoreIs (ended_at c place) new
  store_fails j object stripe (Ended (ProviderFault i)) o t =
      off_arm o (with_provider w.providers j o.acts.1.0) refl o.acts.1.2
  store_fails j object stripe (Ended DiskFault) o t = (absurd o.acts)
  store_fails j object stripe outcome o t = absurd t

  -- a store that failed ends the job in the core as in the machine
  pub stops_failed : (a : Action) (j object stripe : ℕ) (outcome : Outcome)
      (o : OnMachine c k place cj w new a outcome) → a ≡ Store j object stripe →
      Tells k reply.Failed outcome new → CoreIs (ended_at c place) new
  stops_failed a j object stripe outcome o e t = store_fails j object stripe outcome (rw e at o) t

  -- a disk call that failed bars the core as it does the machine
  pub bars_failed : (a : Action) (outcome : Outcome) (o : OnMachine c k place cj w new a outcome) →
      is_store a ≡ false → HasReply c k (ActsNext a) reply.Failed → Tells k reply.Failed outcome new →
      CoreIs (barred_at c place) new
  bars_failed a (Ended (ProviderFault i)) o n r t = absurd (no_provider w o.job a w.append i new
      (acts_moves c k w o.job a (Ended (ProviderFault i)) new n r o.acts))
  bars_failed a (Ended DiskFault) o n r t = (let p = moves_fail w o.job a w.append new n
      (acts_moves c k w o.job a (Ended DiskFault) new n r o.acts) in
      bar_arm o p.0 p.1 p.2)
  bars_failed a outcome o n r t = absurd t

  -- memory: a write, or a store; a sync takes none
  memory_ends : (a : Action) (o : OnMachine c k place cj w new a (Ended Memory)) →
      HasReply c k (ActsNext a) reply.Memory → CoreIs (ended_at c place) new
  memory_ends WriteBody o r = (let h : Moves w o.job WriteBody w.append (Ended Memory) new = o.acts in
      let none = none_flies w.append o.holder in
      free_arm o (inl (core_none c w.append o.stands.append none)) w.append none h)
  memory_ends WriteGate o r =
      let (y, e, h) = in_flight w o.job WriteGate w.append (Ended Memory) new (omega arith) o.acts in
      free_arm o (inr (holds o y e ∙ ap (λ (i : ℕ). Some i) (h.0.0 ∙ o.number))) None refl h.1
  memory_ends (Store j object stripe) o r = off_arm o (with_provider w.providers j o.acts.0) refl o.acts.2
  memory_ends SyncBody o r =
      absurd (in_flight w o.job SyncBody w.append (Ended Memory) new (omega arith) o.acts).2
  memory_ends SyncGate o r =
      absurd (in_flight w o.job SyncGate w.append (Ended Memory) new (omega arith) o.acts).2
  memory_ends a o r = absurd r

  -- memory that ran out ends the job in the core as in the machine
  pub stops_memory : (a : Action) (outcome : Outcome) (o : OnMachine c k place cj w new a outcome) →
      HasReply c k (ActsNext a) reply.Memory → Tells k reply.Memory outcome new → CoreIs (ended_at c place) new
  stops_memory a (Ended Memory) o r t = memory_ends a o r
  stops_memory a outcome o r t = absurd t

  -- lost: work on a stripe
  lost_ends : (a : Action) (row stripe lost : ℕ)
      (o : OnMachine c k place cj w new a (Ended (Lost stripe lost))) →
      HasReply c k (ActsNext a) (reply.Lost row) → CoreIs (ended_at c place) new
  lost_ends (Work object s) row stripe lost o r = off_arm o w.providers refl o.acts.2
  lost_ends a row stripe lost o r = absurd r

  -- a stripe that was lost ends the job in the core as in the machine
  pub stops_lost : (a : Action) (row : ℕ) (outcome : Outcome) (o : OnMachine c k place cj w new a outcome) →
      HasReply c k (ActsNext a) (reply.Lost row) → Tells k (reply.Lost row) outcome new →
      CoreIs (ended_at c place) new
  stops_lost a row (Ended (Lost stripe lost)) o r t = lost_ends a row stripe lost o r
  stops_lost a row outcome o r t = absurd t

  -- a verdict: the last ask
  verdict_more : (a : Action) (u : ℕ) (counts : Counts) (o : OnMachine c k place cj w new a More) →
      HasReply c k (ActsNext a) (reply.Verdict u counts) → Tells k (reply.Verdict u counts) More new →
      CoreIs (with_at c place (judged cj (record { counts = counted counts; undecided = u }))) new
  verdict_more (Ask j object round) u counts o r t = (let e = o.acts.1.2 in
      let sums : Sums = record { counts = counted counts; undecided = u } in
      let given = Answered j object round o.acts.0 ∷ o.job.given in
      let m = onward o.job o.job.subject given in
      let found : job_of new.jobs k ≡ Some m = subst (λ i. job_of new.jobs i ≡ Some m) o.number
      (ap (λ s. job_of s.jobs o.job.number) e ∙ found_itself w.jobs m o.job
      (subst (λ (i : ℕ). job_of w.jobs i ≡ Some o.job) (sym o.number) o.found)) in
      on_arm o (with_provider w.providers j o.acts.1.0) (judged cj sums) m o.called o.number refl e (on-judged
      w o.is o.next (λ x. cc) o.free j object round refl given sums
      (subst (λ s. HasSums s m sums) (setup_same new w (ap (λ (s : State). setup_of s.records) e))
      (t m found))))
  verdict_more a u counts o r t = absurd r

  -- a verdict on an audit's last ask leaves a core that stands for the machine's state after it
  pub judges_verdict : (a : Action) (u : ℕ) (counts : Counts) (outcome : Outcome)
      (o : OnMachine c k place cj w new a outcome) → HasReply c k (ActsNext a) (reply.Verdict u counts) →
      Tells k (reply.Verdict u counts) outcome new →
      CoreIs (with_at c place (judged cj (record { counts = counted counts; undecided = u }))) new
  judges_verdict a u counts More o r t = verdict_more a u counts o r t
  judges_verdict a u counts outcome o r t = absurd t

-- another action than a store
pub other_store : (a : ActionValue) →
    ((provider object stripe : ℕ) → a ≡ act.Store provider object stripe → ⊥) →
    is_store (seen_action a) ≡ false
other_store (act.Store provider object stripe) n = absurd (n provider object stripe refl)
other_store a n = refl

-- ---- what a reply leaves of a core

-- a reply that fits is one to the next action of the job at a place
module _ {a : Inside} {c : CoreView} {k place : ℕ} {job : KeptJob} {r : Reply} (action : ActionValue)
    (v : view_of a ≡ c) (h : IsCore a) (takes : TakesReply c k r)
    (found : Some place ≡ position (λ (j : CoreJob). j.number == k) c.jobs)
    (at : job ≡ get_or a.jobs.items place job)
    (acts : (s : Setup) → IsJobKept s job →
    action_next s a.table (core_job job) ≡ Some (seen_action action))
    (free : wants_in c k ≡ None) (fits : k < 2 ^ 32) {q : Reply} (e : r ≡ q) where
  pub here : StepHere c k place r (seen_action action)
  here = step_here k r action v h takes found at acts

  -- a core stands for what the machine comes to, by an answer that tells of it
  abbrev Follows : (CoreJob → CoreView) → Type 0
  Follows m = (j : CoreJob) (w s : State) (outcome : Outcome) → OnMachine c k place j w s (seen_action action)
      outcome → HasReply c k (ActsNext (seen_action action)) q → Tells k q outcome s →
      ((y : Append) → s.append ≡ Some y → y.job ≡ k → entry_in c k ≡ Some y.entry) → CoreIs (m j) s

  -- so a core is fed that becomes this one
  pub fed : {new : CoreView} (m : CoreJob → CoreView) →
      ((j : CoreJob) → slice_get c.jobs place ≡ Some j → new ≡ m j) →
      ((j : CoreJob) → slice_get c.jobs place ≡ Some j → core_left new j.number < core_left c j.number) →
      new.setup ≡ c.setup → LeavesTold c new → Follows m → GoesOnBy c k r new
  fed {new} m is falls setup leaves follows = record {
    step = λ w s outcome moment stands happens told. (rw (← (is here.job here.here)) at (follows here.job w s
        outcome (on_machine s outcome moment here stands free fits happens) (subst (HasReply c k (ActsNext
        (seen_action action))) e here.replies)
        (subst (λ (x : Reply). Tells k x outcome s) e told.tells) told.entry));
    falls = rw here.number at (falls here.job here.here);
    setup = setup;
    streams = leaves.streams;
    told = leaves.told;
  }

  -- where the job ends
  pub fed_off : {new : CoreView} (m : CoreView) → new ≡ m → m.jobs ≡ remove c.jobs place → m.setup ≡ c.setup →
      Follows (λ (j : CoreJob). m) → GoesOnBy c k r new
  fed_off {new} m is js setup follows =
      let gone = ap (λ x. x.jobs) is ∙ js in
      fed (λ j. m) (λ j l. is) (removed_falls new place v h gone) (ap (λ x. x.setup) is ∙ setup)
      (leaves_removed a c new place here.job v h here.here gone) follows

  -- and where it goes on
  pub fed_on : {new : CoreView} (m : CoreJob → CoreView) (x : CoreJob → CoreJob) →
      ((j : CoreJob) → slice_get c.jobs place ≡ Some j → new ≡ m j) →
      ((j : CoreJob) → slice_get c.jobs place ≡ Some j → core_left new j.number < core_left c j.number) →
      (m here.job).jobs ≡ set c.jobs place (x here.job) → (m here.job).setup ≡ c.setup →
      (x here.job).number ≡ here.job.number → (x here.job).told ≡ here.job.told → Follows m → GoesOnBy c k r new
  fed_on {new} m x is falls js setup number told follows =
      let e = is here.job here.here in
      fed m is falls (ap (λ y. y.setup) e ∙ setup)
      (leaves_set c new place here.job (x here.job) here.here number told
      (ap (λ y. y.jobs) e ∙ js)) follows
