-- Puts, repairs and audits have done all by the time of their last record.
use Rattle.second_half_laws.proofs.Words.{cond, refl, ap, sym, subst, ◌∙◌, arith, slice_get, eq-eqb, ne_eqb, slice_get_within, In, Setup, Record, SetUp, AuditDone, RepairDone, Kind, PutJob, AuditJob, RepairJob, Given, Answered, Job, job_of, advanced, Action, Store, Ask, Work, End, append_actions, store_actions, repair_actions, ask_actions, actions_of, State, Append, Doubt, IsStart, setup_in, done_record, answer_given, HasSums, Moment, now, IsRun, newest, came, cond_true, cond_false, get_left, by_version, Records_is, changes, contains_in, actions_are, all, run_back, actions_by-advanced, stands_on, stands_later, WasMade}
use Rattle.std.proofs.Common.{◌≡◌, ℕ, suc, ◌+◌, ◌<◌, ◌≤◌, ◌==◌, false, List, [], ◌∷◌, ◌++◌, length, Option, Some, None}
use Rattle.run_laws.proofs.InEffect as eff
use Rattle.run_laws.proofs.PutBytes.{Stands}
use Rattle.second_half_laws.specs.Whole.{PutIsWhole, RepairIsWhole, AuditIsWhole}
use Rattle.second_half_laws.proofs.Places.{of_kind, store_in_repair, worked_before_store, put_store_at, put_stores, ask_at}
use Rattle.second_half_laws.proofs.Passing.{list_is}
use Rattle.second_half_laws.proofs.MadeFacts as made
use Rattle.second_half_laws.proofs.MadeFacts.{HasGift, CameBy, given_answer}
use Rattle.second_half_laws.proofs.Finals.{sums_same, Final, FinalPut, FinalAudit, FinalRepair, final_done}
use Rattle.second_half_laws.proofs.Doubts.{Standing, Done, Facts, facts}

advanced_list : (t : Setup) (x : Job) → actions_of t (advanced x) ≡ actions_of t x
advanced_list t x = actions_are t (advanced x) x.kind refl
    ∙ (actions_by-advanced t x x.kind ∙ sym (list_is t x))

-- ---- what a job had made before its last record, and what that gave it

-- the job made what stands before this place
abbrev MadeAll : State → List Moment → Job → ℕ → Type 0
MadeAll start ms job bound = (p : ℕ) (action : Action) → p < bound →
    slice_get (actions_of (setup_in (now start ms)) job) p ≡ Some action →
    WasMade start ms job action × HasGift action job.given

abbrev CameAll : State → List Moment → Job → Type 0
CameAll start ms job = (gift : Given) → In gift job.given → CameBy start ms job gift

made_less : (start : State) (ms : List Moment) (job : Job) (bound less : ℕ) → less ≤ bound →
    MadeAll start ms job bound → MadeAll start ms job less
made_less start ms job bound less l h p action k at = h p action (omega (arith, l, k)) at

-- of the job that wrote a record in doubt
made_advanced : (start : State) (ms : List Moment) (x : Job) (entry : Record) → Done start ms x entry →
    MadeAll start ms (advanced x) x.place
made_advanced start ms x entry d p action l at = d.made p action l (cc (advanced_list _ x))

-- ---- puts

put_whole : (start : State) (ms : List Moment) (job : Job) (name bytes : List ℕ) →
    job.kind ≡ PutJob name bytes →
    4 + length (store_actions (setup_in (now start ms)) job bytes) ≤ job.place →
    MadeAll start ms job (4 + length (store_actions (setup_in (now start ms)) job bytes)) →
    Stands (now start ms) job.subject bytes → PutIsWhole start ms job job.subject (length bytes) job.profile
put_whole start ms job name bytes kind late made own = record {
  name = name;
  bytes = bytes;
  kind = kind;
  subject = refl;
  length_is = refl;
  profile_is = refl;
  drawn = own.below;
  bytes_are = own.bytes_are;
  stored = λ j stripe k l. (let at = put_store_at _ job name bytes j stripe kind k l in
      (made at.0 (Store j job.subject stripe) at.1 at.2).0);
  placed = λ j stripe k l. put_stores _ job name bytes j stripe kind late k l;
}

put_of : (start : State) (ms : List Moment) (job : Job) (id size profile bound : ℕ) (kind : Kind) →
    job.kind ≡ kind → bound ≤ job.place → MadeAll start ms job bound →
    ((name bytes : List ℕ) → kind ≡ PutJob name bytes →
    4 + length (store_actions (setup_in (now start ms)) job bytes) ≤ bound) →
    ((name bytes : List ℕ) → kind ≡ PutJob name bytes → Stands (now start ms) job.subject bytes) →
    FinalPut (setup_in (now start ms)) job id size profile kind →
    PutIsWhole start ms job id size profile
put_of start ms job id size profile bound (PutJob name bytes) is low made late own h =
    (let l = late name bytes refl in
    subst (λ n. PutIsWhole start ms job n size profile) h.0 (subst (λ n. PutIsWhole start ms job job.subject n
    profile) h.1 (subst (λ p. PutIsWhole start ms job job.subject (length bytes) p) h.2 (put_whole start ms
    job name bytes is (omega (arith, l, low)) (made_less start ms job bound _ l made)
    (own name bytes refl)))))
put_of start ms job id size profile bound kind is low made late own h = absurd h

put_bound : (t : Setup) (x : Job) (id size profile : ℕ) (kind : Kind) (name bytes : List ℕ) →
    FinalPut t x id size profile kind → kind ≡ PutJob name bytes →
    4 + length (store_actions t x bytes) ≤ x.place
put_bound t x id size profile kind name bytes h is = (rw is at h).3

put_moved : (t : Setup) (x : Job) (id size profile : ℕ) (kind : Kind) → FinalPut t x id size profile kind →
    FinalPut t (advanced x) id size profile kind
put_moved t x id size profile (PutJob name bytes) h = (h.0, h.1, h.2, (omega (arith, h.3)))
put_moved t x id size profile kind h = h

-- ---- repairs

module _ (limit : ℕ) (start : State) (clean : IsStart start) (ms : List Moment)
    (run : IsRun limit start ms) where
  -- the state after these moments
  abbrev here : State
  here = now start ms

  work_made : (job : Job) (o j s : ℕ) → job.kind ≡ RepairJob → (c : WasMade start ms job (Store j o s)) →
      WasMade start c.before c.maker (Work o s)
  work_made job o j s kind c = (let F = made.facts limit start clean c.before
      (run_back limit start c.later (c.moment ∷ c.before) (subst (IsRun limit start) c.split run)).2 in
      let w = (worked_before_store (now start c.before) c.maker j o s (c.same.kind ∙ kind) c.makes.next).0 in
      (F.made c.maker.number c.maker w.place (Work o s) c.makes.runs w.made w.action).0)

  repair_whole : (job : Job) → job.kind ≡ RepairJob → length (repair_actions (setup_in here) job) ≤ job.place
      → MadeAll start ms job (length (repair_actions (setup_in here) job)) →
      RepairIsWhole start ms job job.subject
  repair_whole job kind late made = record {
    kind = kind;
    subject = refl;
    rewrote = λ file j stripe in_f k flag l. (let at = store_in_repair (setup_in here) job file j stripe
        (contains_in job.pinned file in_f) flag k l in
        let early = slice_get_within (repair_actions (setup_in here) job) at.0 (Store j file.id stripe) at.1
        in let stands = of_kind (setup_in here) job RepairJob at.0 (Store j file.id stripe) kind
        (get_left (repair_actions (setup_in here) job) (append_actions ++ End ∷ []) at.0 (Store j file.id
        stripe) at.1) in let store = (made at.0 (Store j file.id stripe) early stands).0 in
        record {
          store = store;
          work = work_made job file.id j stripe kind store;
          placed = record { place = at.0; made = omega (arith, early, late); action = stands };
        });
  }

  repair_of : (job : Job) (id bound : ℕ) (kind : Kind) → job.kind ≡ kind → bound ≤ job.place →
      MadeAll start ms job bound → (kind ≡ RepairJob → length (repair_actions (setup_in here) job) ≤ bound) →
      FinalRepair (setup_in here) job id kind → RepairIsWhole start ms job id
  repair_of job id bound RepairJob is low made late h = (let l = late refl in
      subst (RepairIsWhole start ms job) h.0 (repair_whole job is (omega (arith, l, low)) (made_less start ms
      job bound _ l made)))
  repair_of job id bound kind is low made late h = absurd h

repair_bound : (t : Setup) (x : Job) (id : ℕ) (kind : Kind) → FinalRepair t x id kind → kind ≡ RepairJob →
    length (repair_actions t x) ≤ x.place
repair_bound t x id kind h is = (rw is at h).1

repair_moved : (t : Setup) (x : Job) (id : ℕ) (kind : Kind) → FinalRepair t x id kind →
    FinalRepair t (advanced x) id kind
repair_moved t x id RepairJob h = (h.0, (omega (arith, h.1)))
repair_moved t x id kind h = h

-- ---- audits

audit_whole : (start : State) (ms : List Moment) (job : Job) (undecided : ℕ) (counts : List ℕ) →
    job.kind ≡ AuditJob → MadeAll start ms job (4 + length (ask_actions (setup_in (now start ms)) job)) →
    CameAll start ms job →
    HasSums (setup_in (now start ms)) job (record { counts = counts; undecided = undecided }) →
    AuditIsWhole start ms job job.subject undecided counts
audit_whole start ms job undecided counts kind made came sums = record {
  kind = kind;
  subject = refl;
  asked = λ file j round in_f k in_r.
      (let at = ask_at (setup_in (now start ms)) job file j round kind (contains_in job.pinned file in_f) k
      (contains_in _ round in_r) in let g = (made at.0 (Ask j file.id round) at.1 at.2).1 in
      came (Answered j file.id round (answer_given job.given file.id round j)) (given_answer job.given j
      file.id round g.0 g.1));
  sums = sums;
}

audit_of : (start : State) (ms : List Moment) (job : Job) (id undecided : ℕ) (counts : List ℕ) (bound : ℕ)
    (kind : Kind) → job.kind ≡ kind → MadeAll start ms job bound → CameAll start ms job →
    (kind ≡ AuditJob → 4 + length (ask_actions (setup_in (now start ms)) job) ≤ bound) →
    FinalAudit (setup_in (now start ms)) job id undecided counts kind →
    AuditIsWhole start ms job id undecided counts
audit_of start ms job id undecided counts bound AuditJob is made came late h =
    subst (λ n. AuditIsWhole start ms job n undecided counts) h.0 (audit_whole start ms job undecided counts
    is (made_less start ms job bound (4 + length (ask_actions (setup_in (now start ms)) job)) (late refl)
    made) came h.2)
audit_of start ms job id undecided counts bound kind is made came late h = absurd h

audit_bound : (t : Setup) (x : Job) (id undecided : ℕ) (counts : List ℕ) (kind : Kind) →
    FinalAudit t x id undecided counts kind → kind ≡ AuditJob → 4 + length (ask_actions t x) ≤ x.place
audit_bound t x id undecided counts kind h is = (rw is at h).1

audit_moved : (t : Setup) (x : Job) (id undecided : ℕ) (counts : List ℕ) (kind : Kind) →
    FinalAudit t x id undecided counts kind → FinalAudit t (advanced x) id undecided counts kind
audit_moved t x id undecided counts AuditJob h = (
  h.0,
  (omega (arith, h.1)),
  sums_same t x (advanced x) (record { counts = counts; undecided = undecided }) refl refl refl h.2,
)
audit_moved t x id undecided counts kind h = h

-- ---- the record that came into effect

-- the record that came into effect by an event
pub data Came_is (old : State) (r : Record) : Type 0 where
  by_step : (x : Job) (a : Append) → job_of old.jobs x.number ≡ Some x → old.append ≡ Some a →
      a.job ≡ x.number → a.entry ≡ r → Came_is old r
  by_doubt : (d : Doubt) → old.doubt ≡ Some d → d.entry ≡ r → Came_is old r
  set_up : (s : Setup) → r ≡ SetUp s → Came_is old r

abbrev came_by : List Record → List Record → Option Record
came_by olds news = cond (length news == suc (length olds)) (newest news) None

on_top : (olds : List Record) (e r : Record) (news : List Record) → news ≡ e ∷ olds →
    came_by olds news ≡ Some r → e ≡ r
on_top olds e r news is h = (let f : Some e ≡ Some r = cc (cond_true (length (e ∷ olds) == suc (length olds))
    (Some e) None (eq-eqb (suc (length olds)) (suc (length olds)) refl)) in cc)

none_came : (olds news : List Record) (r : Record) → (length news ≡ suc (length olds) → ⊥) →
    came_by olds news ≡ Some r → ⊥
none_came olds news r apart h = cc (sym (cond_false (length news == suc (length olds)) (newest news) None
    (ne_eqb _ _ apart)) ∙ h)

-- a record that came into effect was in doubt, or is a setup, or a job made its fourth move
pub came_is : (old new : State) (r : Record) → Records_is old new → came old new ≡ Some r → Came_is old r
came_is old new r (Records_is.same rec) h =
    absurd (none_came old.records new.records r (λ e. (let f = ap length rec in omega (arith, e, f))) h)
came_is old new r (Records_is.finished x a runs next_is flight mine moves rec) h =
    Came_is.by_step x a runs flight mine (on_top old.records a.entry r new.records rec h)
came_is old new r (Records_is.settled d in_doubt rec) h =
    Came_is.by_doubt d in_doubt (on_top old.records d.entry r new.records rec h)
came_is old new r (Records_is.set_up s none_ rec) h =
    Came_is.set_up s (sym (on_top old.records (SetUp s) r new.records rec h))
came_is old new r (Records_is.settled_set_up s d in_doubt none_ rec) h =
    absurd (none_came old.records new.records r (λ e. (let f = ap length rec in omega (arith, e, f))) h)

-- a put's end is no setup
no_setup_done : (version id size profile : ℕ) (s : Setup) → SetUp s ≡ done_record version id size profile → ⊥
no_setup_done version id size profile s is = by_version version id size profile (λ r. SetUp s ≡ r → ⊥)
    (λ e. (cc e)) (λ e. (cc e)) is

-- ---- whole

module _ (limit : ℕ) (start : State) (clean : IsStart start) (ms : List Moment)
    (run : IsRun limit start ms) where
  -- the state after these moments
  abbrev w : State
  w = now start ms

  now_facts : Facts start ms
  now_facts = facts limit start clean ms run

  made_running : (k : ℕ) (job : Job) → job_of w.jobs k ≡ Some job → MadeAll start ms job job.place
  made_running k job runs p action l at = now_facts.made.made k job p action runs l at

  own_stands : (k : ℕ) (job : Job) (name bytes : List ℕ) → job_of w.jobs k ≡ Some job →
      job.kind ≡ PutJob name bytes → 4 ≤ job.place → Stands w job.subject bytes
  own_stands k job name bytes runs kind late = record {
    below = (all limit start clean ms run).numbers.below k job runs (cc, late);
    bytes_are = (eff.facts limit start ms clean run).kept k job name bytes runs kind late;
  }

  -- a running put that is past its stores has stored each stripe on each provider
  pub put_running : (k : ℕ) (job : Job) (name bytes : List ℕ) → job_of w.jobs k ≡ Some job →
      job.kind ≡ PutJob name bytes → 4 + length (store_actions (setup_in w) job bytes) ≤ job.place →
      PutIsWhole start ms job job.subject (length bytes) job.profile
  put_running k job name bytes runs kind late = put_whole start ms job name bytes kind late (made_less start
      ms job _ _ late (made_running k job runs)) (own_stands k job name bytes runs kind (omega (arith, late)))

  -- a running repair that is past its stores has rewritten each file on each flagged provider
  pub repair_running : (k : ℕ) (job : Job) → job_of w.jobs k ≡ Some job → job.kind ≡ RepairJob →
      length (repair_actions (setup_in w) job) ≤ job.place → RepairIsWhole start ms job job.subject
  repair_running k job runs kind late = repair_whole limit start clean ms run job kind late (made_less start
      ms job _ _ late (made_running k job runs))

  final_of : (a : Append) (x : Job) (k : ℕ) (r : Record) → w.append ≡ Some a → job_of w.jobs k ≡ Some x →
      a.job ≡ k → a.entry ≡ r → Final (setup_in w) x r x.kind
  final_of a x k r flight runs mine is = rw is at (now_facts.flights a x flight (cc))

  -- an audit whose last record is in flight has made each ask, and has these sums
  pub audit_running : (a : Append) (x : Job) (k id undecided : ℕ) (counts : List ℕ) → w.append ≡ Some a →
      job_of w.jobs k ≡ Some x → a.job ≡ k → a.entry ≡ AuditDone id undecided counts →
      AuditIsWhole start ms x id undecided counts
  audit_running a x k id undecided counts flight runs mine is =
      (let f = final_of a x k _ flight runs mine is in
      audit_of start ms x id undecided counts x.place x.kind refl (made_running k x runs)
      (λ gift i. now_facts.made.came k x gift runs i) (audit_bound (setup_in w) x id undecided counts x.kind
      f) f)

  -- the job that wrote a record in doubt
  pub doubt_put : (d : Doubt) (version id size profile : ℕ) → w.doubt ≡ Some d →
      d.entry ≡ done_record version id size profile → ((version == 2) ≡ false →
      profile ≡ (setup_in w).profile) → (job : Job) × (d.maker ≡ Some job) × PutIsWhole start ms job id size
      profile
  doubt_put d version id size profile h is own = elim (now_facts.doubt d h) [
    | Standing.bare s entry maker none_ ↦ absurd (no_setup_done version id size profile s (sym entry ∙ is))
    | Standing.by_job x maker done ↦ (let f = final_done (setup_in w) x version id size profile x.kind own
        (rw is at done.final) in (
          advanced x,
          maker,
          put_of start ms (advanced x) id size profile x.place x.kind refl (omega arith) (made_advanced start
              ms x d.entry done) (λ name bytes e. put_bound (setup_in w) x id size profile x.kind name bytes f
              e) (λ name bytes e. (done.own name bytes e
              (omega (arith, put_bound (setup_in w) x id size profile x.kind name bytes f e))))
              (put_moved (setup_in w) x id size profile x.kind f),
        ))
  ]

  -- the job of a repair's record in doubt has rewritten each file on each flagged provider
  pub doubt_repair : (d : Doubt) (id : ℕ) → w.doubt ≡ Some d → d.entry ≡ RepairDone id →
      (job : Job) × (d.maker ≡ Some job) × RepairIsWhole start ms job id
  doubt_repair d id h is = elim (now_facts.doubt d h) [
    | Standing.bare s entry maker none_ ↦ absurd (let e : SetUp s ≡ RepairDone id = sym entry ∙ is in cc)
    | Standing.by_job x maker done ↦ (let f = rw is at done.final in (
      advanced x,
      maker,
      repair_of limit start clean ms run (advanced x) id x.place x.kind refl (omega arith)
          (made_advanced start ms x d.entry done) (λ e. repair_bound (setup_in w) x id x.kind f e)
          (repair_moved (setup_in w) x id x.kind f),
    ))
  ]

  -- the job of an audit's last record in doubt has made each ask, and has these sums
  pub doubt_audit : (d : Doubt) (id undecided : ℕ) (counts : List ℕ) → w.doubt ≡ Some d →
      d.entry ≡ AuditDone id undecided counts → (job : Job) × (d.maker ≡ Some job) × AuditIsWhole start ms job
      id undecided counts
  doubt_audit d id undecided counts h is = elim (now_facts.doubt d h) [
    | Standing.bare s entry maker none_ ↦ absurd (cc (sym entry ∙ is))
    | Standing.by_job x maker done ↦ (let f = rw is at done.final in (
      advanced x,
      maker,
      audit_of start ms (advanced x) id undecided counts x.place x.kind refl (made_advanced start ms x
          d.entry done) done.came (λ e. audit_bound (setup_in w) x id undecided counts x.kind f e)
          (audit_moved (setup_in w) x id undecided counts x.kind f),
    ))
  ]

module _ (limit : ℕ) (start : State) (clean : IsStart start) (m : Moment) (ms : List Moment)
    (run : IsRun limit start (m ∷ ms)) where
  -- the state after these moments
  abbrev u : State
  u = now start ms

  came_now : (r : Record) → came u m.state ≡ Some r → Came_is u r
  came_now r h = (came_is u m.state r (changes limit (length ms) u m.event m.outcome m.state
      (all limit start clean ms run.2).numbers.idle run.1).records h)

  -- where a put's last record comes into effect its job has stored each stripe on each provider
  pub came_put : (version id size profile : ℕ) → came u m.state ≡ Some (done_record version id size profile) →
      ((version == 2) ≡ false → profile ≡ (setup_in u).profile) → (job : Job) × PutIsWhole start ms job id
      size profile
  came_put version id size profile h own = elim (came_now _ h) [
    | Came_is.by_step x a runs flight mine is ↦
        (let f = final_done (setup_in u) x version id size profile x.kind own (final_of limit start clean ms
        run.2 a x x.number (done_record version id size profile) flight runs mine is) in (
          x,
          put_of start ms x id size profile x.place x.kind refl (omega arith) (made_running limit start clean
              ms run.2 x.number x runs) (λ name bytes e. put_bound (setup_in u) x id size profile x.kind name
              bytes f e) (λ name bytes e. own_stands limit start clean ms run.2 x.number x name bytes runs e
              (omega (arith, put_bound (setup_in u) x id size profile x.kind name bytes f e))) f,
        ))
    | Came_is.by_doubt d in_doubt is ↦
        (let r = doubt_put limit start clean ms run.2 d version id size profile in_doubt is own in (r.0, r.2))
    | Came_is.set_up s is ↦ absurd (no_setup_done version id size profile s (sym is))
  ]

  -- and from then on its number stands for its bytes
  pub came_stands : (later : List Moment) (id size profile : ℕ) → IsRun limit start (later ++ m ∷ ms) →
      (job : Job) (put : PutIsWhole start ms job id size profile) →
      (now start (later ++ m ∷ ms)).bytes id ≡ put.bytes
  came_stands later id size profile whole_run job put = (stands_later limit start clean id put.bytes later
      (m ∷ ms) whole_run (stands_on limit start clean id put.bytes m ms run
      (record { below = put.drawn; bytes_are = put.bytes_are }))).bytes_are

  -- where a repair's record comes into effect its job has rewritten each file on each flagged provider
  pub came_repair : (id : ℕ) → came u m.state ≡ Some (RepairDone id) →
      (job : Job) × RepairIsWhole start ms job id
  came_repair id h = elim (came_now (RepairDone id) h) [
    | Came_is.by_step x a runs flight mine is ↦
        (let f = final_of limit start clean ms run.2 a x x.number (RepairDone id) flight runs mine is in (
          x,
          repair_of limit start clean ms run.2 x id x.place x.kind refl (omega arith) (made_running limit
              start clean ms run.2 x.number x runs) (λ e. repair_bound (setup_in u) x id x.kind f e) f,
        ))
    | Came_is.by_doubt d in_doubt is ↦
        (let r = doubt_repair limit start clean ms run.2 d id in_doubt is in (r.0, r.2))
    | Came_is.set_up s is ↦ absurd (cc is)
  ]

  -- where an audit's last record comes into effect its job has made each ask, and has these sums
  pub came_audit : (id undecided : ℕ) (counts : List ℕ) →
      came u m.state ≡ Some (AuditDone id undecided counts) → (job : Job) × AuditIsWhole start ms job id
      undecided counts
  came_audit id undecided counts h = elim (came_now _ h) [
    | Came_is.by_step x a runs flight mine is ↦
        (x, audit_running limit start clean ms run.2 a x x.number id undecided counts flight runs mine is)
    | Came_is.by_doubt d in_doubt is ↦
        (let r = doubt_audit limit start clean ms run.2 d id undecided counts in_doubt is in (r.0, r.2))
    | Came_is.set_up s is ↦ absurd (cc is)
  ]

-- an action that stood before the place of the job that wrote a record in doubt
pub doubt_made : (limit : ℕ) (start : State) → IsStart start → (ms : List Moment) → IsRun limit start ms →
    (d : Doubt) (job : Job) (p : ℕ) (action : Action) → (now start ms).doubt ≡ Some d → d.maker ≡ Some job →
    suc p < job.place →
    slice_get (actions_of (setup_in (now start ms)) job) p ≡ Some action → WasMade start ms job action
doubt_made limit start clean ms run d job p action h maker l at =
    elim ((facts limit start clean ms run).doubt d h) [
      | Standing.bare s entry none_maker none_ ↦ absurd
          (let e : None ≡ Some job = sym none_maker ∙ maker in cc)
      | Standing.by_job x maker_x done ↦
          (let same : advanced x ≡ job = (let e : Some (advanced x) ≡ Some job = sym maker_x ∙ maker in cc) in
          let place : x.place + 1 ≡ job.place = cc in
          subst (λ y. WasMade start ms y action) same (made_advanced start ms x d.entry done p action
          (omega (arith, l, place)) (cc)).0)
    ]
