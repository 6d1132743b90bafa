-- What stands of the job whose append is in flight.
use Rattle.second_half_laws.proofs.Words.{cond, refl, sym, subst, ◌∙◌, inl, inr, arith, slice_get, replicate, flat_map, upto, cases_lt, cases_Bool, challenge_of, Sums, Judges, Setup, Record, SetUp, PutStart, PutDone, AuditDone, RepairDone, PutDoneIn, Resume, InEffect, RepairDue, version_of, next_id, Kind, PutJob, GetJob, AuditJob, RepairJob, Pinned, Given, Job, job_of, advanced, advanced_with, object_of, profiled, Action, WriteBody, Store, Fetch, Ask, Work, on_each_provider, on_each_stripe, open_actions, store_actions, repair_actions, rounds_of, ask_actions, actions_of, State, Append, IsStart, setup_in, answers_given, JudgesRound, JudgesRounds, JudgesFiles, HasSums, done_record, is_first_append, subject_drawn, taken_out, Writes, next_action, holder_of, Moment, now, cond_true, cond_false, same_value, found_none, Append_is, Changes, first_above, first_below, drawn_later, All, next_stands, setup_stays}
use Rattle.std.proofs.Common.{◌≡◌, ℕ, ◌+◌, ◌≤◌, ◌==◌, Bool, false, List, [], ◌∷◌, ◌++◌, length, Some, None}
use Rattle.machine_defs.proofs.PutProfiles.{setup_profile}
use Rattle.machine_defs.proofs.PutProfiles as own
use Rattle.second_half_laws.proofs.Walk.{IsGift, Passed, Went, Walked}
use Rattle.second_half_laws.proofs.Places.{put_late, move_behind, audit_late, audit_mute, IsMute}
use Rattle.second_half_laws.proofs.Passing.{list_now}
use Rattle.second_half_laws.proofs.MadeFacts as made

-- ---- sums hang on the number, the files and what was given

abbrev RoundIs : Setup → ℕ → List Given → Pinned → ℕ → Sums → Sums → Type 0
RoundIs s subject given f round old new = Judges (object_of (profiled s f.profile) f.id)
    (challenge_of (object_of (profiled s f.profile) f.id) (length f.bytes) s.picks subject round)
    (answers_given given s.n f.id round) old new

round_same : (s : Setup) (x j : Job) (f : Pinned) (round : ℕ) (old new : Sums) → x.subject ≡ j.subject →
    j.given ≡ x.given → JudgesRound s x f round old new → JudgesRound s j f round old new
round_same s x j f round old new subject given h =
    rw subject at (subst (λ g. RoundIs s x.subject g f round old new) (sym given) h)

rounds_same : (s : Setup) (x j : Job) (f : Pinned) (rounds : List ℕ) (old new : Sums) →
    x.subject ≡ j.subject → j.given ≡ x.given → JudgesRounds s x f rounds old new →
    JudgesRounds s j f rounds old new
rounds_same s x j f [] old new subject given h = h
rounds_same s x j f (round ∷ more) old new subject given h = (
  h.0,
  round_same s x j f round old h.0 subject given h.1,
  rounds_same s x j f more h.0 new subject given h.2,
)

files_same : (s : Setup) (x j : Job) (fs : List Pinned) (old new : Sums) → x.subject ≡ j.subject →
    j.given ≡ x.given → JudgesFiles s x fs old new → JudgesFiles s j fs old new
files_same s x j [] old new subject given h = h
files_same s x j (f ∷ fs) old new subject given h = (
  h.0,
  rounds_same s x j f (rounds_of (profiled s f.profile) (length f.bytes)) old h.0 subject given h.1,
  files_same s x j fs h.0 new subject given h.2,
)

-- the sums of an audit hang on its files, its number and what it was given alone
pub sums_same : (s : Setup) (x j : Job) (sums : Sums) → x.pinned ≡ j.pinned → x.subject ≡ j.subject →
    j.given ≡ x.given → HasSums s x sums → HasSums s j sums
sums_same s x j sums pinned subject given h = rw pinned at (files_same s x j x.pinned
    (record { counts = replicate s.n 0; undecided = 0 }) sums subject given h)

-- ---- the last record of a job

abbrev pub FinalPut : Setup → Job → ℕ → ℕ → ℕ → Kind → Type 0
FinalPut t x id size profile (PutJob name bytes) = (x.subject ≡ id) × (length bytes ≡ size) ×
    (x.profile ≡ profile) × (4 + length (store_actions t x bytes) ≤ x.place)
FinalPut t x id size profile kind = ⊥

abbrev pub FinalAudit : Setup → Job → ℕ → ℕ → List ℕ → Kind → Type 0
FinalAudit t x id undecided counts AuditJob = (x.subject ≡ id) × (4 + length (ask_actions t x) ≤ x.place) ×
    HasSums t x (record { counts = counts; undecided = undecided })
FinalAudit t x id undecided counts kind = ⊥

abbrev pub FinalRepair : Setup → Job → ℕ → Kind → Type 0
FinalRepair t x id RepairJob = (x.subject ≡ id) × (length (repair_actions t x) ≤ x.place)
FinalRepair t x id kind = ⊥

-- what a job had done when it wrote its last record
abbrev pub Final : Setup → Job → Record → Kind → Type 0
Final t x (SetUp s) kind = ⊥
Final t x (PutDone id size) kind = FinalPut t x id size t.profile kind
Final t x (AuditDone id undecided counts) kind = FinalAudit t x id undecided counts kind
Final t x (RepairDone id) kind = FinalRepair t x id kind
Final t x (PutDoneIn id size profile) kind = FinalPut t x id size profile kind
Final t x (Resume next audit) kind = ⊥
Final t x (InEffect id size profile kept) kind = ⊥
Final t x (RepairDue number counts) kind = ⊥
Final t x entry kind = Unit {0}

-- the record that ends a put, whatever the version
module _ (t : Setup) (x : Job) (version id size profile : ℕ) (kind : Kind)
    (own : (version == 2) ≡ false → profile ≡ t.profile) where
  done_final : FinalPut t x id size profile kind → Final t x (done_record version id size profile) kind
  done_final h = elim (cases_Bool (version == 2)) [
    | inl e ↦ subst (λ r. Final t x r kind) (sym (cond_true _ _ _ e)) h
    | inr f ↦ subst (λ r. Final t x r kind) (sym (cond_false _ _ _ f)) (subst (λ p. FinalPut t x id size p
        kind) (own f) h)
  ]

  -- a job whose record ends a put had made all of that put's stores, whatever the version
  pub final_done : Final t x (done_record version id size profile) kind → FinalPut t x id size profile kind
  final_done h = elim (cases_Bool (version == 2)) [
    | inl e ↦ (rw (cond_true _ _ _ e) at h)
    | inr f ↦ (rw (← (own f)) at (subst (λ r. Final t x r kind) (cond_false _ _ _ f) h))
  ]

-- a job that is the same in all that its last record hangs on
record Alike (t : Setup) (x y : Job) : Type 0 where
  subject : x.subject ≡ y.subject
  profile : x.profile ≡ y.profile
  pinned : x.pinned ≡ y.pinned
  flagged : x.flagged ≡ y.flagged
  place : x.place ≤ y.place
  given : (n u : ℕ) (c : List ℕ) (kind : Kind) → FinalAudit t x n u c kind → kind ≡ x.kind → y.given ≡ x.given

abbrev stores_by : Setup → ℕ → ℕ → List ℕ → List Action
stores_by t p n bytes =
    on_each_stripe (profiled t p) (length bytes) (λ stripe. on_each_provider t (λ j. Store j n stripe))

abbrev asks_by : Setup → List Pinned → List Action
asks_by t pinned = flat_map (λ (f : Pinned). flat_map (λ round. on_each_provider t (λ j. Ask j f.id round))
    (rounds_of (profiled t f.profile) (length f.bytes))) pinned

abbrev rewrites_by : Setup → (ℕ → Bool) → ℕ → ℕ → List Action
rewrites_by t flagged object stripe =
    flat_map (λ j. cond (flagged j) (Store j object stripe ∷ []) []) (upto t.n)

abbrev repairs_by : Setup → List Pinned → (ℕ → Bool) → List Action
repairs_by t pinned flagged = flat_map (λ (f : Pinned). on_each_stripe (profiled t f.profile) (length f.bytes)
    (λ stripe. open_actions t f.id stripe ++ rewrites_by t flagged f.id stripe)) pinned

final_put : (t : Setup) (x y : Job) (id size profile : ℕ) (kind : Kind) → Alike t x y →
    FinalPut t x id size profile kind → FinalPut t y id size profile kind
final_put t x y id size profile (PutJob name bytes) a h = (
  sym a.subject ∙ h.0,
  h.1,
  sym a.profile ∙ h.2,
  (let e : length (stores_by t y.profile y.subject bytes) ≡ length (stores_by t x.profile x.subject bytes) =
      cc in let l = h.3 in let p = a.place in subst (λ k. 4 + k ≤ y.place) (sym e) (omega (arith, l, p))),
)
final_put t x y id size profile kind a h = h

final_audit : (t : Setup) (x y : Job) (id undecided : ℕ) (counts : List ℕ) (kind : Kind) → kind ≡ x.kind →
    Alike t x y → FinalAudit t x id undecided counts kind → FinalAudit t y id undecided counts kind
final_audit t x y id undecided counts AuditJob is a h = (
  sym a.subject ∙ h.0,
  (let e : length (asks_by t y.pinned) ≡ length (asks_by t x.pinned) = cc in let l = h.1 in let p = a.place in
      subst (λ k. 4 + k ≤ y.place) (sym e) (omega (arith, l, p))),
  sums_same t x y (record { counts = counts; undecided = undecided }) a.pinned a.subject
      (a.given id undecided counts AuditJob h is) h.2,
)
final_audit t x y id undecided counts kind is a h = h

final_repair : (t : Setup) (x y : Job) (id : ℕ) (kind : Kind) → Alike t x y → FinalRepair t x id kind →
    FinalRepair t y id kind
final_repair t x y id RepairJob a h = (
  sym a.subject ∙ h.0,
  (let e : length (repairs_by t y.pinned y.flagged) ≡ length (repairs_by t x.pinned x.flagged) = cc in
      let l = h.1 in let p = a.place in subst (λ k. k ≤ y.place) (sym e) (omega (arith, l, p))),
)
final_repair t x y id kind a h = h

final_alike : (t : Setup) (x y : Job) (entry : Record) (kind : Kind) → kind ≡ x.kind → Alike t x y →
    Final t x entry kind → Final t y entry kind
final_alike t x y (SetUp s) kind is a h = h
final_alike t x y (PutDone id size) kind is a h = final_put t x y id size t.profile kind a h
final_alike t x y (AuditDone id undecided counts) kind is a h =
    final_audit t x y id undecided counts kind is a h
final_alike t x y (RepairDone id) kind is a h = final_repair t x y id kind a h
final_alike t x y (PutDoneIn id size profile) kind is a h = final_put t x y id size profile kind a h
final_alike t x y (Resume next audit) kind is a h = h
final_alike t x y (InEffect id size profile kept) kind is a h = h
final_alike t x y (RepairDue number counts) kind is a h = h
final_alike t x y entry kind is a h = tt

final_is : (t : Setup) (x y j : Job) (entry : Record) → j ≡ y → y.kind ≡ x.kind → Alike t x y →
    Final t x entry x.kind → Final t j entry j.kind
final_is t x y j entry is kind a h = subst (λ z. Final t z entry z.kind) (sym is)
    (subst (λ k. Final t y entry k) (sym kind) (final_alike t x y entry x.kind refl a h))

-- a gift is of an action that is not mute
not_mute : (old : State) (x : Job) (new : State) (action : Action) (gift : Given) →
    IsGift old x new action gift → IsMute action → ⊥
not_mute old x new (Fetch i o s) gift g m = m
not_mute old x new (Ask i o r) gift g m = m
not_mute old x new (Work o s) gift g m = m
not_mute old x new action gift g m = g

audit_is_mute : (t : Setup) (x : Job) (action : Action) (n u : ℕ) (c : List ℕ) (kind : Kind) →
    slice_get (actions_of t x) x.place ≡ Some action → FinalAudit t x n u c kind → kind ≡ x.kind →
    IsMute action
audit_is_mute t x action n u c AuditJob at h is = audit_mute t x x.place action (sym is) at h.1
audit_is_mute t x action n u c kind at h is = absurd h

-- while an append is in flight its job keeps what it had done
final_on : (old : State) (x : Job) (action : Action) (new : State) (j : Job) (b : Append) →
    old.append ≡ Some b → holder_of old.append action ≡ None → next_action old x ≡ Some action →
    Passed old x action new j → Final (setup_in old) x b.entry x.kind → Final (setup_in old) j b.entry j.kind
final_on old x action new j b flight free next_is (Passed.silent quiet is rec) h = final_is (setup_in old) x
    (advanced x) j b.entry is refl (record {
      subject = refl;
      profile = refl;
      pinned = refl;
      flagged = refl;
      place = omega arith;
      given = λ n u c kind f k. refl;
    }) h
final_on old x action new j b flight free next_is (Passed.finished a act at mine is rec) h = final_is
    (setup_in old) x (record (advanced x) { older = taken_out old x x.kind }) j b.entry is refl (record {
      subject = refl;
      profile = refl;
      pinned = refl;
      flagged = refl;
      place = omega arith;
      given = λ n u c kind f k. refl;
    }) h
final_on old x action new j b flight free next_is (Passed.drew act is rec) h =
    absurd (let e : Some b.job ≡ None = cc in cc)
final_on old x action new j b flight free next_is (Passed.gave gift is_gift is rec) h =
    final_is (setup_in old) x (advanced_with x gift) j b.entry is refl (record {
      subject = refl;
      profile = refl;
      pinned = refl;
      flagged = refl;
      place = omega arith;
      given = λ n u c kind f k. absurd (not_mute old x new action gift is_gift
          (audit_is_mute (setup_in old) x action n u c kind
          (list_now old x action new j next_is (Passed.gave gift is_gift is rec)) f k));
    }) h

-- a job that has just drawn its number
abbrev drawn : State → Job → Job
drawn w x = record (advanced x) { subject = subject_drawn w x x.kind }

-- what an append writes, its job had done
writes_final : (w : State) (x : Job) (kind : Kind) (entry : Record) →
    ((name bytes : List ℕ) → kind ≡ PutJob name bytes → (version_of w.records == 2) ≡ false →
    x.profile ≡ (setup_in w).profile) → x.kind ≡ kind → next_action w x ≡ Some WriteBody →
    Writes w x kind entry → Final (setup_in w) (drawn w x) entry kind
writes_final w x (PutJob name bytes) entry plain is next_is h = elim (cases_lt x.place 4) [
  | inl l ↦ cc (cond_true (is_first_append x) (PutStart (next_id w.records) name)
      (done_record (version_of w.records) x.subject (length bytes) x.profile) (first_below x l))
  | inr l ↦ (let first = first_above x l in
      let same : (drawn w x).subject ≡ x.subject = drawn_later w x x.kind first in
      let late = put_late w x name bytes WriteBody is next_is l (λ z. z) (λ e. cc) in
      subst (λ r. Final (setup_in w) (drawn w x) r (PutJob name bytes)) (cc) (done_final (setup_in w)
      (drawn w x) (version_of w.records) x.subject (length bytes) x.profile (PutJob name bytes)
      (plain name bytes refl) (
        same,
        refl,
        refl,
        subst (λ n. 4 + length (stores_by (setup_in w) x.profile n bytes) ≤ x.place + 1)
            (sym same) (omega (arith, late)),
      )))
]
writes_final w x (GetJob name) entry plain is next_is h = absurd h
writes_final w x AuditJob entry plain is next_is h = elim (cases_lt x.place 4) [
  | inl l ↦ subst (λ r. Final (setup_in w) (drawn w x) r AuditJob)
      (sym (let g = rw (first_below x l) at h in g)) tt
  | inr l ↦ (let first = first_above x l in
      let g = rw first at h in
      let same : (drawn w x).subject ≡ x.subject = drawn_later w x x.kind first in
      let late = audit_late (setup_in w) x x.place WriteBody is
      (next_stands w x WriteBody next_is (λ e. cc)) l (λ z. z) in
      subst (λ r. Final (setup_in w) (drawn w x) r AuditJob) (sym g.2)
      (same, omega (arith, late), sums_same (setup_in w) x (drawn w x) g.0 refl (sym same) refl g.1))
]
writes_final w x RepairJob entry plain is next_is h =
    (let late = move_behind (setup_in w) x x.place WriteBody is (next_stands w x WriteBody next_is (λ e. cc))
    (λ z. z) in subst (λ r. Final (setup_in w) (drawn w x) r RepairJob) (sym h) (cc, omega (arith, late)))
writes_final w x _ entry plain is next_is h = cc

-- ---- at each moment of a run

abbrev pub Flights : State → List Moment → Type 0
Flights start ms = (a : Append) (j : Job) → (now start ms).append ≡ Some a →
    job_of (now start ms).jobs a.job ≡ Some j → Final (setup_in (now start ms)) j a.entry j.kind

-- an event keeps it that the job of an append in flight has done what its record says
pub flight_step : (limit : ℕ) (start : State) (m : Moment) (ms : List Moment) (A : All start ms) →
    own.Facts start ms → made.Facts start ms → Flights start ms →
    (X : Changes limit (length ms) (now start ms) m.event m.outcome m.state) →
    Walked (length ms) (now start ms) m.event m.outcome m.state → Flights start (m ∷ ms)
flight_step limit start m ms A V M F X W a j h hj = subst (λ t. Final t j a.entry j.kind)
    (sym (setup_stays limit start m ms A.numbers A.pins X a.job j hj)) (elim (X.append a h) [
      | Append_is.kept b flight job_is entry rec ↦ subst (λ r. Final (setup_in (now start ms)) j r j.kind)
          (sym entry) (elim (W.job a.job j hj) [
            | Went.kept r apart ↦ F b j flight (cc)
            | Went.begun kind wish is k_is rec2 ↦
                absurd (let l = A.numbers.holder b flight in omega (arith, l, k_is, job_is))
            | Went.went x action g ↦ final_on (now start ms) x action m.state j b flight g.unheld g.next
                g.passed (F b x flight (cc))
          ])
      | Append_is.drew x runs next_is mine writes found rec ↦ (let is = same_value _ j _ (cc) found in
          subst (λ (z : Job). Final (setup_in (now start ms)) z a.entry z.kind) (sym is)
          (writes_final (now start ms) x x.kind a.entry (λ name bytes kind first. V.plain x.number x name
          bytes runs kind first ∙ sym (setup_profile (now start ms))) refl next_is writes))
    ])

-- at a start no append is in flight
pub start_flights : (start : State) → IsStart start → Flights start []
start_flights start clean a j h hj = absurd (found_none start.jobs a.job j clean.jobs hj)
