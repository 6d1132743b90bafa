-- Names in effect are names of the grammar, so a get of one is not refused for its name.
use Rattle.second_half_laws.proofs.Words.{true, cond, refl, sym, subst, ◌∙◌, inl, inr, IsTrue, not, cases_Bool, false≢true, Record, PutStart, PutDone, Drop, PutDoneIn, InEffect, is_name, File, version_of, started_as, is_start_of, is_same_name, file_of, same-eq, Kind, PutJob, GetJob, AuditJob, Job, job_of, Refusal, Event, Begin, Outcome, Refused, State, Append, Doubt, AreFirst, IsStart, file_in, refusal_of_begin, begin_refusal, Writes, is_first_append, Happens, Moment, now, IsRun, IsGetRefusal, cond_true, found_none, by_version, Job_is, Append_is, Records_is, Doubt_is, Changes, changes, objects}
use Rattle.std.proofs.Common.{◌≡◌, ℕ, ◌==◌, Bool, false, List, [], ◌∷◌, length, Option, Some, None}
use Rattle.machine_defs.specs.Refusals as refusal
use Rattle.machine_defs.proofs.Sights.{stored-file}
use Rattle.machine_defs.proofs.Numbers as num

-- a put's start and a packed file name a name of the grammar
abbrev IsNamed : Record → Type 0
IsNamed (PutStart id name) = is_name name ≡ true
IsNamed (InEffect id size profile name) = is_name name ≡ true
IsNamed r = Unit {0}

abbrev AreNamed : List Record → Type 0
AreNamed [] = Unit {0}
AreNamed (r ∷ rs) = IsNamed r × AreNamed rs

-- so does a put
abbrev IsNamedJob : Kind → Type 0
IsNamedJob (PutJob name bytes) = is_name name ≡ true
IsNamedJob kind = Unit {0}

started_named : (rs : List Record) (id : ℕ) (name : List ℕ) → AreNamed rs → started_as rs id ≡ Some name →
    is_name name ≡ true
started_named [] id name named h = let e : None ≡ Some name = h in cc
started_named (PutStart k n ∷ rs) id name named h = elim (cases_Bool (k == id)) [
  | inl t ↦ (let e : n ≡ name = cc in cc)
  | inr f ↦ started_named rs id name named.1 (cc)
]
started_named (PutDone k size ∷ rs) id name named h = elim (cases_Bool (k == id)) [
  | inl t ↦ (let e : None ≡ Some name = cc in cc)
  | inr f ↦ started_named rs id name named.1 (cc)
]
started_named (PutDoneIn k size profile ∷ rs) id name named h = elim (cases_Bool (k == id)) [
  | inl t ↦ (let e : None ≡ Some name = cc in cc)
  | inr f ↦ started_named rs id name named.1 (cc)
]
started_named (_ ∷ rs) id name named h = started_named rs id name named.1 h

start_named : (o : Option (List ℕ)) (name : List ℕ) → is_start_of name o ≡ true →
    ((x : List ℕ) → o ≡ Some x → is_name x ≡ true) → is_name name ≡ true
start_named None name h f = absurd (false≢true h)
start_named (Some x) name h f = cc (same-eq x name h, f x refl)

file_named : (rs : List Record) (name : List ℕ) (file : File) → AreNamed rs → file_of rs name ≡ Some file →
    is_name name ≡ true
file_named [] name file named h = let e : None ≡ Some file = h in cc
file_named (PutDone k size ∷ rs) name file named h = elim (cases_Bool (is_start_of name (started_as rs k))) [
  | inl t ↦ start_named (started_as rs k) name t (λ x e. started_named rs k x named.1 e)
  | inr f ↦ file_named rs name file named.1 (cc)
]
file_named (Drop n ∷ rs) name file named h = elim (cases_Bool (is_same_name n name)) [
  | inl t ↦ (let e : None ≡ Some file = cc in cc)
  | inr f ↦ file_named rs name file named.1 (cc)
]
file_named (PutDoneIn k size profile ∷ rs) name file named h =
    elim (cases_Bool (is_start_of name (started_as rs k))) [
      | inl t ↦ start_named (started_as rs k) name t (λ x e. started_named rs k x named.1 e)
      | inr f ↦ file_named rs name file named.1 (cc)
    ]
file_named (InEffect k size profile kept ∷ rs) name file named h =
    elim (cases_Bool (is_same_name kept name)) [
      | inl t ↦ cc (same-eq kept name t)
      | inr f ↦ file_named rs name file named.1 (cc)
    ]
file_named (_ ∷ rs) name file named h = file_named rs name file named.1 h

writes_named : (w : State) (job : Job) (kind : Kind) (entry : Record) → IsNamedJob kind →
    Writes w job kind entry → IsNamed entry
writes_named w job (PutJob name bytes) entry named h = elim (cases_Bool (is_first_append job)) [
  | inl t ↦ subst IsNamed (sym (h ∙ cond_true _ _ _ t)) named
  | inr f ↦ subst IsNamed (cc) (by_version (version_of w.records) job.subject (length bytes) job.profile
      IsNamed tt tt)
]
writes_named w job (GetJob name) entry named h = absurd h
writes_named w job AuditJob entry named h = elim (cases_Bool (is_first_append job)) [
  | inl t ↦ subst IsNamed (sym (let g = rw t at h in g)) tt
  | inr f ↦ (let g = rw f at h in cc)
]
writes_named w job kind entry named h = cc

-- a refusal that comes is not the none of a begin
some_none : {X : Type 0} (o : Option X) (x : X) → o ≡ None → o ≡ Some x → ⊥
some_none o x a b = cc (sym a ∙ b)

-- a begun put has a name
begun_named : (limit : ℕ) (w : State) (kind : Kind) (wish : Option ℕ) →
    refusal_of_begin limit w kind wish ≡ None → IsNamedJob kind
begun_named limit w (PutJob name bytes) wish h = go _ _ _ _ h
  where
    go : (barred busy ok : Bool) (rest : Option Refusal) →
        cond barred (Some refusal.MustReopen)
        (cond busy (Some refusal.Busy) (cond (not ok) (Some refusal.BadName) rest)) ≡ None → ok ≡ true
    go true busy ok rest e = absurd (some_none _ refusal.MustReopen e refl)
    go false true ok rest e = absurd (some_none _ refusal.Busy e refl)
    go false false false rest e = absurd (some_none _ refusal.BadName e refl)
    go false false true rest e = refl
begun_named limit w kind wish h = tt

record Facts (w : State) : Type 0 where
  records : AreNamed w.records
  jobs : (k : ℕ) (j : Job) → job_of w.jobs k ≡ Some j → IsNamedJob j.kind
  append : (a : Append) → w.append ≡ Some a → IsNamed a.entry
  doubt : (d : Doubt) → w.doubt ≡ Some d → IsNamed d.entry

step_facts : (limit moment : ℕ) (old : State) (e : Event) (r : Outcome) (new : State) → Facts old →
    Changes limit moment old e r new → Facts new
step_facts limit moment old e r new F X = record {
  records = elim X.records [
    | Records_is.same rec ↦ subst AreNamed (sym rec) F.records
    | Records_is.finished x a runs next_is flight mine moves rec ↦
        subst AreNamed (sym rec) (F.append a flight, F.records)
    | Records_is.settled d in_doubt rec ↦ subst AreNamed (sym rec) (F.doubt d in_doubt, F.records)
    | Records_is.set_up s out rec ↦ subst AreNamed (sym rec) (tt, F.records)
    | Records_is.settled_set_up s d in_doubt out rec ↦
        subst AreNamed (sym rec) (tt, (F.doubt d in_doubt, F.records))
  ];
  jobs = λ k j h. elim (X.job k j h) [
    | Job_is.kept x grown ↦ F.jobs k j x
    | Job_is.begun kind wish is k_is allowed rec ↦ subst (λ (z : Job). IsNamedJob z.kind) (sym is)
        (begun_named limit old kind wish allowed)
    | Job_is.plain x action runs next_is is_plain goes rec st ↦
        subst IsNamedJob (sym goes.kind) (F.jobs k x runs)
    | Job_is.drew x runs next_is free is rec ↦ subst (λ (z : Job). IsNamedJob z.kind) (sym is)
        (F.jobs k x runs)
    | Job_is.finished x a runs next_is flight mine is rec free ↦
        subst (λ (z : Job). IsNamedJob z.kind) (sym is) (F.jobs k x runs)
  ];
  append = λ a h. elim (X.append a h) [
    | Append_is.kept b flight job_is entry rec ↦ subst IsNamed (sym entry) (F.append b flight)
    | Append_is.drew x runs next_is mine writes found rec ↦
        writes_named old x x.kind a.entry (F.jobs x.number x runs) writes
  ];
  doubt = λ d h. elim (X.doubt d h) [
    | Doubt_is.kept before rec ↦ F.doubt d before
    | Doubt_is.gated a flight entry rec ↦ subst IsNamed (sym entry) (F.append a flight)
    | Doubt_is.set_up s entry ↦ cc
  ];
}

first_named : (rs : List Record) → AreFirst rs → AreNamed rs
first_named rs (inl e) = cc
first_named rs (inr p) = subst AreNamed (sym p.2) (tt, tt)

facts : (limit : ℕ) (start : State) (ms : List Moment) → IsStart start → IsRun limit start ms →
    Facts (now start ms)
facts limit start [] clean run = record {
  records = first_named start.records clean.records;
  jobs = λ k j h. absurd (found_none start.jobs k j clean.jobs h);
  append = λ a h. absurd (some_none start.append a clean.append h);
  doubt = λ d h. absurd (some_none start.doubt d clean.doubt h);
}
facts limit start (m ∷ ms) clean run = step_facts limit (length ms) (now start ms) m.event m.outcome m.state
    (facts limit start ms clean run.2) (changes limit (length ms) (now start ms) m.event m.outcome m.state
    (num.facts objects limit start clean ms run.2).idle run.1)

-- a name under which a file is in effect is a name of the grammar
pub stored_named : (limit : ℕ) (start : State) (ms : List Moment) (name : List ℕ) (file : File) →
    IsStart start → IsRun limit start ms → file_in (now start ms) name ≡ Some file → IsTrue (is_name name)
stored_named limit start ms name file clean run h =
    file_named (now start ms).records name file (facts limit start ms clean run).records h

-- why a get of a name that is a name and in effect is refused
get_refusal : (limit : ℕ) (w : State) (name : List ℕ) (file : File) (why : Refusal) → is_name name ≡ true →
    file_in w name ≡ Some file → begin_refusal limit w (GetJob name) ≡ Some why → IsGetRefusal why
get_refusal limit w name file why named h e = go _ _ _ _ named (cc (stored-file w name)) e
  where
    go : (barred busy ok there : Bool) → ok ≡ true → there ≡ true →
        cond barred (Some refusal.MustReopen)
        (cond busy (Some refusal.Busy)
        (cond (not ok) (Some refusal.BadName) (cond (not there) (Some refusal.NoSuchName) None)))
        ≡ Some why → IsGetRefusal why
    go true busy ok there a b c = inl (sym cc)
    go false true ok there a b c = inr (inl (sym cc))
    go false false true true a b c = cc c
    go false false true false a b c = absurd (false≢true b)
    go false false false there a b c = absurd (false≢true a)

-- a get of a name in effect is refused for MustReopen, Busy or Memory alone
pub begins_stored : (limit : ℕ) (start : State) (m : Moment) (ms : List Moment) (name : List ℕ) (file : File)
    (why : Refusal) → IsStart start → IsRun limit start (m ∷ ms) → m.event ≡ Begin (GetJob name) →
    m.outcome ≡ Refused why → file_in (now start ms) name ≡ Some file → IsGetRefusal why
begins_stored limit start m ms name file why clean run event outcome h =
    (elim (subst (λ (x : Event). Happens limit (length ms) (now start ms) x (Refused why) m.state) event
    (subst (λ (r : Outcome). Happens limit (length ms) (now start ms) m.event r m.state) outcome run.1)).1 [
      | inl e ↦ get_refusal limit (now start ms) name file why
          (stored_named limit start ms name file clean run.2 h) h e
      | inr e ↦ inr (inr e)
    ])
