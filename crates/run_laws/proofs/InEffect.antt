-- What holds at each moment of a run of the setup in effect and of the bytes of files.
use Rattle.run_laws.proofs.Words.{◌≡◌, ℕ, ◌+◌, ◌<◌, ◌≤◌, ◌==◌, ◌&&◌, true, List, [], ◌∷◌, length, Some, None, refl, ap, sym, subst, ◌∙◌, inl, inr, arith, is_some, cases_Bool, cases_eq, cases_lt, eq-eqb, and_from, and_parts, false≢true, some-not-none, IsShape, Record, Setup, SetUp, PutStart, PutDone, Drop, AuditStart, AuditDone, RepairDone, PutDoneIn, Version, Resume, InEffect, RepairDue, is_setup, is_master, File, file_as, profile_in, version_of, setup_of, next_id, started_as, is_start_of, is_same_name, file_of, Kind, PutJob, GetJob, DropJob, AuditJob, RepairJob, UpgradeJob, Job, job_of, WriteBody, SyncGate, AreBytes, IsSpelledKind, State, Append, Doubt, AreFirst, IsStart, file_in, Writes, done_record, is_first_append, bytes_drawn, next_action, Moment, now, IsRun, cond_true, cond_false, same_value, found_none, found_with, found_without, found_more, IsPlain, Job_is, Append_is, Changes, changes, objects, Draws, HasNumber, next_of_records, at_three, first_above, first_below, drawn_later, drawn_first}
use Rattle.machine_defs.proofs.Done.{by_version}
use Rattle.machine_defs.proofs.Numbers as num
use Rattle.run_laws.proofs.Direct.{IsValid, Records_are, Doubt_was, Jobs_are, Bytes_are, Direct, direct}

-- ---- records

-- a setup is in effect
abbrev IsUp : List Record → Type 0
IsUp rs = is_some (setup_of rs) ≡ true

up_more : (r : Record) (rs : List Record) → IsUp rs → IsUp (r ∷ rs)
up_more (SetUp s) rs h = refl
up_more (PutStart id name) rs h = h
up_more (PutDone id size) rs h = h
up_more (Drop name) rs h = h
up_more (AuditStart number) rs h = h
up_more (AuditDone number undecided counts) rs h = h
up_more (RepairDone number) rs h = h
up_more (PutDoneIn id size profile) rs h = h
up_more Version rs h = h
up_more (Resume next audit) rs h = h
up_more (InEffect id size profile kept) rs h = h
up_more (RepairDue number counts) rs h = h

up_on : (old : State) (rs : List Record) → Records_are old rs → IsUp old.records → IsUp rs
up_on old rs (Records_are.same e) h = subst IsUp (sym e) h
up_on old rs (Records_are.appended a flight e) h = subst IsUp (sym e) (up_more a.entry old.records h)
up_on old rs (Records_are.settled d at e) h = subst IsUp (sym e) (up_more d.entry old.records h)
up_on old rs (Records_are.set_up s valid e) h = subst IsUp (sym e) refl
up_on old rs (Records_are.settled_set_up s d valid at e) h = subst IsUp (sym e) refl

-- the bytes of an object number that is in effect are bytes, so many, and a setup is in effect
pub record Holds (w : State) (id size : ℕ) : Type 0 where
  pub below : id < next_id w.records
  pub bytes : AreBytes (w.bytes id)
  pub size_is : length (w.bytes id) ≡ size
  pub up : IsUp w.records

-- what a record brings in is as it is to be
abbrev Fine : State → Record → Type 0
Fine w (SetUp s) = IsValid s
Fine w (PutDone id size) = Holds w id size
Fine w (PutDoneIn id size profile) = Holds w id size
Fine w (InEffect id size profile name) = Holds w id size
Fine w r = Unit {0}

setup_more : (w : State) (r : Record) (rs : List Record) (s : Setup) → Fine w r →
    ((t : Setup) → setup_of rs ≡ Some t → IsValid t) → setup_of (r ∷ rs) ≡ Some s → IsValid s
setup_more w (SetUp t) rs s fine h e =
    (let f : Some t ≡ Some s = e in let g : t ≡ s = cc in subst IsValid g fine)
setup_more w (PutStart id name) rs s fine h e = h s e
setup_more w (PutDone id size) rs s fine h e = h s e
setup_more w (Drop name) rs s fine h e = h s e
setup_more w (AuditStart number) rs s fine h e = h s e
setup_more w (AuditDone number undecided counts) rs s fine h e = h s e
setup_more w (RepairDone number) rs s fine h e = h s e
setup_more w (PutDoneIn id size profile) rs s fine h e = h s e
setup_more w Version rs s fine h e = h s e
setup_more w (Resume next audit) rs s fine h e = h s e
setup_more w (InEffect id size profile kept) rs s fine h e = h s e
setup_more w (RepairDue number counts) rs s fine h e = h s e

-- all files of records are held
abbrev AreHeld : State → List Record → Type 0
AreHeld w rs = (name : List ℕ) (f : File) → file_of rs name ≡ Some f → Holds w f.id f.size

held_more : (w : State) (r : Record) (rs : List Record) → Fine w r → AreHeld w rs → AreHeld w (r ∷ rs)
held_more w (SetUp t) rs fine h name f e = h name f e
held_more w (PutStart id n) rs fine h name f e = h name f e
held_more w (PutDone id size) rs fine h name f e = elim (cases_Bool (is_start_of name (started_as rs id))) [
  | inl t ↦ (let same : file_as name id size (profile_in (setup_of rs)) ≡ f =
      same_value _ (file_as name id size (profile_in (setup_of rs))) f
      (cond_true (is_start_of name (started_as rs id))
      (Some (file_as name id size (profile_in (setup_of rs)))) (file_of rs name) t) e in
      subst (λ (x : File). Holds w x.id x.size) same fine)
  | inr n ↦ h name f (sym (cond_false (is_start_of name (started_as rs id))
      (Some (file_as name id size (profile_in (setup_of rs)))) (file_of rs name) n) ∙ e)
]
held_more w (Drop n) rs fine h name f e = elim (cases_Bool (is_same_name n name)) [
  | inl t ↦ absurd (let g : None ≡ Some f = sym (cond_true (is_same_name n name) None (file_of rs name) t)
      ∙ e in cc)
  | inr o ↦ h name f (sym (cond_false (is_same_name n name) None (file_of rs name) o) ∙ e)
]
held_more w (AuditStart number) rs fine h name f e = h name f e
held_more w (AuditDone number undecided counts) rs fine h name f e = h name f e
held_more w (RepairDone number) rs fine h name f e = h name f e
held_more w (PutDoneIn id size profile) rs fine h name f e =
    elim (cases_Bool (is_start_of name (started_as rs id))) [
      | inl t ↦ (let same : file_as name id size profile ≡ f =
          same_value _ (file_as name id size profile) f
          (cond_true (is_start_of name (started_as rs id)) (Some (file_as name id size profile))
          (file_of rs name) t) e in
          subst (λ (x : File). Holds w x.id x.size) same fine)
      | inr n ↦ h name f (sym (cond_false (is_start_of name (started_as rs id))
          (Some (file_as name id size profile)) (file_of rs name) n) ∙ e)
    ]
held_more w Version rs fine h name f e = h name f e
held_more w (Resume next audit) rs fine h name f e = h name f e
held_more w (InEffect id size profile kept) rs fine h name f e = elim (cases_Bool (is_same_name kept name)) [
  | inl t ↦ (let same : file_as name id size profile ≡ f =
      same_value _ (file_as name id size profile) f
      (cond_true (is_same_name kept name) (Some (file_as name id size profile)) (file_of rs name) t) e in
      subst (λ (x : File). Holds w x.id x.size) same fine)
  | inr n ↦ h name f (sym
      (cond_false (is_same_name kept name) (Some (file_as name id size profile)) (file_of rs name) n) ∙ e)
]
held_more w (RepairDue number counts) rs fine h name f e = h name f e

-- the record that a job writes
writes_fine : (w : State) (job : Job) (kind : Kind) (entry : Record) →
    ((name bytes : List ℕ) → kind ≡ PutJob name bytes → 4 ≤ job.place → Holds w job.subject (length bytes)) →
    Writes w job kind entry → Fine w entry
writes_fine w job (PutJob name bytes) entry h writes = elim (cases_lt job.place 4) [
  | inl l ↦ subst (Fine w) (sym (writes ∙ cond_true (is_first_append job) (PutStart (next_id w.records) name)
      (done_record (version_of w.records) job.subject (length bytes) job.profile) (first_below job l))) tt
  | inr l ↦ subst (Fine w) (sym (writes ∙ cond_false (is_first_append job) (PutStart (next_id w.records) name)
      (done_record (version_of w.records) job.subject (length bytes) job.profile) (first_above job l)))
      (by_version (version_of w.records) job.subject (length bytes) job.profile (Fine w) (h name bytes refl l)
      (h name bytes refl l))
]
writes_fine w job (GetJob name) entry h writes = absurd writes
writes_fine w job (DropJob name) entry h writes = subst (Fine w) (sym writes) tt
writes_fine w job AuditJob entry h writes = elim (cases_Bool (is_first_append job)) [
  | inl t ↦ subst (Fine w) (sym (let g = rw t at writes in g)) tt
  | inr f ↦ (let g = rw f at writes in subst (Fine w) (sym g.2) tt)
]
writes_fine w job UpgradeJob entry h writes = subst (Fine w) (sym writes) tt
writes_fine w job RepairJob entry h writes = subst (Fine w) (sym writes) tt

-- the bytes that a put draws
drawn_bytes : (w : State) (job : Job) (kind : Kind) (name bytes : List ℕ) (id : ℕ) →
    kind ≡ PutJob name bytes → is_first_append job ≡ true → id ≡ next_id w.records →
    bytes_drawn w job kind id ≡ bytes
drawn_bytes w job kind name bytes id is first e = ap (λ kd. bytes_drawn w job kd id) is
    ∙ cond_true (is_first_append job && (id == next_id w.records)) bytes (w.bytes id)
    (and_from (is_first_append job) (id == next_id w.records) first (eq-eqb id (next_id w.records) e))

-- ---- what holds

pub record Facts (w : State) : Type 0 where
  pub spelled : (k : ℕ) (j : Job) → job_of w.jobs k ≡ Some j → IsSpelledKind j.kind
  pub setup : (s : Setup) → setup_of w.records ≡ Some s → IsValid s
  pub append_fine : (a : Append) → w.append ≡ Some a → Fine w a.entry
  pub doubt_fine : (d : Doubt) → w.doubt ≡ Some d → Fine w d.entry
  pub opened : w.is_open ≡ true → IsUp w.records
  pub fresh : (a : Append) (j : Job) (name bytes : List ℕ) → w.append ≡ Some a →
      job_of w.jobs a.job ≡ Some j → j.kind ≡ PutJob name bytes → j.place < 4 → w.bytes j.subject ≡ bytes
  pub kept : (k : ℕ) (j : Job) (name bytes : List ℕ) → job_of w.jobs k ≡ Some j → j.kind ≡ PutJob name bytes →
      4 ≤ j.place → w.bytes j.subject ≡ bytes
  pub files : AreHeld w w.records

-- a job that drew found no append in flight
pub drew_free : (limit : ℕ) (start : State) (m : Moment) (ms : List Moment) →
    Changes limit (length ms) (now start ms) m.event m.outcome m.state → (x j : Job) →
    job_of (now start ms).jobs x.number ≡ Some x → next_action (now start ms) x ≡ Some WriteBody →
    job_of m.state.jobs x.number ≡ Some j → j.place ≡ x.place + 1 → (now start ms).append ≡ None
drew_free limit start m ms X x j runs next_is found place = elim (X.job x.number j found) [
  | Job_is.kept r grown ↦ absurd (let e = ap (λ (z : Job). z.place) (same_value _ x j runs r) in omega arith)
  | Job_is.begun kind wish is k_is allowed rec ↦ absurd
      (let e : j.place ≡ 0 = ap (λ (z : Job). z.place) is in omega arith)
  | Job_is.plain y action runs_y next_y is_plain goes rec st ↦
      absurd (subst IsPlain (let same : y ≡ x = same_value _ y x runs_y runs in
      same_value _ action WriteBody next_y
      (subst (λ (z : Job). next_action (now start ms) z ≡ Some WriteBody) (sym same) next_is)) is_plain)
  | Job_is.drew y runs_y next_y free is rec ↦ free
  | Job_is.finished y a runs_y next_y flight mine is rec free ↦
      absurd (let same : y ≡ x = same_value _ y x runs_y runs in
      let e : SyncGate ≡ WriteBody = same_value _ SyncGate WriteBody next_y
      (subst (λ (z : Job). next_action (now start ms) z ≡ Some WriteBody) (sym same) next_is) in cc)
]

module _ (limit : ℕ) (start : State) (m : Moment) (ms : List Moment) (N : num.Facts objects start ms)
    (F : Facts (now start ms)) (X : Changes limit (length ms) (now start ms) m.event m.outcome m.state)
    (D : Direct (now start ms) m.state) where
  holds_on : (id size : ℕ) → Holds (now start ms) id size → Holds m.state id size
  holds_on id size h = (let same : m.state.bytes id ≡ (now start ms).bytes id = X.bytes id h.below in
      record {
        below = (let l = h.below in
            let g = next_of_records objects (now start ms) m.state N.written X.records in omega arith);
        bytes = subst AreBytes (sym same) h.bytes;
        size_is = ap length same ∙ h.size_is;
        up = up_on (now start ms) m.state.records D.records h.up;
      })

  fine_on : (r : Record) → Fine (now start ms) r → Fine m.state r
  fine_on (SetUp s) h = h
  fine_on (PutStart id name) h = tt
  fine_on (PutDone id size) h = holds_on id size h
  fine_on (Drop name) h = tt
  fine_on (AuditStart number) h = tt
  fine_on (AuditDone number undecided counts) h = tt
  fine_on (RepairDone number) h = tt
  fine_on (PutDoneIn id size profile) h = holds_on id size h
  fine_on Version h = tt
  fine_on (Resume next audit) h = tt
  fine_on (InEffect id size profile kept) h = holds_on id size h
  fine_on (RepairDue number counts) h = tt

  fine_of : (r s : Record) → r ≡ s → Fine (now start ms) s → Fine m.state r
  fine_of r s e h = fine_on r (subst (Fine (now start ms)) (sym e) h)

  -- a fact of the records before that one record more keeps
  over_records : (P : List Record → Type 0) →
      ((r : Record) (rs : List Record) → Fine m.state r → P rs → P (r ∷ rs)) → P (now start ms).records →
      (rs : List Record) → Records_are (now start ms) rs → P rs
  over_records P more h rs (Records_are.same e) = subst P (sym e) h
  over_records P more h rs (Records_are.appended a flight e) =
      subst P (sym e) (more a.entry (now start ms).records (fine_on a.entry (F.append_fine a flight)) h)
  over_records P more h rs (Records_are.settled d at e) =
      subst P (sym e) (more d.entry (now start ms).records (fine_on d.entry (F.doubt_fine d at)) h)
  over_records P more h rs (Records_are.set_up s valid e) =
      subst P (sym e) (more (SetUp s) (now start ms).records valid h)
  over_records P more h rs (Records_are.settled_set_up s d valid at e) =
      subst P (sym e) (more (SetUp s) (d.entry ∷ (now start ms).records) valid
      (more d.entry (now start ms).records (fine_on d.entry (F.doubt_fine d at)) h))

  setup_step : (s : Setup) → setup_of m.state.records ≡ Some s → IsValid s
  setup_step = over_records (λ rs. (s : Setup) → setup_of rs ≡ Some s → IsValid s)
      (λ r rs fine h s e. setup_more m.state r rs s fine h e) F.setup m.state.records D.records

  files_step : AreHeld m.state m.state.records
  files_step = over_records (AreHeld m.state) (held_more m.state)
      (λ name f e. holds_on f.id f.size (F.files name f e)) m.state.records D.records

  spelled_step : (k : ℕ) (j : Job) → job_of m.state.jobs k ≡ Some j → IsSpelledKind j.kind
  spelled_step k j h = by_jobs m.state.jobs D.jobs h
    where
      by_jobs : (js : List Job) → Jobs_are (now start ms) js → job_of js k ≡ Some j → IsSpelledKind j.kind
      by_jobs js (Jobs_are.same e) g = F.spelled k j (ap (λ l. job_of l k) (sym e) ∙ g)
      by_jobs js (Jobs_are.went_on x y runs number kind e) g =
          elim (found_with (now start ms).jobs y k j (ap (λ l. job_of l k) (sym e) ∙ g)) [
            | inl p ↦ subst IsSpelledKind (sym (ap (λ (z : Job). z.kind) p.1 ∙ kind))
                (F.spelled x.number x runs)
            | inr q ↦ F.spelled k j q.1
          ]
      by_jobs js (Jobs_are.ended n e) g =
          F.spelled k j (found_without (now start ms).jobs n k j (ap (λ l. job_of l k) (sym e) ∙ g)).1
      by_jobs js (Jobs_are.gone e) g = absurd (found_none js k j e g)
      by_jobs js (Jobs_are.one_more x spelled e) g =
          elim (found_more (now start ms).jobs x k j (ap (λ l. job_of l k) (sym e) ∙ g)) [
            | inl p ↦ subst IsSpelledKind (sym (ap (λ (z : Job). z.kind) p.1)) spelled
            | inr q ↦ F.spelled k j q
          ]

  -- while a job runs, a vault is open
  runs_up : (k : ℕ) (j : Job) → job_of (now start ms).jobs k ≡ Some j → IsUp (now start ms).records
  runs_up k j runs = elim (cases_Bool (now start ms).is_open) [
    | inl t ↦ F.opened t
    | inr f ↦ absurd (found_none (now start ms).jobs k j (N.idle.idle f).0 runs)
  ]

  number_is : (k : ℕ) (j : Job) (name bytes : List ℕ) → job_of (now start ms).jobs k ≡ Some j →
      j.kind ≡ PutJob name bytes → 4 ≤ j.place → HasNumber objects j
  number_is k j name bytes runs kind late = (subst (Draws objects) (sym kind) tt, late)

  own_held : (k : ℕ) (j : Job) (name bytes : List ℕ) → job_of (now start ms).jobs k ≡ Some j →
      j.kind ≡ PutJob name bytes → 4 ≤ j.place → Holds (now start ms) j.subject (length bytes)
  own_held k j name bytes runs kind late = (let same = F.kept k j name bytes runs kind late in
      let both : IsSpelledKind (PutJob name bytes) = subst IsSpelledKind kind (F.spelled k j runs) in
      record {
        below = N.below k j runs (number_is k j name bytes runs kind late);
        bytes = subst AreBytes (sym same) both.1;
        size_is = ap length same;
        up = runs_up k j runs;
      })

  append_step : (a : Append) → m.state.append ≡ Some a → Fine m.state a.entry
  append_step a h = elim (X.append a h) [
    | Append_is.kept b flight job_is entry rec ↦ fine_of a.entry b.entry entry (F.append_fine b flight)
    | Append_is.drew x runs next_is mine writes found rec ↦
        fine_on a.entry (writes_fine (now start ms) x x.kind a.entry
        (λ name bytes kind late. own_held x.number x name bytes runs kind late) writes)
  ]

  doubt_step : (d : Doubt) → m.state.doubt ≡ Some d → Fine m.state d.entry
  doubt_step d h = elim (D.doubt d h) [
    | Doubt_was.kept was ↦ fine_on d.entry (F.doubt_fine d was)
    | Doubt_was.gated a flight entry ↦ fine_of d.entry a.entry entry (F.append_fine a flight)
    | Doubt_was.set_up s valid entry ↦ subst (Fine m.state) (sym entry) valid
  ]

  opened_step : m.state.is_open ≡ true → IsUp m.state.records
  opened_step h = elim (D.opened h)
      [ inl was ↦ up_on (now start ms) m.state.records D.records (F.opened was) | inr up ↦ up ]

  -- while an append is in flight, no number is drawn
  bytes_stay : (b : Append) → (now start ms).append ≡ Some b → m.state.bytes ≡ (now start ms).bytes
  bytes_stay b flight = elim D.bytes [
    | Bytes_are.same e no_new ↦ e
    | Bytes_are.drew x runs free mine e ↦ absurd (some-not-none (now start ms).append b flight free)
  ]

  fresh_step : (a : Append) (j : Job) (name bytes : List ℕ) → m.state.append ≡ Some a →
      job_of m.state.jobs a.job ≡ Some j → j.kind ≡ PutJob name bytes → j.place < 4 →
      m.state.bytes j.subject ≡ bytes
  fresh_step a j name bytes h hj kind small = elim (X.append a h) [
    | Append_is.kept b flight job_is entry rec ↦ elim (X.job a.job j hj) [
      | Job_is.kept r grown ↦ carried b flight j refl kind small
          (subst (λ n. job_of (now start ms).jobs n ≡ Some j) job_is r)
      | Job_is.begun kd wish is k_is allowed rec2 ↦ absurd (let l = N.holder b flight in omega arith)
      | Job_is.plain x action runs next_is is_plain goes rec2 st ↦
          carried b flight x goes.subject (sym goes.kind ∙ kind) (let e = goes.place in omega arith)
          (subst (λ n. job_of (now start ms).jobs n ≡ Some x) job_is runs)
      | Job_is.drew x runs next_is free is rec2 ↦ absurd (some-not-none (now start ms).append b flight free)
      | Job_is.finished x c runs next_is flight_c mine is rec2 free ↦
          absurd (some-not-none m.state.append a h free)
    ]
    | Append_is.drew x runs next_is mine writes found rec ↦
        (let is = same_value _ j _ (subst (λ n. job_of m.state.jobs n ≡ Some j) mine hj) found in
        let place : j.place ≡ x.place + 1 = ap (λ (z : Job). z.place) is in
        let kx : x.kind ≡ PutJob name bytes = sym (ap (λ (z : Job). z.kind) is) ∙ kind in
        let first = first_below x (omega arith) in
        let subject : j.subject ≡ next_id (now start ms).records = ap (λ (z : Job). z.subject) is
        ∙ drawn_first objects (now start ms) x x.kind (subst (Draws objects) (sym kx) tt) first in
        let free = drew_free limit start m ms X x _ runs next_is found refl in
        elim D.bytes [
          | Bytes_are.same e no_new ↦ absurd (no_new a h free)
          | Bytes_are.drew y runs_y free_y mine_y e ↦ (let same : y ≡ x = same_value _ y x
              (subst (λ n. job_of (now start ms).jobs n ≡ Some y) (sym (mine_y a h) ∙ mine) runs_y) runs in
              ap (λ f. f j.subject) e
              ∙ (ap (λ (z : Job). bytes_drawn (now start ms) z z.kind j.subject) same
              ∙ drawn_bytes (now start ms) x x.kind name bytes j.subject kx first subject))
        ])
  ]
    where
      carried : (b : Append) → (now start ms).append ≡ Some b → (x : Job) → j.subject ≡ x.subject →
          x.kind ≡ PutJob name bytes → x.place < 4 → job_of (now start ms).jobs b.job ≡ Some x →
          m.state.bytes j.subject ≡ bytes
      carried b flight x subject kx small_x runs = ap (λ f. f j.subject) (bytes_stay b flight)
          ∙ (ap (now start ms).bytes subject ∙ F.fresh b x name bytes flight runs kx small_x)

  kept_step : (k : ℕ) (j : Job) (name bytes : List ℕ) → job_of m.state.jobs k ≡ Some j →
      j.kind ≡ PutJob name bytes → 4 ≤ j.place → m.state.bytes j.subject ≡ bytes
  kept_step k j name bytes h kind late = elim (X.job k j h) [
    | Job_is.kept r grown ↦ carried j r refl kind late
    | Job_is.begun kd wish is k_is allowed rec ↦ absurd
        (let e : j.place ≡ 0 = ap (λ (z : Job). z.place) is in omega arith)
    | Job_is.plain x action runs next_is is_plain goes rec st ↦
        (let kx : x.kind ≡ PutJob name bytes = sym goes.kind ∙ kind in
        elim (cases_eq x.place 3) [
          | inl three ↦ absurd (subst IsPlain (same_value _ action SyncGate next_is
              (at_three objects (now start ms) x (subst (Draws objects) (sym kx) tt) three)) is_plain)
          | inr other ↦ carried x runs goes.subject kx (let e = goes.place in omega arith)
        ])
    | Job_is.drew x runs next_is free is rec ↦
        (let kx : x.kind ≡ PutJob name bytes = sym (ap (λ (z : Job). z.kind) is) ∙ kind in
        let place : j.place ≡ x.place + 1 = ap (λ (z : Job). z.place) is in
        elim (cases_eq x.place 3) [
          | inl three ↦ absurd (let e : WriteBody ≡ SyncGate =
              same_value _ WriteBody SyncGate next_is
              (at_three objects (now start ms) x (subst (Draws objects) (sym kx) tt) three) in cc)
          | inr other ↦ (let l : 4 ≤ x.place = omega arith in
              carried x runs (ap (λ (z : Job). z.subject) is
              ∙ drawn_later (now start ms) x x.kind (first_above x l)) kx l)
        ])
    | Job_is.finished x a runs next_is flight mine is rec free ↦
        (let kx : x.kind ≡ PutJob name bytes = sym (ap (λ (z : Job). z.kind) is) ∙ kind in
        let subject : j.subject ≡ x.subject = ap (λ (z : Job). z.subject) is in
        elim (cases_lt x.place 4) [
          | inl l ↦ ap (λ f. f j.subject) (bytes_stay a flight)
              ∙ (ap (now start ms).bytes subject
              ∙ F.fresh a x name bytes flight
              (subst (λ n. job_of (now start ms).jobs n ≡ Some x) (sym mine) runs) kx l)
          | inr l ↦ carried x runs subject kx l
        ])
  ]
    where
      carried : (x : Job) → job_of (now start ms).jobs k ≡ Some x → j.subject ≡ x.subject →
          x.kind ≡ PutJob name bytes → 4 ≤ x.place → m.state.bytes j.subject ≡ bytes
      carried x runs subject kx l = ap m.state.bytes subject
          ∙ (X.bytes x.subject (N.below k x runs (number_is k x name bytes runs kx l))
          ∙ F.kept k x name bytes runs kx l)

  step_facts : Facts m.state
  step_facts = record {
    spelled = spelled_step;
    setup = setup_step;
    append_fine = append_step;
    doubt_fine = doubt_step;
    opened = opened_step;
    fresh = fresh_step;
    kept = kept_step;
    files = files_step;
  }

first_setup : (rs : List Record) → AreFirst rs → (s : Setup) → setup_of rs ≡ Some s → IsValid s
first_setup rs (inl e) s h = absurd (let f : None ≡ Some s = ap setup_of (sym e) ∙ h in cc)
first_setup rs (inr p) s h =
    (let f : Some p.0 ≡ Some s = ap setup_of (sym p.2) ∙ h in let g : p.0 ≡ s = cc in subst IsValid g p.1)

first_files : (w : State) (rs : List Record) → AreFirst rs → AreHeld w rs
first_files w rs (inl e) name f h =
    absurd (let g : None ≡ Some f = ap (λ l. file_of l name) (sym e) ∙ h in cc)
first_files w rs (inr p) name f h =
    absurd (let g : None ≡ Some f = ap (λ l. file_of l name) (sym p.2) ∙ h in cc)

start_facts : (start : State) → IsStart start → Facts start
start_facts start clean = record {
  spelled = λ k j h. absurd (found_none start.jobs k j clean.jobs h);
  setup = first_setup start.records clean.records;
  append_fine = λ a h. absurd (some-not-none start.append a h clean.append);
  doubt_fine = λ d h. absurd (some-not-none start.doubt d h clean.doubt);
  opened = λ h. absurd (false≢true (sym clean.closed ∙ h));
  fresh = λ a j name bytes h hj kind small. absurd (some-not-none start.append a h clean.append);
  kept = λ k j name bytes h kind late. absurd (found_none start.jobs k j clean.jobs h);
  files = first_files start start.records clean.records;
}

-- in every run setups are valid, and object numbers of puts and files stand for their bytes
pub facts : (limit : ℕ) (start : State) (ms : List Moment) → IsStart start → IsRun limit start ms →
    Facts (now start ms)
facts limit start [] clean run = start_facts start clean
facts limit start (m ∷ ms) clean run = (let N = num.facts objects limit start clean ms run.2 in
    step_facts limit start m ms N (facts limit start ms clean run.2)
    (changes limit (length ms) (now start ms) m.event m.outcome m.state N.idle run.1)
    (direct (now start ms) limit (length ms) m.event m.outcome m.state run.0 run.1))

-- a setup in effect is valid
pub valid_setup : (limit : ℕ) (start : State) (ms : List Moment) (s : Setup) → IsStart start →
    IsRun limit start ms → setup_of (now start ms).records ≡ Some s → IsValid s
valid_setup limit start ms s clean run h = (facts limit start ms clean run).setup s h

-- a valid setup makes a shape
pub valid_shape : (s : Setup) → IsValid s → IsShape s.n s.l s.b
valid_shape s h = let good : is_setup s ≡ true =
    (and_parts (is_setup s) (is_master s.master) h).0 in grind (arith, good)

-- a file in effect has a drawn number that stands for bytes, as many as its length
pub held_file : (limit : ℕ) (start : State) (ms : List Moment) (name : List ℕ) (file : File) → IsStart start →
    IsRun limit start ms → file_in (now start ms) name ≡ Some file → Holds (now start ms) file.id file.size
held_file limit start ms name file clean run h = (facts limit start ms clean run).files name file h
