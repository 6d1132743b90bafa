-- The record that a job writes with its next action may come into effect next.
use Rattle.state_laws.proofs.Words.{◌≡◌, ◌-◌, ◌<◌, ◌==◌, Bool, true, false, ◌++◌, length, drop, Option, refl, ap, sym, subst, ◌∙◌, inl, inr, arith, is_some, IsTrue, nat_lt, slice_get, list_all, cases_Bool, cases_lt, false≢true, and_from, eq-eqb, eqb-true, ne_eqb, lt-ltb, nat_tests, Each, Sums, Setup, Record, SetUp, PutStart, PutDone, Drop, AuditStart, AuditDone, RepairDone, PutDoneIn, Version, is_name, is_in_grammar, record_size, largest_file, largest_journal, most_files, all_profiles, File, setup_of, version_of, profile_in, next_id, next_audit, started_as, file_of, files_of, is_same_name, running_audit, due_of, refused, put_done_refused, is_crowded, AreAlike, same-eq, same-refl, next_id-fits, next_audit-fits, Kind, PutJob, GetJob, DropJob, AuditJob, RepairJob, UpgradeJob, aim_of, Job, job_of, setup_or_none, WriteBody, End, append_actions, actions_of, appends_left, HasSums, State, setup_in, file_in, journal_end, reserved, puts_name, sight_of, is_name_among, names_in, names_taken, AreBytes, IsSpelledKind, any_job, next_by, next_is_by, first_below, first_above, by_version, Writes, done_record, next_action, is_idle_drop, cond_true, cond_false, found_none, moves_made, IsInOrder, IsHeld, BringsHeld, MayFollowIn, IsWish, IsReady, IsSoundJob, HasDrawn, starts_left, IsSound, refused_after}
use Rattle.std.proofs.Common.{ℕ, ◌+◌, ◌≤◌, ◌^◌, not, List, [], ◌∷◌, Some, None}
use Rattle.state_laws.proofs.Orders.{in_order-step, next-left, appends-cons, appends_in, appends-order, drop_rest, drop-body}
use Rattle.state_laws.proofs.JobLists.{sum-member}
use Rattle.state_laws.proofs.NamesTaken.{fewer, once-files, listed-files_of, listed-taken, length-names_in, are_put, taken_by}
use Rattle.state_laws.proofs.Records.{AreAppended, next_id-le, next_audit-le, first-appended, setup-spelled, file-plain}
use Rattle.state_laws.proofs.Packs.{file-alike, crowded-alike}
use Rattle.state_laws.proofs.SumsLaws.{AreSmall, sums-small}
use Rattle.state_laws.proofs.Rooms.{room_of, room-step, put-writes_first, put-writes_later, audit-writes_first, audit-writes_later}

-- ---- records that are accepted, and their spelling

accept-start : (rs : List Record) (id : ℕ) (name : List ℕ) → is_some (setup_of rs) ≡ true → id ≡ next_id rs →
    id < 2 ^ 64 - 1 → refused rs (PutStart id name) ≡ None
accept-start rs id name up is l = grind (arith, nat_tests, up, is, l)

accept-done : (rs : List Record) (version id size profile : ℕ) (name : List ℕ) →
    is_some (setup_of rs) ≡ true → version_of rs ≡ version → started_as rs id ≡ Some name →
    is_crowded rs name ≡ false → refused rs (done_record version id size profile) ≡ None
accept-done rs version id size profile name up is started room = elim (cases_Bool (version == 2)) [
  | inl t ↦ ap (refused rs) (cond_true (version == 2) (PutDoneIn id size profile) (PutDone id size) t)
      ∙ (cond_true (is_some (setup_of rs)) _ _ up
      ∙ (cond_false (version_of rs == 1) _ _
      (ne_eqb (version_of rs) 1 (λ e. (omega (arith, e, is, eqb-true version 2 t))))
      ∙ done))
  | inr f ↦ ap (refused rs) (cond_false (version == 2) (PutDoneIn id size profile) (PutDone id size) f)
      ∙ (cond_true (is_some (setup_of rs)) _ _ up
      ∙ (cond_false (version_of rs == 2) _ _ (ap (λ v. v == 2) is ∙ f) ∙ done))
]
  where
    done : put_done_refused rs (started_as rs id) ≡ None
    done = ap (put_done_refused rs) started ∙ cond_false (is_crowded rs name) _ _ room

accept-ready : (rs : List Record) (entry : Record) → is_some (setup_of rs) ≡ true →
    refused_after rs entry ≡ None → refused rs entry ≡ None
accept-ready rs entry up ready = cond_true (is_some (setup_of rs)) _ _ up ∙ ready

accept-drop : (rs : List Record) (name : List ℕ) → is_some (setup_of rs) ≡ true →
    is_some (file_of rs name) ≡ true → refused rs (Drop name) ≡ None
accept-drop rs name up there =
    cond_true (is_some (setup_of rs)) _ _ up ∙ cond_true (is_some (file_of rs name)) _ _ there

accept-audit_start : (rs : List Record) (number : ℕ) → is_some (setup_of rs) ≡ true → number ≡ next_audit rs →
    number < 2 ^ 64 - 1 → due_of rs ≡ None → refused rs (AuditStart number) ≡ None
accept-audit_start rs number up is l none = grind (arith, nat_tests, up, is, l, none)

accept-audit_done : (rs : List Record) (s : Setup) (number undecided : ℕ) (counts : List ℕ) →
    setup_of rs ≡ Some s → running_audit rs ≡ Some number → length counts ≡ s.n →
    refused rs (AuditDone number undecided counts) ≡ None
accept-audit_done rs s number undecided counts up running size = grind (arith, nat_tests, up, running, size)

crowded-named : (rs : List Record) (name : List ℕ) → is_some (file_of rs name) ≡ true →
    is_crowded rs name ≡ false
crowded-named rs name t = grind (arith, t)

crowded-short : (rs : List Record) (name : List ℕ) → length (files_of rs) + 1 ≤ most_files →
    is_crowded rs name ≡ false
crowded-short rs name l = grind (arith, nat_tests, l)

spelled-start : (id : ℕ) (name : List ℕ) → id < 2 ^ 64 → IsTrue (is_name name) →
    IsTrue (is_in_grammar (PutStart id name))
spelled-start id name l h = and_from (nat_lt id (2 ^ 64)) (is_name name) (lt-ltb id (2 ^ 64) l) h

spelled-done : (version id size profile : ℕ) → id < 2 ^ 64 → size ≤ largest_file → profile < all_profiles →
    IsTrue (is_in_grammar (done_record version id size profile))
spelled-done version id size profile l h p = by_version version id size profile (λ r. IsTrue (is_in_grammar r))
    (grind (arith, nat_tests, l, h, p)) (grind (arith, nat_tests, l, h))

spelled-audit_start : (number : ℕ) → number < 2 ^ 64 → IsTrue (is_in_grammar (AuditStart number))
spelled-audit_start number l = lt-ltb number (2 ^ 64) l

spelled-repair : (number : ℕ) → number < 2 ^ 64 → IsTrue (is_in_grammar (RepairDone number))
spelled-repair number l = lt-ltb number (2 ^ 64) l

spelled-counts : (counts : List ℕ) → Each (λ count. count ≤ 2 ^ 16) counts →
    list_all (λ count. nat_lt count (2 ^ 32)) counts ≡ true
spelled-counts [] h = refl
spelled-counts (c ∷ cs) h = and_from (nat_lt c (2 ^ 32)) (list_all (λ count. nat_lt count (2 ^ 32)) cs)
    (lt-ltb c (2 ^ 32) (omega (arith, h.0))) (spelled-counts cs h.1)

spelled-audit_done : (number undecided : ℕ) (counts : List ℕ) → number < 2 ^ 64 → undecided ≤ 2 ^ 16 →
    4 ≤ length counts → length counts ≤ 16 → Each (λ count. count ≤ 2 ^ 16) counts →
    IsTrue (is_in_grammar (AuditDone number undecided counts))
spelled-audit_done number undecided counts a b c d e = grind (arith, spelled-counts counts e)

up-in : (o : Option Setup) → is_some o ≡ true → o ≡ Some (setup_or_none o)
up-in None h = absurd (false≢true h)
up-in (Some s) h = refl

-- a put whose first append is not done has still to draw a number
pub starts-first : (job : Job) (name bytes : List ℕ) → job.kind ≡ PutJob name bytes → job.place < 4 →
    starts_left job ≡ 1
starts-first job name bytes kind l = (let f = first_below job l in rw (kind, f) refl)

-- a job that is no put, or whose first append is done, has none
pub starts-later : (job : Job) → 4 ≤ job.place → starts_left job ≡ 0
starts-later job l = by job.kind refl
  where
    by : (kind : Kind) → job.kind ≡ kind → starts_left job ≡ 0
    by (PutJob name bytes) kind = (let f = first_above job l in rw (kind, f) refl)
    by h kind = rw kind refl

-- a job that goes on has no more to draw
pub starts-on : (job next : Job) → next.kind ≡ job.kind → job.place ≤ next.place →
    starts_left next ≤ starts_left job
starts-on job next kind place = elim (cases_lt next.place 4) [
  | inl l ↦ (let e : starts_left next ≡ starts_left job = same l in omega (arith, e))
  | inr l ↦ omega (arith, starts-later next l)
]
  where
    same : next.place < 4 → starts_left next ≡ starts_left job
    same l = by job.kind refl
      where
        by : (k : Kind) → job.kind ≡ k → starts_left next ≡ starts_left job
        by (PutJob name bytes) e = starts-first next name bytes (kind ∙ e) l
            ∙ sym (starts-first job name bytes e (omega (arith, l, place)))
        by k e = rw (kind ∙ e, e) refl

module _ (limit : ℕ) (w : State) (S : IsSound limit w) where
  -- a job runs while a vault is open
  pub runs-open : (number : ℕ) (job : Job) → job_of w.jobs number ≡ Some job → w.is_open ≡ true
  runs-open number job runs = elim (cases_Bool w.is_open) [
    | inl t ↦ t
    | inr f ↦ absurd (found_none w.jobs number job (S.closed f).0 runs)
  ]

  -- the setup of an open vault is that of its records
  pub set_up-in : w.is_open ≡ true → setup_of w.records ≡ Some (setup_in w)
  unfolding setup_in
  set_up-in h = up-in (setup_of w.records) (S.set_up h)

  -- the setup of an open vault is in the grammar
  pub setup-valid : w.is_open ≡ true → IsTrue (is_in_grammar (SetUp (setup_in w)))
  setup-valid h = setup-spelled w.records (setup_in w) S.spelled (set_up-in h)

  -- the setup of an open vault has at most 64 rounds
  pub setup-rounds : w.is_open ≡ true → (setup_in w).rounds ≤ 64
  setup-rounds h = of_setup (setup_in w) (setup-valid h)
    where
      of_setup : (s : Setup) → IsTrue (is_in_grammar (SetUp s)) → s.rounds ≤ 64
      of_setup s g = grind (arith, nat_tests, g)

  -- the setup of an open vault has 4 to 16 providers
  pub setup-providers : w.is_open ≡ true → (4 ≤ (setup_in w).n) × ((setup_in w).n ≤ 16)
  setup-providers h = (low (setup_in w) (setup-valid h), high (setup_in w) (setup-valid h))
    where
      low : (s : Setup) → IsTrue (is_in_grammar (SetUp s)) → 4 ≤ s.n
      low s g = grind (arith, nat_tests, g)

      high : (s : Setup) → IsTrue (is_in_grammar (SetUp s)) → s.n ≤ 16
      high s g = grind (arith, nat_tests, g)

  -- the next object number fits 64 bits
  pub ids-fit : next_id w.records < 2 ^ 64
  ids-fit = next_id-fits w.records S.accepted

  -- the next audit number fits 64 bits
  pub audits-fit : next_audit w.records < 2 ^ 64
  audits-fit = next_audit-fits w.records S.accepted

  -- the sums of an audit that runs are small
  pub small-sums : (number : ℕ) (job : Job) (sums : Sums) → job_of w.jobs number ≡ Some job →
      HasSums (setup_in w) job sums → AreSmall (setup_in w).n sums
  small-sums number job sums runs has = sums-small (setup_in w) job sums (S.jobs number job runs).few
      (setup-rounds (runs-open number job runs)) has

  module _ (number : ℕ) (job : Job) (runs : job_of w.jobs number ≡ Some job) where
    abbrev Good : Record → Type 0
    Good entry = IsTrue (is_in_grammar entry) × (refused w.records entry ≡ None) ×
        (refused w.journal entry ≡ None) × BringsHeld w.bytes entry

    J : IsSoundJob (setup_in w) w.records w.bytes (moves_made w.append number) job
    J = S.jobs number job runs

    R : IsReady (setup_in w) w.journal w.bytes job job.kind
    R = S.in_journal number job runs

    L : AreAlike w.journal w.records
    L = S.journal.alike

    opened : w.is_open ≡ true
    opened = runs-open number job runs

    up-too : is_some (setup_of w.journal) ≡ true
    up-too = ap is_some L.setup ∙ S.set_up opened

    -- before the first move of an append it is left
    pub body-left : next_action w job ≡ Some WriteBody → 0 < appends_left (setup_in w) job
    body-left next = (let rest = drop (job.place + 1) (actions_of (setup_in w) job) in
        let left =
        next-left w job WriteBody next (λ e. cc) in
        let r = in_order-step (moves_made w.append number) WriteBody rest (λ e. cc)
        (subst (IsInOrder (moves_made w.append number)) left J.order) in
        omega (arith, appends-order 1 rest (omega arith) r.1, appends-cons WriteBody rest, ap appends_in left))

    -- the sums of an audit that runs have a count for each provider
    pub sizes : (sums : Sums) → HasSums (setup_in w) job sums → length sums.counts ≡ (setup_in w).n
    sizes sums has = (small-sums number job sums runs has).size

    -- the journal has room for the record
    written-room : (entry : Record) → 0 < appends_left (setup_in w) job → Writes w job job.kind entry →
        journal_end w + (1 + record_size entry) ≤ largest_journal
    written-room entry left h = (let k = appends_left (setup_in w) job - 1 in let is : appends_left (setup_in
        w) job ≡ k + 1 = omega (arith, left) in let mine : reserved (version_of w.records) (setup_in w) job ≡
        room_of (version_of w.records) (setup_in w) job.kind (k + 1) = ap (room_of (version_of w.records)
        (setup_in w) job.kind) is in let one = sum-member (reserved (version_of w.records) (setup_in w))
        w.jobs number job runs in
        omega (arith, room-step w job job.kind entry k refl h is sizes, one, S.room))

    -- a put's own name makes one more than the files, where it is not in effect
    put-place : (name bytes : List ℕ) → job.kind ≡ PutJob name bytes → is_crowded w.records name ≡ false
    put-place name bytes kind = elim (cases_Bool (is_some (file_of w.records name))) [
      | inl t ↦ crowded-named w.records name t
      | inr f ↦ crowded-short w.records name (omega (arith, S.names, places f))
    ]
      where
        put : are_put name w.jobs ≡ true
        put = elim (cases_Bool (are_put name w.jobs)) [
          | inl t ↦ t
          | inr f ↦ absurd (let g =
              any_job (λ (j : Job). puts_name name (aim_of j.kind)) w.jobs number job runs f in
              false≢true (sym g ∙ (ap (λ kd. puts_name name (aim_of kd)) kind ∙ same-refl name)))
        ]

        all-taken : (n : List ℕ) → is_name_among (name ∷ names_in (files_of w.records)) n ≡ true →
            is_name_among (taken_by w.records w.jobs) n ≡ true
        all-taken n i = listed-taken w.records w.jobs n ∙ elim (cases_Bool (is_same_name n name)) [
          | inl t ↦ (let e : n ≡ name = same-eq n name t in
              let p : are_put n w.jobs ≡ true = ap (λ x. are_put x w.jobs) e ∙ put in grind (arith, p))
          | inr f ↦ (let l = listed-files_of w.records n in grind (arith, i, f, l))
        ]

        places : is_some (file_of w.records name) ≡ false →
            length (files_of w.records) + 1 ≤ length (names_taken (sight_of w))
        places f = (let l = fewer (name ∷ names_in (files_of w.records)) (taken_by w.records w.jobs)
            (listed-files_of w.records name ∙ f, once-files w.records) all-taken in
            omega (arith, l, length-names_in (files_of w.records)))

    -- a drop's name is in effect where its first move is next
    drop-place : (name : List ℕ) → job.kind ≡ DropJob name → next_action w job ≡ Some WriteBody →
        is_some (file_of w.records name) ≡ true
    drop-place name kind next =
        at_start (is_some (file_of w.records name)) refl (place-zero job.place (listed))
      where
        by : next_by w job (DropJob name) job.place ≡ Some WriteBody
        by = ap (λ kd. next_by w job kd job.place) (sym kind) ∙ (sym (next_is_by w job) ∙ next)

        listed : slice_get (append_actions ++ drop_rest (setup_in w) job) job.place ≡ Some WriteBody
        listed = elim (cases_Bool (is_idle_drop w job (DropJob name))) [
          | inl t ↦ absurd (cc (sym (cond_true (is_idle_drop w job (DropJob name)) (Some End)
              (slice_get (append_actions ++ drop_rest (setup_in w) job) job.place) t) ∙ by))
          | inr f ↦ sym (cond_false (is_idle_drop w job (DropJob name)) (Some End)
              (slice_get (append_actions ++ drop_rest (setup_in w) job) job.place) f) ∙ by
        ]

        place-zero : (p : ℕ) → slice_get (append_actions ++ drop_rest (setup_in w) job) p ≡ Some WriteBody →
            p ≡ 0
        place-zero p h = drop-body (setup_in w) job p h

        at_start : (there : Bool) → is_some (file_of w.records name) ≡ there → job.place ≡ 0 → there ≡ true
        at_start true is first = refl
        at_start false is first = absurd (let e = sym (cond_true (is_idle_drop w job (DropJob name))
            (Some End) (slice_get (append_actions ++ drop_rest (setup_in w) job) job.place)
            (and_from (job.place == 0) (not (is_some (file_of w.records name))) (eq-eqb job.place 0 first)
            (ap not is))) ∙ by in cc)

    -- a put that has still to start finds a number, and so does an audit
    number-left : (name bytes : List ℕ) → job.kind ≡ PutJob name bytes → job.place < 4 →
        next_id w.records < 2 ^ 64 - 1
    number-left name bytes kind l = (let one : starts_left job ≡ 1 = starts-first job name bytes kind l in
        let sum = sum-member starts_left w.jobs number job runs in
        omega (arith, sum, S.ids (omega (arith, one, sum))))

    audit-left : job.kind ≡ AuditJob → job.place < 4 → next_audit w.records < 2 ^ 64 - 1
    audit-left kind l = omega (arith, S.audits number job runs kind l)

    -- a record that all stands ready for
    ready-follows : {entry : Record} (r : Record) → refused_after w.records r ≡ None →
        refused_after w.journal r ≡ None → IsTrue (is_in_grammar r) → BringsHeld w.bytes r → entry ≡ r →
        Good entry
    ready-follows r ready ready_too spelled held is = subst Good (sym is) (
      spelled,
      accept-ready w.records r (S.set_up opened) ready,
      accept-ready w.journal r up-too ready_too,
      held,
    )

    follows-by : (kind : Kind) (entry : Record) → job.kind ≡ kind → next_action w job ≡ Some WriteBody →
        0 < appends_left (setup_in w) job → Writes w job kind entry → Good entry
    follows-by (PutJob name bytes) entry kind next left h = elim (cases_lt job.place 4) [
      | inl l ↦ (let few = number-left name bytes kind l in
          subst Good (sym (put-writes_first w job name bytes entry l h)) (
            spelled-start (next_id w.records) name ids-fit (subst IsWish kind J.wish).0,
            accept-start w.records (next_id w.records) name (S.set_up opened) refl few,
            accept-start w.journal (next_id w.records) name up-too (sym L.id) few,
            tt,
          ))
      | inr l ↦ (let d : HasDrawn (setup_in w) w.records w.bytes job name bytes =
          subst (IsReady (setup_in w) w.records w.bytes job) kind J.ready l in
          let e : HasDrawn (setup_in w) w.journal w.bytes job name bytes =
          subst (IsReady (setup_in w) w.journal w.bytes job) kind R l in
          subst Good (sym (put-writes_later w job name bytes entry l h)) (
            spelled-done (version_of w.records) job.subject (length bytes) job.profile J.subject
                (subst IsWish kind J.wish).1 J.profile,
            accept-done w.records (version_of w.records) job.subject (length bytes) job.profile name
                (S.set_up opened) refl (d.started left) (put-place name bytes kind),
            accept-done w.journal (version_of w.records) job.subject
                (length bytes) job.profile name up-too L.version (e.started left)
                (crowded-alike w.journal w.records name L ∙ put-place name bytes kind),
            by_version (version_of w.records) job.subject (length bytes) job.profile (BringsHeld w.bytes)
                (held d.bytes_are kind) (held d.bytes_are kind),
          ))
    ]
      where
        held : w.bytes job.subject ≡ bytes → job.kind ≡ PutJob name bytes →
            IsHeld w.bytes job.subject (length bytes)
        held e kind = (subst AreBytes (sym e) (subst IsSpelledKind kind J.spelled).1, ap length e)
    follows-by (GetJob name) entry kind next left h = absurd h
    follows-by (DropJob name) entry kind next left h = subst Good (sym h) (
      subst IsWish kind J.wish,
      accept-drop w.records name (S.set_up opened) (drop-place name kind next),
      accept-drop w.journal name up-too (ap is_some (file-alike w.journal w.records name L)
          ∙ drop-place name kind next),
      tt,
    )
    follows-by AuditJob entry kind next left h = (let ready : IsReady (setup_in w) w.records w.bytes job
        AuditJob = subst (IsReady (setup_in w) w.records w.bytes job) kind J.ready in
        let ready_too : IsReady (setup_in w) w.journal w.bytes job AuditJob =
        subst (IsReady (setup_in w) w.journal w.bytes job) kind R in
        elim (cases_lt job.place 4) [
          | inl l ↦ (let few = audit-left kind l in
              subst Good (sym (audit-writes_first w job entry l h)) (
                spelled-audit_start (next_audit w.records) audits-fit,
                accept-audit_start w.records (next_audit w.records) (S.set_up opened) refl few (ready.0 l),
                accept-audit_start w.journal (next_audit w.records) up-too (sym L.audit) few (ready_too.0 l),
                tt,
              ))
          | inr l ↦ (let wrote = audit-writes_later w job entry l h in
              let sums : Sums = wrote.0 in
              let small = small-sums number job sums runs wrote.1 in
              let n = setup-providers opened in
              subst Good (sym wrote.2) (
                spelled-audit_done job.subject sums.undecided sums.counts J.subject small.undecided
                    (omega (arith, small.size, n.0)) (omega (arith, small.size, n.1)) small.counts,
                accept-audit_done w.records (setup_in w) job.subject sums.undecided sums.counts
                    (set_up-in opened) (ready.1 l left) small.size,
                accept-audit_done w.journal (setup_in w) job.subject sums.undecided sums.counts
                    (L.setup ∙ set_up-in opened) (ready_too.1 l left) small.size,
                tt,
              ))
        ])
    follows-by RepairJob entry kind next left h = ready-follows (RepairDone job.subject)
        (subst (IsReady (setup_in w) w.records w.bytes job) kind J.ready left)
        (subst (IsReady (setup_in w) w.journal w.bytes job) kind R left)
        (spelled-repair job.subject J.subject) tt h
    follows-by UpgradeJob entry kind next left h =
        ready-follows Version (subst (IsReady (setup_in w) w.records w.bytes job) kind J.ready left)
        (subst (IsReady (setup_in w) w.journal w.bytes job) kind R left) refl tt h

    -- the record that the job writes with its next action may come into effect next
    pub written-follows : (entry : Record) → next_action w job ≡ Some WriteBody →
        Writes w job job.kind entry → MayFollowIn w entry
    written-follows entry next h = (let left = body-left next in
        let f = follows-by job.kind entry refl next left h in
        record {
          spelled = f.0;
          accepted = f.1;
          in_journal = f.2;
          room = written-room entry left h;
          held = f.3;
        })

  -- ---- while nothing in the journal is packed

  module _ (appended : AreAppended w.journal) where
    -- while nothing is packed the disk holds the whole history
    pub unpacked-now : w.journal ≡ w.records
    unpacked-now = S.journal.whole appended

    -- while nothing is packed the next object number is at most the largest length of a journal
    pub ids-small : next_id w.records ≤ largest_journal
    ids-small = omega (arith, next_id-le w.journal appended, S.journal.alike.id, S.room)

    -- while nothing is packed the next audit number is at most the largest length of a journal
    pub audits-small : next_audit w.records ≤ largest_journal
    audits-small = omega (arith, next_audit-le w.journal appended, S.journal.alike.audit, S.room)

  -- ---- until the journal has its second version

  module _ (first : version_of w.records ≡ 1) where
    -- until the second version nothing in the journal is packed
    pub first-journal : AreAppended w.journal
    first-journal = first-appended w.journal S.journal.accepted (S.journal.alike.version ∙ first)

    -- until the second version each file in effect has the setup's profile
    pub file-first : (name : List ℕ) (file : File) → file_in w name ≡ Some file →
        file.profile ≡ (setup_in w).profile
    unfolding setup_in
    file-first name file h =
        file-plain w.records name file S.accepted first h ∙ profile-of (setup_of w.records)
      where
        profile-of : (o : Option Setup) → profile_in o ≡ (setup_or_none o).profile
        profile-of None = refl
        profile-of (Some s) = refl
