-- Sound states after a begin that was not refused.
use Rattle.state_laws.proofs.Words.{◌≡◌, ◌-◌, ◌<◌, ◌==◌, Bool, true, false, ◌⊎◌, ◌||◌, ◌&&◌, ◌++◌, length, Option, refl, ap, sym, subst, ◌∙◌, inl, inr, arith, sum, sum_by, length-append, is_some, IsTrue, nat_lt, nat_le, list_any, cases_Bool, cases_lt, cases_eq, false≢true, eq-eqb, not-false, nat_tests, sum_by-cons, sum_by-take-drop, Each, some-not-none, is_name, largest_file, largest_journal, most_files, all_profiles, Due, version_of, next_id, next_audit, profile_in, file_of, due_of, is_same_name, is_due, same-eq, Kind, PutJob, GetJob, DropJob, AuditJob, RepairJob, UpgradeJob, aim_of, Job, job_of, actions_left, appends_left, Cause, first_refusal, IsSpelledKind, State, Packing, setup_in, file_in, journal_end, append_sizes, reserved, puts_name, sight_of, aims_of, room_used, is_check, is_upgrade, is_shut, are_jobs_in_the_way, is_name_among, names_taken, is_crowded_for, is_stored, is_full, is_too_full, are_numbers_used_up, causes, refusal_of_begin, due_number, subject_at_begin, chosen, beginning, cond_true, cond_false, same_value, found_more, still_found, any_aim, check_alone, length-aims, stored-file, not_busy, none_lone, left_false, right_false, moves_made, IsInOrder, IsWish, IsReady, IsSoundJob, IsPutUnderWay, starts_left, IsLimit, IsSound, cond, NoRepair}
use Rattle.std.proofs.Common.{ℕ, ◌+◌, ◌≤◌, ◌^◌, not, List, [], ◌∷◌, Some, None}
use Rattle.std.proofs.lemmas.List.Folds.{list_any-append}
use Rattle.record_defs.specs.Acceptance.{NewVersion}
use Rattle.state_laws.proofs.Orders.{in_order}
use Rattle.state_laws.proofs.JobLists.{sum-more, numbered-more, numbered-below, made-some}
use Rattle.state_laws.proofs.NamesTaken.{are_put, taken_by, once-taken, listed-taken, fewer, taken-fewer}
use Rattle.state_laws.proofs.Records.{is_some-at, due-spelled, due-number, setup-fits}
use Rattle.state_laws.proofs.Packs.{journal-same}
use Rattle.state_laws.proofs.Written.{starts-first, starts-later, set_up-in, setup-valid}
use Rattle.state_laws.proofs.Pinning.{pins-ascend, pins-few, pins-stored, pins-plain, has-pins}

-- ---- no cause of a refusal applies

-- where nothing is refused, none of the causes applies
pub none-applies : (cs : List Cause) → first_refusal cs ≡ None → Each (λ (c : Cause). c.applies ≡ false) cs
none-applies [] h = tt
none-applies (c ∷ cs) h = elim (cases_Bool c.applies) [
  | inl t ↦ absurd (some-not-none _ c.refusal (cond_true c.applies (Some c.refusal) (first_refusal cs) t) h)
  | inr f ↦ (f, none-applies cs (sym (cond_false c.applies (Some c.refusal) (first_refusal cs) f) ∙ h))
]

at-most : (a b : ℕ) → nat_lt a b ≡ false → b ≤ a
at-most a b h = grind (arith, h)

below : (a b : ℕ) → nat_le a b ≡ false → b < a
below a b h = grind (arith, nat_tests, h)

-- what a put has that begins
record IsPutBegun (limit : ℕ) (old : State) (name bytes : List ℕ) (wish : Option ℕ) : Type 0 where
  named : is_name name ≡ true
  short : length bytes ≤ largest_file
  known : (p : ℕ) → wish ≡ Some p → (p < all_profiles) × ((version_of old.records == 1) ≡ false)
  place : is_crowded_for (sight_of old) name ≡ false
  full : is_full (sight_of old) (aim_of (PutJob name bytes)) ≡ false

put-begun : (limit : ℕ) (old : State) (name bytes : List ℕ) (wish : Option ℕ) →
    refusal_of_begin limit old (PutJob name bytes) wish ≡ None → IsPutBegun limit old name bytes wish
put-begun limit old name bytes None allowed =
    (let a = none-applies (causes limit (sight_of old) (aim_of (PutJob name bytes)) None) allowed in record {
      named = not-false (is_name name) a.1.1.0;
      short = at-most largest_file (length bytes) a.1.1.1.0;
      known = λ p e. absurd (let k : None ≡ Some p = e in cc);
      place = a.1.1.1.1.0;
      full = a.1.1.1.1.1.0;
    })
put-begun limit old name bytes (Some q) allowed =
    (let a = none-applies (causes limit (sight_of old) (aim_of (PutJob name bytes)) (Some q)) allowed in
    record {
      named = not-false (is_name name) a.1.1.0;
      short = at-most largest_file (length bytes) a.1.1.1.1.0;
      known = λ p e. (let same : q ≡ p = same_value (Some q) q p refl e in
          ((omega (arith, below all_profiles q a.1.1.1.0, same)), a.1.1.1.1.1.0));
      place = a.1.1.1.1.1.1.0;
      full = a.1.1.1.1.1.1.1.0;
    })

module _ (limit : ℕ) (old : State) (kind : Kind) (wish : Option ℕ)
    (allowed : refusal_of_begin limit old kind wish ≡ None) where
  none-of : (kd : Kind) → kind ≡ kd →
      Each (λ (c : Cause). c.applies ≡ false) (causes limit (sight_of old) (aim_of kd) wish)
  none-of kd e = none-applies (causes limit (sight_of old) (aim_of kd) wish)
      (ap (λ k. refusal_of_begin limit old k wish) (sym e) ∙ allowed)

  begun-put : (name bytes : List ℕ) → kind ≡ PutJob name bytes → IsPutBegun limit old name bytes wish
  begun-put name bytes e =
      put-begun limit old name bytes wish (ap (λ k. refusal_of_begin limit old k wish) (sym e) ∙ allowed)

  begun-unbarred : old.is_barred ≡ false
  begun-unbarred = (none-of kind refl).0

  begun-wish : (kd : Kind) → kind ≡ kd → IsWish kd
  begun-wish (PutJob name bytes) e = (let p = begun-put name bytes e in (p.named, p.short))
  begun-wish (GetJob name) e = not-false (is_name name) (none-of (GetJob name) e).1.1.0
  begun-wish (DropJob name) e = not-false (is_name name) (none-of (DropJob name) e).1.1.0
  begun-wish kd e = tt

  begun-found : (name : List ℕ) → kind ≡ GetJob name → is_some (file_in old name) ≡ true
  begun-found name e = sym (stored-file old name)
      ∙ not-false (is_stored (sight_of old) name) (none-of (GetJob name) e).1.1.1.0

  begun-clear : are_jobs_in_the_way limit (aims_of old.jobs) (aim_of kind) ≡ false
  begun-clear = right_false (is_shut (sight_of old))
      (are_jobs_in_the_way limit (aims_of old.jobs) (aim_of kind)) (not_busy limit old kind wish allowed)

  -- an upgrade begins where no job runs
  begun-lone : kind ≡ UpgradeJob → old.jobs ≡ []
  begun-lone e = none old.jobs (ap (λ kd. are_jobs_in_the_way limit (aims_of old.jobs) (aim_of kd)) (sym e)
      ∙ begun-clear)
    where
      none : (js : List Job) → nat_lt 0 (length (aims_of js)) ≡ false → js ≡ []
      none [] h = refl
      none (j ∷ js) h = absurd (omega (arith, at-most 0 (length (aims_of (j ∷ js))) h))

  -- and nothing begins beside it
  begun-unshut : (k : ℕ) (j : Job) → job_of old.jobs k ≡ Some j → IsTrue (is_upgrade (aim_of j.kind)) → ⊥
  begun-unshut k j runs u = false≢true (sym (any_aim is_upgrade old.jobs k j runs
      (right_false (is_some old.alone) (list_any is_upgrade (aims_of old.jobs))
      (left_false (is_shut (sight_of old)) (are_jobs_in_the_way limit (aims_of old.jobs) (aim_of kind))
      (not_busy limit old kind wish allowed)))) ∙ u)

  begun-few : 1 ≤ limit → length old.jobs < limit
  begun-few least = omega (arith, by_kind kind refl begun-clear, length-aims old.jobs)
    where
      by_kind : (kd : Kind) → kind ≡ kd → are_jobs_in_the_way limit (aims_of old.jobs) (aim_of kd) ≡ false →
          length (aims_of old.jobs) < limit
      by_kind AuditJob e h =
          below limit (length (aims_of old.jobs)) (left_false (nat_le limit (length (aims_of old.jobs))) _ h)
      by_kind RepairJob e h =
          below limit (length (aims_of old.jobs)) (left_false (nat_le limit (length (aims_of old.jobs))) _ h)
      by_kind UpgradeJob e h = omega (arith, ap length (begun-lone e), length-aims old.jobs, least)
      by_kind kd e h = below limit (length (aims_of old.jobs)) h

  begun-full : is_full (sight_of old) (aim_of kind) ≡ false
  begun-full = by_kind kind refl
    where
      by_kind : (kd : Kind) → kind ≡ kd → is_full (sight_of old) (aim_of kind) ≡ false
      by_kind (PutJob name bytes) e =
          ap (λ k. is_full (sight_of old) (aim_of k)) e ∙ (begun-put name bytes e).full
      by_kind (GetJob name) e = ap (λ k. is_full (sight_of old) (aim_of k)) e ∙ refl
      by_kind (DropJob name) e =
          ap (λ k. is_full (sight_of old) (aim_of k)) e ∙ (none-of (DropJob name) e).1.1.1.1.0
      by_kind kd e = ap (λ k. is_full (sight_of old) (aim_of k)) e ∙ (none-of kd e).1.1.1.0

  -- numbers are left for a put and for an audit
  begun-id : (name bytes : List ℕ) → kind ≡ PutJob name bytes → next_id old.records ≤ 2 ^ 64 - 32
  begun-id name bytes e = at-most (2 ^ 64 - 32) (next_id old.records)
      (right_false (is_too_full (sight_of old) (aim_of (PutJob name bytes)))
      (are_numbers_used_up (sight_of old) (aim_of (PutJob name bytes)))
      (ap (λ k. is_full (sight_of old) (aim_of k)) (sym e) ∙ begun-full))

  begun-audit : kind ≡ AuditJob → next_audit old.records ≤ 2 ^ 64 - 32
  begun-audit e = at-most (2 ^ 64 - 32) (next_audit old.records)
      (right_false (is_too_full (sight_of old) (aim_of AuditJob))
      (are_numbers_used_up (sight_of old) (aim_of AuditJob))
      (ap (λ k. is_full (sight_of old) (aim_of k)) (sym e) ∙ begun-full))

  begun-due : kind ≡ AuditJob → due_of old.records ≡ None
  begun-due e = none (due_of old.records) (none-of AuditJob e).1.1.0
    where
      none : (o : Option Due) → is_some o ≡ false → o ≡ None
      none None h = refl
      none (Some d) h = absurd (false≢true (sym h))

  -- a repair begins only where one is due
  pub begun-repair : kind ≡ RepairJob → is_some (due_of old.records) ≡ true
  begun-repair e = not-false (is_some (due_of old.records)) (none-of RepairJob e).1.1.0

  begun-first : kind ≡ UpgradeJob → (version_of old.records == 2) ≡ false
  begun-first e = (none-of UpgradeJob e).1.1.0

  -- the journal has room for all its records
  abbrev sizes_all : Kind → ℕ
  sizes_all kd = sum (append_sizes (version_of old.records) (setup_in old) (aim_of kd))

  abbrev room_now : ℕ
  room_now = room_used old

  begun-room : room_now + sizes_all kind ≤ largest_journal ⊎ (sizes_all kind ≡ 0)
  begun-room = by_kind kind begun-full
    where
      enough : (kd : Kind) →
          (is_too_full (sight_of old) (aim_of kd) || are_numbers_used_up (sight_of old) (aim_of kd)) ≡ false →
          room_now + sizes_all kd ≤ largest_journal
      enough kd h = at-most largest_journal (room_now + sizes_all kd)
          (left_false (is_too_full (sight_of old) (aim_of kd))
          (are_numbers_used_up (sight_of old) (aim_of kd)) h)

      by_kind : (kd : Kind) → is_full (sight_of old) (aim_of kd) ≡ false →
          room_now + sizes_all kd ≤ largest_journal ⊎ (sizes_all kd ≡ 0)
      by_kind (GetJob name) h = inr refl
      by_kind kd h = inl (enough kd h)

  -- its name finds a place
  begun-name : (name bytes : List ℕ) → kind ≡ PutJob name bytes →
      (is_name_among (names_taken (sight_of old)) name ≡ true) ⊎
      (length (names_taken (sight_of old)) + 1 ≤ most_files)
  begun-name name bytes e = crowd (is_name_among (names_taken (sight_of old)) name)
      (length (names_taken (sight_of old))) (begun-put name bytes e).place
    where
      crowd : (there : Bool) (n : ℕ) → (nat_le most_files n && not there) ≡ false →
          (there ≡ true) ⊎ (n + 1 ≤ most_files)
      crowd true n h = inl refl
      crowd false n h = inr (grind (arith, nat_tests, h))

-- each job has at most one number to draw
starts-few : (js : List Job) → sum_by starts_left js ≤ length js
starts-few [] = omega arith
starts-few (j ∷ js) = omega (arith, sum_by-cons starts_left j js, starts-few js, one j)
  where
    one : (j : Job) → starts_left j ≤ 1
    one j = elim (cases_lt j.place 4) [
      | inl l ↦ by j.kind refl l
      | inr l ↦ omega (arith, starts-later j l)
    ]
      where
        by : (kd : Kind) → j.kind ≡ kd → j.place < 4 → starts_left j ≤ 1
        by (PutJob name bytes) e l = omega (arith, starts-first j name bytes e l)
        by kd e l = (let z : starts_left j ≡ 0 = rw e refl in omega (arith, z))

module _ (limit moment : ℕ) (old : State) (S : IsSound limit old) (kind : Kind) (wish : Option ℕ)
    (by_put : (p : ℕ) → wish ≡ Some p → (name : List ℕ) × (bytes : List ℕ) × (kind ≡ PutJob name bytes))
    (opened : old.is_open ≡ true) (allowed : refusal_of_begin limit old kind wish ≡ None)
    (spelled : IsSpelledKind kind) where
  abbrev added : Job
  added = beginning old moment kind wish

  -- only a put names a profile, which is known, and which the journal can hold
  named : (p : ℕ) → wish ≡ Some p → (p < all_profiles) × ((version_of old.records == 1) ≡ false)
  named p e = (let b = by_put p e in (begun-put limit old kind wish allowed b.0 b.1 b.2).known p e)

  -- no append in flight is that of a job to come
  none-made : moves_made old.append old.next_job ≡ 0
  none-made = elim (cases_eq (moves_made old.append old.next_job) 0) [
    | inl e ↦ e
    | inr n ↦ absurd (let m = made-some old.append old.next_job (omega arith) in
        let A = S.append m.0 m.1 in
        omega (arith, numbered-below 0 old.jobs old.next_job m.0.job A.job S.numbered A.runs, m.2))
  ]

  added-ready : (kd : Kind) → kind ≡ kd → IsReady (setup_in old) old.records old.bytes added kd
  added-ready (PutJob name bytes) e = λ l. absurd (omega (arith, l))
  added-ready (GetJob name) e = λ k. tt
  added-ready (DropJob name) e = tt
  added-ready AuditJob e = (λ l. begun-due limit old kind wish allowed e, λ l k. absurd (omega (arith, l)))
  added-ready RepairJob e =
      λ k. (let d = is_some-at (due_of old.records) (begun-repair limit old kind wish allowed e) in
      cond_true (is_due added.subject (due_of old.records)) _ _
      (ap (λ kd. is_due (subject_at_begin old kd) (due_of old.records)) e
      ∙ (ap (λ o. is_due (due_number o) o) d.1 ∙ eq-eqb d.0.number d.0.number refl)))
  added-ready UpgradeJob e =
      λ k. cond_false (version_of old.records == 2) _ _ (begun-first limit old kind wish allowed e)

  -- so it does in the journal
  added-journal : (kd : Kind) → IsReady (setup_in old) old.records old.bytes added kd →
      IsReady (setup_in old) old.journal old.bytes added kd
  added-journal (PutJob name bytes) r = λ l. absurd (omega (arith, l))
  added-journal (GetJob name) r = λ k. tt
  added-journal (DropJob name) r = tt
  added-journal AuditJob r = (λ l. S.journal.alike.due ∙ r.0 l, λ l k. absurd (omega (arith, l)))
  added-journal RepairJob r =
      λ k. ap (λ d. cond (is_due added.subject d) None (Some NoRepair)) S.journal.alike.due ∙ r k
  added-journal UpgradeJob r =
      λ k. ap (λ v. cond (v == 2) (Some NewVersion) None) S.journal.alike.version ∙ r k

  subject-small : (kd : Kind) → subject_at_begin old kd < 2 ^ 64
  subject-small RepairJob = due (due_of old.records) refl
    where
      due : (o : Option Due) → due_of old.records ≡ o → due_number o < 2 ^ 64
      due None e = omega arith
      due (Some d) e = due-number d (due-spelled old.records d S.spelled e)
  subject-small kd = omega arith

  added-order : IsInOrder 0 (actions_left (setup_in old) added)
  added-order = in_order (setup_in old) added

  added-profile : (o : Option ℕ) → wish ≡ o → chosen (setup_in old) o < all_profiles
  added-profile None e = setup-fits (setup_in old) (setup-valid limit old S opened)
  added-profile (Some p) e = (named p e).0

  added-own : version_of old.records ≡ 1 → (o : Option ℕ) → wish ≡ o →
      chosen (setup_in old) o ≡ (setup_in old).profile
  added-own first None e = refl
  added-own first (Some p) e =
      absurd (false≢true (sym (named p e).1 ∙ eq-eqb (version_of old.records) 1 first))

  added-job : IsSoundJob (setup_in old) old.records old.bytes 0 added
  added-job = record {
    spelled = spelled;
    wish = begun-wish limit old kind wish allowed kind refl;
    pins = has-pins old kind (begun-found limit old kind wish allowed);
    few = pins-few old S.accepted S.spelled S.files kind;
    ascending = pins-ascend old S.accepted S.spelled S.files kind;
    pinned = λ f i. pins-stored old S.accepted S.spelled S.files kind f i;
    subject = subject-small kind;
    older = inl refl;
    undecided = λ k. refl;
    order = added-order;
    ready = added-ready kind refl;
    profile = added-profile wish refl;
    plain = λ first. record {
      own = added-own first wish refl;
      pinned = λ f i. pins-plain old S.accepted S.spelled S.files first kind f i
          ∙ ap profile_in (set_up-in limit old S opened);
    };
  }

  -- a job needs no more room than all its records
  added-reserved : reserved (version_of old.records) (setup_in old) added ≤ sum
      (append_sizes (version_of old.records) (setup_in old) (aim_of kind))
  added-reserved = (let a = sum_by-take-drop (λ (x : ℕ). x)
      (append_sizes (version_of old.records) (setup_in old) (aim_of kind))
      (length (append_sizes (version_of old.records) (setup_in old) (aim_of kind)) - appends_left
      (setup_in old) added) in omega (arith, a))

  added-room : journal_end old + sum_by (reserved (version_of old.records) (setup_in old))
      (old.jobs ++ added ∷ []) ≤ largest_journal
  added-room = (let a = sum-more (reserved (version_of old.records) (setup_in old)) old.jobs added in
      let b = added-reserved in elim (begun-room limit old kind wish allowed) [
        | inl l ↦ omega (arith, a, b, l)
        | inr z ↦ omega (arith, a, b, z, S.room)
      ])

  put-more : (n : List ℕ) → are_put n (old.jobs ++ added ∷ [])
      ≡ (are_put n old.jobs || (puts_name n (aim_of kind) || false))
  put-more n = list_any-append (λ (j : Job). puts_name n (aim_of j.kind)) old.jobs (added ∷ [])

  added-names : length (taken_by old.records (old.jobs ++ added ∷ [])) ≤ most_files
  added-names = by_kind kind refl
    where
      plain : ((n : List ℕ) → puts_name n (aim_of kind) ≡ false) →
          length (taken_by old.records (old.jobs ++ added ∷ [])) ≤ most_files
      plain h = (let f = taken-fewer old.records old.records old.jobs (old.jobs ++ added ∷ [])
          (λ n g. ap (λ b. b || is_some (file_of old.records n))
          (sym (put-more n ∙ (ap (λ b. are_put n old.jobs || (b || false)) (h n)
          ∙ or-none (are_put n old.jobs)))) ∙ g) in
          let b = S.names in omega arith)
        where
          or-none : (a : Bool) → (a || false) ≡ a
          or-none true = refl
          or-none false = refl

      by_kind : (kd : Kind) → kind ≡ kd → length (taken_by old.records (old.jobs ++ added ∷ [])) ≤ most_files
      by_kind (PutJob name bytes) e = elim (begun-name limit old kind wish allowed name bytes e) [
        | inl there ↦ (let f = fewer (taken_by old.records (old.jobs ++ added ∷ []))
            (names_taken (sight_of old)) (once-taken old.records (old.jobs ++ added ∷ []))
            (λ n g. among n there (more n g)) in
            let b = S.names in omega arith)
        | inr room ↦ (let f = fewer (taken_by old.records (old.jobs ++ added ∷ []))
            (name ∷ names_taken (sight_of old)) (once-taken old.records (old.jobs ++ added ∷ []))
            (λ n g. with-name n (more n g)) in
            omega arith)
      ]
        where
          split : (a b c : Bool) → ((a || (b || false)) || c) ≡ true → (b ≡ true) ⊎ ((a || c) ≡ true)
          split a true c h = inl refl
          split true false c h = inr refl
          split false false c h = inr h

          more : (n : List ℕ) → is_name_among (taken_by old.records (old.jobs ++ added ∷ [])) n ≡ true →
              (is_same_name n name ≡ true) ⊎ (is_name_among (names_taken (sight_of old)) n ≡ true)
          more n g = (let h = sym (listed-taken old.records (old.jobs ++ added ∷ []) n
              ∙ ap (λ b. b || is_some (file_of old.records n))
              (put-more n ∙ ap (λ kd. are_put n old.jobs || (puts_name n (aim_of kd) || false)) e)) ∙ g in
              elim (split (are_put n old.jobs) (is_same_name n name) (is_some (file_of old.records n)) h) [
                | inl same ↦ inl same
                | inr was ↦ inr (listed-taken old.records old.jobs n ∙ was)
              ])

          among : (n : List ℕ) → is_name_among (names_taken (sight_of old)) name ≡ true →
              (is_same_name n name ≡ true) ⊎ (is_name_among (names_taken (sight_of old)) n ≡ true) →
              is_name_among (names_taken (sight_of old)) n ≡ true
          among n there (inl same) = rw (← (same-eq n name same)) at there
          among n there (inr was) = was

          with-name : (n : List ℕ) → (is_same_name n name ≡ true) ⊎
              (is_name_among (names_taken (sight_of old)) n ≡ true) →
              (is_same_name n name || is_name_among (names_taken (sight_of old)) n) ≡ true
          with-name n (inl same) = ap (λ b. b || is_name_among (names_taken (sight_of old)) n) same
          with-name n (inr was) = ap (λ b. is_same_name n name || b) was ∙ or-true (is_same_name n name)
            where
              or-true : (a : Bool) → (a || true) ≡ true
              or-true true = refl
              or-true false = refl
      by_kind kd e = plain (λ n. ap (λ k. puts_name n (aim_of k)) e)

  -- numbers are left
  added-ids : IsLimit limit → 0 < sum_by starts_left (old.jobs ++ added ∷ []) →
      next_id old.records + sum_by starts_left (old.jobs ++ added ∷ []) ≤ 2 ^ 64 - 1
  added-ids fits l = by_kind kind refl
    where
      none : starts_left added ≡ 0 →
          next_id old.records + sum_by starts_left (old.jobs ++ added ∷ []) ≤ 2 ^ 64 - 1
      none z = (let a = sum-more starts_left old.jobs added in
          omega (arith, a, z, S.ids (omega (arith, l, a, z))))

      by_kind : (kd : Kind) → kind ≡ kd →
          next_id old.records + sum_by starts_left (old.jobs ++ added ∷ []) ≤ 2 ^ 64 - 1
      by_kind (PutJob name bytes) e = (let i = begun-id limit old kind wish allowed name bytes e in let n =
          length-append old.jobs (added ∷ []) in let b = begun-few limit old kind wish allowed fits.0 in
          omega (arith, i, starts-few (old.jobs ++ added ∷ []), n, b, fits.1))
      by_kind kd e = none (rw e refl)

  -- the state after the begin
  abbrev pub begun_state : State
  begun_state = record old { jobs = old.jobs ++ added ∷ []; next_job = old.next_job + 1 }

  upgrade-is : (k : Kind) → IsTrue (is_upgrade (aim_of k)) → k ≡ UpgradeJob
  upgrade-is UpgradeJob u = refl
  upgrade-is k u = absurd (false≢true u)

  no-puts : (k : Kind) → IsPutUnderWay added k → ⊥
  no-puts (PutJob name bytes) l = omega (arith, l)
  no-puts k l = l

  -- a sound state stays sound when a job begins
  pub begun-job : IsLimit limit → IsSound limit begun_state
  unfolding setup_in
  begun-job fits = record {
    accepted = S.accepted;
    spelled = S.spelled;
    journal = journal-same old begun_state refl refl refl S.journal;
    room = added-room;
    files = S.files;
    names = added-names;
    ids = added-ids fits;
    audits = λ k j h is_audit l. elim (found_more old.jobs added k j h) [
      | inl p ↦ begun-audit limit old kind wish allowed (sym (ap (λ z. z.kind) p.1) ∙ is_audit)
      | inr q ↦ S.audits k j q is_audit l
    ];
    closed = λ c. absurd (false≢true (sym c ∙ opened));
    set_up = S.set_up;
    handed = S.handed;
    few = omega (arith, length-append old.jobs (added ∷ []), begun-few limit old kind wish allowed fits.0);
    numbered = numbered-more 0 old.jobs old.next_job added refl S.numbered;
    jobs = λ k j h. elim (found_more old.jobs added k j h) [
      | inl p ↦ subst (λ z. IsSoundJob (setup_in old) old.records old.bytes (moves_made old.append k) z)
          (sym p.1) (subst (λ m. IsSoundJob (setup_in old) old.records old.bytes m added)
          (sym (ap (moves_made old.append) p.0 ∙ none-made)) added-job)
      | inr q ↦ S.jobs k j q
    ];
    in_journal = λ k j h. elim (found_more old.jobs added k j h) [
      | inl p ↦ subst (λ z. IsReady (setup_in old) old.journal old.bytes z z.kind) (sym p.1)
          (added-journal kind (added-ready kind refl))
      | inr q ↦ S.in_journal k j q
    ];
    lone = λ x e. absurd (some-not-none old.alone x e (none_lone limit old kind wish allowed));
    packing = S.packing;
    switching = λ e. absurd
        (let p = (S.switching e).packing opened (begun-unbarred limit old kind wish allowed) in
        some-not-none old.alone (Packing p.0) p.1 (none_lone limit old kind wish allowed));
    upgrade = λ k j h u. elim (found_more old.jobs added k j h) [
      | inl p ↦ ap (λ js. js ++ added ∷ []) (begun-lone limit old kind wish allowed
          (upgrade-is kind (subst (λ z. IsTrue (is_upgrade (aim_of z.kind))) p.1 u)))
          ∙ ap (λ x. x ∷ []) (sym p.1)
      | inr q ↦ absurd (begun-unshut limit old kind wish allowed k j q u)
    ];
    one_check = λ k l i j hi hj ci cj. elim (found_more old.jobs added k i hi) [
      | inl p ↦ elim (found_more old.jobs added l j hj) [
        | inl q ↦ p.0 ∙ sym q.0
        | inr q ↦ absurd (false≢true (sym (check_alone limit old kind wish allowed
            (subst (λ z. IsTrue (is_check (aim_of z.kind))) p.1 ci) l j q) ∙ cj))
      ]
      | inr p ↦ elim (found_more old.jobs added l j hj) [
        | inl q ↦ absurd (false≢true (sym (check_alone limit old kind wish allowed
            (subst (λ z. IsTrue (is_check (aim_of z.kind))) q.1 cj) k i p) ∙ ci))
        | inr q ↦ S.one_check k l i j p q ci cj
      ]
    ];
    apart = λ k l i j hi hj ui uj same. elim (found_more old.jobs added k i hi) [
      | inl p ↦ absurd (no-puts kind (subst (λ z. IsPutUnderWay z z.kind) p.1 ui))
      | inr p ↦ elim (found_more old.jobs added l j hj) [
        | inl q ↦ absurd (no-puts kind (subst (λ z. IsPutUnderWay z z.kind) q.1 uj))
        | inr q ↦ S.apart k l i j p q ui uj same
      ]
    ];
    append = λ a h. (let A = S.append a h in record {
      job = A.job;
      runs = still_found old.jobs added a.job A.job A.runs;
      begun = A.begun;
      undone = A.undone;
      writes = A.writes;
      drawn = A.drawn;
      bytes = A.bytes;
      follows = A.follows;
    });
    barred = S.barred;
    undoubted = S.undoubted;
    doubt = S.doubt;
  }
