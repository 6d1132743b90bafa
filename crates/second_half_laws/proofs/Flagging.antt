-- Where the one audit of a run flags who was damaged, it missed nobody.
use Rattle.second_half_laws.proofs.Words.{◌⊎◌, true, refl, ap, sym, subst, ◌∙◌, inl, inr, is_some, nat_le, cases_Bool, false≢true, In, some-not-none, is_flagged, Record, Setup, SetUp, AuditDone, File, setup_of, Kind, AuditJob, Job, job_of, WriteGate, End, Audited, Begin, Step, Begun, Ended, HasSums, State, Append, Doubt, IsStart, setup_in, file_in, Ends, next_action, Moment, now, first_moments, came, IsRun, Misses, MissesNone, NoneMissed, is_wrong_now, AllTell, NoneBegan, NoneBeganFor, NoneRuns, DamagesOnly, found_none, event_end, next_stands, audits, setup_same, among_all, run_back, none_ran, none_on, none_left, only_its, ended_of_kind, valid_shape, shape_in}
use Rattle.std.proofs.Common.{◌≡◌, ℕ, ◌≤◌, ◌<◌, List, [], ◌∷◌, ◌++◌, length, Option, Some, None, append_assoc}
use Rattle.machine_defs.proofs.Survive.{came_none, came_one}
use Rattle.machine_defs.proofs.Numbers as num
use Rattle.run_laws.proofs.InEffect as eff
use Rattle.run_laws.proofs.Sums.{sums-one}
use Rattle.second_half_laws.specs.Flagging.{IsAudit, FindsAll}
use Rattle.second_half_laws.proofs.Turns.{Doubt_now}
use Rattle.second_half_laws.proofs.Places.{audit_late}
use Rattle.second_half_laws.proofs.Finals.{sums_same}
use Rattle.second_half_laws.proofs.Wholes.{audit_running}
use Rattle.second_half_laws.proofs.EveryRun as ev
use Rattle.second_half_laws.proofs.EveryRun.{always, around}
use Rattle.second_half_laws.proofs.InRuns.{in_run, clears_all}
use Rattle.second_half_laws.proofs.Doubts.{setups_stay}
use Rattle.second_half_laws.proofs.FewDamaged.{few_marked}
use Rattle.second_half_laws.proofs.Lates.{same_late}

-- counts that flag each of these providers
abbrev Flags : ℕ → List ℕ → List ℕ → Type 0
Flags tolerance ps counts = (j : ℕ) → In j ps → is_flagged tolerance counts j ≡ true

-- the end of an audit that is in doubt has such counts
abbrev FlagsNow : ℕ → List ℕ → State → Type 0
FlagsNow tolerance ps w = (d : Doubt) (n u : ℕ) (c : List ℕ) → w.doubt ≡ Some d → d.entry ≡ AuditDone n u c →
    Flags tolerance ps c

-- so it is at each moment
abbrev FlagsEver : ℕ → List ℕ → State → List Moment → Type 0
FlagsEver tolerance ps start [] = FlagsNow tolerance ps start
FlagsEver tolerance ps start (m ∷ ms) = FlagsNow tolerance ps m.state × FlagsEver tolerance ps start ms

flags_now : (tolerance : ℕ) (ps : List ℕ) (start : State) (ms : List Moment) →
    FlagsEver tolerance ps start ms → FlagsNow tolerance ps (now start ms)
flags_now tolerance ps start [] h = h
flags_now tolerance ps start (m ∷ ms) h = h.0

is_audit : (kind : Kind) → kind ≡ AuditJob → IsAudit kind
is_audit kind is = cc

up_some : (o : Option Setup) → is_some o ≡ true → (s : Setup) × (o ≡ Some s)
up_some None h = absurd (false≢true h)
up_some (Some s) h = (s, refl)

-- a setup is in effect where a job runs
up_where_runs : (limit : ℕ) (start : State) → IsStart start → (ms : List Moment) → IsRun limit start ms →
    (k : ℕ) (j : Job) → job_of (now start ms).jobs k ≡ Some j →
    (s : Setup) × (setup_of (now start ms).records ≡ Some s)
up_where_runs limit start clean ms run k j runs = elim (cases_Bool (now start ms).is_open) [
  | inl t ↦ up_some _ ((eff.facts limit start ms clean run).opened t)
  | inr f ↦ absurd (found_none (now start ms).jobs k j
      ((num.facts audits limit start clean ms run).idle.idle f).0 runs)
]

-- a record that ends an audit and comes into effect was in doubt
came_doubt : (limit : ℕ) (start : State) (m : Moment) (ms : List Moment) → IsStart start →
    IsRun limit start (m ∷ ms) → (n u : ℕ) (c : List ℕ) →
    came (now start ms) m.state ≡ Some (AuditDone n u c) →
    (d : Doubt) × ((now start ms).doubt ≡ Some d) × (d.entry ≡ AuditDone n u c)
came_doubt limit start m ms clean run n u c is = (
    elim (ev.effect (around limit start m ms clean run)) [
      | ev.Effect_is.nothing rec ↦ absurd (came_none (now start ms) m.state (AuditDone n u c) is rec)
      | ev.Effect_is.entered d at rec ↦ (
        d,
        at,
        came_one (now start ms) m.state (AuditDone n u c) d.entry (now start ms).records is rec,
      )
      | ev.Effect_is.set_up s rs rec none more ↦ absurd (cc (came_one (now start ms) m.state (AuditDone n u c)
          (SetUp s) rs is rec))
    ])

-- the audit whose last record comes into doubt by an event
record Gates (start : State) (ms : List Moment) (n u : ℕ) (c : List ℕ) : Type 0 where
  pub job : Job
  pub append : Append
  pub runs : job_of (now start ms).jobs job.number ≡ Some job
  pub next : next_action (now start ms) job ≡ Some WriteGate
  pub flies : (now start ms).append ≡ Some append
  pub mine : append.job ≡ job.number
  pub entry : append.entry ≡ AuditDone n u c
  pub kind : job.kind ≡ AuditJob

module _ (limit : ℕ) (start : State) (clean : IsStart start) (tolerance : ℕ) (ps : List ℕ) where
  -- one event more
  step : (m : Moment) (ms : List Moment) → IsRun limit start (m ∷ ms) → FlagsEver tolerance ps start ms →
      ((n u : ℕ) (c : List ℕ) → Gates start ms n u c → Flags tolerance ps c) →
      FlagsEver tolerance ps start (m ∷ ms)
  step m ms run old gates = (
    λ d n u c h e. by_turn d n u c e ((around limit start m ms clean run).turned.doubt d h),
    old,
  )
    where
      by_turn : (d : Doubt) (n u : ℕ) (c : List ℕ) → d.entry ≡ AuditDone n u c →
          Doubt_now (now start ms) m.state d → Flags tolerance ps c
      by_turn d n u c e (Doubt_now.kept was rec) = flags_now tolerance ps start ms old d n u c was e
      by_turn d n u c e (Doubt_now.gated job a runs next_is flight mine entry_is maker rec on) =
          (gates n u c (record {
            job = job;
            append = a;
            runs = runs;
            next = next_is;
            flies = flight;
            mine = mine;
            entry = sym entry_is ∙ e;
            kind = (ev.audit_gated (around limit start m ms clean run) job a n u c runs flight mine
                (sym entry_is ∙ e)).kind;
          }))
      by_turn d n u c e (Doubt_now.set_up t entry_is bare none closed) = absurd (cc (sym entry_is ∙ e))

  -- while no audit runs none comes into doubt
  quiet : (m : Moment) (ms : List Moment) → IsRun limit start (m ∷ ms) → NoneRuns IsAudit (now start ms) →
      FlagsEver tolerance ps start ms → FlagsEver tolerance ps start (m ∷ ms)
  quiet m ms run none old = step m ms run old
      (λ n u c g. absurd (none g.job.number g.job g.runs (is_audit g.job.kind g.kind)))

  before : (older : List Moment) → IsRun limit start older → NoneBeganFor IsAudit older →
      FlagsEver tolerance ps start older
  before [] run none = λ d n u c h e. absurd (some-not-none start.doubt d h clean.doubt)
  before (m ∷ ms) run none = quiet m ms run (none_ran IsAudit limit start clean ms run.2 none.1)
      (before ms run.2 none.1)

  none_part : (front part : List Moment) → NoneBeganFor IsAudit (front ++ part) → NoneBeganFor IsAudit part
  none_part [] part h = h
  none_part (x ∷ front) part h = none_part front part h.1

  none_front : (k : ℕ) (front part : List Moment) → NoneBegan k (front ++ part) → NoneBegan k front
  none_front k [] part h = tt
  none_front k (x ∷ front) part h = (h.0, none_front k front part h.1)

  -- ---- while the audit runs

  module _ (e b : Moment) (auditing older : List Moment) (k number undecided : ℕ) (counts : List ℕ)
      (run : IsRun limit start (e ∷ (auditing ++ b ∷ older))) (begin : b.event ≡ Begin AuditJob)
      (begun : b.outcome ≡ Begun k) (none_numbered : NoneBegan k auditing) (event : e.event ≡ Step k)
      (over : e.outcome ≡ Ended (Audited number undecided counts)) (none_older : NoneBeganFor IsAudit older)
      (none_beside : NoneBeganFor IsAudit auditing) (flags : Flags tolerance ps counts) where
    x : (job : Job) × (job_of (now start (auditing ++ b ∷ older)).jobs k ≡ Some job) × (job.number ≡ k) ×
        (job.kind ≡ AuditJob) × (job.begun ≡ length older)
    x = ended_of_kind limit start _ older e b _ k _ clean run (inl begin) begun none_numbered event over

    x_end : (next_action (now start (auditing ++ b ∷ older)) x.0 ≡ Some End) ×
        Ends (now start (auditing ++ b ∷ older)) x.0 x.0.kind (Audited number undecided counts)
    x_end = event_end limit _ _ _ _ _ x.0 _ (λ z. z) (event ∙ ap Step (sym x.2)) over
        (ap (job_of (now start (auditing ++ b ∷ older)).jobs) x.2 ∙ x.1) run.1

    run_b : IsRun limit start (b ∷ older)
    run_b = run_back limit start auditing (b ∷ older) run.2

    none_at : NoneRuns IsAudit (now start older)
    none_at = none_ran IsAudit limit start clean older run_b.2 none_older

    -- what comes into doubt meanwhile has the counts with which the audit ends
    meanwhile : (front part : List Moment) → auditing ≡ front ++ part → (n u : ℕ) (c : List ℕ) →
        Gates start (part ++ b ∷ older) n u c → Flags tolerance ps c
    meanwhile front part is n u c g = (let ms = part ++ b ∷ older in
        let whole : auditing ++ b ∷ older ≡ front ++ ms = cc (append_assoc front part (b ∷ older)) in
        let run_whole = subst (IsRun limit start) whole run.2 in
        let run_ms = run_back limit start front ms run_whole in
        let none = none_part front part (subst (NoneBeganFor IsAudit) is none_beside) in
        let out = only_its IsAudit limit start part older b run_ms none_at none g.job.number g.job g.runs
        (is_audit g.job.kind g.kind) in let same : g.job.number ≡ k = number_is (sym out ∙ begun) in
        let runs : job_of (now start ms).jobs k ≡ Some g.job = cc in
        let at_job = subst (λ i. job_of (now start ms).jobs i ≡ Some g.job) (sym g.mine) g.runs in
        let E = always limit start clean ms run_ms in
        let entry = E.audit_entry g.append g.job n u c g.flies at_job g.kind g.entry in
        let late = audit_late _ g.job _ _ g.kind (next_stands (now start ms) g.job WriteGate g.next (λ z. cc))
        entry.1 (λ z. z) in let I = eff.facts limit start ms clean run_ms in
        let up = up_where_runs limit start clean ms run_ms g.job.number g.job g.runs in
        let L = same_late limit start clean ms up.0 up.1 k g.job runs g.kind late front run_whole
        (none_front k front part (subst (NoneBegan k) is none_numbered)) x.0
        (subst (λ hs. job_of (now start hs).jobs k ≡ Some x.0) whole x.1) in
        let s = setup_in (now start ms) in
        let whole_setup : setup_in (now start (auditing ++ b ∷ older)) ≡ s =
        cc (setup_same (now start (front ++ ms)) (now start ms) (setups_stay limit start front ms up.0 clean
        run_whole up.1 ∙ sym up.1)) in
        let own = audit_running limit start clean ms run_ms g.append g.job g.job.number n u c g.flies g.runs
        g.mine g.entry in let mine : HasSums s x.0 (record { counts = c; undecided = u }) =
        sums_same s g.job x.0 _ (sym L.pinned) (sym L.subject) L.given own.sums in
        let its : HasSums s x.0 (record { counts = counts; undecided = undecided }) =
        subst (λ t. HasSums t x.0 (record { counts = counts; undecided = undecided })) whole_setup
        (subst (λ kd. Ends (now start (auditing ++ b ∷ older)) x.0 kd (Audited number undecided counts)) x.3
        x_end.1).1 in let one = sums-one s x.0 (shape_in (now start ms) (λ t e. valid_shape t (I.setup t e))
        (ap is_some up.1)) (record { counts = counts; undecided = undecided })
        (record { counts = c; undecided = u }) its mine in
        subst (Flags tolerance ps) (ap (λ y. y.counts) one) flags)
      where
        number_is : {i : ℕ} → Begun i ≡ Begun k → i ≡ k
        number_is e = cc

    while : (front part : List Moment) → auditing ≡ front ++ part →
        FlagsEver tolerance ps start (part ++ b ∷ older)
    while front [] is = quiet b older run_b none_at (before older run_b.2 none_older)
    while front (m ∷ part) is =
        (let is_more : auditing ≡ (front ++ m ∷ []) ++ part = is ∙ sym (append_assoc front (m ∷ []) part) in
        let run_m = run_back limit start front (m ∷ (part ++ b ∷ older)) (subst (IsRun limit start)
        (cc (append_assoc front (m ∷ part) (b ∷ older))) run.2) in
        step m (part ++ b ∷ older) run_m (while (front ++ m ∷ []) part is_more) (meanwhile (front ++ m ∷ [])
        part is_more))

    at_end : FlagsEver tolerance ps start (e ∷ (auditing ++ b ∷ older))
    at_end = step e (auditing ++ b ∷ older) run (while [] auditing refl) (meanwhile [] auditing refl)

    none_after : NoneRuns IsAudit e.state
    none_after = none_left IsAudit limit start clean auditing older e b k (Audited number undecided counts) run
        none_at none_beside begun event over

    after : (later : List Moment) → IsRun limit start (later ++ e ∷ (auditing ++ b ∷ older)) →
        NoneBeganFor IsAudit later → FlagsEver tolerance ps start (later ++ e ∷ (auditing ++ b ∷ older))
    after [] run_later none = at_end
    after (m ∷ later) run_later none = quiet m (later ++ e ∷ (auditing ++ b ∷ older)) run_later
        (none_on IsAudit limit start later (e ∷ (auditing ++ b ∷ older)) run_later.2 none_after none.1)
        (after later run_later.2 none.1)

-- ---- who was damaged is flagged

-- a list of moments is its first ones and those behind them
first_split : (k : ℕ) (ms : List Moment) → (later : List Moment) × (ms ≡ later ++ first_moments k ms)
first_split k [] = ([], refl)
first_split k (m ∷ ms) = elim (cases_Bool (nat_le (length (m ∷ ms)) k)) [
  | inl t ↦ ([], cc)
  | inr f ↦ (let p = first_split k ms in (m ∷ p.0, cc))
]

damages_back : (ps : List ℕ) (later ms : List Moment) → DamagesOnly ps (later ++ ms) → DamagesOnly ps ms
damages_back ps [] ms h = h
damages_back ps (m ∷ later) ms h = damages_back ps later ms h.1

-- where a setup is in effect, it corrects so many, and has this tolerance
abbrev Fits : ℕ → List ℕ → State → Type 0
Fits tolerance ps w =
    (setup_of w.records ≡ None) ⊎ ((length ps ≤ (setup_in w).b) × (tolerance ≡ (setup_in w).tolerance))

module _ (limit : ℕ) (start : State) (clean : IsStart start) (tell : AllTell start) (tolerance : ℕ)
    (ps : List ℕ) where
  fits_back : (later ms : List Moment) → IsRun limit start (later ++ ms) →
      Fits tolerance ps (now start (later ++ ms)) → Fits tolerance ps (now start ms)
  fits_back later ms run fits = go _ refl
    where
      go : (o : Option Setup) → setup_of (now start ms).records ≡ o → Fits tolerance ps (now start ms)
      go None is = inl is
      go (Some s) is = (let stays = setups_stay limit start later ms s clean run is in elim fits [
        | inl none ↦ absurd (cc (sym none ∙ stays))
        | inr f ↦ inr (rw (setup_same (now start (later ++ ms)) (now start ms) (stays ∙ sym is)) at f)
      ])

  -- who was wrong for a file at an earlier moment is among those that were damaged
  wrong_among : (later hs : List Moment) → IsRun limit start (later ++ hs) → DamagesOnly ps (later ++ hs) →
      Fits tolerance ps (now start (later ++ hs)) → (name : List ℕ) (file : File) (j : ℕ) →
      file_in (now start hs) name ≡ Some file → j < (setup_in (now start (later ++ hs))).n →
      is_wrong_now (now start hs) file j ≡ true →
      In j ps × (tolerance ≡ (setup_in (now start (later ++ hs))).tolerance)
  wrong_among later hs run only fits name file j in_effect l wrong =
      (let run_hs = run_back limit start later hs run in let only_hs = damages_back ps later hs only in
      let up = up_some _ ((eff.facts limit start hs clean run_hs).files name file in_effect).up in
      let setup = setup_same (now start (later ++ hs)) (now start hs) (setups_stay limit start later hs up.0
      clean run up.1 ∙ sym up.1) in elim (fits_back later hs run fits) [
        | inl none ↦ absurd (cc (sym none ∙ up.1))
        | inr f ↦ ((
          among_all ps hs 0 j only_hs (clears_all start hs 0 (in_run limit (λ moments. 0) start hs
              (few_marked limit start hs ps clean tell run_hs only_hs f.0)).moment.clear name file j in_effect
              (rw setup at l) wrong),
          cc,
        ))
      ])

  missed_none : (ms : List Moment) → IsRun limit start ms → DamagesOnly ps ms →
      Fits tolerance ps (now start ms) → (counts : List ℕ) → Flags tolerance ps counts → (begun j : ℕ) →
      Misses start ms counts begun j → ⊥
  missed_none ms run only fits counts flags begun j miss = (let p = first_split begun ms in
      let w = wrong_among p.0 (first_moments begun ms) (rw p.1 at run)
      (rw p.1 at only) (rw p.1 at fits) miss.name
      miss.file j miss.in_effect (rw p.1 at miss.provider) miss.wrong
      in let tolerance_is : tolerance ≡ (setup_in (now start ms)).tolerance = cc in
      false≢true (cc (flags j w.0)))

  misses : (m : Moment) (ms : List Moment) → IsRun limit start (m ∷ ms) → DamagesOnly ps ms →
      Fits tolerance ps (now start ms) → FlagsNow tolerance ps (now start ms) →
      MissesNone start ms m.state (came (now start ms) m.state)
  misses m ms run only fits flags = go _ refl
    where
      go : (r : Option Record) → came (now start ms) m.state ≡ r → MissesNone start ms m.state r
      go (Some (AuditDone n u c)) is = λ j miss. (let d = came_doubt limit start m ms clean run n u c is in
          missed_none ms run.2 only fits c (flags d.0 n u c d.1 d.2) (m.state.audits n) j miss)
      go _ is = tt

  none_missed : (ms : List Moment) → IsRun limit start ms → DamagesOnly ps ms →
      Fits tolerance ps (now start ms) → FlagsEver tolerance ps start ms → NoneMissed start ms
  none_missed [] run only fits flags = tt
  none_missed (m ∷ ms) run only fits flags = (let old = fits_back (m ∷ []) ms run fits in
      (misses m ms run only.1 old (flags_now tolerance ps start ms flags.1), none_missed ms run.2 only.1 old flags.1))

-- where the one audit flags who was damaged, nobody was missed
pub flagging_misses_none : (limit : ℕ) (start : State) (ms : List Moment) (ps : List ℕ) → IsStart start →
    AllTell start → IsRun limit start ms → DamagesOnly ps ms → length ps ≤ (setup_in (now start ms)).b →
    FindsAll (setup_in (now start ms)).tolerance ps ms → NoneMissed start ms
flagging_misses_none limit start ms ps clean tell run only few f =
    none_missed limit start clean tell (setup_in (now start ms)).tolerance ps ms run only (inr (few, refl))
    (rw (← f.split) at (after limit start clean (setup_in (now start ms)).tolerance ps f.end f.begin
    f.auditing f.older f.audit
    f.number f.undecided f.counts run_end f.begin_event f.begun f.none_numbered f.end_event f.ended f.none_before
    f.none_beside f.flags f.later (subst (IsRun limit start) f.split run) f.none_later))
  where
    run_end : IsRun limit start (f.end ∷ (f.auditing ++ f.begin ∷ f.older))
    run_end = run_back limit start f.later (f.end ∷ (f.auditing ++ f.begin ∷ f.older)) (rw f.split at run)

-- where no audit began, nobody was missed
pub unaudited_misses_none : (limit : ℕ) (start : State) (ms : List Moment) → IsStart start →
    IsRun limit start ms → NoneBeganFor IsAudit ms → NoneMissed start ms
unaudited_misses_none limit start [] clean run none = tt
unaudited_misses_none limit start (m ∷ ms) clean run none = (
  go (came (now start ms) m.state) refl,
  unaudited_misses_none limit start ms clean run.2 none.1,
)
  where
    go : (r : Option Record) → came (now start ms) m.state ≡ r → MissesNone start ms m.state r
    go (Some (AuditDone n u c)) is = λ j miss. (let d = came_doubt limit start m ms clean run n u c is in
        false≢true (cc ((flags_now (setup_in (now start ms)).tolerance (j ∷ []) start ms
        (before limit start clean
        (setup_in (now start ms)).tolerance (j ∷ []) ms run.2 none.1)) d.0 n u c d.1 d.2 j (inl refl))))
    go _ is = tt
