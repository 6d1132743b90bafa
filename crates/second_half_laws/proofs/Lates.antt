-- Behind its asks an audit hears nothing more: its verdict is the same at each later moment.
use Rattle.second_half_laws.proofs.Words.{ap, sym, ◌∙◌, arith, Setup, setup_of, AuditJob, Job, job_of, Action, ask_actions, State, IsStart, setup_in, next_action, Moment, now, IsRun, NoneBegan, same_value, Gave, Job_is, changes, all, objects, next_is_by, first_above, drawn_later, setup_same}
use Rattle.std.proofs.Common.{◌≡◌, ℕ, ◌+◌, ◌≤◌, List, [], ◌∷◌, ◌++◌, length, Some}
use Rattle.machine_defs.proofs.Began.{Came, came_all}
use Rattle.machine_defs.proofs.Numbers as num
use Rattle.second_half_laws.proofs.Places.{of_kind, audit_mute, IsMute}
use Rattle.second_half_laws.proofs.Doubts.{setups_stay}

-- a later state of an audit that hears nothing more
pub record Later (j x : Job) : Type 0 where
  pub given : x.given ≡ j.given
  pub pinned : x.pinned ≡ j.pinned
  pub subject : x.subject ≡ j.subject
  pub kind : x.kind ≡ j.kind
  pub place : j.place ≤ x.place

-- what a mute action gave
mute_gave : (old : State) (before : Job) (action : Action) (job : Job) → IsMute action →
    Gave old before action job → job.given ≡ before.given
mute_gave old before action job mute (Gave.nothing quiet e) = e
mute_gave old before action job mute (Gave.fetched i o s block is e) = absurd (rw is at mute)
mute_gave old before action job mute (Gave.answered i o r symbol is e) = absurd (rw is at mute)
mute_gave old before action job mute (Gave.worked o s symbols is gives e) = absurd (rw is at mute)

module _ (limit : ℕ) (start : State) (clean : IsStart start) (ms : List Moment) (s : Setup)
    (up : setup_of (now start ms).records ≡ Some s) (k : ℕ) (j : Job)
    (runs : job_of (now start ms).jobs k ≡ Some j) (kind : j.kind ≡ AuditJob)
    (late : 4 + length (ask_actions (setup_in (now start ms)) j) ≤ j.place) where
  -- the state after these moments
  abbrev here : State
  here = now start ms

  setup_later : (l : List Moment) → IsRun limit start (l ++ ms) → setup_in (now start (l ++ ms)) ≡ setup_in
      here
  setup_later l run = setup_same (now start (l ++ ms)) here (setups_stay limit start l ms s clean run up
      ∙ sym up)

  -- the next action of a later state is mute
  next_mute : (l : List Moment) → IsRun limit start (l ++ ms) → (x : Job) (action : Action) → Later j x →
      next_action (now start (l ++ ms)) x ≡ Some action → IsMute action
  next_mute l run x action L next_is = (let w = now start (l ++ ms) in
      let x_kind = L.kind ∙ kind in
      let asks =
      asks_same (setup_in w) (setup_in here) x j (setup_later l run) L.pinned in let place = L.place in
      audit_mute (setup_in w) x x.place action x_kind (of_kind (setup_in w) x AuditJob x.place action x_kind
      (cc (next_is_by w x))) (omega arith))
    where
      asks_same : (t u : Setup) (x y : Job) → t ≡ u → x.pinned ≡ y.pinned →
          length (ask_actions t x) ≡ length (ask_actions u y)
      asks_same t u x y setup pinned = ap (λ z. length (ask_actions z x)) setup
          ∙ ap (λ fs. length (ask_actions u (record x { pinned = fs }))) pinned

  -- at each later moment at which it runs it is such
  pub same_late : (l : List Moment) → IsRun limit start (l ++ ms) → NoneBegan k l → (x : Job) →
      job_of (now start (l ++ ms)).jobs k ≡ Some x → Later j x
  same_late [] run none x h = (let e = same_value (job_of here.jobs k) x j h runs in record {
    given = cc;
    pinned = cc;
    subject = cc;
    kind = cc;
    place = (let p = ap (λ (y : Job). y.place) e in omega arith);
  })
  same_late (m ∷ l) run none x h =
      elim (came_all (now start (l ++ ms)) limit (length (l ++ ms)) m.event m.outcome m.state run.1 k x h) [
        | Came.fresh event outcome begun ↦ absurd (none.0 outcome)
        | Came.had y numbered ↦ by_change (same_late l run.2 none.1) y.job y.runs
            ((changes limit (length (l ++ ms)) (now start (l ++ ms)) m.event m.outcome m.state
            (all limit start clean (l ++ ms) run.2).numbers.idle run.1).job k x h)
      ]
    where
      by_change : ((z : Job) → job_of (now start (l ++ ms)).jobs k ≡ Some z → Later j z) → (y : Job) → job_of (now start (l ++ ms)).jobs k ≡ Some y →
          Job_is limit (length (l ++ ms)) (now start (l ++ ms)) m.state k x → Later j x
      by_change so y at (Job_is.kept r g) = so x r
      by_change so y at (Job_is.begun kd profile is k_is allowed rec) =
          absurd (let b = (num.facts objects limit start clean (l ++ ms) run.2).jobs_below k y at in omega arith)
      by_change so y at (Job_is.plain before action was next_is is_plain goes rec stores_it) =
          (let L = so before was in
          let mute = next_mute l run.2 before action L next_is in record {
            given = mute_gave (now start (l ++ ms)) before action x mute goes.gave ∙ L.given;
            pinned = goes.pinned ∙ L.pinned;
            subject = cc;
            kind = goes.kind ∙ L.kind;
            place = (let p = goes.place in let q = L.place in omega arith);
          })
      by_change so y at (Job_is.drew before was next_is none_ is rec) = (let L = so before was in
          let p = L.place in record {
            given = cc;
            pinned = cc;
            subject = cc (drawn_later (now start (l ++ ms)) before before.kind (first_above before
                (omega arith)));
            kind = cc;
            place = (let q = ap (λ (z : Job). z.place) is in omega arith);
          })
      by_change so y at (Job_is.finished before a was next_is flies mine is rec landed) =
          (let L = so before was in
          let p = L.place in record {
            given = cc;
            pinned = cc;
            subject = cc;
            kind = cc;
            place = (let q = ap (λ (z : Job). z.place) is in omega arith);
          })
