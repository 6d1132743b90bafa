-- A drop that ended well takes its name out.
use Rattle.effect_laws.proofs.Words.{◌≡◌, ℕ, suc, ◌+◌, ◌<◌, ◌≤◌, ◌==◌, ◌⊎◌, Bool, true, false, List, [], ◌∷◌, ◌++◌, length, Some, None, refl, ap, sym, subst, ◌∙◌, inl, inr, arith, slice_get, is_some, cases_Bool, cases_lt, eqb-true, and_parts, some-not-none, is_some-none, Drop, file_of, same-refl, Kind, PutJob, DropJob, Job, job_of, Action, WriteBody, SyncGate, End, actions_by, append_actions, remove_actions, Dropped, Event, Begin, Step, Begun, Ended, State, Append, IsStart, setup_in, file_in, next_action, is_idle_drop, Moment, now, IsRun, IsBeginOf, NoneBegan, Touches, NoneBeganOn, NoneOn, cond_false, same_value, IsPlain, Job_is, Doubt_is, Changes, event_end, changes, next_by, next_is_by, All, all, is_begun, ended_job, only_its, none_under_way, run_back, IsLimit, run-sound, DroppedOut}
use Rattle.std.specs.Prelude.{not}
use Rattle.machine_defs.proofs.ActionLists.{split_get}
use Rattle.machine_defs.proofs.Pins.{Wrote}
use Rattle.machine_defs.proofs.Survive.{shorter}
use Rattle.effect_laws.proofs.Offers.{Fits, Allows, Brings, Offers, offers}
use Rattle.effect_laws.proofs.Allowed.{none_put, none_touched}
use Rattle.effect_laws.proofs.Origin.{none_fit}
use Rattle.effect_laws.proofs.Steady.{goes_on, steady}

-- no file stands under the name, nor will one unless a put of it begins
abbrev pub IsOut : List ℕ → State → Type 0
IsOut name w = Offers (λ bytes. ⊥) (Unit {0}) name w

-- ---- where a drop stands

-- the next action of a drop: its end where it finds no file, or one of its append, or a later one
data DropAt (w : State) (name : List ℕ) (place : ℕ) (action : Action) : Type 0 where
  idle : place ≡ 0 → file_in w name ≡ None → DropAt w name place action
  first : place < 4 → slice_get append_actions place ≡ Some action → DropAt w name place action
  after : 4 ≤ place → DropAt w name place action

drop_at : (w : State) (job : Job) (name : List ℕ) (action : Action) → job.kind ≡ DropJob name →
    next_action w job ≡ Some action → DropAt w name job.place action
drop_at w job name action kind next_is = elim (cases_Bool (is_idle_drop w job (DropJob name))) [
  | inl t ↦ (let p = and_parts (job.place == 0) (not (is_some (file_in w name))) t in
      DropAt.idle (eqb-true job.place 0 p.0)
      (is_some-none (file_in w name) (no (is_some (file_in w name)) p.1)))
  | inr f ↦ elim (split_get append_actions (remove_actions (setup_in w) job ++ End ∷ []) job.place action
      (sym (cond_false (is_idle_drop w job (DropJob name)) (Some End)
      (slice_get (actions_by (setup_in w) job (DropJob name)) job.place) f) ∙ by_kind)) [
        | inl a ↦ DropAt.first a.0 a.1
        | inr b ↦ DropAt.after b.0
      ]
]
  where
    by_kind : next_by w job (DropJob name) job.place ≡ Some action
    by_kind = ap (λ kd. next_by w job kd job.place) (sym kind) ∙ (sym (next_is_by w job) ∙ next_is)

    no : (b : Bool) → not b ≡ true → b ≡ false
    no false h = refl
    no true h = absurd (let e : false ≡ true = h in cc)

-- the fourth move of its append stands at place 3
third : (w : State) (job : Job) (name : List ℕ) (action : Action) → job.kind ≡ DropJob name →
    next_action w job ≡ Some action → job.place ≡ 3 → action ≡ SyncGate
third w job name action kind next_is place = elim (drop_at w job name action kind next_is) [
  | DropAt.idle z none ↦ absurd (omega arith)
  | DropAt.first l e ↦ (let f : Some SyncGate ≡ Some action = rw place at e in cc)
  | DropAt.after l ↦ absurd (omega arith)
]

-- its end stands behind its append, or finds no file
at_end : (w : State) (job : Job) (name : List ℕ) → job.kind ≡ DropJob name → next_action w job ≡ Some End →
    (4 ≤ job.place) ⊎ (file_in w name ≡ None)
at_end w job name kind next_is = elim (drop_at w job name End kind next_is) [
  | DropAt.idle z none ↦ inr none
  | DropAt.first l e ↦ absurd (no_end job.place e)
  | DropAt.after l ↦ inl l
]
  where
    no_end : (q : ℕ) → slice_get append_actions q ≡ Some End → ⊥
    no_end (suc (suc (suc (suc q)))) e = cc e
    no_end q e = cc e

-- ---- since its begin

-- where the only job on the name is a drop, none puts it
none_puts : (name : List ℕ) (w : State) (number : ℕ) (job : Job) → job.kind ≡ DropJob name →
    job_of w.jobs number ≡ Some job →
    ((k : ℕ) (j : Job) → job_of w.jobs k ≡ Some j → Touches name j.kind → k ≡ number) → (k : ℕ) (j : Job) →
    job_of w.jobs k ≡ Some j → Allows (λ bytes. ⊥) (Unit {0}) name j.kind
none_puts name w number job kind runs only k j at = by_kind j.kind refl
  where
    by_kind : (kd : Kind) → j.kind ≡ kd → Allows (λ bytes. ⊥) (Unit {0}) name kd
    by_kind (PutJob q bytes) is = λ same. (let mine = only k j at (subst (Touches name) (sym is) same) in
        let one : j ≡ job = same_value _ j job at (subst (λ n. job_of w.jobs n ≡ Some job) (sym mine) runs) in
        let e : PutJob q bytes ≡ DropJob name = sym is ∙ (ap (λ (z : Job). z.kind) one ∙ kind) in cc)
    by_kind (DropJob q) is = λ same. tt
    by_kind kd is = tt

-- a drop of this number that stands behind its append has taken its name out
abbrev HasDropped : List ℕ → ℕ → State → Type 0
HasDropped name number w = (j : Job) → job_of w.jobs number ≡ Some j → j.kind ≡ DropJob name → 4 ≤ j.place →
    IsOut name w

module _ (limit : ℕ) (start : State) (clean : IsStart start) (name : List ℕ) (number : ℕ) where
  module _ (m : Moment) (ms : List Moment) (run : IsRun limit start (m ∷ ms))
      (quiet : NoneBeganOn name (m ∷ []))
      (only : (k : ℕ) (j : Job) → job_of m.state.jobs k ≡ Some j → Touches name j.kind → k ≡ number)
      (D : HasDropped name number (now start ms)) where
    A : All start ms
    A = all limit start clean ms run.2

    X : Changes limit (length ms) (now start ms) m.event m.outcome m.state
    X = changes limit (length ms) (now start ms) m.event m.outcome m.state A.numbers.idle run.1

    onward : IsOut name (now start ms) → IsOut name m.state
    onward O = offers (λ bytes. ⊥) (Unit {0}) name limit start clean (m ∷ []) ms run O
        (none_touched (λ bytes. ⊥) (Unit {0}) name (m ∷ []) quiet)

    -- at the end of its append
    module _ (j : Job) (runs : job_of m.state.jobs number ≡ Some j) (kind : j.kind ≡ DropJob name) (a : Append)
        (entry : a.entry ≡ Drop name) (rec : m.state.records ≡ a.entry ∷ (now start ms).records)
        (landed : m.state.append ≡ None) where
      grown : m.state.records ≡ (now start ms).records → ⊥
      grown same = shorter a.entry (now start ms).records (sym same ∙ rec)

      effect_now : Fits (λ bytes. ⊥) (Unit {0}) name m.state (file_of m.state.records name)
      effect_now = rw (rec, entry, same-refl) tt

      dropped_now : IsOut name m.state
      dropped_now = record {
        effect = effect_now;
        flight = λ b h. absurd (some-not-none m.state.append b h landed);
        doubt = λ d h. elim (X.doubt d h) [
          | Doubt_is.kept before same ↦ absurd (grown same)
          | Doubt_is.gated b flying is same ↦ absurd (grown same)
          | Doubt_is.set_up s is ↦ subst (Brings (λ bytes. ⊥) (Unit {0}) name m.state) (sym is) effect_now
        ];
        jobs = none_puts name m.state number j kind runs only;
      }

    has_step : HasDropped name number m.state
    has_step j h kind late = elim (X.job number j h) [
      | Job_is.kept r grown ↦ onward (D j r kind late)
      | Job_is.begun kd profile is k_is allowed rec ↦
          absurd (let e : j.place ≡ 0 = ap (λ (x : Job). x.place) is in omega arith)
      | Job_is.plain x action runs next_is is_plain goes rec stores_it ↦
          (let kx : x.kind ≡ DropJob name = sym goes.kind ∙ kind in
          let place = goes.place in
          elim (cases_lt x.place 4) [
            | inl l ↦ absurd (subst IsPlain (third (now start ms) x name action kx next_is (omega arith))
                is_plain)
            | inr l ↦ onward (D x runs kx l)
          ])
      | Job_is.drew x runs next_is free is rec ↦
          (let kx : x.kind ≡ DropJob name = sym (ap (λ (y : Job). y.kind) is) ∙ kind in
          let place : j.place ≡ x.place + 1 = ap (λ (y : Job). y.place) is in
          elim (cases_lt x.place 4) [
            | inl l ↦ absurd (cc (third (now start ms) x name WriteBody kx next_is (omega arith)))
            | inr l ↦ onward (D x runs kx l)
          ])
      | Job_is.finished x a runs next_is flies mine is rec landed ↦
          (let kx : x.kind ≡ DropJob name = sym (ap (λ (y : Job). y.kind) is) ∙ kind in
          let wrote = A.pins.wrote a x flies (subst (λ n. job_of (now start ms).jobs n ≡ Some x) (sym mine) runs) in
          dropped_now j h kind a (subst (λ kd. Wrote x kd a.entry) kx wrote) rec landed)
    ]

  -- at the begin itself it stands before its append
  at_begin : (older : List Moment) (b : Moment) → IsRun limit start (b ∷ older) → NoneOn name (now start older) →
      HasDropped name number b.state
  at_begin older b run none j h kind late =
      elim ((changes limit (length older) (now start older) b.event b.outcome b.state
      (all limit start clean older run.2).numbers.idle run.1).job number j h) [
        | Job_is.kept r g ↦ absurd (none number j r (subst (Touches name) (sym kind) refl))
        | Job_is.begun kd profile is k_is allowed rec ↦
            absurd (let e : j.place ≡ 0 = ap (λ (x : Job). x.place) is in omega arith)
        | Job_is.plain x action runs next_is is_plain goes rec stores_it ↦
            absurd (none number x runs (subst (Touches name) (sym (sym goes.kind ∙ kind)) refl))
        | Job_is.drew x runs next_is free is rec ↦ absurd (none number x runs
            (subst (Touches name) (sym (sym (ap (λ (y : Job). y.kind) is) ∙ kind)) refl))
        | Job_is.finished x a runs next_is flies mine is rec landed ↦ absurd (none number x runs
            (subst (Touches name) (sym (sym (ap (λ (y : Job). y.kind) is) ∙ kind)) refl))
      ]

  has_dropped : (between older : List Moment) (b : Moment) → IsRun limit start (between ++ b ∷ older) →
      NoneOn name (now start older) → NoneBeganOn name between → b.outcome ≡ Begun number →
      HasDropped name number (now start (between ++ b ∷ older))
  has_dropped [] older b run none began begun = at_begin older b run none
  has_dropped (m ∷ between) older b run none began begun = has_step m (between ++ b ∷ older) run (began.0, tt)
      (λ k j h t. cc (only_its (Touches name) limit start (m ∷ between) older b run none began k j h t))
      (has_dropped between older b run.2 none began.1 begun)

-- a job begun by the begin of a drop of a name is one
kind_of_drop : (e : Event) (j : Job) (name : List ℕ) → IsBeginOf e j → e ≡ Begin (DropJob name) →
    j.kind ≡ DropJob name
kind_of_drop e j name (inl is) p = cc
kind_of_drop e j name (inr (n, by, kind, is)) p = absurd cc

-- ---- a drop that ended well

-- behind it no file stands under the name
pub out_at_end : (limit : ℕ) (start : State) → IsLimit limit → IsStart start → (between older : List Moment)
    (m b : Moment) (name : List ℕ) (number : ℕ) → IsRun limit start (m ∷ (between ++ b ∷ older)) →
    NoneOn name (now start older) → b.event ≡ Begin (DropJob name) → b.outcome ≡ Begun number →
    NoneBegan number between → NoneBeganOn name between → m.event ≡ Step number → m.outcome ≡ Ended Dropped →
    IsOut name m.state
out_at_end limit start fits clean between older m b name number run none event begun last quiet step ended =
    (let ms = between ++ b ∷ older in
    let p = ended_job limit (length ms) (now start ms) m.event m.outcome m.state number Dropped tt step ended
    run.1 in
    let job = p.0 in
    let kind = kind_of_drop b.event job name
    (is_begun limit start clean between older b run.2 number job begun last p.1).1 event in
    let next_is = (event_end limit (length ms) (now start ms) m.event m.outcome m.state job Dropped (λ x. x)
    (step ∙ ap Step (sym p.2)) ended (ap (job_of (now start ms).jobs) p.2 ∙ p.1) run.1).0 in
    let on = (goes_on limit (length ms) (now start ms) m.event m.outcome m.state number Dropped (λ x. x) step
    ended run.1).0 in
    let before : IsOut name (now start ms) = elim (at_end (now start ms) job name kind next_is) [
      | inl late ↦ has_dropped limit start clean name number between older b run.2 none quiet begun job p.1
          kind late
      | inr gone ↦ steady (λ bytes. ⊥) (Unit {0}) name limit (now start ms)
          (run-sound limit start ms fits clean run.2) on
          (subst (Fits (λ bytes. ⊥) (Unit {0}) name (now start ms)) (sym gone) tt)
          (λ k j h. none_puts name (now start ms) number job kind p.1
          (λ n y g t. cc (only_its (Touches name) limit start between older b run.2 none quiet n y g t))
          k j h)
    ] in
    offers (λ bytes. ⊥) (Unit {0}) name limit start clean (m ∷ []) ms run before
    (none_put (λ bytes. ⊥) (Unit {0}) name (m ∷ []) tt ((λ on n is. rw step at on), tt)))

-- a name that was dropped, and that no put began since, has no file
pub dropped_out : (limit : ℕ) (start : State) (ms : List Moment) (name : List ℕ) → IsLimit limit →
    IsStart start → IsRun limit start ms → DroppedOut ms name → file_in (now start ms) name ≡ None
dropped_out limit start ms name fits clean run D = (let old = D.between ++ D.begin ∷ D.older in
    let all_run = subst (IsRun limit start) D.split run in
    let at_end_run = run_back limit start D.later (D.end ∷ old) all_run in
    let none_on = none_under_way (Touches name) limit start clean D.older D.free
    (run_back limit start D.between (D.begin ∷ D.older) at_end_run.2).2 in
    let O = offers (λ bytes. ⊥) (Unit {0}) name limit start clean D.later (D.end ∷ old) all_run
    (out_at_end limit start fits clean D.between D.older D.end D.begin name D.number at_end_run none_on
    D.begin_event D.begun D.none D.none_between D.end_event D.ended)
    (none_put (λ bytes. ⊥) (Unit {0}) name D.later tt D.none_since) in
    rw D.split (none_fit (Unit {0}) name (now start (D.later ++ D.end ∷ old)) _ O.effect))
