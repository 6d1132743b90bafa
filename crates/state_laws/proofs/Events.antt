-- Each event leaves a sound state sound.
use Rattle.state_laws.proofs.Words.{◌≡◌, ◌==◌, Bool, true, false, length, drop, Option, refl, ap, sym, subst, ◌∙◌, inl, inr, arith, IsSome, nat_lt, slice_get, cases_Bool, false≢true, and_parts, eqb-true, drop-get, Kind, PutJob, DropJob, Job, Given, Fetched, Answered, Worked, job_of, advanced, Action, WriteBody, SyncBody, WriteGate, Store, Fetch, Ask, Work, Remove, End, ends_append, actions_of, actions_left, Event, Init, Begin, BeginAt, BeginScrub, BeginPack, Step, Alter, Lose, Stop, Reopen, Names, Continue, IsSpelled, IsSpelledKind, Outcome, Refused, Begun, Replaced, NothingHeld, Listed, Closed, State, IsStart, Append, Doubt, setup_in, with_provider, going_on, ended, BeginsAt, is_idle_drop, next_action, Steps, Lists, Happens, Moment, IsRun, now, Answer, cond_true, cond_false, same_value, moves_made, moves_before, moves_after, IsInOrder, MayFollowIn, IsGatedDoubt, IsDoubtOf, IsLimit, IsSound}
use Rattle.std.proofs.Common.{ℕ, ◌+◌, List, [], ◌∷◌, Some, None}
use Rattle.device_defs.specs.Providers.{Held, Provider, with_symbol, without_block, HasPlace}
use Rattle.machine_defs.specs.Replacements.{ReplacesAt, ReplacesIf}
use Rattle.machine_defs.proofs.Cases.{IsLast, Acting, by_action, by_step}
use Rattle.state_laws.proofs.Orders.{moves-first}
use Rattle.state_laws.proofs.Going.{onward}
use Rattle.state_laws.proofs.Turns.{gone_on, plain-sound}
use Rattle.state_laws.proofs.Moves.{begun-sound, moved-sound}
use Rattle.state_laws.proofs.Gates.{drop-list}
use Rattle.state_laws.proofs.Ends.{left_by, plain-ended, append-ended}
use Rattle.state_laws.proofs.Done.{done-sound}
use Rattle.state_laws.proofs.Packs.{journal-same}
use Rattle.state_laws.proofs.Begun.{begun-job}
use Rattle.state_laws.proofs.Aside.{alone-sound, scrub-begins, pack-begins}
use Rattle.state_laws.proofs.Resting.{start-sound, stops-sound, continues-sound, reopens-sound, inits-sound}

-- what providers hold and count, and the count of the disk, are no part of it
pub devices-sound : (limit : ℕ) (w : State) (providers : ℕ → Provider) (faults : ℕ) → IsSound limit w →
    IsSound limit (record w { providers = providers; disk_faults = faults })
unfolding setup_in
devices-sound limit w providers faults S = record {
  accepted = S.accepted;
  spelled = S.spelled;
  journal = journal-same w (record w { providers = providers; disk_faults = faults }) refl refl refl
      S.journal;
  room = S.room;
  files = S.files;
  names = S.names;
  ids = S.ids;
  audits = S.audits;
  closed = S.closed;
  set_up = S.set_up;
  handed = S.handed;
  few = S.few;
  numbered = S.numbered;
  jobs = S.jobs;
  in_journal = S.in_journal;
  lone = S.lone;
  packing = S.packing;
  switching = λ e. (let s = S.switching e in
      record { version = s.version; undoubted = s.undoubted; jobs = s.jobs; packing = s.packing });
  upgrade = S.upgrade;
  one_check = S.one_check;
  apart = S.apart;
  append = λ a h. (let A = S.append a h in record {
    job = A.job;
    runs = A.runs;
    begun = A.begun;
    undone = A.undone;
    writes = A.writes;
    drawn = A.drawn;
    bytes = A.bytes;
    follows = A.follows;
  });
  barred = S.barred;
  undoubted = S.undoubted;
  doubt = S.doubt;
}

-- an action between appends
abbrev IsOn : Action → Type 0
IsOn action = (ends_append action ≡ false) × (moves_before action ≡ 0) × (moves_after action ≡ 0)

-- an idle drop is a drop at its start
idle-drop : (w : State) (job : Job) → is_idle_drop w job job.kind ≡ true →
    ((name : List ℕ) × (job.kind ≡ DropJob name)) × (job.place ≡ 0)
idle-drop w job h = by_kind job.kind refl h
  where
    by_kind : (kind : Kind) → job.kind ≡ kind → is_idle_drop w job kind ≡ true →
        ((name : List ℕ) × (job.kind ≡ DropJob name)) × (job.place ≡ 0)
    by_kind (DropJob name) e h = ((name, e), eqb-true job.place 0 (and_parts (job.place == 0) _ h).0)
    by_kind kind e h = absurd (false≢true h)

-- the next action tells how many moves of an append are made
pub moves-next : (w : State) (job : Job) (action : Action) (moves : ℕ) → next_action w job ≡ Some action →
    IsInOrder moves (actions_left (setup_in w) job) → moves ≡ moves_before action
moves-next w job action moves next order = elim (cases_Bool (is_idle_drop w job job.kind)) [
  | inl t ↦ (let d = idle-drop w job t in
      let first : slice_get (actions_of (setup_in w) job) job.place ≡ Some WriteBody =
      ap (slice_get (actions_of (setup_in w) job)) d.1
      ∙ ap (λ xs. slice_get xs 0) (drop-list (setup_in w) job d.0.0 d.0.1) in
      let e : Some End ≡ Some action =
      sym (cond_true (is_idle_drop w job job.kind) (Some End)
      (slice_get (actions_of (setup_in w) job) job.place) t) ∙ next in
      let f : End ≡ action = cc in at WriteBody first ∙ ap moves_before f)
  | inr f ↦ at action (sym (cond_false (is_idle_drop w job job.kind) (Some End)
      (slice_get (actions_of (setup_in w) job) job.place) f) ∙ next)
]
  where
    at : (x : Action) → slice_get (actions_of (setup_in w) job) job.place ≡ Some x → moves ≡ moves_before x
    at x h = moves-first moves x (drop (job.place + 1) (actions_of (setup_in w) job))
        (subst (IsInOrder moves) (drop-get (actions_of (setup_in w) job) job.place x h) order)

module _ (limit moment : ℕ) (old : State) (S : IsSound limit old) where
  same-sound : (new : State) → new ≡ old → IsSound limit new
  same-sound new is = subst (IsSound limit) (sym is) S

  module _ (opened : old.is_open ≡ true) (unbarred : old.is_barred ≡ false) (job : Job)
      (runs : job_of old.jobs job.number ≡ Some job) where
    none-made : (action : Action) → next_action old job ≡ Some action → moves_before action ≡ 0 →
        moves_made old.append job.number ≡ 0
    none-made action next none = moves-next old job action (moves_made old.append job.number) next
        (S.jobs job.number job runs).order ∙ none

    -- an action between appends, with which a provider is called
    called : (j : ℕ) (p : Provider) (action : Action) (given : List Given) →
        next_action old job ≡ Some action → (action ≡ End → ⊥) → IsOn action →
        IsSound limit
        (record (going_on old (onward job job.subject given)) { providers = with_provider old.providers j p })
    called j p action given next n on = devices-sound limit (gone_on old (onward job job.subject given)
        old.append old.doubt old.bytes old.audits) (with_provider old.providers j p) old.disk_faults
        (plain-sound limit old S job runs action given next n on.0 on.1 on.2)

    -- the job ends at an action between appends
    ends : (action : Action) (providers : ℕ → Provider) (faults : ℕ) → next_action old job ≡ Some action →
        moves_before action ≡ 0 →
        IsSound limit (record (ended old job) { providers = providers; disk_faults = faults })
    ends action providers faults next none =
        devices-sound limit (left_by old job old.append old.doubt old.is_barred) providers faults
        (plain-ended limit old S job runs (none-made action next none))

    -- a job ends by itself between appends
    none-before : (action : Action) (how : Answer) → IsLast old job action how → moves_before action ≡ 0
    none-before (Work o s) how h = refl
    none-before End how h = refl
    none-before action how h = absurd h

    in-flight : (a : Append) → old.append ≡ Some a → a.job ≡ job.number → (b : Append) → old.append ≡ Some b →
        b.job ≡ job.number
    in-flight a flight own b h = ap (λ (x : Append). x.job) (same_value old.append b a h flight) ∙ own

    -- nothing is in doubt before the third move
    not-doubted : (a : Append) → old.append ≡ Some a → (a.moves == 3) ≡ false → old.doubt ≡ None
    not-doubted a flight early = subst (λ b. IsGatedDoubt a b old.doubt) early
        (subst (λ f. IsDoubtOf f old.doubt) flight (S.undoubted opened unbarred))

    -- the job ends and bars the vault
    bars : (doubt : Option Doubt) (faults : ℕ) → ((a : Append) → old.append ≡ Some a → a.job ≡ job.number) →
        ((d : Doubt) → doubt ≡ Some d → MayFollowIn old d.entry) →
        IsSound limit (record (left_by old job None doubt true) { disk_faults = faults })
    bars doubt faults own doubts = devices-sound limit (left_by old job None doubt true) old.providers faults
        (append-ended limit old S job runs doubt true own (λ o b. absurd (false≢true (sym b))) doubts)

    gated : (a : Append) → old.append ≡ Some a → (d : Doubt) →
        Some (record { entry = a.entry; maker = Some (advanced job) }) ≡ Some d → MayFollowIn old d.entry
    gated a flight d h = (let e : record { entry = a.entry; maker = Some (advanced job) } ≡ d = cc in
        subst (λ (x : Doubt). MayFollowIn old x.entry) e (S.append a flight).follows)

    acts : Acting old job (λ r w. IsSound limit w)
    acts = record {
      begins = λ entry next none writes faults low. devices-sound limit _ old.providers faults
          (begun-sound limit old S job runs entry opened unbarred none next writes);
      syncs = λ a next flight at faults low. devices-sound limit (gone_on old
          (onward job job.subject job.given) (Some (record a { moves = a.moves + 1 })) old.doubt old.bytes
          old.audits) old.providers faults (moved-sound limit old S job runs a flight at.0 SyncBody old.doubt
          next (λ e. cc) refl (omega (arith, at.1)) (omega (arith, at.1)) unbarred
          (subst (λ n. IsGatedDoubt (record a { moves = a.moves + 1 }) (n + 1 == 3) old.doubt) (sym at.1)
          (not-doubted a flight (ap (λ n. n == 3) at.1))) S.doubt);
      gates = λ a next flight at faults low. devices-sound limit (gone_on old
          (onward job job.subject job.given) (Some (record a { moves = a.moves + 1 }))
          (Some (record { entry = a.entry; maker = Some (advanced job) })) old.bytes old.audits) old.providers
          faults (moved-sound limit old S job runs a flight at.0 WriteGate
          (Some (record { entry = a.entry; maker = Some (advanced job) })) next (λ e. cc) refl
          (omega (arith, at.1)) (omega (arith, at.1)) unbarred
          (subst (λ n. IsGatedDoubt (record a { moves = a.moves + 1 }) (n + 1 == 3)
          (Some (record { entry = a.entry; maker = Some (advanced job) }))) (sym at.1)
          (record { entry = a.entry; maker = Some (advanced job) }, refl, refl)) (gated a flight));
      finishes = λ a next flight at faults low. devices-sound limit _ old.providers faults
          (done-sound limit old S job runs next a flight at.0 at.1);
      bars = λ action plain next own faults low rose. bars old.doubt faults own S.doubt;
      bars_gated = λ a next flight at faults low rose.
          bars (Some (record { entry = a.entry; maker = Some (advanced job) })) faults
          (in-flight a flight at.0) (gated a flight);
      begins_not = λ next none. ends WriteBody old.providers old.disk_faults next refl;
      gates_not = λ a next flight at. append-ended limit old S job runs old.doubt old.is_barred
          (in-flight a flight at.0) (λ o b. not-doubted a flight (ap (λ n. n == 3) at.1)) S.doubt;
      stores = λ j o s p next call. called j p (Store j o s) job.given next (λ e. cc) (refl, refl, refl);
      stores_not = λ j o s p how next call.
          ends (Store j o s) (with_provider old.providers j p) old.disk_faults next refl;
      fetches = λ j o s block p next call.
          called j p (Fetch j o s) (Fetched j o s block ∷ job.given) next (λ e. cc) (refl, refl, refl);
      asks = λ j o round symbol p next call.
          called j p (Ask j o round) (Answered j o round symbol ∷ job.given) next (λ e. cc) (refl, refl, refl);
      works = λ o s symbols next gives. plain-sound limit old S job runs (Work o s)
          (Worked o s symbols ∷ job.given) next (λ e. cc) refl refl refl;
      removes = λ j o p next call. called j p (Remove j o) job.given next (λ e. cc) (refl, refl, refl);
      ends = λ action how next last.
          ends action old.providers old.disk_faults next (none-before action how last);
    }

  steps : (number : ℕ) (r : Outcome) (new : State) → Steps old number old.is_open r new → IsSound limit new
  steps number r new h = by_step old (λ n r w. IsSound limit w) (λ n r still. S)
      (λ job runs opened unbarred. by_action old job (λ r w. IsSound limit w) (acts opened unbarred job runs))
      (λ n x r w at opened unbarred h. alone-sound limit old S opened unbarred (S.lone x at) x r w at h)
      number old.is_open r new refl h

  begins : (kind : Kind) (wish : Option ℕ) →
      ((p : ℕ) → wish ≡ Some p → (name : List ℕ) × (bytes : List ℕ) × (kind ≡ PutJob name bytes)) →
      IsLimit limit → (r : Outcome) (new : State) → IsSpelledKind kind →
      BeginsAt limit moment old kind wish r new → IsSound limit new
  begins kind wish named fits Closed new spelled h = same-sound new h.1
  begins kind wish named fits (Refused why) new spelled h = same-sound new h.2
  begins kind wish named fits (Begun job) new spelled h =
      subst (IsSound limit) (sym h.3) (begun-job limit moment old S kind wish named h.0 h.1 spelled fits)
  begins kind wish named fits r new spelled h = absurd h

  replaces : (j : ℕ) (IsThere : Held → Type 0) (changed : Held → Held) (r : Outcome) (new : State) →
      ReplacesAt old j IsThere changed r new → IsSound limit new
  replaces j IsThere changed Replaced new (p, made, is) =
      (rw (← is) at (devices-sound limit old (with_provider old.providers j p) old.disk_faults S))
  replaces j IsThere changed NothingHeld new (p, made, is) =
      (rw (← is) at (devices-sound limit old (with_provider old.providers j p) old.disk_faults S))
  replaces j IsThere changed r new h = absurd h

  replaces_if : (handed : Bool) (j : ℕ) (IsThere : Held → Type 0) (changed : Held → Held) (r : Outcome)
      (new : State) → ReplacesIf handed old j IsThere changed r new → IsSound limit new
  replaces_if true j IsThere changed r new h = replaces j IsThere changed r new h
  replaces_if false j IsThere changed NothingHeld new h = same-sound new h
  replaces_if false j IsThere changed r new h = absurd h

  lists : (is_open : Bool) (r : Outcome) (new : State) → Lists old is_open r new → IsSound limit new
  lists true (Listed files) new h = same-sound new h.1
  lists false Closed new h = same-sound new h
  lists is_open r new h = absurd h

  -- whatever event happens, a sound state stays sound
  pub events-sound : IsLimit limit → (event : Event) (outcome : Outcome) (new : State) → IsSpelled event →
      Happens limit moment old event outcome new → IsSound limit new
  events-sound fits (Init s) r new spelled h = inits-sound limit old S s old.is_open r new refl spelled.7 h
  events-sound fits (Begin kind) r new spelled h =
      begins kind None (λ p e. absurd (let f : None ≡ Some p = e in cc)) fits r new spelled h
  events-sound fits (BeginAt profile name bytes) r new spelled h =
      begins (PutJob name bytes) (Some profile) (λ p e. (name, bytes, refl)) fits r new spelled.1 h
  events-sound fits BeginScrub r new spelled h = scrub-begins limit old S moment r new h
  events-sound fits BeginPack r new spelled h = pack-begins limit old S r new h
  events-sound fits (Step number) r new spelled h = steps number r new h
  events-sound fits (Alter j object stripe place symbol) r new spelled h = replaces_if (nat_lt j old.handed) j
      (λ held. HasPlace (held object stripe) place) (with_symbol object stripe place symbol) r new h
  events-sound fits (Lose j object stripe) r new spelled h = replaces_if (nat_lt j old.handed) j
      (λ held. IsSome (held object stripe)) (without_block object stripe) r new h
  events-sound fits (Stop picks) r new spelled h = stops-sound limit old S r new h
  events-sound fits Reopen r new spelled h = reopens-sound limit old S r new h
  events-sound fits Names r new spelled h = lists old.is_open r new h
  events-sound fits Continue r new spelled h = continues-sound limit old S r new h

-- so every state of a run is sound
pub run-sound : (limit : ℕ) (start : State) (ms : List Moment) → IsLimit limit → IsStart start →
    IsRun limit start ms → IsSound limit (now start ms)
run-sound limit start [] fits clean run = start-sound limit start clean
run-sound limit start (m ∷ ms) fits clean run = events-sound limit (length ms) (now start ms)
    (run-sound limit start ms fits clean run.2) fits m.event m.outcome m.state run.0 run.1
