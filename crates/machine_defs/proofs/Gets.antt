-- A get gives what its fetches open to.
use Rattle.machine_defs.proofs.Words.{◌≡◌, cond, ◌&&◌, refl, ap, sym, subst, ◌∙◌, inl, inr, arith, is_some, slice_get, cases_Bool, cases_lt, and_parts, eqb-true, eq-eqb, each_get, map-same, upto, GivesSymbols, Setup, is_name, File, setup_of, GetJob, aim_of, Pinned, Given, Fetched, Answered, Worked, Job, job_of, object_of, profiled, pinned_stripes, Action, WriteBody, SyncGate, Fetch, Work, End, read_actions, actions_of, State, IsStart, setup_in, object_in, file_in, refusal_of_begin, pinned_file, pin_found, pinned_for, sight_of, is_busy, block_given, blocks_given, symbols_given, file_given, pinned_profile, next_action, GotBytes, Ends, Moment, now, first_moments, IsRun, entries_of, heard_by_kind, heard_by, given_to}
use Rattle.std.proofs.Common.{ℕ, ◌+◌, ◌<◌, ◌==◌, List, [], ◌∷◌, ◌++◌, length, Option, Some, None}
use Rattle.machine_defs.specs.Answers as answer
use Rattle.machine_defs.specs.Halves.{GotIsOpened}
use Rattle.machine_defs.proofs.JobLists.{cond_true, cond_false, same_value, found_none}
use Rattle.machine_defs.proofs.Changes.{IsQuiet, Gave, Job_is, Changes}
use Rattle.machine_defs.proofs.StepEnds.{event_end}
use Rattle.machine_defs.proofs.Events.{changes}
use Rattle.machine_defs.proofs.Numbers.{next_by, next_is_by}
use Rattle.machine_defs.proofs.PinFacts.{Pins_is, pins_is, setup_same, setup_kept}
use Rattle.machine_defs.proofs.Held.{All, all, actions_are, first_more, first_all}
use Rattle.machine_defs.proofs.Sights.{stored-file}
use Rattle.machine_defs.proofs.Stripes.{flat, From, from, order, once, worked_on, to_flat, from_flat, before_end}
use Rattle.machine_defs.proofs.Given.{given_to-more, symbols_given-newest}

-- ---- a get that begins has a file

-- a get that is not refused has a file in effect under its name
pub get_file : (limit : ℕ) (w : State) (name : List ℕ) (profile : Option ℕ) (o : Option File) →
    file_in w name ≡ o → refusal_of_begin limit w (GetJob name) profile ≡ None →
    (f : File) × (file_in w name ≡ Some f)
get_file limit w name profile (Some f) is h = (f, is)
get_file limit w name profile None is h = absurd (elim (cases_Bool w.is_barred) [
  | inl a ↦ (let e = rw a at h in cc e)
  | inr a ↦ elim (cases_Bool (is_busy limit (sight_of w) (aim_of (GetJob name)))) [
    | inl b ↦ (let e = rw (a, b) at h in cc e)
    | inr b ↦ elim (cases_Bool (is_name name)) [
      | inl c ↦ (let e = rw (a, b, c, stored-file w name ∙ ap is_some is) at h in cc e)
      | inr c ↦ (let e = rw (a, b, c) at h in cc e)
    ]
  ]
])

-- ---- what was given, with one gift more

block_skips : (i o s2 : ℕ) (block : Option (List ℕ)) (given : List Given) (object s j : ℕ) → (s ≡ s2 → ⊥) →
    block_given (Fetched i o s2 block ∷ given) object s j ≡ block_given given object s j
block_skips i o s2 block given object s j apart =
    elim (cases_Bool (((i == j) && (o == object)) && (s2 == s))) [
      | inl t ↦ absurd (apart (sym (eqb-true s2 s (and_parts ((i == j) && (o == object)) (s2 == s) t).1)))
      | inr f ↦ cond_false (((i == j) && (o == object)) && (s2 == s)) block (block_given given object s j) f
    ]

symbols_skip : (o s2 : ℕ) (symbols : List ℕ) (given : List Given) (object s : ℕ) → (s ≡ s2 → ⊥) →
    symbols_given (Worked o s2 symbols ∷ given) object s ≡ symbols_given given object s
symbols_skip o s2 symbols given object s apart = elim (cases_Bool ((o == object) && (s2 == s))) [
  | inl t ↦ absurd (apart (sym (eqb-true s2 s (and_parts (o == object) (s2 == s) t).1)))
  | inr f ↦ cond_false ((o == object) && (s2 == s)) symbols (symbols_given given object s) f
]

-- the profile of a get's own file
pub own_profile : (other : ℕ) (ps : List Pinned) (f : Pinned) (o : ℕ) → ps ≡ f ∷ [] → o ≡ f.id →
    pinned_profile other ps o ≡ f.profile
own_profile other ps f o p e =
    ap (λ l. pinned_profile other l o) p ∙ cond_true (f.id == o) f.profile other (eq-eqb f.id o (sym e))

-- what a get's job has opened of a stripe
abbrev Opened : Setup → ℕ → ℕ → List Given → ℕ → Type 0
Opened t profile id given s = GivesSymbols (object_of (profiled t profile) id) s (blocks_given given t.n id s)
    (symbols_given given id s)

opened_by : (t : Setup) (p id : ℕ) (given more : List Given) (s : ℕ) →
    ((j : ℕ) → block_given more id s j ≡ block_given given id s j) →
    symbols_given more id s ≡ symbols_given given id s → Opened t p id given s → Opened t p id more s
opened_by t p id given more s blocks symbols h =
    subst (GivesSymbols (object_of (profiled t p) id) s (blocks_given more t.n id s)) (sym symbols)
    (rw (← (map-same (block_given more id s) (block_given given id s) (upto t.n) blocks)) at h)

-- ---- the actions of a get

get_actions : (t : Setup) (job : Job) (name : List ℕ) (f : Pinned) → job.kind ≡ GetJob name →
    job.pinned ≡ f ∷ [] → actions_of t job ≡ (flat t f.id (upto (pinned_stripes t f)) ++ []) ++ End ∷ []
get_actions t job name f kind pinned =
    actions_are t job (GetJob name) kind ∙ ap (λ p. read_actions t p ++ End ∷ []) pinned

get_next : (w : State) (job : Job) (name : List ℕ) → job.kind ≡ GetJob name →
    next_action w job ≡ slice_get (actions_of (setup_in w) job) job.place
get_next w job name kind = next_is_by w job
    ∙ (ap (λ kd. next_by w job kd job.place) kind
    ∙ ap (λ l. slice_get l job.place) (sym (actions_are (setup_in w) job (GetJob name) kind)))

-- an action that opens a stripe stands among the stripes
in_flat : (t : Setup) (job : Job) (name : List ℕ) (f : Pinned) (q : ℕ) (x : Action) → job.kind ≡ GetJob name →
    job.pinned ≡ f ∷ [] → (x ≡ End → ⊥) → slice_get (actions_of t job) q ≡ Some x →
    slice_get (flat t f.id (upto (pinned_stripes t f))) q ≡ Some x
in_flat t job name f q x kind pinned other h =
    elim (to_flat t f.id (upto (pinned_stripes t f)) q x
    (ap (λ l. slice_get l q) (sym (get_actions t job name f kind pinned)) ∙ h))
    [ inl p ↦ p | inr e ↦ absurd (other e.0) ]

-- ---- facts

-- the state at the begin of a job
abbrev begin_of : State → List Moment → Job → State
begin_of start ms job = now start (first_moments job.begun ms)

-- a get works on the one file that was in effect under its name at its begin, and the setup is still that one
pub record HasFile (b w : State) (job : Job) (name : List ℕ) : Type 0 where
  pub file : File
  pub in_effect : file_in b name ≡ Some file
  pub pinned : job.pinned ≡ pinned_file b file ∷ []
  pub setup : setup_of w.records ≡ setup_of b.records

-- what holds at each moment of the gets that run: their files, and what they have opened
pub record Facts (start : State) (ms : List Moment) : Type 0 where
  pub file : (k : ℕ) (j : Job) (name : List ℕ) → job_of (now start ms).jobs k ≡ Some j →
      j.kind ≡ GetJob name → HasFile (begin_of start ms j) (now start ms) j name
  pub opened : (k : ℕ) (j : Job) (name : List ℕ) (f : Pinned) (q o s : ℕ) →
      job_of (now start ms).jobs k ≡ Some j → j.kind ≡ GetJob name → j.pinned ≡ f ∷ [] → q < j.place →
      slice_get (actions_of (setup_in (now start ms)) j) q ≡ Some (Work o s) →
      Opened (setup_in (now start ms)) f.profile f.id j.given s

module _ (limit : ℕ) (start : State) (m : Moment) (ms : List Moment) (A : All start ms) (F : Facts start ms)
    (X : Changes limit (length ms) (now start ms) m.event m.outcome m.state) where
  abbrev old : State
  old = now start ms

  file_step : (k : ℕ) (j : Job) (name : List ℕ) → job_of m.state.jobs k ≡ Some j → j.kind ≡ GetJob name →
      HasFile (begin_of start (m ∷ ms) j) m.state j name
  file_step k j name h kind = elim (pins_is limit start m ms A.numbers A.pins X k j h) [
    | Pins_is.had x runs pinned kind_x begun g ↦ (let f = F.file k x name runs (sym kind_x ∙ kind) in
        let same =
        ap (now start) (sym (ap (λ n. first_moments n (m ∷ ms)) begun
        ∙ first_more x.begun m ms (A.held.begun k x runs))) in
        record {
          file = f.file;
          in_effect = ap (λ b. file_in b name) (sym same) ∙ f.in_effect;
          pinned = pinned ∙ (f.pinned ∙ ap (λ b. pinned_file b f.file ∷ []) same);
          setup = setup_kept limit start m ms A.numbers A.pins X k j h
              ∙ (f.setup ∙ ap (λ b. setup_of b.records) same);
        })
    | Pins_is.new_one kd wish is k_is allowed rec ↦ (let kd_is = sym (ap (λ x. x.kind) is) ∙ kind in
        let g = get_file limit old name wish (file_in old name) refl (rw kd_is at allowed) in
        let same =
        ap (now start) (sym (ap (λ n. first_moments n (m ∷ ms)) (ap (λ (x : Job). x.begun) is)
        ∙ (first_more (length ms) m ms (omega arith) ∙ first_all ms))) in
        record {
          file = g.0;
          in_effect = ap (λ b. file_in b name) (sym same) ∙ g.1;
          pinned = ap (λ x. x.pinned) is ∙ (ap (λ kk. pinned_for old kk) kd_is
              ∙ (ap (pin_found (pinned_file old)) g.1 ∙ ap (λ b. pinned_file b g.0 ∷ []) same));
          setup = ap setup_of rec ∙ ap (λ b. setup_of b.records) same;
        })
  ]

  -- a job of a get, and a work of it that stands before its place
  module _ (k : ℕ) (j : Job) (name : List ℕ) (f : Pinned) (q o s : ℕ)
      (h : job_of m.state.jobs k ≡ Some j) (kind : j.kind ≡ GetJob name) (pinned : j.pinned ≡ f ∷ [])
      (early : q < j.place) (at : slice_get (actions_of (setup_in m.state) j) q ≡ Some (Work o s)) where
    same_setup : setup_in m.state ≡ setup_in old
    same_setup = setup_same m.state old (setup_kept limit start m ms A.numbers A.pins X k j h)

    at_old : slice_get (actions_of (setup_in old) j) q ≡ Some (Work o s)
    at_old = subst (λ t. slice_get (actions_of t j) q ≡ Some (Work o s)) same_setup at

    at_x : (x : Job) → x.kind ≡ GetJob name → x.pinned ≡ f ∷ [] →
        slice_get (actions_of (setup_in old) x) q ≡ Some (Work o s)
    at_x x kx px = ap (λ l. slice_get l q) (get_actions (setup_in old) x name f kx px
        ∙ sym (get_actions (setup_in old) j name f kind pinned)) ∙ at_old

    not_end : Work o s ≡ End → ⊥
    not_end e = cc

    stands : (x : Job) → x.kind ≡ GetJob name → x.pinned ≡ f ∷ [] → slice_get
        (flat (setup_in old) f.id (upto (pinned_stripes (setup_in old) f))) q ≡ Some (Work o s)
    stands x kx px = in_flat (setup_in old) x name f q (Work o s) kx px not_end (at_x x kx px)

    here : (x : Job) (action : Action) → next_action old x ≡ Some action → x.kind ≡ GetJob name →
        slice_get (actions_of (setup_in old) x) x.place ≡ Some action
    here x action next_is kx = sym (get_next old x name kx) ∙ next_is

    -- where the work does not stand before the action that is made now, it is that one
    made_now : (x : Job) (action : Action) → next_action old x ≡ Some action → x.kind ≡ GetJob name →
        x.pinned ≡ f ∷ [] → q ≡ x.place → action ≡ Work o s
    made_now x action next_is kx px q_is =
        same_value _ action (Work o s) (here x action next_is kx) (rw q_is at (at_x x kx px))

    by_quiet : (x : Job) (action : Action) → job_of old.jobs k ≡ Some x → next_action old x ≡ Some action →
        x.kind ≡ GetJob name → x.pinned ≡ f ∷ [] → j.pinned ≡ x.pinned → j.place ≡ x.place + 1 →
        IsQuiet action → j.given ≡ x.given → Opened (setup_in old) f.profile f.id j.given s
    by_quiet x action runs next_is kx px pp place quiet given = elim (cases_lt q x.place) [
      | inl l ↦ (rw (← given) at (F.opened k x name f q o s runs kx px l (at_x x kx px)))
      | inr l ↦ absurd (subst IsQuiet (made_now x action next_is kx px (omega arith)) quiet)
    ]

    -- the work that was made before stands before what is made now
    before_now : (x : Job) → q < x.place → x.kind ≡ GetJob name → x.pinned ≡ f ∷ [] →
        job_of old.jobs k ≡ Some x → Opened (setup_in old) f.profile f.id x.given s
    before_now x l kx px runs = F.opened k x name f q o s runs kx px l (at_x x kx px)

    by_gave : (x : Job) (action : Action) → job_of old.jobs k ≡ Some x → next_action old x ≡ Some action →
        x.kind ≡ GetJob name → x.pinned ≡ f ∷ [] → j.pinned ≡ x.pinned → j.place ≡ x.place + 1 →
        Gave old x action j → Opened (setup_in old) f.profile f.id j.given s
    by_gave x action runs next_is kx px pp place (Gave.nothing quiet given) =
        by_quiet x action runs next_is kx px pp place quiet given
    by_gave x action runs next_is kx px pp place (Gave.fetched i o2 s2 block act given) =
        elim (cases_lt q x.place) [
          | inl l ↦ (let fetch = in_flat (setup_in old) x name f x.place (Fetch i o2 s2) kx px
              (λ e. cc) (here x (Fetch i o2 s2) (next_is ∙ ap Some act) kx) in
              let apart : s ≡ s2 → ⊥ = (λ e. (let r = order (setup_in old) f.id
              (pinned_stripes (setup_in old) f) 0 q x.place i o o2 s2 (subst (λ n. slice_get
              (flat (setup_in old) f.id (upto (pinned_stripes (setup_in old) f)))
              q ≡ Some (Work o n)) e (stands x kx px)) fetch in omega arith)) in
              subst (λ g. Opened (setup_in old) f.profile f.id g s) (sym given)
              (opened_by (setup_in old) f.profile f.id x.given (Fetched i o2 s2 block ∷ x.given) s
              (λ n. block_skips i o2 s2 block x.given f.id s n apart) refl (before_now x l kx px runs)))
          | inr l ↦ absurd (cc (sym act ∙ made_now x action next_is kx px (omega arith)))
        ]
    by_gave x action runs next_is kx px pp place (Gave.answered i o2 r symbol act given) =
        elim (cases_lt q x.place) [
          | inl l ↦ subst (λ g. Opened (setup_in old) f.profile f.id g s) (sym given)
              (opened_by (setup_in old) f.profile f.id x.given (Answered i o2 r symbol ∷ x.given) s
              (λ n. refl) refl (before_now x l kx px runs))
          | inr l ↦ absurd (cc (sym act ∙ made_now x action next_is kx px (omega arith)))
        ]
    by_gave x action runs next_is kx px pp place (Gave.worked o2 s2 symbols act gives given) =
        elim (cases_lt q x.place) [
          | inl l ↦ (let work = in_flat (setup_in old) x name f x.place (Work o2 s2) kx px
              (λ e. cc) (here x (Work o2 s2) (next_is ∙ ap Some act) kx) in
              let apart : s ≡ s2 → ⊥ = (λ e. (let r = once (setup_in old) f.id
              (pinned_stripes (setup_in old) f) 0 q x.place o o2 s2 (subst (λ n. slice_get
              (flat (setup_in old) f.id (upto (pinned_stripes (setup_in old) f)))
              q ≡ Some (Work o n)) e (stands x kx px)) work in omega arith)) in
              subst (λ g. Opened (setup_in old) f.profile f.id g s) (sym given)
              (opened_by (setup_in old) f.profile f.id x.given (Worked o2 s2 symbols ∷ x.given) s
              (λ n. refl) (symbols_skip o2 s2 symbols x.given f.id s apart) (before_now x l kx px runs)))
          | inr l ↦ (let e = sym act ∙ made_now x action next_is kx px (omega arith) in
              let o_is : o2 ≡ o = cc in
              let s_is : s2 ≡ s = cc in
              let id_is : o ≡ f.id = (each_get (From (setup_in old) f.id 0)
              (flat (setup_in old) f.id (upto (pinned_stripes (setup_in old) f))) q
              (Work o s) (from (setup_in old) f.id (pinned_stripes (setup_in old) f) 0) (stands x kx px)).1 in
              subst (λ g. Opened (setup_in old) f.profile f.id g s) (sym given)
              (worked_here (o_is ∙ id_is) s_is (subst (λ p. GivesSymbols (object_in old p o2) s2
              (blocks_given x.given (setup_in old).n o2 s2) symbols)
              (own_profile (setup_in old).profile x.pinned f o2 px (o_is ∙ id_is)) gives)))
        ]
      where
        worked_here : o2 ≡ f.id → s2 ≡ s → GivesSymbols (object_in old f.profile o2) s2
            (blocks_given x.given (setup_in old).n o2 s2) symbols → Opened (setup_in old) f.profile f.id
            (Worked o2 s2 symbols ∷ x.given) s
        worked_here a b g = rw (
          ← a,
          ← b,
          symbols_given-newest o2 s2 symbols x.given,
          map-same (block_given (Worked o2 s2 symbols ∷ x.given) o2 s2) (block_given x.given o2 s2)
              (upto (setup_in old).n) (λ n. refl),
        ) g

    opened_step : Opened (setup_in m.state) f.profile f.id j.given s
    opened_step = subst (λ t. Opened t f.profile f.id j.given s) (sym same_setup) (elim (X.job k j h) [
      | Job_is.kept r grown ↦ F.opened k j name f q o s r kind pinned early at_old
      | Job_is.begun kd wish is k_is allowed rec ↦ absurd
          (let e : j.place ≡ 0 = ap (λ (x : Job). x.place) is in omega arith)
      | Job_is.plain x action runs next_is is_plain goes rec st ↦
          by_gave x action runs next_is (sym goes.kind ∙ kind)
          (sym goes.pinned ∙ pinned) goes.pinned goes.place goes.gave
      | Job_is.drew x runs next_is none_ is rec ↦ by_quiet x WriteBody runs next_is
          (sym (ap (λ (y : Job). y.kind) is) ∙ kind) (sym (ap (λ (y : Job). y.pinned) is) ∙ pinned)
          (ap (λ (y : Job). y.pinned) is) (ap (λ (y : Job). y.place) is) tt (ap (λ (y : Job). y.given) is)
      | Job_is.finished x a runs next_is flight mine is rec none_ ↦ by_quiet x SyncGate runs next_is
          (sym (ap (λ (y : Job). y.kind) is) ∙ kind) (sym (ap (λ (y : Job). y.pinned) is) ∙ pinned)
          (ap (λ (y : Job). y.pinned) is) (ap (λ (y : Job). y.place) is) tt (ap (λ (y : Job). y.given) is)
    ])

  step_facts : Facts start (m ∷ ms)
  step_facts = record { file = file_step; opened = opened_step }

facts : (limit : ℕ) (start : State) → IsStart start → (ms : List Moment) → IsRun limit start ms →
    Facts start ms
facts limit start clean [] run = record {
  file = λ k j name h kind. absurd (found_none start.jobs k j clean.jobs h);
  opened = λ k j name f q o s h kind pinned early at. absurd (found_none start.jobs k j clean.jobs h);
}
facts limit start clean (m ∷ ms) run = (let A = all limit start clean ms run.2 in
    step_facts limit start m ms A (facts limit start clean ms run.2)
    (changes limit (length ms) (now start ms) m.event m.outcome m.state A.numbers.idle run.1))

-- ---- what a report has of a get is what it fetched

abbrev bare : List Given → List Given
bare [] = []
bare (Worked o s symbols ∷ more) = bare more
bare (Fetched i o s block ∷ more) = Fetched i o s block ∷ bare more
bare (Answered i o r symbol ∷ more) = Answered i o r symbol ∷ bare more

given_back : (n : ℕ) (given : List Given) → given_to n (entries_of n given) ≡ bare given
given_back n [] = refl
given_back n (Worked o s symbols ∷ more) = given_back n more
given_back n (Fetched i o s block ∷ more) = given_to-more n (entries_of n more) (Fetched i o s block)
    ∙ ap (λ l. Fetched i o s block ∷ l) (given_back n more)
given_back n (Answered i o r symbol ∷ more) = given_to-more n (entries_of n more) (Answered i o r symbol)
    ∙ ap (λ l. Answered i o r symbol ∷ l) (given_back n more)

bare_block : (given : List Given) (object s j : ℕ) →
    block_given (bare given) object s j ≡ block_given given object s j
bare_block [] object s j = refl
bare_block (Fetched i o t block ∷ more) object s j =
    ap (cond (((i == j) && (o == object)) && (t == s)) block) (bare_block more object s j)
bare_block (_ ∷ more) object s j = bare_block more object s j

-- the blocks that a report has of a get are those that the get was given
pub heard_blocks : (job : Job) (name : List ℕ) (n object s : ℕ) → job.kind ≡ GetJob name →
    blocks_given (given_to job.number (heard_by (Some job))) n object s ≡ blocks_given job.given n object s
heard_blocks job name n object s kind =
    ap (λ es. blocks_given (given_to job.number es) n object s) (ap (heard_by_kind job) kind)
    ∙ (ap (λ g. blocks_given g n object s) (given_back job.number job.given)
    ∙ map-same (block_given (bare job.given) object s) (block_given job.given object s) (upto n)
    (λ j. bare_block job.given object s j))

got_by : (w : State) (job : Job) (f : Pinned) (bytes : List ℕ) → job.pinned ≡ f ∷ [] →
    GotBytes w job job.pinned bytes → bytes ≡ file_given (setup_in w) job.given f
got_by w job f bytes pinned h = subst (λ (p : List Pinned). GotBytes w job p bytes) pinned h

-- every get that ended with bytes gave what its fetches open to
pub got_is_opened : GotIsOpened
got_is_opened limit start m ms job name bytes clean run e = (let r = event_end limit (length ms)
    (now start ms) m.event m.outcome m.state job (answer.Got bytes) (λ x. x) e.event e.outcome e.runs run.1 in
    let F = facts limit start clean ms run.2 in
    let f = F.file job.number job name e.runs e.kind in
    let b = begin_of start ms job in
    let p = pinned_file b f.file in
    let t = setup_same (now start ms) b f.setup in
    record {
      file = f.file;
      in_effect = f.in_effect;
      opens = record {
        symbols = λ s. symbols_given job.given f.file.id s;
        given = λ s l. (let at = worked_on (setup_in (now start ms)) p.id
            (pinned_stripes (setup_in (now start ms)) p) 0 s (omega arith)
            (rw (← t) at (let z : s < 0 + pinned_stripes (setup_in b) p = omega (arith, l) in z)) in
            let early = before_end (setup_in (now start ms)) p.id
            (pinned_stripes (setup_in (now start ms)) p) at.0 job.place (Work p.id s) at.1
            (ap (λ l. slice_get l job.place) (sym (get_actions (setup_in (now start ms)) job name p e.kind
            f.pinned))
            ∙ (sym (get_next (now start ms) job name e.kind) ∙ r.0)) in
            let o =
            F.opened job.number job name p at.0 p.id s e.runs e.kind f.pinned early
            (ap (λ l. slice_get l at.0) (get_actions (setup_in (now start ms)) job name p e.kind f.pinned)
            ∙ from_flat (setup_in (now start ms)) p.id
            (upto (pinned_stripes (setup_in (now start ms)) p)) at.0 (Work p.id s) at.1) in
            (rw (← (heard_blocks job name (setup_in b).n f.file.id s e.kind)) at
            (subst (λ (u : Setup). Opened u p.profile p.id job.given s) t o)));
        cut = got_by (now start ms) job p bytes f.pinned (subst (λ kd. Ends (now start ms) job kd
            (answer.Got bytes)) e.kind r.1)
            ∙ ap (λ u. file_given u job.given p) t;
      };
    })
