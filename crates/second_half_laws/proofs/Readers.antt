-- What gets and repairs read, in a calm run in which no audit missed damage.
use Rattle.second_half_laws.proofs.Words.{true, ◌⊎◌, ◌&&◌, refl, ap, sym, subst, ◌∙◌, inl, inr, arith, IsTrue, IsSome, slice_get, cases_Bool, cases_lt, and_parts, eqb-true, false≢true, In, each_get, upto, some-not-none, Object, symbols_in, columns, is_wrong_block, GivesSymbols, block_at, count_of, count_of-within, Setup, next_id, Rose, last_count, Held, FetchGives, RepairJob, Pinned, Given, Fetched, Answered, Worked, Job, job_of, Action, WriteBody, SyncGate, Store, Work, Remove, actions_of, Fetch, Ask, object_of, profiled, stripes_of, pinned_stripes, State, Scrubbing, setup_in, object_among, pinned_object, worked_object, block_given, blocks_given, pinned_profile, next_action, block_to_store, Moment, now, first_moments, is_replaced_since, Mark, IsMark, relies, replaced_count, AllTell, number_of, Gave, Job_is, Block_is, told_block, HasMadeStore, some_told, HasPin, IsFair, fair, is_fair, pinned_stands, Pins_is, pins_is, setup_stays, first_more, first_all, store_kinds, remove_kinds, none_lone, block_at-given, runs_shape, is_wrong_seen, IsHeldThen, IsBad, IsReplaced, RoseSince}
use Rattle.std.proofs.Common.{◌≡◌, ℕ, ◌+◌, ◌≤◌, ◌<◌, ◌==◌, false, List, [], ◌∷◌, length, Option, Some, None}
use Rattle.second_half_laws.proofs.Absent.{own_symbols}
use Rattle.second_half_laws.proofs.Onward.{AllOnward}
use Rattle.second_half_laws.proofs.Places.{by_kind}
use Rattle.second_half_laws.proofs.Walk.{IsGift, Passed, Went, Walked}
use Rattle.second_half_laws.proofs.Blocks.{since_more, since_now, sized_wrong}
use Rattle.second_half_laws.proofs.MovePlaces.{works_within, same_actions}
use Rattle.second_half_laws.proofs.EveryRun as ev
use Rattle.second_half_laws.proofs.EveryRun.{Around, file_below}
use Rattle.second_half_laws.proofs.Points as pt
use Rattle.second_half_laws.proofs.Points.{Facts, begin_of, mark_of, rows_right}

-- a count that rose stays so
pub rose_on : (a b c : ℕ) → Rose a b → b ≤ c → Rose a c
rose_on a b c h l below = omega (arith, h below, l)

-- a count that rose in a step rose since any moment before it
pub rose_since : (a b c : ℕ) → a ≤ b → Rose b c → b ≤ c → Rose a c
rose_since a b c early h l below = elim (cases_lt b last_count) [
  | inl k ↦ (omega (arith, h k, early))
  | inr k ↦ omega (arith, k, l, below)
]

-- a block that was given is among what was given
pub block_in : (given : List Given) (o s i : ℕ) (block : List ℕ) → block_given given o s i ≡ Some block →
    In (Fetched i o s (Some block)) given
block_in [] o s i block h = absurd (cc h)
block_in (Fetched k p t b ∷ more) o s i block h = by_test (block_in more o s i block)
  where
    by_test : (block_given more o s i ≡ Some block → In (Fetched i o s (Some block)) more) →
        In (Fetched i o s (Some block)) (Fetched k p t b ∷ more)
    by_test rest = elim (cases_Bool (((k == i) && (p == o)) && (t == s))) [
      | inl same ↦ (let q = and_parts _ _ same in
          let r = and_parts (k == i) (p == o) q.0 in let b_is : b ≡ Some block = cc in
          inl (λ z. Fetched (sym (eqb-true k i r.0) z) (sym (eqb-true p o r.1) z) (sym (eqb-true t s q.1) z)
          (sym b_is z)))
      | inr other ↦ inr (rest (cc))
    ]
block_in (_ ∷ more) o s i block h = inr (block_in more o s i block h)

-- where each provider that gave a wrong block of a stripe was replaced since a moment, and at most b were, at
-- most b gave one
pub few_of : (w : State) (ms : List Moment) (from : ℕ) (given : List Given) (f : Pinned) (s : ℕ) →
    replaced_count w from ms ≤ (setup_in w).b →
    ((i : ℕ) (block : List ℕ) → i < (setup_in w).n → In (Fetched i f.id s (Some block)) given →
    is_wrong_block (pinned_object w f) (w.bytes f.id) i s (Some block) ≡ true → IsReplaced from i ms) →
    count_of (λ i. is_wrong_seen (pinned_object w f) (w.bytes f.id) i s
    (block_at (blocks_given given (setup_in w).n f.id s) i)) (upto (setup_in w).n) ≤ (setup_in w).b
few_of w ms from given f s calm gave = (let c = count_of-within (λ i. is_wrong_seen (pinned_object w f)
    (w.bytes f.id) i s (block_at (blocks_given given (setup_in w).n f.id s) i))
    (λ i. is_replaced_since from i ms) 0 (setup_in w).n (λ i l wrong. one i (omega (arith, l))
    (cc (block_at-given given (setup_in w).n f.id s i (omega (arith, l))))) in
    let d : count_of (λ i. is_replaced_since from i ms) (upto (setup_in w).n) ≤ (setup_in w).b = calm in
    omega (arith, c, d))
  where
    one : (i : ℕ) → i < (setup_in w).n →
        is_wrong_seen (pinned_object w f) (w.bytes f.id) i s (block_given given f.id s i) ≡ true →
        is_replaced_since from i ms ≡ true
    one i l wrong = by_seen (block_given given f.id s i) refl wrong
      where
        by_seen : (seen : Option (List ℕ)) → block_given given f.id s i ≡ seen →
            is_wrong_seen (pinned_object w f) (w.bytes f.id) i s seen ≡ true →
            is_replaced_since from i ms ≡ true
        by_seen None is h = absurd (false≢true h)
        by_seen (Some block) is h = gave i block l (block_in given f.id s i block is) h

-- a block that a repair has stored is of one of its files
pub made_pin : (t : Setup) (x : Job) (i o s : ℕ) → x.kind ≡ RepairJob → HasMadeStore t x i o s → HasPin x o
made_pin t x i o s kind made =
    each_get _ _ _ _ (fair t x RepairJob) (by_kind t x RepairJob made.place (Store i o s) kind made.action)

-- of each file that a job works on which relies on providers, at most b of them gave it a wrong block of a
-- stripe
pub few_there : (mark : Mark) (start : State) (ms : List Moment) → Facts mark start ms →
    ((k : ℕ) (j : Job) → job_of (now start ms).jobs k ≡ Some j → IsTrue (relies j.kind) →
    replaced_count (now start ms) (mark_of mark ms j) ms ≤ (setup_in (now start ms)).b) →
    (k : ℕ) (x : Job) (f : Pinned) (s : ℕ) → job_of (now start ms).jobs k ≡ Some x → relies x.kind ≡ true →
    In f x.pinned → s < stripes_of (profiled (setup_in (now start ms)) f.profile)
    (length ((now start ms).bytes f.id)) →
    count_of (λ i. is_wrong_seen (pinned_object (now start ms) f) ((now start ms).bytes f.id) i s
    (block_at (blocks_given x.given (setup_in (now start ms)).n f.id s) i))
    (upto (setup_in (now start ms)).n) ≤ (setup_in (now start ms)).b
few_there mark start ms F calm k x f s runs kind in_x b =
    few_of (now start ms) ms (mark_of mark ms x) x.given f s (calm k x runs kind)
    (λ i block l given wrong. elim (F.gave k x f i s (Some block) runs in_x l b given wrong) [
      | inl r ↦ r
      | inr q ↦ absurd (cc q.0)
    ])

module _ {limit : ℕ} {mark : Mark} {start : State} {m : Moment} {ms : List Moment}
    (N : Around limit start m ms) (F : Facts mark start ms)
    (G : Walked (length ms) (now start ms) m.event m.outcome m.state)
    (O : AllOnward (now start ms) m.state) (tell : AllTell (now start ms))
    (calm : (k : ℕ) (j : Job) → job_of (now start ms).jobs k ≡ Some j → IsTrue (relies j.kind) →
    replaced_count (now start ms) (mark_of mark ms j) ms ≤ (setup_in (now start ms)).b) where
  open N use {clean, run, facts as A, numbers as U, files as I, kept as E, changed as X, turned as T}

  -- the state after these moments
  abbrev u : State
  u = now start ms

  -- ---- the mark and the state at the begin of a job

  first_had : (j x : Job) → j.begun ≡ x.begun → x.begun ≤ length ms →
      first_moments j.begun (m ∷ ms) ≡ first_moments x.begun ms
  first_had j x begun l = cc (first_more x.begun m ms l)

  first_new : (j : Job) → j.begun ≡ length ms → first_moments j.begun (m ∷ ms) ≡ ms
  first_new j begun = cc (first_more (length ms) m ms (omega arith), first_all ms)

  -- the setup that a running job stands on
  same_setup : (k : ℕ) (j : Job) → job_of m.state.jobs k ≡ Some j → setup_in m.state ≡ setup_in u
  same_setup = setup_stays limit start m ms A.numbers A.pins X

  -- ---- what was fetched

  abbrev Excused : List Moment → Job → ℕ → Option (List ℕ) → Type 0
  Excused hs j i block = IsReplaced (mark_of mark hs j) i hs ⊎
      ((block ≡ None) × RoseSince (begin_of start hs j) (now start hs) i)

  excused_on : (k : ℕ) (x j : Job) (i : ℕ) (block : Option (List ℕ)) → job_of u.jobs k ≡ Some x →
      j.begun ≡ x.begun → Excused ms x i block → Excused (m ∷ ms) j i block
  excused_on k x j i block runs begun (inl r) =
      inl (cc (first_had j x begun (A.held.begun k x runs), since_more (mark_of mark ms x) i m ms r))
  excused_on k x j i block runs begun (inr (none, rose)) = inr (
    none,
    (rw (← (first_had j x begun (A.held.begun k x runs))) at (rose_on _ _ _ rose (O.provider i).others)),
  )

  -- the object of a number among those that a job works on
  object_is : (k : ℕ) (x : Job) (f : Pinned) → job_of u.jobs k ≡ Some x → In f x.pinned →
      worked_object u x f.id ≡ pinned_object u f
  object_is k x f runs in_x = ev.worked_is start ms E x f.id (cc (number_of u.jobs k x runs))
      (record { file = f; pinned = in_x; id_is = refl })

  -- a block that a fetch gives is wrong where what is held is, or a count rose
  fetched_now : (k : ℕ) (x j : Job) (f : Pinned) (i s : ℕ) (block : Option (List ℕ)) →
      job_of u.jobs k ≡ Some x → j.begun ≡ x.begun → In f x.pinned → i < (setup_in u).n →
      s < stripes_of (profiled (setup_in u) f.profile) (length (u.bytes f.id)) →
      is_wrong_block (pinned_object u f) (u.bytes f.id) i s block ≡ true →
      IsHeldThen u m.state x.pinned i f.id s block → Excused (m ∷ ms) j i block
  fetched_now k x j f i s block runs begun in_x l b wrong (inr (none, rose)) = inr (
    none,
    subst (λ hs. RoseSince (now start hs) m.state i) (sym (first_had j x begun (A.held.begun k x runs)))
        (rose_since _ _ _ (F.counts k x i runs) rose (O.provider i).others),
  )
  fetched_now k x j f i s block runs begun in_x l b wrong (inl g) =
      by_told (u.providers i).held refl (tell i) (subst (λ ob. FetchGives ob.profile.size f.id s
      (u.providers i).held block) (object_is k x f runs in_x) g)
    where
      by_told : (held : Option Held) → (u.providers i).held ≡ held → IsSome held →
          FetchGives (pinned_object u f).profile.size f.id s held block → Excused (m ∷ ms) j i block
      by_told None is some gives = absurd (false≢true some)
      by_told (Some held) is some gives =
          excused_on k x j i block runs begun (inl (F.reads k x f i s runs in_x l b (
            held f.id s,
            cc,
            sized_wrong (pinned_object u f) (u.bytes f.id) i s (held f.id s) (cc),
          )))

  -- a wrong block that a running job was given is of a provider replaced since its mark, or one failed
  gave_step : (k : ℕ) (j : Job) (f : Pinned) (i s : ℕ) (block : Option (List ℕ)) →
      job_of m.state.jobs k ≡ Some j → In f j.pinned → i < (setup_in m.state).n →
      s < stripes_of (profiled (setup_in m.state) f.profile) (length (m.state.bytes f.id)) →
      In (Fetched i f.id s block) j.given →
      is_wrong_block (pinned_object m.state f) (m.state.bytes f.id) i s block ≡ true →
      Excused (m ∷ ms) j i block
  gave_step k j f i s block h in_f l b given wrong = elim (G.job k j h) [
    | Went.kept runs other ↦ before j runs refl refl given
    | Went.begun kind wish is k_is rec ↦ absurd (subst (λ x. In (Fetched i f.id s block) x.given) is given)
    | Went.went x action goes ↦ by_passed x action goes.runs goes.passed
  ]
    where
      before : (x : Job) → job_of u.jobs k ≡ Some x → j.begun ≡ x.begun → j.pinned ≡ x.pinned →
          In (Fetched i f.id s block) x.given → Excused (m ∷ ms) j i block
      before x runs begun pinned in_given = (let in_x = subst (In f) pinned in_f in
          let below = (A.pins.pins k x f runs in_x).0 in
          let n = ev.bounds N f.profile f.id i s (same_setup k j h) below l b in
          excused_on k x j i block runs begun
          (F.gave k x f i s block runs in_x n.0 n.1 in_given (pt.wrong_old N f.profile f.id i s block
          (same_setup k j h) (X.bytes f.id below) wrong)))

      -- what a fetch of this event gave
      found : (x : Job) (action : Action) (gift : Given) → IsGift u x m.state action gift →
          gift ≡ Fetched i f.id s block → IsHeldThen u m.state x.pinned i f.id s block
      found x (Fetch p o t) gift (c, is, held) e =
          (let z : Fetched p o t c ≡ Fetched i f.id s block = sym is ∙ e in
          let pi : p ≡ i = cc in let of : o ≡ f.id = cc in let ts : t ≡ s = cc in let cb : c ≡ block = cc in
          now_held p o t c pi of ts cb held)
        where
          now_held : (p o t : ℕ) (c : Option (List ℕ)) → p ≡ i → o ≡ f.id → t ≡ s → c ≡ block →
              IsHeldThen u m.state x.pinned p o t c → IsHeldThen u m.state x.pinned i f.id s block
          now_held p o t c pi of ts cb held =
              subst (λ n. IsHeldThen u m.state x.pinned n f.id s block) pi (subst (λ n. IsHeldThen u m.state
              x.pinned p n s block) of (subst (λ n. IsHeldThen u m.state x.pinned p o n block) ts
              (subst (IsHeldThen u m.state x.pinned p o t) cb held)))
      found x (Ask p o r) gift (c, is, answered) e =
          absurd (let z : Answered p o r c ≡ Fetched i f.id s block = sym is ∙ e in cc)
      found x (Work o t) gift (c, is, gives) e =
          absurd (let z : Worked o t c ≡ Fetched i f.id s block = sym is ∙ e in cc)
      found x action gift g e = absurd g

      by_passed : (x : Job) (action : Action) → job_of u.jobs k ≡ Some x → Passed u x action m.state j →
          Excused (m ∷ ms) j i block
      by_passed x action runs (Passed.silent quiet is rec) =
          before x runs (cc) (cc) (subst (λ y. In (Fetched i f.id s block) y.given) is given)
      by_passed x action runs (Passed.gave gift is_gift is rec) =
          elim (subst (λ y. In (Fetched i f.id s block) y.given) is given) [
            | inl e ↦ (let in_x = subst (λ y. In f y.pinned) is in_f in
                let below = (A.pins.pins k x f runs in_x).0 in
                let n = ev.bounds N f.profile f.id i s (same_setup k j h) below l b in
                fetched_now k x j f i s block runs (cc) in_x n.0 n.1
                (pt.wrong_old N f.profile f.id i s block (same_setup k j h) (X.bytes f.id below) wrong)
                (found x action gift is_gift (sym e)))
            | inr in_given ↦ before x runs (cc) (cc) in_given
          ]
      by_passed x action runs (Passed.drew act is rec) =
          before x runs (cc) (cc) (subst (λ y. In (Fetched i f.id s block) y.given) is given)
      by_passed x action runs (Passed.finished a act flight mine is rec) =
          before x runs (cc) (cc) (subst (λ y. In (Fetched i f.id s block) y.given) is given)

  -- ---- what the work of a get or a repair gave

  -- the symbols of a number among files are the file's
  abbrev Right : State → List Pinned → ℕ → ℕ → List ℕ → Type 0
  Right w files o s symbols = symbols ≡ symbols_in (object_among w files o) (w.bytes o) s

  rows_now : (k : ℕ) (x : Job) (o s : ℕ) (symbols : List ℕ) → job_of u.jobs k ≡ Some x →
      relies x.kind ≡ true → next_action u x ≡ Some (Work o s) →
      GivesSymbols (worked_object u x o) s (blocks_given x.given (setup_in u).n o s) symbols →
      (o < next_id u.records) × Right u x.pinned o s symbols
  rows_now k x o s symbols runs kind next_is gives = by_file (works_within u x o s x.kind refl kind next_is)
    where
      by_file : (f : Pinned) × In f x.pinned × (f.id ≡ o) × (s < pinned_stripes (setup_in u) f) →
          (o < next_id u.records) × Right u x.pinned o s symbols
      by_file (f, in_x, id_is, l) =
          (let b = rw (E.pinned k x f runs in_x) at l in let object = object_is k x f runs in_x in
          subst (λ n. (n < next_id u.records) × Right u x.pinned n s symbols) id_is (
            (A.pins.pins k x f runs in_x).0,
            cc (own_symbols (pinned_object u f) (u.bytes f.id) f.profile s (blocks_given x.given
                (setup_in u).n f.id s) symbols refl (runs_shape limit start ms clean run k x runs) b
                (few_there mark start ms F calm k x f s runs kind in_x b)
                (subst (λ (ob : Object). GivesSymbols ob s (blocks_given x.given (setup_in u).n f.id s)
                symbols) object (rw (← id_is) at gives))),
          ))

  -- after an event the symbols that gets and repairs worked out are the files' own
  rows_step : (k : ℕ) (j : Job) (o s : ℕ) (symbols : List ℕ) → job_of m.state.jobs k ≡ Some j →
      relies j.kind ≡ true → In (Worked o s symbols) j.given →
      (o < next_id m.state.records) × (symbols ≡ symbols_in (worked_object m.state j o) (m.state.bytes o) s)
  rows_step k j o s symbols h kind given = elim (X.job k j h) [
    | Job_is.kept r grown ↦ rows_on j refl (F.rows k j o s symbols r kind given)
    | Job_is.begun kd wish is k_is allowed rec ↦ absurd
        (subst (λ x. In (Worked o s symbols) x.given) is given)
    | Job_is.plain x action runs next_is is_plain goes rec st ↦
        rows_on x goes.pinned (by_gave x action runs next_is (cc) goes.gave)
    | Job_is.drew x runs next_is free is rec ↦ rows_on x (cc) (F.rows k x o s symbols runs (cc)
        (subst (λ y. In (Worked o s symbols) y.given) is given))
    | Job_is.finished x a runs next_is flight mine is rec free ↦ rows_on x (cc)
        (F.rows k x o s symbols runs (cc) (subst (λ y. In (Worked o s symbols) y.given) is given))
  ]
    where
      rows_on : (x : Job) → j.pinned ≡ x.pinned → (o < next_id u.records) × Right u x.pinned o s symbols →
          (o < next_id m.state.records) × Right m.state j.pinned o s symbols
      rows_on x pinned r = (
        (let g = ev.ids_grow N in let l = r.0 in omega arith),
        r.1 ∙ (ap (λ ps. symbols_in (object_among u ps o) (u.bytes o) s) (sym pinned)
            ∙ (ap (λ y. symbols_in (object_among u j.pinned o) y s) (sym (X.bytes o r.0))
            ∙ ap (λ t. symbols_in (object_of (profiled t (pinned_profile t.profile j.pinned o)) o)
            (m.state.bytes o) s) (sym (same_setup k j h)))),
      )

      by_gave : (x : Job) (action : Action) → job_of u.jobs k ≡ Some x → next_action u x ≡ Some action →
          relies x.kind ≡ true → Gave u x action j → (o < next_id u.records) × Right u x.pinned o s symbols
      by_gave x action runs next_is kx (Gave.nothing quiet g) =
          F.rows k x o s symbols runs kx (subst (In (Worked o s symbols)) g given)
      by_gave x action runs next_is kx (Gave.fetched i p t block act g) =
          elim (subst (In (Worked o s symbols)) g given) [
            | inl e ↦ absurd (cc e)
            | inr old ↦ F.rows k x o s symbols runs kx old
          ]
      by_gave x action runs next_is kx (Gave.answered i p t symbol act g) =
          elim (subst (In (Worked o s symbols)) g given) [
            | inl e ↦ absurd (cc e)
            | inr old ↦ F.rows k x o s symbols runs kx old
          ]
      by_gave x action runs next_is kx (Gave.worked p t found act gives g) =
          elim (subst (In (Worked o s symbols)) g given) [
            | inl e ↦ (let z : Worked o s symbols ≡ Worked p t found = e in let po : p ≡ o = cc in
                let ts : t ≡ s = cc in let fs : found ≡ symbols = cc in
                now_worked p t found po ts fs (next_is ∙ ap Some act) gives)
            | inr old ↦ F.rows k x o s symbols runs kx old
          ]
        where
          now_worked : (p t : ℕ) (found : List ℕ) → p ≡ o → t ≡ s → found ≡ symbols →
              next_action u x ≡ Some (Work p t) → GivesSymbols (worked_object u x p) t (blocks_given x.given
              (setup_in u).n p t) found → (o < next_id u.records) × Right u x.pinned o s symbols
          now_worked p t found po ts fs next_w gives_w =
              (let r = rows_now k x p t found runs kx next_w gives_w in (
                subst (λ n. n < next_id u.records) po r.0,
                cc,
              ))

  -- ---- what a repair has stored

  replaced_less : (from i : ℕ) → is_replaced_since from i (m ∷ ms) ≡ false →
      is_replaced_since from i ms ≡ false
  replaced_less from i none = elim (cases_Bool (is_replaced_since from i ms))
      [ inl t ↦ absurd (false≢true (sym none ∙ since_more from i m ms t)) | inr f ↦ f ]

  -- the objects of one number among the files of two jobs are one
  objects_are : (x y : Job) (o : ℕ) → job_of u.jobs x.number ≡ Some x → job_of u.jobs y.number ≡ Some y →
      HasPin x o → HasPin y o → worked_object u y o ≡ worked_object u x o
  objects_are x y o runs runs_y p q = cc (
    ev.worked_is start ms E y o runs_y q,
    E.one_pin y.number x.number y x q.file p.file runs_y runs q.pinned p.pinned (q.id_is ∙ sym p.id_is),
    ev.worked_is start ms E x o runs p,
  )

  -- what a repair stored before an event is still the file's own after it, but for replacements
  pub carry : (k : ℕ) (x : Job) (i o s : ℕ) (b : Option (List ℕ)) → job_of u.jobs k ≡ Some x →
      x.kind ≡ RepairJob → HasMadeStore (setup_in u) x i o s → is_replaced_since x.begun i (m ∷ ms) ≡ false →
      told_block m.state i o s ≡ Some b → b ≡ Some (columns (worked_object u x o) (u.bytes o) i s)
  carry k x i o s b runs kind made none told = elim (X.block i o s) [
    | Block_is.same e ↦ F.rewrote k x i o s b runs kind made (replaced_less x.begun i none) (sym e ∙ told)
    | Block_is.replaced r ↦
        absurd (false≢true (sym none ∙ since_now x.begun i m ms r (A.held.begun k x runs)))
    | Block_is.stored y runs_y next_y is ↦ (let p = made_pin (setup_in u) x i o s kind made in
        let at_x = rw (← (number_of u.jobs k x runs)) at runs in
        elim (store_kinds y y.kind i o s refl (is_fair u y (Store i o s) next_y)) [
          | inl (name, bytes, kind_y, o_is) ↦ absurd (pt.unstored N
              y name bytes i o s runs_y kind_y next_y o_is (cc ((A.pins.pins k x p.file runs p.pinned).1)))
          | inr (repairs, q) ↦ cc (
            pt.stored_column N
                (rows_right mark start ms F) y i o s b runs_y next_y repairs (some_told _ _ b (sym is ∙ told)),
            objects_are x y o at_x runs_y p q,
          )
        ])
    | Block_is.scrubbed scrub rest at next_is is ↦ pt.no_scrub N k x runs scrub at
    | Block_is.removed y runs_y next_y ↦ absurd (let p = made_pin (setup_in u) x i o s kind made in
        A.pins.older_free y.number k y x o p.file runs_y (remove_kinds y y.kind i o refl
        (is_fair u y (Remove i o) next_y)) runs p.pinned p.id_is)
  ]

  -- after an event what a running repair stored is the file's own, but for replacements
  rewrote_step : (k : ℕ) (j : Job) (i o s : ℕ) (b : Option (List ℕ)) → job_of m.state.jobs k ≡ Some j →
      j.kind ≡ RepairJob → HasMadeStore (setup_in m.state) j i o s →
      is_replaced_since j.begun i (m ∷ ms) ≡ false →
      told_block m.state i o s ≡ Some b → b ≡ Some (columns (worked_object m.state j o) (m.state.bytes o) i s)
  rewrote_step k j i o s b h kind made none told = elim (X.job k j h) [
    | Job_is.kept r grown ↦ (let old : HasMadeStore (setup_in u) j i o s =
        record { place = made.place; made = made.made; action = at_old } in
        columns_on k j refl r (made_pin (setup_in u) j i o s kind old) (carry k j i o s b r kind old none
        told))
    | Job_is.begun kd wish is k_is allowed rec ↦ absurd
        (let e : j.place ≡ 0 = cc in let l = made.made in omega arith)
    | Job_is.plain x action runs next_is is_plain goes rec st ↦
        by_place x action runs next_is (cc) goes.pinned goes.flagged goes.begun goes.place st
    | Job_is.drew x runs next_is free is rec ↦ by_place x WriteBody runs next_is (cc) (cc) (cc) (cc) (cc)
        (λ p q r c e t. absurd (cc e))
    | Job_is.finished x a runs next_is flight mine is rec free ↦ by_place x SyncGate runs next_is (cc) (cc)
        (cc) (cc) (cc) (λ p q r c e t. absurd (cc e))
  ]
    where
      at_old : slice_get (actions_of (setup_in u) j) made.place ≡ Some (Store i o s)
      at_old = ap (λ t. slice_get (actions_of t j) made.place) (sym (same_setup k j h)) ∙ made.action

      columns_on : (l : ℕ) (x : Job) → j.pinned ≡ x.pinned → job_of u.jobs l ≡ Some x → HasPin x o →
          b ≡ Some (columns (worked_object u x o) (u.bytes o) i s) →
          b ≡ Some (columns (worked_object m.state j o) (m.state.bytes o) i s)
      columns_on l x pinned runs p e = (let below : o < next_id u.records =
          subst (λ n. n < next_id u.records) p.id_is (A.pins.pins l x p.file runs p.pinned).0 in
          e ∙ (ap (λ ps. Some (columns (object_among u ps o) (u.bytes o) i s)) (sym pinned)
          ∙ (ap (λ y. Some (columns (object_among u j.pinned o) y i s)) (sym (X.bytes o below))
          ∙ ap (λ t. Some (columns (object_of (profiled t (pinned_profile t.profile j.pinned o)) o)
          (m.state.bytes o) i s)) (sym (same_setup k j h)))))

      by_place : (x : Job) (action : Action) → job_of u.jobs k ≡ Some x → next_action u x ≡ Some action →
          x.kind ≡ RepairJob → j.pinned ≡ x.pinned → j.flagged ≡ x.flagged → j.begun ≡ x.begun →
          j.place ≡ x.place + 1 → ((p q r : ℕ) (c : Option (List ℕ)) → action ≡ Store p q r →
          told_block m.state p q r ≡ Some c → c ≡ Some (block_to_store u x x.kind p q r)) →
          b ≡ Some (columns (worked_object m.state j o) (m.state.bytes o) i s)
      by_place x action runs next_is kx pinned flagged begun place stores =
          (let at_x : slice_get (actions_of (setup_in u) x) made.place ≡ Some (Store i o s) =
          ap (λ l. slice_get l made.place) (sym (same_actions (setup_in u) x j kx kind pinned flagged))
          ∙ at_old in elim (cases_lt made.place x.place) [
            | inl l ↦ (let old : HasMadeStore (setup_in u) x i o s =
                record { place = made.place; made = l; action = at_x } in
                columns_on k x pinned runs (made_pin (setup_in u) x i o s kx old) (carry k x i o s b runs kx
                old (cc) told))
            | inr l ↦ (let here : made.place ≡ x.place = (let g = made.made in omega arith) in
                let act : action ≡ Store i o s = cc in
                let next_store : next_action u x ≡ Some (Store i o s) = next_is ∙ ap Some act in
                let pin : HasPin x o = subst (λ kd. IsFair x kd (Store i o s)) kx (is_fair u x (Store i o s)
                next_store) in
                columns_on k x pinned runs pin (pt.stored_column N
                (rows_right mark start ms F) x i o s b (cc (number_of u.jobs k x runs)) next_store kx
                (stores i o s b act told)))
          ])

  -- one event more, where the mark is such a moment after it
  pub step : IsMark start (m ∷ ms) (mark (m ∷ ms)) → Facts mark start (m ∷ ms)
  step moment = record {
    moment = moment;
    marked = λ k j h. elim (pins_is limit start m ms A.numbers A.pins X k j h) [
      | Pins_is.had x runs pinned kind begun g ↦
          (let e = ap mark (first_had j x begun (A.held.begun k x runs)) in omega (arith, F.marked k x runs))
      | Pins_is.new_one kd wish is k_is allowed rec ↦
          (let e = ap mark (first_new j (cc)) in omega (arith, F.moment.before.early))
    ];
    reads = λ k j f i s h in_f l b bad. (let setup = same_setup k j h in
        elim (pins_is limit start m ms A.numbers A.pins X k j h) [
          | Pins_is.had x runs pinned kind begun g ↦ (let in_x = subst (In f) pinned in_f in
              let below = (A.pins.pins k x f runs in_x).0 in
              let n = ev.bounds N f.profile f.id i s setup below l b in
              subst (λ z. IsReplaced z i (m ∷ ms)) (cc (first_had j x begun (A.held.begun k x runs)))
              (elim (pt.pinned_bad N (rows_right mark start ms F) k x f i s runs in_x setup bad) [
                | inl old ↦ since_more (mark_of mark ms x) i m ms (F.reads k x f i s runs in_x n.0 n.1 old)
                | inr r ↦ since_now (mark_of mark ms x) i m ms r (F.marked k x runs)
              ]))
          | Pins_is.new_one kd wish is k_is allowed rec ↦
              (let st = pinned_stands u kd f (subst (λ x. In f x.pinned) is in_f) in
              let b_file = subst (λ x. s < stripes_of (profiled (setup_in m.state) x.profile)
              (length (m.state.bytes x.id))) st.is b in
              let bad_file = subst (λ x. IsBad m.state x.profile x.id i s) st.is bad in
              let n = ev.bounds N st.file.profile st.file.id i s setup
              (file_below A st.name st.file st.in_effect) l b_file in
              subst (λ z. IsReplaced z i (m ∷ ms)) (sym (ap mark (first_new j (cc))))
              (elim (pt.file_bad N (rows_right mark start ms F) (λ scrub rest i2 s2 q g at. absurd
              (some-not-none u.alone (Scrubbing scrub) at (none_lone limit u kd wish allowed)))
              st.name st.file i s st.in_effect setup bad_file) [
                | inl old ↦ elim (F.moment.clear st.name st.file i s st.in_effect n.0 n.1 old) [
                  | inl r ↦ since_more (mark ms) i m ms r
                  | inr never ↦ absurd never
                ]
                | inr r ↦ since_now (mark ms) i m ms r F.moment.before.early
              ]))
        ]);
    counts = λ k j i h. elim (pins_is limit start m ms A.numbers A.pins X k j h) [
      | Pins_is.had x runs pinned kind begun g ↦ (let e = ap (λ hs. ((now start hs).providers i).other_faults)
          (first_had j x begun (A.held.begun k x runs)) in let l = F.counts k x i runs in
          omega (arith, (O.provider i).others))
      | Pins_is.new_one kd wish is k_is allowed rec ↦
          (let e = ap (λ hs. ((now start hs).providers i).other_faults) (first_new j (cc)) in
          omega (arith, (O.provider i).others))
    ];
    gave = gave_step;
    rows = rows_step;
    rewrote = rewrote_step;
  }
