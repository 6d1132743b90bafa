-- What running jobs have made, and what it gave them.
use Rattle.second_half_laws.proofs.Words.{◌⊎◌, true, ◌&&◌, refl, ap, sym, subst, ◌∙◌, inl, inr, arith, slice_get, cases_Bool, cases_lt, and_parts, and_from, eqb-true, eq-eqb, false≢true, In, in_right, each_get, each_append, honest_answer, challenge_of, SeenBlock, GivesSymbols, block_at, Held, AskGives, Setup, Kind, GetJob, RepairJob, UpgradeJob, Pinned, Given, Fetched, Answered, Worked, Job, job_of, object_of, profiled, Action, Store, Fetch, Ask, Work, End, append_actions, read_actions, repair_actions, actions_by, actions_of, State, IsStart, setup_in, block_given, blocks_given, answer_given, symbols_given, pinned_size, pinned_profile, next_action, Moment, now, IsRun, same_value, found_none, split_get, Changes, changes, setup_stays, All, all, block_at-given, next_stands, IsHeldThen, IsEarlier, WasMade, WasFetched, WasAsked, WasOpened, IsAnsweredThen, HasMade}
use Rattle.std.proofs.Common.{◌≡◌, ℕ, ◌<◌, ◌≤◌, ◌==◌, Bool, false, List, [], ◌∷◌, ◌++◌, length, Option, Some}
use Rattle.std.proofs.lemmas.List.{append_assoc}
use Rattle.second_half_laws.proofs.Places.{fetch_before_work, by_kind, reads_all, repairs_all}
use Rattle.second_half_laws.proofs.Walk.{IsGift, IsSilent, Passed, Goes, Went, Walked, walked}
use Rattle.second_half_laws.proofs.Passing.{Later, later_same, passed_later, passed_place, list_before, list_now}

-- ---- the newest of what was given

-- three numbers that are those looked for, or two
all_three : (k i p o t s : ℕ) → k ≡ i → p ≡ o → t ≡ s → (((k == i) && (p == o)) && (t == s)) ≡ true
all_three k i p o t s x y z = and_from _ _ (and_from (k == i) (p == o) (eq-eqb k i x) (eq-eqb p o y))
    (eq-eqb t s z)

-- what does not fit is further on
later : {X Y : Type 0} {b : Bool} → (X → b ≡ true) → b ≡ false → X ⊎ Y → Y
later fits misfit (inl x) = absurd (false≢true (sym misfit ∙ fits x))
later fits misfit (inr y) = y

-- where a fetch of a block was given, the newest such fetch is among what was given
pub given_block : (given : List Given) (i o s : ℕ) (block : Option (List ℕ)) →
    In (Fetched i o s block) given → In (Fetched i o s (block_given given o s i)) given
given_block [] i o s block h = absurd h
given_block (Fetched k p t c ∷ more) i o s block h = elim (cases_Bool (((k == i) && (p == o)) && (t == s))) [
  | inl b ↦ (let u = and_parts ((k == i) && (p == o)) (t == s) b in let v = and_parts (k == i) (p == o) u.0 in
      let e : block_given (Fetched k p t c ∷ more) o s i ≡ c = cc in let x = eqb-true k i v.0 in
      let y = eqb-true p o v.1 in let z = eqb-true t s u.1 in
      inl (cc))
  | inr b ↦ (inr (subst (λ x. In (Fetched i o s x) more) (sym cc)
      (given_block more i o s block (later (λ e. all_three k i p o t s (cc) (cc) (cc)) b h))))
]
given_block (_ ∷ more) i o s block (inl e) = absurd (cc e)
given_block (_ ∷ more) i o s block (inr h) = inr (given_block more i o s block h)

-- where an answer was given, the newest such answer is among what was given
pub given_answer : (given : List Given) (i o s : ℕ) (symbol : Option ℕ) → In (Answered i o s symbol) given →
    In (Answered i o s (answer_given given o s i)) given
given_answer [] i o s symbol h = absurd h
given_answer (Answered k p t c ∷ more) i o s symbol h =
    elim (cases_Bool (((k == i) && (p == o)) && (t == s))) [
      | inl b ↦ (let u = and_parts ((k == i) && (p == o)) (t == s) b in
          let v = and_parts (k == i) (p == o) u.0 in
          let e : answer_given (Answered k p t c ∷ more) o s i ≡ c = cc in let x = eqb-true k i v.0 in
          let y = eqb-true p o v.1 in let z = eqb-true t s u.1 in
          inl (cc))
      | inr b ↦ (inr (subst (λ x. In (Answered i o s x) more) (sym cc)
          (given_answer more i o s symbol (later (λ e. all_three k i p o t s (cc) (cc) (cc)) b h))))
    ]
given_answer (_ ∷ more) i o s symbol (inl e) = absurd (cc e)
given_answer (_ ∷ more) i o s symbol (inr h) = inr (given_answer more i o s symbol h)

-- where the symbols of a stripe were given, the newest such symbols are among what was given
pub given_symbols : (given : List Given) (o s : ℕ) (symbols : List ℕ) → In (Worked o s symbols) given →
    In (Worked o s (symbols_given given o s)) given
given_symbols [] o s symbols h = absurd h
given_symbols (Worked p t c ∷ more) o s symbols h = elim (cases_Bool ((p == o) && (t == s))) [
  | inl b ↦ (let v = and_parts (p == o) (t == s) b in let e : symbols_given (Worked p t c ∷ more) o s ≡ c =
      cc in let y = eqb-true p o v.0 in let z = eqb-true t s v.1 in
      inl (cc))
  | inr b ↦ (inr (subst (λ x. In (Worked o s x) more) (sym cc) (given_symbols more o s symbols
      (later (λ e. and_from (p == o) (t == s) (eq-eqb p o (cc)) (eq-eqb t s (cc))) b h))))
]
given_symbols (_ ∷ more) o s symbols (inl e) = absurd (cc e)
given_symbols (_ ∷ more) o s symbols (inr h) = inr (given_symbols more o s symbols h)

-- ---- what an action gave is among what was given

abbrev pub HasGift : Action → List Given → Type 0
HasGift (Fetch i o s) given = (block : Option (List ℕ)) × In (Fetched i o s block) given
HasGift (Ask i o r) given = (symbol : Option ℕ) × In (Answered i o r symbol) given
HasGift (Work o s) given = (symbols : List ℕ) × In (Worked o s symbols) given
HasGift action given = Unit {0}

gift_more : (action : Action) (more given now_given : List Given) → now_given ≡ more ++ given →
    HasGift action given → HasGift action now_given
gift_more (Fetch i o s) more given now_given is h =
    (h.0, (rw (← is) at (in_right more given (Fetched i o s h.0) h.1)))
gift_more (Ask i o r) more given now_given is h =
    (h.0, (rw (← is) at (in_right more given (Answered i o r h.0) h.1)))
gift_more (Work o s) more given now_given is h =
    (h.0, (rw (← is) at (in_right more given (Worked o s h.0) h.1)))
gift_more action more given now_given is h = tt

gift_now : (old : State) (x : Job) (action : Action) (new : State) (gift : Given) →
    IsGift old x new action gift → HasGift action (gift ∷ x.given)
gift_now old x (Fetch i o s) new gift h = (h.0, inl (sym h.1))
gift_now old x (Ask i o r) new gift h = (h.0, inl (sym h.1))
gift_now old x (Work o s) new gift h = (h.0, inl (sym h.1))
gift_now old x action new gift h = absurd h

silent_gift : (action : Action) (given : List Given) → IsSilent action → HasGift action given
silent_gift (Store i o s) given h = tt
silent_gift action given h = search (tt, absurd)

passed_gift : (old : State) (x : Job) (action : Action) (new : State) (j : Job) → Passed old x action new j →
    HasGift action j.given
passed_gift old x action new j (Passed.silent quiet is rec) = silent_gift action j.given quiet
passed_gift old x action new j (Passed.gave gift is_gift is rec) =
    subst (HasGift action) (cc) (gift_now old x action new gift is_gift)
passed_gift old x action new j (Passed.drew act is rec) = cc
passed_gift old x action new j (Passed.finished a act flight mine is rec) = cc

-- ---- further on

earlier_on : (maker x j : Job) → Later x j → IsEarlier maker x → IsEarlier maker j
earlier_on maker x j l e = record {
  number = e.number ∙ l.number;
  kind = e.kind ∙ l.kind;
  profile = e.profile ∙ l.profile;
  begun = e.begun ∙ l.begun;
  pinned = e.pinned ∙ l.pinned;
  flagged = e.flagged ∙ l.flagged;
  subject = λ late. e.subject late ∙ l.subject (omega (arith, e.place, late));
  place = omega (arith, e.place, l.place);
}

-- what a job has made it has made also with one more event, and further on
pub made_on : (start : State) (m : Moment) (ms : List Moment) (x j : Job) (action : Action) → Later x j →
    WasMade start ms x action → WasMade start (m ∷ ms) j action
made_on start m ms x j action l c = record {
  later = m ∷ c.later;
  moment = c.moment;
  before = c.before;
  split = ap (λ l. m ∷ l) c.split;
  since = omega (arith, c.since, l.begun);
  maker = c.maker;
  same = earlier_on c.maker x j l c.same;
  makes = c.makes;
  went_on = c.went_on;
  after = c.after;
  after_is = cc;
  given = l.more ++ c.given;
  given_is = cc (append_assoc l.more c.given c.after.given);
}

fetched_on : (start : State) (m : Moment) (ms : List Moment) (x j : Job) (i o s : ℕ)
    (block : Option (List ℕ)) → Later x j → WasFetched start ms x i o s block →
    WasFetched start (m ∷ ms) j i o s block
fetched_on start m ms x j i o s block l c = record {
  later = m ∷ c.later;
  moment = c.moment;
  before = c.before;
  split = ap (λ l. m ∷ l) c.split;
  since = omega (arith, c.since, l.begun);
  maker = c.maker;
  same = earlier_on c.maker x j l c.same;
  makes = c.makes;
  held = rw l.pinned at c.held;
}

-- what is honest hangs on the setup, the audit's number and its files
abbrev Honest : Setup → ℕ → List Pinned → ℕ → ℕ → Option Held → Option ℕ → Type 0
Honest t subject pinned object round held symbol = AskGives
    (honest_answer (challenge_of (object_of (profiled t (pinned_profile t.profile pinned object)) object)
    (pinned_size pinned object) t.picks subject round)) object held symbol

answered_on : (w v : State) (x j : Job) (old new : State) (i o r : ℕ) (symbol : Option ℕ) →
    setup_in v ≡ setup_in w → x.subject ≡ j.subject → x.pinned ≡ j.pinned →
    IsAnsweredThen w x old new i o r symbol → IsAnsweredThen v j old new i o r symbol
answered_on w v x j old new i o r symbol setup subject pinned (inl g) =
    inl (subst (λ t. Honest t j.subject j.pinned o r (old.providers i).held symbol) (sym setup)
    (rw subject at (subst (λ p. Honest (setup_in w) x.subject p o r (old.providers i).held symbol) pinned g)))
answered_on w v x j old new i o r symbol setup subject pinned (inr f) = inr f

-- no ask is among the first four actions of a job
abbrev NoAsk : Action → Type 0
NoAsk (Ask i o r) = ⊥
NoAsk action = Unit {0}

behind_moves : (more : List Action) (p i o r : ℕ) →
    slice_get (append_actions ++ more) p ≡ Some (Ask i o r) → 4 ≤ p
behind_moves more p i o r h = elim (split_get append_actions more p (Ask i o r) h) [
  | inl a ↦ absurd (each_get NoAsk append_actions p (Ask i o r) (tt, (tt, (tt, (tt, tt)))) a.1)
  | inr b ↦ b.0
]

ask_late_by : (t : Setup) (job : Job) (kind : Kind) (p i o r : ℕ) →
    slice_get (actions_by t job kind) p ≡ Some (Ask i o r) → 4 ≤ p
ask_late_by t job (GetJob name) p i o r h = absurd (each_get NoAsk (read_actions t job.pinned ++ End ∷ []) p
    (Ask i o r) (each_append NoAsk (read_actions t job.pinned) (End ∷ [])
    (reads_all t job NoAsk (λ f st in_f l. (λ j. tt, tt))) (tt, tt)) h)
ask_late_by t job RepairJob p i o r h =
    absurd (each_get NoAsk (repair_actions t job ++ (append_actions ++ End ∷ [])) p (Ask i o r)
    (each_append NoAsk (repair_actions t job) (append_actions ++ End ∷ [])
    (repairs_all t job NoAsk (λ f st in_f l. (λ j. tt, tt, λ j. tt))) (tt, (tt, (tt, (tt, (tt, tt)))))) h)
ask_late_by t job UpgradeJob p i o r h = behind_moves (End ∷ []) p i o r h
ask_late_by t job kind p i o r h = behind_moves _ p i o r h

ask_late : (w : State) (job : Job) (i o r : ℕ) → next_action w job ≡ Some (Ask i o r) → 4 ≤ job.place
ask_late w job i o r h = ask_late_by (setup_in w) job job.kind job.place i o r
    (by_kind (setup_in w) job job.kind job.place (Ask i o r) refl (next_stands w job (Ask i o r) h (λ e. cc)))

asked_on : (start : State) (m : Moment) (ms : List Moment) (x j : Job) (i o r : ℕ) (symbol : Option ℕ) →
    setup_in m.state ≡ setup_in (now start ms) → Later x j → WasAsked start ms x i o r symbol →
    WasAsked start (m ∷ ms) j i o r symbol
asked_on start m ms x j i o r symbol setup l c = record {
  later = m ∷ c.later;
  moment = c.moment;
  before = c.before;
  split = ap (λ l. m ∷ l) c.split;
  since = omega (arith, c.since, l.begun);
  maker = c.maker;
  same = earlier_on c.maker x j l c.same;
  makes = c.makes;
  answered = answered_on (now start ms) m.state x j (now start c.before) c.moment.state i o r symbol setup
      (l.subject (omega (arith, ask_late (now start c.before) c.maker i o r c.makes.next, c.same.place)))
      l.pinned c.answered;
}

-- blocks open to symbols of an object among these files
abbrev Gives : Setup → List Pinned → ℕ → ℕ → List SeenBlock → List ℕ → Type 0
Gives t files o s blocks symbols =
    GivesSymbols (object_of (profiled t (pinned_profile t.profile files o)) o) s blocks symbols

opened_on : (start : State) (m : Moment) (ms : List Moment) (x j : Job) (o s : ℕ) (symbols : List ℕ) →
    setup_in m.state ≡ setup_in (now start ms) → Later x j → WasOpened start ms x o s symbols →
    WasOpened start (m ∷ ms) j o s symbols
opened_on start m ms x j o s symbols setup l c = record {
  blocks = c.blocks;
  opens = subst (λ t. Gives t j.pinned o s c.blocks symbols) (sym setup) (rw l.pinned at c.opens);
  fetched = λ i k. fetched_on start m ms x j i o s (block_at c.blocks i) l (c.fetched i (rw setup at k));
}

-- ---- facts of runs

-- what a job was given came of what it made
abbrev pub CameBy : State → List Moment → Job → Given → Type 0
CameBy start ms job (Fetched i o s block) = WasFetched start ms job i o s block
CameBy start ms job (Answered i o r symbol) = WasAsked start ms job i o r symbol
CameBy start ms job (Worked o s symbols) = WasOpened start ms job o s symbols

-- what a job was given came of what it made also with one more event, and further on
pub came_on : (start : State) (m : Moment) (ms : List Moment) (x j : Job) (gift : Given) →
    setup_in m.state ≡ setup_in (now start ms) → Later x j → CameBy start ms x gift →
    CameBy start (m ∷ ms) j gift
came_on start m ms x j (Fetched i o s block) setup l c = fetched_on start m ms x j i o s block l c
came_on start m ms x j (Answered i o r symbol) setup l c = asked_on start m ms x j i o r symbol setup l c
came_on start m ms x j (Worked o s symbols) setup l c = opened_on start m ms x j o s symbols setup l c

pub record Facts (start : State) (ms : List Moment) : Type 0 where
  pub begun : (k : ℕ) (j : Job) → job_of (now start ms).jobs k ≡ Some j → j.begun < length ms
  pub made : (k : ℕ) (j : Job) (p : ℕ) (action : Action) → job_of (now start ms).jobs k ≡ Some j →
      p < j.place → slice_get (actions_of (setup_in (now start ms)) j) p ≡ Some action →
      WasMade start ms j action × HasGift action j.given
  pub came : (k : ℕ) (j : Job) (gift : Given) → job_of (now start ms).jobs k ≡ Some j → In gift j.given →
      CameBy start ms j gift

-- at the work on a stripe, and after it, each block was given by a fetch
pub given_at : (start : State) (ms : List Moment) → Facts start ms → (k : ℕ) (j : Job) (p i o s : ℕ) →
    job_of (now start ms).jobs k ≡ Some j → p ≤ j.place →
    slice_get (actions_of (setup_in (now start ms)) j) p ≡ Some (Work o s) → i < (setup_in (now start ms)).n →
    In (Fetched i o s (block_given j.given o s i)) j.given
given_at start ms F k j p i o s h l at n =
    (let q = fetch_before_work (setup_in (now start ms)) j p i o s at n in
    let r = F.made k j q.0 (Fetch i o s) h (omega (arith, q.1, l)) q.2 in
    given_block j.given i o s r.1.0 r.1.1)

-- a job at the work on a stripe, or past it, was given each provider's block by a fetch
pub fetched_at : (start : State) (ms : List Moment) → Facts start ms → (k : ℕ) (j : Job) (p i o s : ℕ) →
    job_of (now start ms).jobs k ≡ Some j → p ≤ j.place →
    slice_get (actions_of (setup_in (now start ms)) j) p ≡ Some (Work o s) → i < (setup_in (now start ms)).n →
    WasFetched start ms j i o s (block_given j.given o s i)
fetched_at start ms F k j p i o s h l at n =
    F.came k j (Fetched i o s (block_given j.given o s i)) h (given_at start ms F k j p i o s h l at n)

module _ (limit : ℕ) (start : State) (m : Moment) (ms : List Moment) (A : All start ms) (F : Facts start ms)
    (X : Changes limit (length ms) (now start ms) m.event m.outcome m.state)
    (W : Walked (length ms) (now start ms) m.event m.outcome m.state) where
  -- the state after these moments
  abbrev w : State
  w = now start ms

  -- this job made this action now
  made_now : (k : ℕ) (x j : Job) (action : Action) → Goes w m.event m.outcome m.state k x action j →
      job_of m.state.jobs k ≡ Some j → WasMade start (m ∷ ms) j action
  made_now k x j action g h = (let l = passed_later w x action m.state j g.passed in
      record {
        later = [];
        moment = m;
        before = ms;
        split = refl;
        since = omega (arith, F.begun k x g.runs, l.begun);
        maker = x;
        same = record {
          number = l.number;
          kind = l.kind;
          profile = l.profile;
          begun = l.begun;
          pinned = l.pinned;
          flagged = l.flagged;
          subject = l.subject;
          place = omega (arith, passed_place w x action m.state j g.passed);
        };
        makes = record {
          event = cc;
          is_open = g.is_open;
          unbarred = g.unbarred;
          none_alone = g.none_alone;
          runs = cc;
          next = g.next;
          unheld = g.unheld;
        };
        went_on = g.outcome;
        after = j;
        after_is = cc;
        given = [];
        given_is = refl;
      })

  made_step : (k : ℕ) (j : Job) (p : ℕ) (action : Action) → job_of m.state.jobs k ≡ Some j → p < j.place →
      slice_get (actions_of (setup_in m.state) j) p ≡ Some action →
      WasMade start (m ∷ ms) j action × HasGift action j.given
  made_step k j p action h l at = elim (W.job k j h) [
    | Went.kept r apart ↦
        (let f = F.made k j p action r l at_old in (made_on start m ms j j action (later_same j) f.0, f.1))
    | Went.begun kind wish is k_is rec ↦ absurd (let e : j.place ≡ 0 = cc in omega (arith, l, e))
    | Went.went x act g ↦ went_on x act g
  ]
    where
      at_old : slice_get (actions_of (setup_in w) j) p ≡ Some action
      at_old = cc (setup_stays limit start m ms A.numbers A.pins X k j h)

      went_on : (x : Job) (act : Action) → Goes w m.event m.outcome m.state k x act j →
          WasMade start (m ∷ ms) j action × HasGift action j.given
      went_on x act g = (let later = passed_later w x act m.state j g.passed in
          let place = passed_place w x act m.state j g.passed in
          let at_x = sym (list_before w x act m.state j p g.next g.passed (omega (arith, place, l)))
          ∙ at_old in elim (cases_lt p x.place) [
            | inl e ↦ (let f = F.made k x p action g.runs e at_x in (
              made_on start m ms x j action later f.0,
              gift_more action later.more x.given j.given later.given f.1,
            ))
            | inr e ↦ (let here : p ≡ x.place = omega (arith, place, l, e) in
                let same : act ≡ action = same_value _ act action (list_now w x act m.state j g.next g.passed)
                (cc) in subst (λ a. WasMade start (m ∷ ms) j a × HasGift a j.given) same
                (made_now k x j act g h, passed_gift w x act m.state j g.passed))
          ])

  -- what was given now
  came_now : (k : ℕ) (x j : Job) (action : Action) (gift : Given) →
      Goes w m.event m.outcome m.state k x action j → job_of m.state.jobs k ≡ Some j →
      IsGift w x m.state action gift → CameBy start (m ∷ ms) j gift
  unfolding made_now
  came_now k x j (Fetch i o s) gift g h (block, is, held) = subst (CameBy start (m ∷ ms) j) (sym is)
      (let c = made_now k x j (Fetch i o s) g h in
      record {
        later = [];
        moment = m;
        before = ms;
        split = refl;
        since = c.since;
        maker = x;
        same = c.same;
        makes = c.makes;
        held = subst (λ fs. IsHeldThen w m.state fs i o s block) (passed_later w x (Fetch i o s) m.state j
            g.passed).pinned held;
      })
  came_now k x j (Ask i o r) gift g h (symbol, is, held) = subst (CameBy start (m ∷ ms) j) (sym is)
      (let c = made_now k x j (Ask i o r) g h in let l = passed_later w x (Ask i o r) m.state j g.passed in
      record {
        later = [];
        moment = m;
        before = ms;
        split = refl;
        since = c.since;
        maker = x;
        same = c.same;
        makes = c.makes;
        answered = answered_on w m.state x j w m.state i o r symbol (setup_stays limit start m ms A.numbers
            A.pins X k j h) (l.subject (ask_late w x i o r g.next)) l.pinned held;
      })
  came_now k x j (Work o s) gift g h (symbols, is, gives) = subst (CameBy start (m ∷ ms) j) (sym is)
      (let l = passed_later w x (Work o s) m.state j g.passed in
      let setup = setup_stays limit start m ms A.numbers A.pins X k j h in
      let at = next_stands w x (Work o s) g.next (λ e. cc) in
      record {
        blocks = blocks_given x.given (setup_in w).n o s;
        opens = subst (λ t. Gives t j.pinned o s (blocks_given x.given (setup_in w).n o s) symbols)
            (sym setup) (subst (λ fs. Gives (setup_in w) fs o s (blocks_given x.given (setup_in w).n o s)
            symbols) l.pinned gives);
        fetched = λ i n. (let n_old : i < (setup_in w).n = subst (λ t. i < t.n) setup n in
            let c = fetched_at start ms F k x x.place i o s g.runs (omega arith) at n_old in
            subst (WasFetched start (m ∷ ms) j i o s) (sym (block_at-given x.given (setup_in w).n o s i
            n_old)) (fetched_on start m ms x j i o s (block_given x.given o s i) l c));
      })
  came_now k x j action gift g h is_gift = absurd is_gift

  came_step : (k : ℕ) (j : Job) (gift : Given) → job_of m.state.jobs k ≡ Some j → In gift j.given →
      CameBy start (m ∷ ms) j gift
  came_step k j gift h i = elim (W.job k j h) [
    | Went.kept r apart ↦ came_on start m ms j j gift (setup_stays limit start m ms A.numbers A.pins X k j h)
        (later_same j) (F.came k j gift r i)
    | Went.begun kind wish is k_is rec ↦ absurd (subst (In gift) (ap (λ (x : Job). x.given) is) i)
    | Went.went x action g ↦ by_passed x action g g.passed
  ]
    where
      carried : (x : Job) (action : Action) → Goes w m.event m.outcome m.state k x action j →
          In gift x.given → CameBy start (m ∷ ms) j gift
      carried x action g i_x = came_on start m ms x j gift (setup_stays limit start m ms A.numbers A.pins X k
          j h) (passed_later w x action m.state j g.passed) (F.came k x gift g.runs i_x)

      given_now : (x : Job) (action : Action) (new_gift : Given) → Goes w m.event m.outcome m.state k x action
          j → IsGift w x m.state action new_gift → In gift (new_gift ∷ x.given) → CameBy start (m ∷ ms) j gift
      given_now x action new_gift g is_gift (inl e) =
          subst (CameBy start (m ∷ ms) j) (sym e) (came_now k x j action new_gift g h is_gift)
      given_now x action new_gift g is_gift (inr i_x) = carried x action g i_x

      by_passed : (x : Job) (action : Action) → Goes w m.event m.outcome m.state k x action j →
          Passed w x action m.state j → CameBy start (m ∷ ms) j gift
      by_passed x action g (Passed.silent quiet is rec) = carried x action g (subst (In gift) (cc) i)
      by_passed x action g (Passed.gave new_gift is_gift is rec) =
          given_now x action new_gift g is_gift (subst (In gift) (ap (λ (y : Job). y.given) is) i)
      by_passed x action g (Passed.drew act is rec) = carried x action g (subst (In gift) (cc) i)
      by_passed x action g (Passed.finished a act flight mine is rec) =
          carried x action g (subst (In gift) (cc) i)

  -- an event keeps it that jobs made what is before their place, and that their gifts came of it
  pub step_facts : Facts start (m ∷ ms)
  step_facts = record {
    begun = λ k j h. elim (W.job k j h) [
      | Went.kept r apart ↦ (let l = F.begun k j r in omega (arith, l))
      | Went.begun kind wish is k_is rec ↦ (let e : j.begun ≡ length ms = cc in omega (arith, e))
      | Went.went x action g ↦ (let l = F.begun k x g.runs in
          let e = (passed_later w x action m.state j g.passed).begun in omega (arith, l, e))
    ];
    made = made_step;
    came = came_step;
  }

-- at a start no job runs, so it holds of all that they made and were given
pub start_facts : (start : State) → IsStart start → Facts start []
start_facts start clean = record {
  begun = λ k j h. absurd (found_none start.jobs k j clean.jobs h);
  made = λ k j p action h l at. absurd (found_none start.jobs k j clean.jobs h);
  came = λ k j gift h i. absurd (found_none start.jobs k j clean.jobs h);
}

-- in every run jobs made what is before their place, and what they were given came of that
pub facts : (limit : ℕ) (start : State) → IsStart start → (ms : List Moment) → IsRun limit start ms →
    Facts start ms
facts limit start clean [] run = start_facts start clean
facts limit start clean (m ∷ ms) run = (let A = all limit start clean ms run.2 in
    step_facts limit start m ms A (facts limit start clean ms run.2)
    (changes limit (length ms) (now start ms) m.event m.outcome m.state A.numbers.idle run.1)
    (walked (length ms) (now start ms) limit m.event m.outcome m.state A.numbers.idle.lone run.1))

-- what a fetch, a work on a stripe or an ask that a running job has made gave it
pub made_fetch_gave : (limit : ℕ) (start : State) → IsStart start → (ms : List Moment) →
    IsRun limit start ms → (k : ℕ) (j : Job) (i o s : ℕ) → job_of (now start ms).jobs k ≡ Some j →
    HasMade (setup_in (now start ms)) j (Fetch i o s) →
    (block : Option (List ℕ)) × In (Fetched i o s block) j.given
made_fetch_gave limit start clean ms run k j i o s h made =
    ((facts limit start clean ms run).made k j made.place (Fetch i o s) h made.made made.action).1

-- work on a stripe that a running job has made gave it symbols
pub made_work_gave : (limit : ℕ) (start : State) → IsStart start → (ms : List Moment) → IsRun limit start ms →
    (k : ℕ) (j : Job) (o s : ℕ) → job_of (now start ms).jobs k ≡ Some j →
    HasMade (setup_in (now start ms)) j (Work o s) → (symbols : List ℕ) × In (Worked o s symbols) j.given
made_work_gave limit start clean ms run k j o s h made =
    ((facts limit start clean ms run).made k j made.place (Work o s) h made.made made.action).1
