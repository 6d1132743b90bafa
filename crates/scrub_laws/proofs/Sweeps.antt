-- A scrub that runs alone: what it has made and counted, and what it has to do, after each of its steps.
use Rattle.scrub_laws.proofs.Words.{◌≡◌, ℕ, ◌+◌, ◌<◌, ◌==◌, ◌⊎◌, false, cond, List, [], ◌∷◌, ◌++◌, length, length-append, map, Option, None, Some, refl, ap, sym, subst, ◌∙◌, inl, inr, arith, sum_by, flat_map, cases_Bool, eq-eqb, eqb-true, append_assoc, append-nil, map-append, sum_by_push, Each, In, each_append, each_flat, each_map, each_middle, each_mono, in_left, in_right, upto, Object, column_of_symbols, GivesSymbols, Provider, Fetches, Stores, Setup, differs, scrubbed_object, off_by, scrub_stores, opened_scrub, block_to_scrub, StepsScrub, scrub_actions, new_scrub, RepairJob, Pinned, Given, Fetched, Job, Action, Store, Fetch, Work, End, open_actions, on_each_stripe, rewrite_actions, Step, More, Outcome, block_given, blocks_given, symbols_given, pinned_profile, Happens, Moment, now, State, Scrub, Scrubbing, setup_in, with_provider, symbols_given-newest, AreSteps, Place, places, everyone, IsOpenAtRest, With, CallsOne, Made, object_made, IsBelow, each-upto, held-sizes, AreOrdered, IsRepairing, fetches_at, actions_at, repairs-places, IsElse, AreApart, all-apart, ordered-places, IsStoreOf, stores-wider}
use Rattle.std.proofs.lemmas.Grind.{flat_map-append}
use Rattle.record_defs.specs.Table.{files_of}
use Rattle.machine_defs.specs.Begins.{pin_all}
use Rattle.machine_defs.specs.Setups.{profiled, object_of}
use Rattle.machine_defs.specs.Steps.{StepsOpen, Steps, StepsMine}
use Rattle.state_laws.proofs.Pinning.{pins-ascend}
use Rattle.state_laws.proofs.Resting.{rest-sound}
use Rattle.lone_laws.specs.Walked.{with_job_of}
use Rattle.scrub_laws.proofs.Counts.{off_given, block_off, IsElsewhere, off-fetched, off-worked, sums-same}
use Rattle.scrub_laws.proofs.Lines.{made-more, IsStoreOn, each-put, in-put, in-new, ordered-put, Part, part_place, part_actions}
use Rattle.scrub_laws.proofs.Stores.{stores_off, stores-each, stores-has}

-- a store on a provider below a number, at this place
abbrev pub IsMine : ℕ → Place → Action → Type 0
IsMine n p (Store j o t) = (j < n) × ((o ≡ p.object) × (t ≡ p.stripe))
IsMine n p action = ⊥

-- a fetch of this place
abbrev pub IsFetchOf : Place → Action → Type 0
IsFetchOf p (Fetch j o t) = (o ≡ p.object) × (t ≡ p.stripe)
IsFetchOf p action = ⊥

-- none of these places is the one behind them
before-apart : (qs : List Place) (p : Place) (rest : List Place) → AreApart (qs ++ p ∷ rest) →
    Each (IsElsewhere p.object p.stripe) qs
before-apart [] p rest a = tt
before-apart (q ∷ qs) p rest a = (each_middle (IsElse q) qs p rest a.0, before-apart qs p rest a.1)

module _ (start : State) (O : IsOpenAtRest start 1) where
  abbrev s : Setup
  s = setup_in start

  abbrev files : List Pinned
  files = pin_all start (files_of start.records)

  -- a job that works on the same files, and whose providers are all flagged
  abbrev pub job : Job
  job = record {
    number = 1;
    kind = RepairJob;
    profile = 0;
    begun = 0;
    pinned = pin_all start (files_of start.records);
    flagged = everyone;
    subject = 0;
    older = [];
    place = 0;
    given = [];
  }

  -- what its actions are made with
  abbrev pub x : With
  x = with_job_of start RepairJob job

  abbrev pub all : List Place
  all = places s (files_of start.records)

  abbrev off : List Given → ℕ → Place → ℕ
  off given j p = off_given (object_made x) given j p

  -- each provider's store on this place is among these actions, or its block is not off
  abbrev pub IsSettled : List Action → List Given → Place → Type 0
  IsSettled acts given p = (j : ℕ) → j < s.n →
      In (Store j p.object p.stripe) acts ⊎ (off_given (object_made x) given j p ≡ 0)

  -- what is settled stays so with more actions and with what is given of another place
  settled-on : (o t : ℕ) (acts more : List Action) (given next : List Given) →
      ((j q r : ℕ) → In (Store j q r) acts → In (Store j q r) more) →
      ((j : ℕ) (p : Place) → IsElsewhere o t p → off next j p ≡ off given j p) → (qs : List Place) →
      Each (IsElsewhere o t) qs → Each (IsSettled acts given) qs → Each (IsSettled more next) qs
  settled-on o t acts more given next has same [] n h = tt
  settled-on o t acts more given next has same (p ∷ qs) n h = (
    λ j l. elim (h.0 j l) [ inl i ↦ inl (has j p.object p.stripe i) | inr z ↦ inr (same j p n.0 ∙ z) ],
    settled-on o t acts more given next has same qs n.1 h.1,
  )

  -- the fetches and openings of places, and the end
  abbrev pub opens : List Place → List Action
  opens ps = flat_map (λ (p : Place). open_actions s p.object p.stripe) ps ++ End ∷ []

  -- the state in which a scrub goes on over these providers, and the one after it
  abbrev pub at : Scrub → (ℕ → Provider) → State
  at scrub ps =
      record start { alone = Some (Scrubbing scrub); next_job = start.next_job + 1; providers = ps }

  abbrev pub past : (ℕ → Provider) → State
  past ps = record start { alone = None; next_job = start.next_job + 1; providers = ps }

  -- what a scrub has made and counted of these places
  pub record Facts (scrub : Scrub) (ps : ℕ → Provider) (acts : List Action)
      (sofar : List Place) : Type 0 where
    pub files_are : scrub.files ≡ pin_all start (files_of start.records)
    pub number : scrub.number ≡ start.next_job
    pub made : Made x acts start.providers ps [] scrub.given
    pub ordered : AreOrdered (acts ++ scrub.todo)
    pub repairing : Each IsRepairing acts
    pub below : Each (IsBelow s.n) (acts ++ scrub.todo)
    pub stored : Each (IsStoreOf job s.n sofar) acts
    pub settled : Each (IsSettled (acts ++ scrub.todo) scrub.given) sofar
    pub stripes : scrub.found.stripes ≡ length sofar
    pub symbols : (j : ℕ) → scrub.found.symbols j ≡ sum_by (off_given (object_made x) scrub.given j) sofar
    pub blocks : (j : ℕ) → scrub.found.blocks j ≡ sum_by (block_off (object_made x) scrub.given j) sofar

  pub object-is : (scrub : Scrub) (ps : ℕ → Provider) (acts : List Action) (sofar : List Place) →
      Facts scrub ps acts sofar → (o : ℕ) → scrubbed_object (at scrub ps) scrub o ≡ object_made x o
  unfolding setup_in
  object-is scrub ps acts sofar F o =
      ap (λ fs. object_of (profiled s (pinned_profile s.profile fs o)) o) F.files_are

  -- a fetch was made
  pub facts-fetched : (scrub : Scrub) (ps new : ℕ → Provider) (acts : List Action) (sofar : List Place)
      (k o t : ℕ) (rest : List Action) (block : Option (List ℕ)) → Facts scrub ps acts sofar →
      scrub.todo ≡ Fetch k o t ∷ rest → Each (IsElsewhere o t) sofar →
      CallsOne ps k (λ p q. Fetches (object_made x o).profile.size o t p block q) new →
      Facts (record scrub { todo = rest; given = Fetched k o t block ∷ scrub.given }) new
      (acts ++ Fetch k o t ∷ []) sofar
  facts-fetched scrub ps new acts sofar k o t rest block F e apart call = record {
    files_are = F.files_are;
    number = F.number;
    made = made-more x acts (Fetch k o t) start.providers ps new [] scrub.given
        (Fetched k o t block ∷ scrub.given) F.made (block, call, refl);
    ordered = subst AreOrdered line F.ordered;
    repairing = each_append IsRepairing acts (Fetch k o t ∷ []) F.repairing (tt, tt);
    below = subst (Each (IsBelow s.n)) line F.below;
    stored = each_append (IsStoreOf job s.n sofar) acts (Fetch k o t ∷ []) F.stored (tt, tt);
    settled = settled-on o t (acts ++ scrub.todo) ((acts ++ Fetch k o t ∷ []) ++ rest) scrub.given
        (Fetched k o t block ∷ scrub.given) (λ j q r. subst (In (Store j q r)) line)
        (λ j p n. off-fetched (object_made x) scrub.given j k o t block p n) sofar apart F.settled;
    stripes = F.stripes;
    symbols = λ j. F.symbols j
        ∙ sums-same (off scrub.given j) (off (Fetched k o t block ∷ scrub.given) j) sofar
        (each_mono (IsElsewhere o t) (λ p. off scrub.given j p ≡ off (Fetched k o t block ∷ scrub.given) j p)
        sofar (λ p n. sym (off-fetched (object_made x) scrub.given j k o t block p n)) apart);
    blocks = λ j. F.blocks j
        ∙ sums-same (block_off (object_made x) scrub.given j)
        (block_off (object_made x) (Fetched k o t block ∷ scrub.given) j) sofar
        (each_mono (IsElsewhere o t) (λ p. block_off (object_made x) scrub.given j p
        ≡ block_off (object_made x) (Fetched k o t block ∷ scrub.given) j p)
        sofar (λ p n. ap (λ m. cond (m == 0) 0 1)
        (sym (off-fetched (object_made x) scrub.given j k o t block p n))) apart);
  }
    where
      line : acts ++ scrub.todo ≡ (acts ++ Fetch k o t ∷ []) ++ rest
      line = ap (λ l. acts ++ l) e ∙ sym (append_assoc acts (Fetch k o t ∷ []) rest)

  -- a store was made
  pub facts-stored : (scrub : Scrub) (ps new : ℕ → Provider) (acts : List Action) (sofar : List Place)
      (k o t : ℕ) (rest : List Action) → Facts scrub ps acts sofar → scrub.todo ≡ Store k o t ∷ rest →
      IsStoreOf job s.n sofar (Store k o t) →
      CallsOne ps k (Stores o t (block_to_scrub (at scrub ps) scrub k o t)) new →
      Facts (record scrub { todo = rest }) new (acts ++ Store k o t ∷ []) sofar
  facts-stored scrub ps new acts sofar k o t rest F e mine call = record {
    files_are = F.files_are;
    number = F.number;
    made = made-more x acts (Store k o t) start.providers ps new [] scrub.given scrub.given F.made (
      subst (λ (z : Object). CallsOne ps k
          (Stores o t (column_of_symbols z (symbols_given scrub.given o t) k t)) new)
          (object-is scrub ps acts sofar F o) call,
      refl,
    );
    ordered = subst AreOrdered line F.ordered;
    repairing = each_append IsRepairing acts (Store k o t ∷ []) F.repairing (tt, tt);
    below = subst (Each (IsBelow s.n)) line F.below;
    stored = each_append (IsStoreOf job s.n sofar) acts (Store k o t ∷ []) F.stored (mine, tt);
    settled = subst (λ l. Each (IsSettled l scrub.given) sofar) line F.settled;
    stripes = F.stripes;
    symbols = F.symbols;
    blocks = F.blocks;
  }
    where
      line : acts ++ scrub.todo ≡ (acts ++ Store k o t ∷ []) ++ rest
      line = ap (λ l. acts ++ l) e ∙ sym (append_assoc acts (Store k o t ∷ []) rest)

  -- an opening was made
  module _ (scrub : Scrub) (ps : ℕ → Provider) (acts : List Action) (sofar : List Place) (o t : ℕ)
      (rest : List Action) (symbols : List ℕ) (F : Facts scrub ps acts sofar)
      (e : scrub.todo ≡ Work o t ∷ rest) (apart : Each (IsElsewhere o t) sofar) where
    abbrev here : Place
    here = record { object = o; stripe = t }

    abbrev next : Scrub
    next = opened_scrub (at scrub ps) scrub o t rest symbols

    abbrev off_now : ℕ → ℕ
    off_now j = off_by (at scrub ps) scrub o t symbols j

    -- the stores that it decides on are those of the providers that are off
    pub stores-are : scrub_stores (at scrub ps) scrub o t symbols ≡ stores_off off_now o t s.n
    unfolding setup_in
    stores-are = refl

    off-is : (j : ℕ) → off_now j ≡ off next.given j here
    off-is j = ap (λ (z : Object). differs (block_given scrub.given o t j) (column_of_symbols z symbols j t))
        (object-is scrub ps acts sofar F o)
        ∙ ap (λ ss. differs (block_given scrub.given o t j)
        (column_of_symbols (object_made x o) ss j t))
        (sym (symbols_given-newest o t symbols scrub.given))

    -- the stores are on this place
    pub stores-mine : Each (IsMine s.n here) (scrub_stores (at scrub ps) scrub o t symbols)
    stores-mine = subst (Each (IsMine s.n here)) (sym stores-are)
        (stores-each off_now o t (IsMine s.n here) s.n (λ j l. (l, (refl, refl))))

    on : Each (IsStoreOn o t) (scrub_stores (at scrub ps) scrub o t symbols)
    on = subst (Each (IsStoreOn o t)) (sym stores-are)
        (stores-each off_now o t (IsStoreOn o t) s.n (λ j l. (refl, refl)))

    line : acts ++ scrub.todo ≡ acts ++ Work o t ∷ rest
    line = ap (λ l. acts ++ l) e

    new-line : acts ++ Work o t ∷ (scrub_stores (at scrub ps) scrub o t symbols ++ rest)
        ≡ (acts ++ Work o t ∷ []) ++ next.todo
    new-line = sym (append_assoc acts (Work o t ∷ []) (scrub_stores (at scrub ps) scrub o t symbols ++ rest))

    same-off : (j : ℕ) → Each (λ p. off scrub.given j p ≡ off next.given j p) sofar
    same-off j = each_mono (IsElsewhere o t) (λ p. off scrub.given j p ≡ off next.given j p) sofar
        (λ p n. sym (off-worked (object_made x) scrub.given j o t symbols p n)) apart

    settled-now : Each (IsSettled ((acts ++ Work o t ∷ []) ++ next.todo) next.given) (sofar ++ here ∷ [])
    settled-now = each_append (IsSettled ((acts ++ Work o t ∷ []) ++ next.todo) next.given) sofar (here ∷ [])
        (settled-on o t (acts ++ scrub.todo) ((acts ++ Work o t ∷ []) ++ next.todo) scrub.given next.given
        (λ j q r i. subst (In (Store j q r)) new-line (in-put (Store j q r) acts (Work o t)
        (scrub_stores (at scrub ps) scrub o t symbols) rest (subst (In (Store j q r)) line i)))
        (λ j p n. off-worked (object_made x) scrub.given j o t symbols p n) sofar apart F.settled) (mine, tt)
      where
        mine : (j : ℕ) → j < s.n → In (Store j o t) ((acts ++ Work o t ∷ []) ++ next.todo) ⊎
            (off_given (object_made x) next.given j here ≡ 0)
        mine j l = elim (cases_Bool (off_now j == 0)) [
          | inl z ↦ inr (sym (off-is j) ∙ eqb-true (off_now j) 0 z)
          | inr f ↦ inl (subst (In (Store j o t)) new-line
              (in-new (Store j o t) acts (Work o t) (scrub_stores (at scrub ps) scrub o t symbols) rest
              (subst (In (Store j o t)) (sym stores-are) (stores-has off_now o t s.n j l f))))
        ]

    pub facts-worked : GivesSymbols (object_made x o) t (blocks_given scrub.given s.n o t) symbols →
        Facts next ps (acts ++ Work o t ∷ []) (sofar ++ here ∷ [])
    facts-worked gives = record {
      files_are = F.files_are;
      number = F.number;
      made = made-more x acts (Work o t) start.providers ps ps [] scrub.given next.given F.made
          (symbols, gives, refl, refl);
      ordered = subst AreOrdered new-line (ordered-put o t (scrub_stores (at scrub ps) scrub o t symbols) rest
          on acts (subst AreOrdered line F.ordered));
      repairing = each_append IsRepairing acts (Work o t ∷ []) F.repairing (tt, tt);
      below = subst (Each (IsBelow s.n)) new-line (each-put (IsBelow s.n) acts (Work o t)
          (scrub_stores (at scrub ps) scrub o t symbols) rest (subst (Each (IsBelow s.n)) line F.below)
          (subst (Each (IsBelow s.n)) (sym stores-are)
          (stores-each off_now o t (IsBelow s.n) s.n (λ j l. l))));
      stored = each_append (IsStoreOf job s.n (sofar ++ here ∷ [])) acts (Work o t ∷ [])
          (stores-wider job s.n sofar (sofar ++ here ∷ []) acts (λ p i. in_left sofar (here ∷ []) p i)
          F.stored) (tt, tt);
      settled = settled-now;
      stripes = (let a = F.stripes in let b = length-append sofar (here ∷ []) in omega (arith, a, b));
      symbols = λ j. (let a = F.symbols j in let b = off-is j in
          let c = sums-same (off scrub.given j) (off next.given j) sofar (same-off j) in
          let d = sum_by_push (off_given (object_made x) next.given j) sofar here in
          omega (arith, a, b, c, d));
      blocks = λ j. (let a = F.blocks j in
          let b : cond (off_now j == 0) 0 1 ≡ block_off (object_made x) next.given j here =
          ap (λ n. cond (n == 0) 0 1) (off-is j) in
          let c = sums-same (block_off (object_made x) scrub.given j)
          (block_off (object_made x) next.given j) sofar
          (each_mono (λ p. off scrub.given j p ≡ off next.given j p)
          (λ p. block_off (object_made x) scrub.given j p ≡ block_off (object_made x) next.given j p) sofar
          (λ p h. ap (λ n. cond (n == 0) 0 1) h) (same-off j)) in
          let d = sum_by_push (block_off (object_made x) next.given j) sofar here in
          omega (arith, a, b, c, d));
    }

  -- ---- where a scrub stands

  -- it opens a place, stores on one that it has opened, or is at its end
  pub data Where (scrub : Scrub) (acts : List Action) (sofar : List Place) : Type 0 where
    opening : (parts : List Part) (p : Place) (rest : List Place) (front back : List Action) →
        sofar ≡ map part_place parts → all ≡ sofar ++ p ∷ rest →
        acts ≡ flat_map (part_actions s) parts ++ front → fetches_at s p ≡ front ++ back →
        scrub.todo ≡ back ++ Work p.object p.stripe ∷ opens rest → Where scrub acts sofar
    storing : (parts : List Part) (p : Place) (rest : List Place) (stores : List Action) (a : Action)
        (left : List Action) → sofar ≡ map part_place parts ++ p ∷ [] → all ≡ sofar ++ rest →
        acts ≡ flat_map (part_actions s) parts ++ (open_actions s p.object p.stripe ++ stores) →
        Each (IsMine s.n p) (a ∷ left) → scrub.todo ≡ a ∷ (left ++ opens rest) → Where scrub acts sofar
    ending : (parts : List Part) → sofar ≡ map part_place parts → all ≡ sofar →
        acts ≡ flat_map (part_actions s) parts → scrub.todo ≡ End ∷ [] → Where scrub acts sofar

  -- the fetches, the work and the rest of a list of places
  opens-more : (p : Place) (ps : List Place) →
      opens (p ∷ ps) ≡ fetches_at s p ++ Work p.object p.stripe ∷ opens ps
  opens-more p ps = append_assoc (open_actions s p.object p.stripe)
      (flat_map (λ (q : Place). open_actions s q.object q.stripe) ps) (End ∷ [])
      ∙ append_assoc (fetches_at s p) (Work p.object p.stripe ∷ []) (opens ps)

  -- a place is done: the next one is opened, or it was the last
  turn : (scrub : Scrub) (acts : List Action) (sofar : List Place) (parts : List Part) (rest : List Place) →
      sofar ≡ map part_place parts → all ≡ sofar ++ rest → acts ≡ flat_map (part_actions s) parts →
      scrub.todo ≡ opens rest → Where scrub acts sofar
  turn scrub acts sofar parts [] places_are split acts_are todo =
      Where.ending parts places_are (split ∙ append-nil sofar) acts_are todo
  turn scrub acts sofar parts (p ∷ rest) places_are split acts_are todo =
      Where.opening parts p rest [] (fetches_at s p) places_are split
      (acts_are ∙ sym (append-nil (flat_map (part_actions s) parts))) refl (todo ∙ opens-more p rest)

  -- a store is next, or the place is done
  go-on : (scrub : Scrub) (acts : List Action) (sofar : List Place) (parts : List Part) (p : Place)
      (rest : List Place) (stores left : List Action) → sofar ≡ map part_place parts ++ p ∷ [] →
      all ≡ sofar ++ rest →
      acts ≡ flat_map (part_actions s) parts ++ (open_actions s p.object p.stripe ++ stores) →
      Each (IsMine s.n p) left → scrub.todo ≡ left ++ opens rest → Where scrub acts sofar
  go-on scrub acts sofar parts p rest stores (a ∷ left) places_are split acts_are mine todo =
      Where.storing parts p rest stores a left places_are split acts_are mine todo
  go-on scrub acts sofar parts p rest stores [] places_are split acts_are mine todo = turn scrub acts sofar
      (parts ++ done ∷ []) rest (places_are ∙ sym (map-append part_place parts (done ∷ []))) split
      (acts_are ∙ (ap (λ l. flat_map (part_actions s) parts ++ l) (sym (append-nil (part_actions s done)))
      ∙ sym (flat_map-append (part_actions s) parts (done ∷ [])))) todo
    where
      done : Part
      done = record { place = p; stores = stores }

  -- a scrub after some of its steps
  pub record Sweeps (scrub : Scrub) (ps : ℕ → Provider) : Type 0 where
    pub acts : List Action
    pub sofar : List Place
    pub facts : Facts scrub ps acts sofar
    pub stands : Where scrub acts sofar

  -- the files ascend, so that no place comes twice
  places-apart : AreApart all
  places-apart = (let S = rest-sound 8 start O.rest in
      all-apart s start (files_of start.records)
      (pins-ascend start S.accepted S.spelled S.files RepairJob))

  apart-at : (sofar : List Place) (p : Place) (rest : List Place) → all ≡ sofar ++ p ∷ rest →
      Each (IsElsewhere p.object p.stripe) sofar
  apart-at sofar p rest split = before-apart sofar p rest (subst AreApart split places-apart)

  -- ---- a step

  -- a step that went on
  pub record Stepped (new : State) : Type 0 where
    pub scrub : Scrub
    pub providers : ℕ → Provider
    pub is : new ≡ at scrub providers
    pub sweeps : Sweeps scrub providers

  -- the fetches of a place
  fetches-of : (p : Place) → Each (IsFetchOf p) (fetches_at s p)
  fetches-of p = each_map (IsFetchOf p) (λ j. Fetch j p.object p.stripe) (upto s.n) (λ j. (refl, refl))

  -- the next one of them
  pub next-fetch : (p : Place) (front : List Action) (a : Action) (back : List Action) →
      fetches_at s p ≡ front ++ a ∷ back → IsFetchOf p a
  next-fetch p front a back e =
      each_middle (IsFetchOf p) front a back (subst (Each (IsFetchOf p)) e (fetches-of p))

  step-by : (scrub : Scrub) (ps : ℕ → Provider) (acts : List Action) (sofar : List Place)
      (F : Facts scrub ps acts sofar) (new : State) → Where scrub acts sofar →
      StepsScrub (at scrub ps) scrub scrub.todo More new → Stepped new
  unfolding setup_in
  step-by scrub ps acts sofar F new
      (Where.opening parts p rest front [] places_are split acts_are fetches todo) h =
      (let (symbols, gives, is) = subst (λ l. StepsScrub (at scrub ps) scrub l More new) todo h in record {
        scrub = opened_scrub (at scrub ps) scrub p.object p.stripe (opens rest) symbols;
        providers = ps;
        is = is;
        sweeps = record {
          acts = acts ++ Work p.object p.stripe ∷ [];
          sofar = sofar ++ p ∷ [];
          facts = facts-worked scrub ps acts sofar p.object p.stripe (opens rest) symbols F todo
              (apart-at sofar p rest split) (subst (λ (z : Object). GivesSymbols z p.stripe
              (blocks_given scrub.given s.n p.object p.stripe) symbols)
              (object-is scrub ps acts sofar F p.object) gives);
          stands = go-on (opened_scrub (at scrub ps) scrub p.object p.stripe (opens rest) symbols)
              (acts ++ Work p.object p.stripe ∷ []) (sofar ++ p ∷ []) parts p rest []
              (scrub_stores (at scrub ps) scrub p.object p.stripe symbols)
              (ap (λ l. l ++ p ∷ []) places_are) (split ∙ sym (append_assoc sofar (p ∷ []) rest))
              (ap (λ l. l ++ Work p.object p.stripe ∷ []) acts_are
              ∙ (append_assoc (flat_map (part_actions s) parts) front (Work p.object p.stripe ∷ [])
              ∙ ap (λ l. flat_map (part_actions s) parts ++ l)
              (ap (λ l. l ++ Work p.object p.stripe ∷ []) (sym (fetches ∙ append-nil front))
              ∙ sym (append-nil (open_actions s p.object p.stripe)))))
              (stores-mine scrub ps acts sofar p.object p.stripe (opens rest) symbols F todo
              (apart-at sofar p rest split)) refl;
        };
      })
  step-by scrub ps acts sofar F new
      (Where.opening parts p rest front (Fetch k o t ∷ back) places_are split acts_are fetches todo) h =
      (let (block, (q, call, is)) = subst (λ l. StepsScrub (at scrub ps) scrub l More new) todo h in record {
        scrub = record scrub {
          todo = back ++ Work p.object p.stripe ∷ opens rest;
          given = Fetched k o t block ∷ scrub.given;
        };
        providers = with_provider ps k q;
        is = is;
        sweeps = record {
          acts = acts ++ Fetch k o t ∷ [];
          sofar = sofar;
          facts = facts-fetched scrub ps (with_provider ps k q) acts sofar k o t
              (back ++ Work p.object p.stripe ∷ opens rest) block F todo
              (subst (λ n. Each (IsElsewhere n t) sofar) (sym (next-fetch p front (Fetch k o t) back fetches).0)
              (subst (λ n. Each (IsElsewhere p.object n) sofar)
              (sym (next-fetch p front (Fetch k o t) back fetches).1) (apart-at sofar p rest split))) (
                q,
                subst (λ (z : Object). Fetches z.profile.size o t (ps k) block q)
                    (object-is scrub ps acts sofar F o) call,
                refl,
              );
          stands = Where.opening parts p rest (front ++ Fetch k o t ∷ []) back places_are split
              (ap (λ l. l ++ Fetch k o t ∷ []) acts_are
              ∙ append_assoc (flat_map (part_actions s) parts) front (Fetch k o t ∷ []))
              (fetches ∙ sym (append_assoc front (Fetch k o t ∷ []) back)) refl;
        };
      })
  step-by scrub ps acts sofar F new
      (Where.opening parts p rest front (a ∷ back) places_are split acts_are fetches todo) h =
      absurd (next-fetch p front a back fetches)
  step-by scrub ps acts sofar F new
      (Where.storing parts p rest stores (Store k o t) left places_are split acts_are mine todo) h =
      (let (q, call, is) = subst (λ l. StepsScrub (at scrub ps) scrub l More new) todo h in record {
        scrub = record scrub { todo = left ++ opens rest };
        providers = with_provider ps k q;
        is = is;
        sweeps = record {
          acts = acts ++ Store k o t ∷ [];
          sofar = sofar;
          facts = facts-stored scrub ps (with_provider ps k q) acts sofar k o t (left ++ opens rest) F todo (
            mine.0.0,
            refl,
            subst (In (record { object = o; stripe = t })) (sym places_are)
                (in_right (map part_place parts) (p ∷ []) (record { object = o; stripe = t })
                (inl (λ i. record { object = mine.0.1.0 i; stripe = mine.0.1.1 i }))),
          ) (q, call, refl);
          stands = go-on (record scrub { todo = left ++ opens rest }) (acts ++ Store k o t ∷ []) sofar parts p rest
              (stores ++ Store k o t ∷ []) left places_are split
              (ap (λ l. l ++ Store k o t ∷ []) acts_are
              ∙ (append_assoc (flat_map (part_actions s) parts) (open_actions s p.object p.stripe ++ stores)
              (Store k o t ∷ [])
              ∙ ap (λ l. flat_map (part_actions s) parts ++ l)
              (append_assoc (open_actions s p.object p.stripe) stores (Store k o t ∷ [])))) mine.1 refl;
        };
      })
  step-by scrub ps acts sofar F new
      (Where.storing parts p rest stores a left places_are split acts_are mine todo) h = absurd mine.0
  step-by scrub ps acts sofar F new (Where.ending parts places_are split acts_are todo) h =
      absurd (subst (λ l. StepsScrub (at scrub ps) scrub l More new) todo h)

  -- a step of the machine is one of the scrub
  pub steps-scrub : (scrub : Scrub) (ps : ℕ → Provider) (k : ℕ) (outcome : Outcome) (new : State) →
      scrub.number ≡ start.next_job → Happens 8 k (at scrub ps) (Step start.next_job) outcome new →
      StepsScrub (at scrub ps) scrub scrub.todo outcome new
  steps-scrub scrub ps k outcome new number h = subst (λ b. StepsMine (at scrub ps) start.next_job
      (Scrubbing scrub) b outcome new) (eq-eqb scrub.number start.next_job number)
      (subst (λ b. StepsOpen (at scrub ps) start.next_job b outcome new) O.rest.idle.2
      (subst (λ b. Steps (at scrub ps) start.next_job b outcome new) O.opened h))

  -- steps that go on
  pub steps-sweep : (scrub : Scrub) (ps : ℕ → Provider) (moment : ℕ) (ms : List Moment) → Sweeps scrub ps →
      AreSteps (at scrub ps) moment start.next_job ms → Stepped (now (at scrub ps) ms)
  steps-sweep scrub ps moment [] W h = record { scrub = scrub; providers = ps; is = refl; sweeps = W }
  steps-sweep scrub ps moment (m ∷ ms) W (event, outcome, happens, rest) =
      (let r = steps-sweep scrub ps moment ms W rest in
      step-by r.scrub r.providers r.sweeps.acts r.sweeps.sofar r.sweeps.facts m.state r.sweeps.stands
      (steps-scrub r.scrub r.providers (moment + length ms) More m.state r.sweeps.facts.number
      (subst (λ (w : State). Happens 8 (moment + length ms) w (Step start.next_job) More m.state) r.is
      happens)))

  -- ---- the begin

  -- the same job, with no provider flagged
  abbrev quiet : Job
  quiet = record job { flagged = λ j. false }

  none-stored : (xs : List ℕ) (o t : ℕ) → flat_map (λ j. cond false (Store j o t ∷ []) []) xs ≡ []
  none-stored [] o t = refl
  none-stored (j ∷ xs) o t = none-stored xs o t

  plain : (o t : ℕ) → open_actions s o t ++ rewrite_actions s quiet o t ≡ open_actions s o t
  plain o t = ap (λ l. open_actions s o t ++ l) (none-stored (upto s.n) o t) ∙ append-nil (open_actions s o t)

  -- what a scrub has to do at its begin are the openings of all places, and the end
  todo-is : scrub_actions s (pin_all start (files_of start.records)) ≡ opens all
  todo-is = ap (λ l. l ++ End ∷ []) ((λ i. flat_map (λ (f : Pinned). on_each_stripe (profiled s f.profile)
      (length f.bytes) (λ t. sym (plain f.id t) i)) (pin_all start (files_of start.records)))
      ∙ (repairs-places s start quiet (files_of start.records) refl (held-sizes start O)
      ∙ (λ i. flat_map (λ (p : Place). plain p.object p.stripe i) all)))

  quiet-is : flat_map (actions_at s quiet) all ++ End ∷ [] ≡ opens all
  quiet-is = (λ i. flat_map (λ (p : Place). plain p.object p.stripe i) all ++ End ∷ [])

  below-opens : Each (IsBelow s.n) (opens all)
  below-opens = each_append (IsBelow s.n) (flat_map (λ (p : Place). open_actions s p.object p.stripe) all)
      (End ∷ []) (each_flat (IsBelow s.n) (λ (p : Place). open_actions s p.object p.stripe) all
      (λ p. each_append (IsBelow s.n) (fetches_at s p) (Work p.object p.stripe ∷ [])
      (each-upto (IsBelow s.n) (λ j. Fetch j p.object p.stripe) 0 s.n (λ k l. omega (arith, l))) (tt, tt)))
      (tt, tt)

  -- a scrub that has begun
  pub begins-sweep : (moment : ℕ) → Sweeps (new_scrub start moment) start.providers
  begins-sweep moment = record {
    acts = [];
    sofar = [];
    facts = record {
      files_are = refl;
      number = refl;
      made = (refl, refl);
      ordered = subst AreOrdered (quiet-is ∙ sym todo-is)
          (ordered-places s quiet all (End ∷ []) places-apart (tt, tt) ((λ o t. tt), tt));
      repairing = tt;
      below = subst (Each (IsBelow s.n)) (sym todo-is) below-opens;
      stored = tt;
      settled = tt;
      stripes = refl;
      symbols = λ j. refl;
      blocks = λ j. refl;
    };
    stands = turn (new_scrub start moment) [] [] [] all refl refl refl todo-is;
  }
