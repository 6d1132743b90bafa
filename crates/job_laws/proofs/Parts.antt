-- What a put leaves that stops before its last append.
use Rattle.job_laws.proofs.Words.{◌≡◌, ℕ, zero, suc, ◌+◌, ◌*◌, ◌<◌, ◌≤◌, ◌⊎◌, List, [], ◌∷◌, ◌++◌, length, take, drop, Option, None, refl, ap, sym, subst, ◌∙◌, inl, inr, length-append, arith, IsSomeAnd, option_map, flat_map, range_with_len, each_take, each_image-mono, Goes, Provider, Setup, Record, PutStart, next_id, StandsActive, PutJob, Job, profiled, object_of, stripes_of, Action, WriteBody, SyncBody, WriteGate, SyncGate, Store, End, append_actions, on_each_provider, store_actions, remove_actions, actions_of, appends_left, IsSpelledKind, State, Doubt, setup_in, StandsPlain, StandsWithDoubt, StandsSwitched, chosen, beginning, now, Seen, provider_at, StoredOn, AreSteps, after_begin, PartRan, PartRuns, PartLeft, IsOpenAtRest, IsJustOpened, moves_made, put-list, put-later, appends_in, appends-move, moves-first, Made, MayName, RecordsAre, WalkedAt, with_job_at, take-append-add, made-split, walk-begin, runs}
use Rattle.std.proofs.lemmas.List.FromFn.{length-map-range_with_len}
use Rattle.command_defs.specs.Opens as opens
use Rattle.job_laws.proofs.Runs.{WalkedOn, walk-on}
use Rattle.job_laws.proofs.Providers.{IsBelow, called-below, made-keeps}
use Rattle.job_laws.proofs.Truth.{made-rises}
use Rattle.job_laws.proofs.Lasts.{none-moving}
use Rattle.job_laws.proofs.Keeping.{Keeps, part-keeps, keeps-whole}
use Rattle.job_laws.proofs.Leaving.{below}
use Rattle.job_laws.proofs.Removals.{IsWriting, writing-fetches, moves-made}
use Rattle.job_laws.proofs.Puts.{all-stored, writing-put}
use Rattle.job_laws.proofs.Telling.{opened_state, state-over, providers-seen, image-kept}

-- ---- so many stores

length-each : (f : ℕ → List Action) (n : ℕ) → ((t : ℕ) → length (f t) ≡ n) → (a k : ℕ) →
    length (flat_map f (range_with_len a k)) ≡ k * n
length-each f n h a zero = omega arith
length-each f n h a (suc k) = (omega (
  arith,
  length-append (f a) (flat_map f (range_with_len (a + 1) k)),
  length-each f n h (a + 1) k,
))

-- the stores of a put are as many as stripes and providers
pub length-stores : (s : Setup) (job : Job) (bytes : List ℕ) → length (store_actions s job bytes)
    ≡ stripes_of (profiled s job.profile) (length bytes) * s.n
length-stores s job bytes = length-each (λ t. on_each_provider s (λ j. Store j job.subject t)) s.n
    (λ t. length-map-range_with_len (λ j. Store j job.subject t) 0 s.n) 0
    (stripes_of (profiled s job.profile) (length bytes))

drop-append-add : {X : Type 0} (xs ys : List X) (n : ℕ) → drop (length xs + n) (xs ++ ys) ≡ drop n ys
drop-append-add [] ys n = ap (λ k. drop k ys) (let e : 0 + n ≡ n = omega arith in e)
drop-append-add (x ∷ xs) ys n = ap (λ k. drop k (x ∷ (xs ++ ys)))
    (let e : suc (length xs) + n ≡ suc (length xs + n) = omega arith in e) ∙ drop-append-add xs ys n

-- ---- a put whose stores are all made, and no more

module _ (start w : State) (name bytes : List ℕ) (profile : ℕ) (job : Job) (O : IsOpenAtRest start 1)
    (W : WalkedAt start (PutJob name bytes) profile w job)
    (at : job.place ≡ 4 + stripes_of (profiled (setup_in start) profile) (length bytes) * (setup_in start).n)
  where
    abbrev stores : List Action
    stores = store_actions (setup_in start) job bytes

    -- what it has still to do
    abbrev rest : List Action
    rest = append_actions ++ (remove_actions (setup_in start) job ++ End ∷ [])

    list : actions_of (setup_in start) job ≡ append_actions ++ (stores ++ rest)
    list = put-list (setup_in start) job name bytes W.kind_is

    place-is : job.place ≡ length append_actions + (length stores + 0)
    place-is = (let p = ap (λ p. stripes_of (profiled (setup_in start) p) (length bytes) * (setup_in start).n)
        W.profile_is in
        omega (arith, length-stores (setup_in start) job bytes, p))

    left-is : drop job.place (actions_of (setup_in start) job) ≡ rest
    left-is = ap (λ n. drop n (actions_of (setup_in start) job)) place-is
        ∙ (ap (λ xs. drop (length append_actions + (length stores + 0)) xs) list
        ∙ (drop-append-add append_actions (stores ++ rest) (length stores + 0)
        ∙ drop-append-add stores rest 0))

    made-is : take job.place (actions_of (setup_in start) job) ≡ append_actions ++ (stores ++ [])
    made-is = ap (λ n. take n (actions_of (setup_in start) job)) place-is
        ∙ (ap (λ xs. take (length append_actions + (length stores + 0)) xs) list
        ∙ (cc (
          take-append-add append_actions (stores ++ rest) (length stores + 0),
          take-append-add stores rest 0,
        )))

    -- its start is in effect, and its end is not
    pub started : w.records ≡ PutStart (next_id start.records) name ∷ start.records
    started = by_records w.records refl W.records
      where
        some : 0 < appends_left (setup_in start) job
        some = (omega (
          arith,
          ap appends_in left-is,
          appends-move (remove_actions (setup_in start) job ++ End ∷ []),
        ))

        few : appends_left (setup_in start) job ≤ 1
        few = put-later (setup_in start) job name bytes W.kind_is (omega (arith, at))

        by_records : (rs : List Record) → w.records ≡ rs → RecordsAre start (PutJob name bytes) job rs →
            w.records ≡ PutStart (next_id start.records) name ∷ start.records
        by_records rs e (RecordsAre.none l is) = absurd (omega (arith, few, l))
        by_records rs e (RecordsAre.one l is) = e ∙ is
        by_records rs e (RecordsAre.two entry l sec is) = absurd (omega (arith, some, l))

    -- it has no append in flight, and no record is in doubt
    unmoved : (w.append ≡ None) × (w.doubt ≡ None)
    unmoved = none-moving start O (PutJob name bytes) w job W (moves-first (moves_made w.append job.number)
        WriteBody (SyncBody ∷ WriteGate ∷ SyncGate ∷ (remove_actions (setup_in start) job ++ End ∷ []))
        (rw (ap (λ (s : Setup). drop job.place (actions_of s job)) W.setup ∙ left-is) at
        (W.sound.jobs job.number job (runs start O (PutJob name bytes) w job W)).order))

    pub unwritten : w.append ≡ None
    unwritten = unmoved.0

    pub sure : w.doubt ≡ None
    sure = unmoved.1

    -- each provider has the file in every stripe
    pub stored : (j : ℕ) → j < (setup_in start).n →
        Goes (StoredOn (object_of (profiled (setup_in start) profile) (next_id start.records)) bytes None ⊥ j)
        (start.providers j).held (w.providers j).held
    stored j l = (let a = made-split (with_job_at start (PutJob name bytes) profile job) append_actions
        (stores ++ []) start.providers w.providers [] job.given (rw made-is at W.made) in
        let b = made-split (with_job_at start (PutJob name bytes) profile job) stores [] a.0 w.providers a.1
        job.given a.3 in
        all-stored (setup_in start) profile name bytes job (next_id start.records) [] start.providers w.providers
        a.1 b.1 j W.profile_is (W.subject (omega arith)) l
        (subst (λ f. Made (with_job_at start (PutJob name bytes) profile job) stores f w.providers a.1 b.1)
        (moves-made (with_job_at start (PutJob name bytes) profile job) start.providers a.0 [] a.1 a.2)
        (rw (← b.3.0) at b.2)))

    -- no provider was fetched from
    pub no-fetches : (j : ℕ) → (w.providers j).fetches ≡ (start.providers j).fetches
    no-fetches j = writing-fetches (with_job_at start (PutJob name bytes) profile job)
        (take job.place (actions_of (setup_in start) job)) start.providers w.providers [] job.given j
        (each_take IsWriting (actions_of (setup_in start) job) job.place
        (writing-put (setup_in start) job name bytes W.kind_is)) W.made

    -- no count of a provider's faults fell
    pub rises : (j : ℕ) → ((start.providers j).store_faults ≤ (w.providers j).store_faults)
        × ((start.providers j).other_faults ≤ (w.providers j).other_faults)
    rises j = made-rises (with_job_at start (PutJob name bytes) profile job)
        (take job.place (actions_of (setup_in start) job)) start.providers w.providers [] job.given j W.made

    -- providers beyond the setup's stay
    pub others : (j : ℕ) → (setup_in start).n ≤ j → w.providers j ≡ start.providers j
    others j l = made-keeps (with_job_at start (PutJob name bytes) profile job) j (λ p q. q ≡ p)
        (IsBelow (setup_in start).n) (λ p. refl) (λ p q r a b. b ∙ a)
        (λ a given now p q b c. absurd (called-below (with_job_at start (PutJob name bytes) profile job)
        (setup_in start).n a given now j p q b l c)) (take job.place (actions_of (setup_in start) job))
        start.providers w.providers [] job.given (each_take (IsBelow (setup_in start).n)
        (actions_of (setup_in start) job) job.place (below (setup_in start) job)) W.made

-- ---- the run, as its command tells it

module _ (records : List Record) (name bytes : List ℕ) (own : Option ℕ) (old new : Seen)
    (R : opens.IsOpened old records) (spelled : IsSpelledKind (PutJob name bytes))
    (named : MayName (PutJob name bytes) own) (same : length new.providers ≡ length old.providers)
    (A : PartRuns R.area records name bytes own old new) where
  abbrev w : State
  w = opened_state R.area records A.faults old.providers

  over : IsJustOpened w R.area records 1 A.faults old.providers
  over = state-over records A.faults old R

  O : IsOpenAtRest w 1
  O = over.at_rest

  ran : PartRan R.area records name bytes own old new A.faults w 1
  ran = A.ran w 1 over

  abbrev its : ℕ
  its = chosen (setup_in w) own

  first : (ran.runs.job ≡ 1)
      × WalkedAt w (PutJob name bytes) its ran.runs.begun (beginning w 1 (PutJob name bytes) own)
  first = walk-begin 1 ran.runs.job w ran.runs.begun (PutJob name bytes) own named O spelled ran.runs.begins

  steps : AreSteps ran.runs.begun 2 1 ran.runs.steps
  steps = subst (λ n. AreSteps ran.runs.begun 2 n ran.runs.steps) first.0 ran.runs.are_steps

  last : WalkedOn w (PutJob name bytes) its (beginning w 1 (PutJob name bytes) own) (length ran.runs.steps)
      (now ran.runs.begun ran.runs.steps)
  last = walk-on w ran.runs.begun (PutJob name bytes) its (beginning w 1 (PutJob name bytes) own) 2
      ran.runs.steps O first.1 steps

  walked : WalkedAt w (PutJob name bytes) its ran.last last.next
  walked = subst (λ v. WalkedAt w (PutJob name bytes) its v last.next) (sym ran.runs.last) last.walked

  place : last.next.place ≡ 4 + stripes_of (profiled (setup_in w) its) (length bytes) * (setup_in w).n
  unfolding setup_in
  place = (let a = last.place in let b = ran.runs.made in omega (arith, a, b))

  records-are : ran.last.records ≡ after_begin records name
  records-are = started w ran.last name bytes its last.next O walked place

  kept : Keeps w ran.last
  kept = rw (← ran.runs.last) at (part-keeps w O (PutJob name bytes) own 1 ran.runs.job ran.runs.begun
      (beginning w 1 (PutJob name bytes) own) ran.runs.steps ran.runs.begins first.1 steps)

  provider-is : (j : ℕ) → ran.last.providers j ≡ provider_at new.providers j
  unfolding setup_in
  provider-is = providers-seen w ran.last old new (setup_in w).n refl R.enough same ran.handed
      (others w ran.last name bytes its last.next O walked place)

  journal-is : ran.last.journal ≡ after_begin records name
  journal-is = keeps-whole w ran.last kept refl ∙ records-are

  image-stands : (image : List ℕ) → StandsPlain ran.last image ⊎
      (StandsWithDoubt ran.last image ⊎ StandsSwitched ran.last image) →
      StandsActive image R.area (after_begin records name)
  image-stands image h = sure-stands
      (image-kept w ran.last R.area records kept refl refl refl refl R.read.some image h)
    where
      sure-stands : StandsActive image R.area ran.last.records ⊎
          IsSomeAnd (option_map (λ (d : Doubt). d.entry) ran.last.doubt)
          (λ entry. StandsActive image R.area (entry ∷ ran.last.records)) →
          StandsActive image R.area (after_begin records name)
      sure-stands (inl h) = (rw records-are at h)
      sure-stands (inr h) = absurd (rw (sure w ran.last name bytes its last.next O walked place) at h)

  -- what a command tells of such a run leaves its start, and its stripes on every provider
  pub part-left : PartLeft R.area records name bytes own old new
  unfolding setup_in
  part-left = record {
    faults = A.faults;
    before = A.before;
    stored = λ j l. (rw (provider-is j) at (stored w ran.last name bytes its last.next O walked place j l));
    fetches = λ j l. ap (λ (p : Provider). p.fetches) (sym (provider-is j))
        ∙ no-fetches w ran.last name bytes its last.next O walked place j;
    counts = record {
      disk = omega (arith, walked.disk, ran.faults_are);
      stores = λ j. (rw (provider-is j) at (rises w ran.last name bytes its last.next O walked place j).0);
      others = λ j. (rw (provider-is j) at (rises w ran.last name bytes its last.next O walked place j).1);
    };
    others = λ j l. sym (provider-is j)
        ∙ others w ran.last name bytes its last.next O walked place j l;
    images = each_image-mono new.disk _ (λ image. StandsActive image R.area (after_begin records name))
        image-stands ran.images;
    outside_text = rw journal-is at ran.outside_text;
  }
