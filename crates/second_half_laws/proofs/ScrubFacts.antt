-- What holds of a scrub while it runs, where at most b providers were replaced since the mark at its begin:
-- it reads new damage alone,
-- opens each stripe to the file's own symbols, and stores the providers' own columns.
use Rattle.second_half_laws.proofs.Words.{true, cond, ◌⊎◌, refl, ap, sym, subst, ◌∙◌, inl, inr, arith, IsSome, flat_map, false≢true, Each, In, each_append, each_map, each_flat, each_flat_in, some-not-none, IsShape, upto, symbols_in, columns, is_wrong_block, GivesSymbols, Setup, setup_of, File, Held, FetchGives, Pinned, Given, Fetched, Worked, Action, Store, Fetch, Work, End, on_each_provider, on_each_stripe, open_actions, object_of, profiled, stripes_of, pinned_stripes, State, Scrub, Scrubbing, setup_in, pinned_object, file_in, pinned_file, blocks_given, symbols_given, scrub_actions, scrubbed_object, off_by, scrub_stores, opened_scrub, new_scrub, block_to_scrub, Moment, now, first_moments, is_replacement, Mark, replaced_count, AllTell, found_none, Block_is, Changes, some_told, in_effect_all, setup_same, All, first_more, first_all, valid_shape, shape_in, IsBad, IsReplaced, IsMark}
use Rattle.std.proofs.Common.{◌≡◌, ℕ, ◌≤◌, ◌<◌, ◌==◌, Bool, false, List, [], ◌∷◌, length, Option, Some, None}
use Rattle.machine_defs.proofs.Pins.{Stands}
use Rattle.run_laws.proofs.InEffect as eff
use Rattle.second_half_laws.proofs.Absent.{own_symbols}
use Rattle.second_half_laws.proofs.Lists.{upto_in}
use Rattle.second_half_laws.proofs.MadeFacts.{given_symbols}
use Rattle.second_half_laws.proofs.Scrubbing.{Beside, Scrub_goes, Scrub_is}
use Rattle.second_half_laws.proofs.Blocks.{since_more, since_now, right_block, sized_wrong}
use Rattle.second_half_laws.proofs.EveryRun.{stands_once, profile_of}
use Rattle.second_half_laws.proofs.Points.{ScrubsRight}
use Rattle.second_half_laws.proofs.Readers.{few_of}

-- the mark at the begin of a scrub
abbrev pub scrub_mark : Mark → List Moment → Scrub → ℕ
scrub_mark mark ms scrub = mark (first_moments scrub.begun ms)

-- what a scrub has still to do: it opens stripes of its files, and stores what it has opened
abbrev pub Ready : Setup → List Pinned → List Given → Action → Type 0
Ready t files given (Store j o s) =
    (f : Pinned) × In f files × (f.id ≡ o) × ((symbols : List ℕ) × In (Worked o s symbols) given)
Ready t files given (Work o s) = (f : Pinned) × In f files × (f.id ≡ o) × (s < pinned_stripes t f)
Ready t files given action = Unit {0}

ready_more : (t : Setup) (files : List Pinned) (given : List Given) (g : Given) (action : Action) →
    Ready t files given action → Ready t files (g ∷ given) action
ready_more t files given g (Store j o s) h = (h.0, h.1, h.2, (h.3.0, inr h.3.1))
ready_more t files given g (Work o s) h = h
ready_more t files given g action h = tt

all_more : (t : Setup) (files : List Pinned) (given : List Given) (g : Given) (todo : List Action) →
    Each (Ready t files given) todo → Each (Ready t files (g ∷ given)) todo
all_more t files given g [] h = tt
all_more t files given g (action ∷ rest) h =
    (ready_more t files given g action h.0, all_more t files given g rest h.1)

ready_first : (t : Setup) (files : List Pinned) → Each (Ready t files []) (scrub_actions t files)
ready_first t files =
    each_append (Ready t files []) (flat_map (λ f. on_each_stripe (profiled t f.profile) (length f.bytes)
    (open_actions t f.id)) files) (End ∷ []) (each_flat_in (Ready t files [])
    (λ f. on_each_stripe (profiled t f.profile) (length f.bytes) (open_actions t f.id)) files
    (λ f i. each_flat_in (Ready t files []) (open_actions t f.id) (upto (pinned_stripes t f))
    (λ st l. each_append (Ready t files []) (on_each_provider t (λ j. Fetch j f.id st)) (Work f.id st ∷ [])
    (each_map (Ready t files []) (λ j. Fetch j f.id st) (upto t.n) (λ j. tt))
    ((f, i, refl, upto_in (pinned_stripes t f) st l), tt)))) (tt, tt)

ready_stores : (w : State) (scrub : Scrub) (t : Setup) (given : List Given) (o s : ℕ) (symbols : List ℕ) →
    ((j : ℕ) → Ready t scrub.files given (Store j o s)) →
    Each (Ready t scrub.files given) (scrub_stores w scrub o s symbols)
ready_stores w scrub t given o s symbols h = each_flat (Ready t scrub.files given)
    (λ j. cond (off_by w scrub o s symbols j == 0) [] (Store j o s ∷ [])) (upto (setup_in w).n)
    (λ j. one (off_by w scrub o s symbols j == 0) (Store j o s) (h j))
  where
    one : (b : Bool) (a : Action) → Ready t scrub.files given a →
        Each (Ready t scrub.files given) (cond b [] (a ∷ []))
    one true a g = tt
    one false a g = (g, tt)

pub record Scrubbed (mark : Mark) (start : State) (ms : List Moment) (scrub : Scrub) : Type 0 where
  pub begun : scrub.begun ≤ length ms
  pub marked : scrub_mark mark ms scrub ≤ length ms
  pub stands : (f : Pinned) → In f scrub.files → Stands (now start ms) f
  pub reads : (f : Pinned) (i s : ℕ) → In f scrub.files → i < (setup_in (now start ms)).n →
      s < pinned_stripes (setup_in (now start ms)) f → IsBad (now start ms) f.profile f.id i s →
      IsReplaced (scrub_mark mark ms scrub) i ms
  pub gave : (f : Pinned) (i s : ℕ) (block : List ℕ) → In f scrub.files → i < (setup_in (now start ms)).n →
      s < pinned_stripes (setup_in (now start ms)) f → In (Fetched i f.id s (Some block)) scrub.given →
      is_wrong_block (pinned_object (now start ms) f) ((now start ms).bytes f.id) i s (Some block) ≡ true →
      IsReplaced (scrub_mark mark ms scrub) i ms
  pub rows : (f : Pinned) (s : ℕ) (symbols : List ℕ) → In f scrub.files →
      In (Worked f.id s symbols) scrub.given → symbols
      ≡ symbols_in (pinned_object (now start ms) f) ((now start ms).bytes f.id) s
  pub todo : Each (Ready (setup_in (now start ms)) scrub.files scrub.given) scrub.todo

own_bytes : (w : State) (f : Pinned) → Stands w f → f.bytes ≡ w.bytes f.id
own_bytes w f st = cc

module _ (mark : Mark) (start : State) (ms : List Moment) (A : All start ms) (scrub : Scrub)
    (K : Scrubbed mark start ms scrub) where
  -- the state after these moments
  abbrev w : State
  w = now start ms

  -- the object of a file that a scrub works on
  pub object_is : (f : Pinned) → In f scrub.files → scrubbed_object w scrub f.id ≡ pinned_object w f
  object_is f in_f = cc (profile_of (setup_in w).profile scrub.files f in_f
      (λ g i e. ap (λ x. x.profile) (stands_once w A.pins.sound g f (K.stands g i) (K.stands f in_f) e)))

  -- a scrub stores the provider's own column
  pub right : (f : Pinned) (rest : List Action) (i s : ℕ) → In f scrub.files →
      scrub.todo ≡ Store i f.id s ∷ rest → block_to_scrub w scrub i f.id s ≡ columns (pinned_object w f)
      (w.bytes f.id) i s
  right f rest i s in_f next_is = (let head = (rw next_is at K.todo).0 in
      let rows = K.rows f s (symbols_given scrub.given f.id s) in_f (given_symbols scrub.given f.id s head.3.0
      head.3.1) in cc (object_is f in_f))

  right_in_effect : (rest : List Action) (i s : ℕ) (q : List ℕ) (f : File) →
      scrub.todo ≡ Store i f.id s ∷ rest → file_in w q ≡ Some f → block_to_scrub w scrub i f.id s ≡ columns
      (pinned_object w (pinned_file w f)) (w.bytes f.id) i s
  right_in_effect rest i s q f next_is in_effect = (let head = (rw next_is at K.todo).0 in
      let same = stands_once w A.pins.sound head.0 (pinned_file w f) (K.stands head.0 head.1)
      (record { name = q; file = f; in_effect = in_effect; is = refl }) head.2 in
      right (pinned_file w f) rest i s (rw same at head.1) next_is)

-- where what holds of the running scrub does, its next store is of the provider's own column
pub scrubs_right : (mark : Mark) (start : State) (ms : List Moment) → All start ms →
    ((scrub : Scrub) → (now start ms).alone ≡ Some (Scrubbing scrub) → Scrubbed mark start ms scrub) →
    ScrubsRight (now start ms)
scrubs_right mark start ms A K scrub rest i s q f at next_is in_effect =
    right_in_effect mark start ms A scrub (K scrub at) rest i s q f next_is in_effect

-- the scrub that runs alone
pub same_scrub : (w : State) (a b : Scrub) → w.alone ≡ Some (Scrubbing a) → w.alone ≡ Some (Scrubbing b) →
    a ≡ b
same_scrub w a b h g = cc (sym h ∙ g)

-- what runs alone stores no block but the provider's own column
pub stores_own : (mark : Mark) (start : State) (ms : List Moment) (A : All start ms) (scrub : Scrub) →
    (now start ms).alone ≡ Some (Scrubbing scrub) → Scrubbed mark start ms scrub → (f : Pinned) (i s : ℕ) →
    In f scrub.files → (other : Scrub) (rest : List Action) →
    (now start ms).alone ≡ Some (Scrubbing other) → other.todo ≡ Store i f.id s ∷ rest →
    block_to_scrub (now start ms) other i f.id s ≡ columns (pinned_object (now start ms) f)
    ((now start ms).bytes f.id) i s
stores_own mark start ms A scrub at K f i s in_f other rest at_other next_is =
    (cc (right mark start ms A scrub K f rest i s in_f (ap (λ x. x.todo)
    (same_scrub (now start ms) scrub other at at_other) ∙ next_is)))

-- what a fetch gave stands for its place under each name of that place
pub gives_there : (w : State) (scrub : Scrub) (i o s : ℕ) (block : Option (List ℕ)) (f : Pinned) (j t : ℕ)
    (c : List ℕ) → j ≡ i → f.id ≡ o → t ≡ s → Some c ≡ block →
    FetchGives (scrubbed_object w scrub o).profile.size o s (w.providers i).held block ⊎ (block ≡ None) →
    FetchGives (scrubbed_object w scrub f.id).profile.size f.id t (w.providers j).held (Some c)
gives_there w scrub i o s block f j t c ji fo ts cb (inr gone) = absurd (cc (cb ∙ gone))
gives_there w scrub i o s block f j t c ji fo ts cb (inl g) = rw (← ji) at
    (subst (λ n. FetchGives (scrubbed_object w scrub n).profile.size n t (w.providers i).held (Some c))
    (sym fo) (subst
    (λ n. FetchGives (scrubbed_object w scrub o).profile.size o n (w.providers i).held (Some c)) (sym ts)
    (subst (FetchGives (scrubbed_object w scrub o).profile.size o s (w.providers i).held) (sym cb) g)))

module _ (limit : ℕ) (mark : Mark) (start : State) (m : Moment) (ms : List Moment) (A : All start ms)
    (I : eff.Facts (now start ms)) (X : Changes limit (length ms) (now start ms) m.event m.outcome m.state)
    (tell : AllTell (now start ms))
    (none : (now start ms).jobs ≡ []) (b : Beside (now start ms) m.state) where
  -- the state after these moments
  abbrev here : State
  here = now start ms

  setup : setup_in m.state ≡ setup_in here
  setup = setup_same m.state here (ap setup_of b.records)

  bytes_are : (o : ℕ) → m.state.bytes o ≡ here.bytes o
  bytes_are o = ap (λ g. g o) b.bytes

  stands_on : (f : Pinned) → Stands here f → Stands m.state f
  stands_on f st = record {
    name = st.name;
    file = st.file;
    in_effect = cc;
    is = st.is ∙ ap (λ l. record { id = st.file.id; profile = st.file.profile; bytes = l }) (cc);
  }

  -- beside a scrub a block that is wrong after an event was so before
  pub wrong_old : (f : Pinned) (i s : ℕ) (block : Option (List ℕ)) → is_wrong_block (pinned_object m.state f)
      (m.state.bytes f.id) i s block ≡ true → is_wrong_block (pinned_object here f) (here.bytes f.id) i s
      block ≡ true
  wrong_old f i s block h =
      subst (λ t. is_wrong_block (object_of (profiled t f.profile) f.id) (here.bytes f.id) i s block ≡ true)
      setup (cc)

  -- a block that is bad was so before, or its provider is replaced now
  pub bad_was : (f : Pinned) (i s : ℕ) → ((scrub : Scrub) (rest : List Action) →
      here.alone ≡ Some (Scrubbing scrub) → scrub.todo ≡ Store i f.id s ∷ rest →
      block_to_scrub here scrub i f.id s ≡ columns (pinned_object here f) (here.bytes f.id) i s) →
      IsBad m.state f.profile f.id i s → IsBad here f.profile f.id i s ⊎ (is_replacement m.event m.outcome i
      ≡ true)
  bad_was f i s scrubs (block, told, wrong) = (let w = wrong_old f i s block wrong in
      elim (X.block i f.id s) [
        | Block_is.same e ↦ inl (block, sym e ∙ told, w)
        | Block_is.replaced r ↦ inr r
        | Block_is.stored x runs next_is is ↦ absurd (found_none here.jobs x.number x none runs)
        | Block_is.scrubbed scrub rest at next_is is ↦ absurd (right_block (pinned_object here f)
            (here.bytes f.id) i s (cc (
              some_told (block_to_scrub here scrub i f.id s) (here.providers i).held block (sym is ∙ told),
              scrubs scrub rest at next_is,
            )))
        | Block_is.removed x runs next_is ↦ absurd (found_none here.jobs x.number x none runs)
      ])

  -- a scrub that ran before
  module _ (scrub : Scrub) (at : here.alone ≡ Some (Scrubbing scrub)) (K : Scrubbed mark start ms scrub) where
    on : (next : Scrub) → next.files ≡ scrub.files → next.begun ≡ scrub.begun →
        ((f : Pinned) (i s : ℕ) (block : List ℕ) → In f scrub.files → i < (setup_in here).n →
        s < pinned_stripes (setup_in here) f → In (Fetched i f.id s (Some block)) next.given →
        is_wrong_block (pinned_object here f) (here.bytes f.id) i s (Some block) ≡ true →
        IsReplaced (scrub_mark mark ms scrub) i ms) → ((f : Pinned) (s : ℕ) (symbols : List ℕ) →
        In f scrub.files → In (Worked f.id s symbols) next.given → symbols ≡ symbols_in (pinned_object here f)
        (here.bytes f.id) s) → Each (Ready (setup_in here) scrub.files next.given) next.todo →
        Scrubbed mark start (m ∷ ms) next
    on next files begun gave rows todo = record {
      begun = (let e = begun in let l = K.begun in omega arith);
      marked = (let e = mark_is in let l = K.marked in omega arith);
      stands = λ f in_f. stands_on f (K.stands f (subst (In f) files in_f));
      reads = λ f i s in_f l k bad. subst (λ z. IsReplaced z i (m ∷ ms)) (sym mark_is)
          (read f i s (subst (In f) files in_f) l k bad);
      gave = λ f i s block in_f l k given wrong. subst (λ z. IsReplaced z i (m ∷ ms)) (sym mark_is)
          (since_more (scrub_mark mark ms scrub) i m ms (gave f i s block (subst (In f) files in_f)
          (subst (λ t. i < t.n) setup l) (subst (λ t. s < pinned_stripes t f) setup k) given
          (wrong_old f i s (Some block) wrong)));
      rows = λ f s symbols in_f given. rows f s symbols (subst (In f) files in_f) given
          ∙ (ap (λ y. symbols_in (pinned_object here f) y s) (sym (bytes_are f.id))
          ∙ ap (λ t. symbols_in (object_of (profiled t f.profile) f.id) (m.state.bytes f.id) s)
          (sym setup));
      todo = subst (λ t. Each (Ready t next.files next.given) next.todo) (sym setup)
          (subst (λ fs. Each (Ready (setup_in here) fs next.given) next.todo) (sym files) todo);
    }
      where
        mark_is : scrub_mark mark (m ∷ ms) next ≡ scrub_mark mark ms scrub
        mark_is = cc (first_more scrub.begun m ms K.begun)

        read : (f : Pinned) (i s : ℕ) → In f scrub.files → i < (setup_in m.state).n →
            s < pinned_stripes (setup_in m.state) f → IsBad m.state f.profile f.id i s →
            IsReplaced (scrub_mark mark ms scrub) i (m ∷ ms)
        read f i s in_f l k bad =
            elim (bad_was f i s (stores_own mark start ms A scrub at K f i s in_f) bad) [
              | inl old ↦ since_more (scrub_mark mark ms scrub) i m ms
                  (K.reads f i s in_f (subst (λ t. i < t.n) setup l)
                  (subst (λ t. s < pinned_stripes t f) setup k) old)
              | inr r ↦ since_now (scrub_mark mark ms scrub) i m ms r K.marked
            ]

    -- what a fetch gave is wrong where what is held is
    fetched_wrong : (f : Pinned) (i s : ℕ) (block : List ℕ) → In f scrub.files → i < (setup_in here).n →
        s < pinned_stripes (setup_in here) f → FetchGives (scrubbed_object here scrub f.id).profile.size f.id
        s (here.providers i).held (Some block) → is_wrong_block (pinned_object here f) (here.bytes f.id) i s
        (Some block) ≡ true → IsReplaced (scrub_mark mark ms scrub) i ms
    fetched_wrong f i s block in_f l k gives wrong = by_told (here.providers i).held refl (tell i)
        (subst (λ ob. FetchGives ob.profile.size f.id s (here.providers i).held (Some block))
        (object_is mark start ms A scrub K f in_f) gives)
      where
        by_told : (held : Option Held) → (here.providers i).held ≡ held → IsSome held →
            FetchGives (pinned_object here f).profile.size f.id s held (Some block) →
            IsReplaced (scrub_mark mark ms scrub) i ms
        by_told None is some g = absurd (false≢true some)
        by_told (Some held) is some g = K.reads f i s in_f l k (
          held f.id s,
          cc,
          sized_wrong (pinned_object here f) (here.bytes f.id) i s (held f.id s) (cc),
        )

    -- a stripe opens to the file's own symbols
    pub opened_right : replaced_count here (scrub_mark mark ms scrub) ms ≤ (setup_in here).b →
        (f : Pinned) (s : ℕ) (symbols : List ℕ) → In f scrub.files → s < pinned_stripes (setup_in here) f →
        GivesSymbols (scrubbed_object here scrub f.id) s (blocks_given scrub.given (setup_in here).n f.id s)
        symbols → symbols ≡ symbols_in (pinned_object here f) (here.bytes f.id) s
    opened_right calm f s symbols in_f k gives = (let st = K.stands f in_f in
        own_symbols (pinned_object here f) (here.bytes f.id) f.profile s (blocks_given scrub.given
        (setup_in here).n f.id s) symbols refl shape (rw (own_bytes here f st) at k)
        (few_of here ms (scrub_mark mark ms scrub) scrub.given f s calm (λ i block l given wrong. K.gave f i s
        block in_f l k given wrong)) (rw (object_is mark start ms A scrub K f in_f) at gives))
      where
        shape : IsShape (setup_in here).n (setup_in here).l (setup_in here).b
        shape = shape_in here (λ t e. valid_shape t (I.setup t e)) (I.files (K.stands f in_f).name
            (K.stands f in_f).file (K.stands f in_f).in_effect).up

    went : replaced_count here (scrub_mark mark ms scrub) ms ≤ (setup_in here).b → (next : Scrub) →
        Scrub_goes here m.state scrub next → Scrubbed mark start (m ∷ ms) next
    went calm next (Scrub_goes.stored i o s rest todo is told) =
        subst (λ x. Scrubbed mark start (m ∷ ms) x) (sym is) (on (record scrub { todo = rest }) refl
        refl K.gave K.rows (subst (Each (Ready (setup_in here) scrub.files scrub.given)) todo K.todo).1)
    went calm next (Scrub_goes.fetched i o s rest block todo is got) =
        subst (λ x. Scrubbed mark start (m ∷ ms) x) (sym is)
        (on (record scrub { todo = rest; given = Fetched i o s block ∷ scrub.given }) refl refl gave rows
        (all_more (setup_in here) scrub.files scrub.given (Fetched i o s block) rest
        (subst (Each (Ready (setup_in here) scrub.files scrub.given)) todo K.todo).1))
      where
        gave : (f : Pinned) (j t : ℕ) (c : List ℕ) → In f scrub.files → j < (setup_in here).n →
            t < pinned_stripes (setup_in here) f → In (Fetched j f.id t (Some c)) (Fetched i o s block ∷
            scrub.given) → is_wrong_block (pinned_object here f) (here.bytes f.id) j t (Some c) ≡ true →
            IsReplaced (scrub_mark mark ms scrub) j ms
        gave f j t c in_f l k (inl e) wrong = (let z : Fetched j f.id t (Some c) ≡ Fetched i o s block = e in
            let ji : j ≡ i = cc in let fo : f.id ≡ o = cc in let ts : t ≡ s = cc in
            let cb : Some c ≡ block = cc in
            fetched_wrong f j t c in_f l k (gives_there here scrub i o s block f j t c ji fo ts cb got) wrong)
        gave f j t c in_f l k (inr old) wrong = K.gave f j t c in_f l k old wrong

        rows : (f : Pinned) (t : ℕ) (symbols : List ℕ) → In f scrub.files →
            In (Worked f.id t symbols) (Fetched i o s block ∷ scrub.given) →
            symbols ≡ symbols_in (pinned_object here f) (here.bytes f.id) t
        rows f t symbols in_f (inl e) = absurd (cc e)
        rows f t symbols in_f (inr old) = K.rows f t symbols in_f old
    went calm next (Scrub_goes.worked o s rest symbols todo gives is) =
        subst (λ x. Scrubbed mark start (m ∷ ms) x) (sym is) (on (opened_scrub here scrub o s rest
        symbols) refl refl gave rows (each_append (Ready (setup_in here) scrub.files (Worked o s symbols ∷
        scrub.given)) (scrub_stores here scrub o s symbols) rest (ready_stores here scrub (setup_in here)
        (Worked o s symbols ∷ scrub.given) o s symbols (λ j. (head.0, head.1, head.2, (symbols, inl refl))))
        (all_more (setup_in here) scrub.files scrub.given (Worked o s symbols) rest
        (subst (Each (Ready (setup_in here) scrub.files scrub.given)) todo K.todo).1)))
      where
        head : (f : Pinned) × In f scrub.files × (f.id ≡ o) × (s < pinned_stripes (setup_in here) f)
        head = (subst (Each (Ready (setup_in here) scrub.files scrub.given)) todo K.todo).0

        gave : (f : Pinned) (j t : ℕ) (c : List ℕ) → In f scrub.files → j < (setup_in here).n →
            t < pinned_stripes (setup_in here) f → In (Fetched j f.id t (Some c)) (Worked o s symbols ∷
            scrub.given) → is_wrong_block (pinned_object here f) (here.bytes f.id) j t (Some c) ≡ true →
            IsReplaced (scrub_mark mark ms scrub) j ms
        gave f j t c in_f l k (inl e) wrong = absurd (cc e)
        gave f j t c in_f l k (inr old) wrong = K.gave f j t c in_f l k old wrong

        -- the file that was opened is that of its number
        opened : (f : Pinned) (t : ℕ) (found : List ℕ) → In f scrub.files → f.id ≡ o → t ≡ s →
            found ≡ symbols → found ≡ symbols_in (pinned_object here f) (here.bytes f.id) t
        opened f t found in_f fo ts fs =
            (let same = stands_once here A.pins.sound head.0 f (K.stands head.0 head.1) (K.stands f in_f)
            (head.2 ∙ sym fo) in let k : s < pinned_stripes (setup_in here) f =
            subst (λ x. s < pinned_stripes (setup_in here) x) same head.3 in
            cc (opened_right calm f s symbols in_f k (subst (λ n. GivesSymbols (scrubbed_object here scrub n)
            s (blocks_given scrub.given (setup_in here).n n s) symbols) (sym fo) gives)))

        rows : (f : Pinned) (t : ℕ) (found : List ℕ) → In f scrub.files →
            In (Worked f.id t found) (Worked o s symbols ∷ scrub.given) →
            found ≡ symbols_in (pinned_object here f) (here.bytes f.id) t
        rows f t found in_f (inl e) =
            (let z : Worked f.id t found ≡ Worked o s symbols = e in let fo : f.id ≡ o = cc in
            let ts : t ≡ s = cc in let fs : found ≡ symbols = cc in opened f t found in_f fo ts fs)
        rows f t found in_f (inr old) = K.rows f t found in_f old

  -- a scrub that has just begun
  begun_now : IsMark start ms (mark ms) → here.alone ≡ None → (next : Scrub) →
      next ≡ new_scrub here (length ms) → Scrubbed mark start (m ∷ ms) next
  begun_now moment alone next is = subst (λ (x : Scrub). Scrubbed mark start (m ∷ ms) x) (sym is) (record {
    begun = omega arith;
    marked = (let e = mark_is in let l = moment.before.early in omega arith);
    stands = λ f in_f. stands_on f (in_effect_all here f in_f);
    reads = λ f i s in_f l k bad. subst (λ z. IsReplaced z i (m ∷ ms)) (sym mark_is)
        (read f i s (in_effect_all here f in_f) l k bad);
    gave = λ f i s block in_f l k given wrong. absurd given;
    rows = λ f s symbols in_f given. absurd given;
    todo = subst (λ (t : Setup). Each (Ready t (new_scrub here (length ms)).files [])
        (new_scrub here (length ms)).todo) (sym setup) (ready_first (setup_in here)
        (new_scrub here (length ms)).files);
  })
    where
      mark_is : scrub_mark mark (m ∷ ms) (new_scrub here (length ms)) ≡ mark ms
      mark_is = ap mark (first_more (length ms) m ms (omega arith) ∙ first_all ms)

      read : (f : Pinned) (i s : ℕ) → Stands here f → i < (setup_in m.state).n →
          s < pinned_stripes (setup_in m.state) f → IsBad m.state f.profile f.id i s →
          IsReplaced (mark ms) i (m ∷ ms)
      read f i s st l k bad =
          elim (bad_was f i s (λ other rest at next_is. absurd (some-not-none here.alone (Scrubbing other) at
          alone)) bad) [
            | inl old ↦
                (let n : s < stripes_of (profiled (setup_in here) f.profile) (length (here.bytes f.id)) =
                subst (λ (y : List ℕ). s < stripes_of (profiled (setup_in here) f.profile) (length y))
                (own_bytes here f st) (subst (λ (t : Setup). s < pinned_stripes t f) setup k) in
                elim (moment.clear st.name st.file i s st.in_effect (subst (λ (t : Setup). i < t.n) setup l)
                (subst (λ (x : Pinned). s < stripes_of (profiled (setup_in here) x.profile)
                (length (here.bytes x.id))) st.is n) (subst (λ (x : Pinned). IsBad here x.profile x.id i s)
                st.is old)) [
                  | inl r ↦ since_more (mark ms) i m ms r
                  | inr never ↦ absurd never
                ])
            | inr r ↦ since_now (mark ms) i m ms r moment.before.early
          ]

-- one event more
pub scrubbed_step : (limit : ℕ) (mark : Mark) (start : State) (m : Moment) (ms : List Moment) → All start ms →
    eff.Facts (now start ms) → Changes limit (length ms) (now start ms) m.event m.outcome m.state →
    AllTell (now start ms) →
    IsMark start ms (mark ms) →
    ((scrub : Scrub) → (now start ms).alone ≡ Some (Scrubbing scrub) → Scrubbed mark start ms scrub) →
    ((scrub : Scrub) → (now start ms).alone ≡ Some (Scrubbing scrub) →
    replaced_count (now start ms) (scrub_mark mark ms scrub) ms ≤ (setup_in (now start ms)).b) →
    ((scrub : Scrub) → m.state.alone ≡ Some (Scrubbing scrub) →
    Scrub_is (length ms) m.event (now start ms) m.state scrub) → (next : Scrub) →
    m.state.alone ≡ Some (Scrubbing next) → Scrubbed mark start (m ∷ ms) next
scrubbed_step limit mark start m ms A I X tell moment K calm S next h = by_scrub (S next h)
  where
    none_new : m.state.jobs ≡ []
    none_new = X.lone A.numbers.idle.lone (Scrubbing next) h

    by_scrub : Scrub_is (length ms) m.event (now start ms) m.state next → Scrubbed mark start (m ∷ ms) next
    by_scrub (Scrub_is.kept was b) = on limit mark start m ms A I X tell (sym b.jobs ∙ none_new) b next was
        (K next was) next refl refl (K next was).gave (K next was).rows (K next was).todo
    by_scrub (Scrub_is.begun event is alone is_open unbarred b) =
        begun_now limit mark start m ms A I X tell (sym b.jobs ∙ none_new) b moment alone next is
    by_scrub (Scrub_is.went scrub was goes b) = went limit mark start m ms A I X tell
        (sym b.jobs ∙ none_new) b scrub was (K scrub was) (calm scrub was) next goes
