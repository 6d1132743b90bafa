-- A step of a scrub is one of the machine's scrub.
use Rattle.hail_scrub.proofs.Words.{◌≡◌, ℕ, ◌+◌, ◌<◌, ◌≤◌, ◌==◌, Bool, true, false, List, [], ◌∷◌, ◌++◌, length, take, Option, Some, None, refl, sym, ap, subst, ◌∙◌, arith, inl, inr, length-set, slice_get, slice_set, if◌then◌else◌, eq-eqb, ne_eqb, cases_eq, slice_get_within, get-set_same, get-set_other, Object, column_of_symbols, SeenBlock, GivesSymbols, LosesRow, Provider, Stores, FailsToStore, FindsNoMemory, Fetches, Setup, Record, setup_of, Action, Store, Fetch, Work, End, differs, scrubbed_object, off_by, scrub_stores, opened_scrub, block_to_scrub, Scrubs, StepsScrub, Outcome, Step, More, Ended, blocks_given, Worked, Happens, setup_or_none, State, Scrub, Alone, Scrubbing, setup_in, with_provider, cond_true, cond_false, AreHanded, worked_is, ScrubTurn, Stage, ScrubView, CallsAt, IsOne, off_in, stores_in, FetchesOne, OpensOne, LosesOne, StoresOne, ComesTo, MakesNext, scrub_answer, IsStripeInWork, ScrubIs, ScrubStands, MakesScrubStep}
use Rattle.machine_defs.specs.Jobs as jobs
use Rattle.machine_defs.specs.Steps.{Steps, StepsOpen, StepsOne, StepsMine}
use Rattle.hail_scrub.specs.declared.turn.ScrubAnswer.{ScrubAnswer}
use Rattle.hail_scrub.specs.declared.turn.ScrubAnswer.TheVariants as answer
use Rattle.hail_scrub.specs.declared.turn.ScrubTurn.TheVariants as turn
use Rattle.hail_scrub.specs.Views as views
use Rattle.hail_scrub.proofs.Given.{flat_map-below, take-map, blocks_are, block_is, fetched_more, behind_work}

-- ---- states

-- a state with the same records has the same setup
pub setup_same : (w new : State) → new.records ≡ w.records → setup_in new ≡ setup_in w
unfolding setup_in
setup_same w new is = ap (λ (rs : List Record). setup_or_none (setup_of rs)) is

-- an action of the scrub that runs alone is a step of its number
happens_alone : (w new : State) (m : Scrub) (outcome : Outcome) → w.alone ≡ Some (Scrubbing m) →
    StepsScrub w m m.todo outcome new → (limit moment : ℕ) → w.is_open ≡ true → w.is_barred ≡ false →
    Happens limit moment w (Step m.number) outcome new
happens_alone w new m outcome alone steps limit moment opened unbarred =
    subst (λ (b : Bool). Steps w m.number b outcome new) (sym opened)
    (subst (λ (b : Bool). StepsOpen w m.number b outcome new) (sym unbarred)
    (subst (λ (o : Option Alone). StepsOne w m.number o outcome new) (sym alone)
    (subst (λ (b : Bool). StepsMine w m.number (Scrubbing m) b outcome new)
    (sym (eq-eqb m.number m.number refl)) steps)))

-- ---- providers

module _ (ps : List Provider) (w : State) (are : AreHanded ps w) (j : ℕ) (p : Provider)
    (there : slice_get ps j ≡ Some p) where
  -- the provider that is called is that of the state
  before_is : p ≡ w.providers j
  before_is =
      (let e : Some p ≡ Some (w.providers j) = sym there ∙ are.each j (slice_get_within ps j p there) in cc)

  -- and after the call those handed in are those of the state with this one in its place
  handed_after : (q : Provider) (new : State) → new.handed ≡ w.handed
      → ((k : ℕ) → new.providers k ≡ with_provider w.providers j q k) → AreHanded (slice_set ps j q) new
  handed_after q new handed providers = record {
    count = handed ∙ are.count ∙ sym (length-set ps j q);
    each = λ k below. elim (cases_eq k j) [
      | inl same ↦ ap (slice_get (slice_set ps j q)) same
          ∙ get-set_same ps j q (slice_get_within ps j p there)
          ∙ ap Some (sym (providers k ∙ cond_true (k == j) q (w.providers k) (eq-eqb k j same)))
      | inr other ↦ get-set_other ps j k q other
          ∙ are.each k (subst (λ (n : ℕ). k < n) (length-set ps j q) below)
          ∙ ap Some (sym (providers k ∙ cond_false (k == j) q (w.providers k) (ne_eqb k j other)))
    ];
  }

-- where none was called they are those of a state with the same
pub handed_same : (ps : List Provider) (w new : State) → AreHanded ps w → new.handed ≡ w.handed
    → ((k : ℕ) → new.providers k ≡ w.providers k) → AreHanded ps new
handed_same ps w new are handed providers =
    record { count = handed ∙ are.count; each = λ k below. are.each k below ∙ ap Some (sym (providers k)) }

-- ---- the actions

module _ (v : ScrubView) (ps : List Provider) (w : State) (m : Scrub) (stands : ScrubStands v ps w m) where
  -- the machine's object is that of the scrub's file
  object_is : (o : ℕ) (x : Object) → IsOne v.objects o x → scrubbed_object w m o ≡ x
  object_is o x one = subst (λ (k : ℕ). scrubbed_object w m k ≡ x) one.id_is
      (stands.scrub.objects_are one.place x one.there)

  count_is : (o : ℕ) (x : Object) → IsOne v.objects o x → x.shape.n ≡ (setup_in w).n
  count_is o x one = sym (ap (λ (y : Object). y.shape.n) (object_is o x one))

  -- the scrub goes on
  going : (action : Action) (rest : List Action) → v.todo ≡ action ∷ rest → (next : Scrub)
      (providers : ℕ → Provider) (new : ScrubView) (qs : List Provider) →
      Scrubs w m action rest More (record w { alone = Some (Scrubbing next); providers = providers }) →
      AreHanded qs (record w { alone = Some (Scrubbing next); providers = providers }) →
      next.number ≡ m.number → next.begun ≡ m.begun → next.files ≡ m.files →
      ScrubIs new (setup_in w) next → MakesScrubStep w m turn.More new qs
  going action rest todo next providers new qs acts handed number begun files is =
      let state : State = record w { alone = Some (Scrubbing next); providers = providers } in
      record {
        state = state;
        happens = happens_alone w state m More stands.alone
            (subst (λ (l : List Action). StepsScrub w m l More state)
            (sym (stands.scrub.todo_is ∙ todo)) acts);
        beside = refl;
        handed = handed;
        left = record {
          next = next;
          stands = record {
            alone = refl;
            handed = handed;
            scrub = subst (λ (z : Setup). ScrubIs new z next) (sym (setup_same w state refl)) is;
          };
          number_stays = number;
          begun_stays = begun;
          files_stay = files;
        };
      }

  -- the scrub ends
  ending : (action : Action) (rest : List Action) → v.todo ≡ action ∷ rest → (a : ScrubAnswer)
      (providers : ℕ → Provider) (new : ScrubView) (qs : List Provider) →
      Scrubs w m action rest (Ended (scrub_answer (setup_in w).n a))
      (record w { alone = None; providers = providers }) →
      AreHanded qs (record w { alone = None; providers = providers }) →
      MakesScrubStep w m (turn.Done a) new qs
  ending action rest todo a providers new qs acts handed =
      let state : State = record w { alone = None; providers = providers } in
      record {
        state = state;
        happens = happens_alone w state m (Ended (scrub_answer (setup_in w).n a)) stands.alone
            (subst (λ (l : List Action). StepsScrub w m l (Ended (scrub_answer (setup_in w).n a)) state)
            (sym (stands.scrub.todo_is ∙ todo)) acts);
        beside = refl;
        handed = handed;
        left = refl;
      }

  work_is : (at : Stage) → v.at ≡ at → IsStripeInWork at m.given
  work_is at is = subst (λ (a : Stage). IsStripeInWork a m.given) is stands.scrub.in_work

  fetches : (j o t : ℕ) (rest : List Action) (new : ScrubView) (qs : List Provider) →
      v.todo ≡ Fetch j o t ∷ rest → FetchesOne v j o t rest ps new qs → MakesScrubStep w m turn.More new qs
  fetches j o t rest new qs todo f =
      let c = f.calls in
      let next : Scrub = record m { todo = rest; given = jobs.Fetched j o t f.block ∷ m.given } in
      let call : Fetches (scrubbed_object w m o).profile.size o t (w.providers j) f.block c.after =
      subst (λ (x : Object). Fetches x.profile.size o t (w.providers j) f.block c.after)
      (sym (object_is o f.x f.one))
      (subst (λ (p : Provider). Fetches f.x.profile.size o t p f.block c.after)
      (before_is ps w stands.handed j c.before c.there) c.called) in
      let made : ScrubIs (record v { todo = rest; at = views.Fetched o t (f.seen ++ f.block ∷ []) })
      (setup_in w) next = record {
        few = stands.scrub.few;
        objects_are = stands.scrub.objects_are;
        todo_is = refl;
        in_work = fetched_more o t j f.seen f.block m.given f.count
            (work_is (views.Fetched o t f.seen) f.at_is);
        stripes_are = stands.scrub.stripes_are;
        symbols_are = stands.scrub.symbols_are;
        blocks_are = stands.scrub.blocks_are;
        long_symbols = stands.scrub.long_symbols;
        long_blocks = stands.scrub.long_blocks;
      } in
      going (Fetch j o t) rest todo next (with_provider w.providers j c.after) new qs
      (f.block, (c.after, call, refl))
      (subst (λ (l : List Provider). AreHanded l (record w {
        alone = Some (Scrubbing next);
        providers = with_provider w.providers j c.after;
      })) (sym c.others)
      (handed_after ps w stands.handed j c.before c.there c.after _ refl (λ k. refl)))
      refl refl refl
      (subst (λ (z : ScrubView). ScrubIs z (setup_in w) next) (sym f.new_is) made)

  module _ (o t : ℕ) (x : Object) (one : IsOne v.objects o x) (providers_are : x.shape.n ≡ v.providers)
      (seen : List SeenBlock) (at_is : v.at ≡ views.Fetched o t seen) (count : length seen ≡ v.providers)
    where
      -- so many providers the setup has
      all_are : v.providers ≡ (setup_in w).n
      all_are = sym providers_are ∙ count_is o x one

      seen_is : blocks_given m.given (setup_in w).n o t ≡ seen
      seen_is =
          let work = work_is (views.Fetched o t seen) at_is in
          blocks_are o t (setup_in w).n seen work.0 m.given work.1 (count ∙ all_are)

      off_is : (rows : List ℕ) (j : ℕ) → j < (setup_in w).n → off_by w m o t rows j ≡ off_in x t seen rows j
      off_is rows j below =
          let work = work_is (views.Fetched o t seen) at_is in
          (λ i. differs (block_is o t (setup_in w).n seen work.0 m.given work.1 (count ∙ all_are) j below i)
          (column_of_symbols (object_is o x one i) rows j t))

      stores_are : (rows : List ℕ) → scrub_stores w m o t rows ≡ stores_in v.providers x t seen rows
      stores_are rows = flat_map-below (λ j. if off_by w m o t rows j == 0 then [] else Store j o t ∷ [])
          (λ j. if off_in x t seen rows j == 0 then [] else Store j x.id t ∷ []) 0 (setup_in w).n
          (λ k l i. if off_is rows k (omega (arith, l)) i == 0 then [] else Store k ((sym one.id_is) i) t ∷
          [])
          ∙ ap (λ n. stores_in n x t seen rows) (sym all_are)

  opens : (o t : ℕ) (rest : List Action) (new : ScrubView) → v.todo ≡ Work o t ∷ rest →
      OpensOne v o t rest new → MakesScrubStep w m turn.More new ps
  opens o t rest new todo f =
      let next : Scrub = opened_scrub w m o t rest f.rows in
      let all = all_are o t f.x f.one f.providers_are f.seen f.at_is f.count in
      let seen = seen_is o t f.x f.one f.providers_are f.seen f.at_is f.count in
      let off = off_is o t f.x f.one f.providers_are f.seen f.at_is f.count f.rows in
      let within : (j : ℕ) → j < (setup_in w).n → j < v.providers =
      λ j below. subst (λ (n : ℕ). j < n) (sym all) below in
      going (Work o t) rest todo next w.providers new ps (
        f.rows,
        subst (λ (l : List SeenBlock). GivesSymbols (scrubbed_object w m o) t l f.rows) (sym seen)
            (subst (λ (y : Object). GivesSymbols y t f.seen f.rows) (sym (object_is o f.x f.one)) f.gives),
        refl,
      )
      (handed_same ps w _ stands.handed refl (λ k. refl))
      refl refl refl
      (record {
        few = stands.scrub.few;
        objects_are = λ k y there. stands.scrub.objects_are k y
            (sym (ap (λ (l : List Object). slice_get l k) f.objects_stay) ∙ there);
        todo_is = ap (λ (l : List Action). l ++ rest)
            (stores_are o t f.x f.one f.providers_are f.seen f.at_is f.count f.rows) ∙ sym f.todo_is;
        in_work = behind_work o t f.rows new.at (Worked o t f.rows ∷ m.given) f.behind
            (worked_is o t f.rows m.given);
        stripes_are = ap (λ (k : ℕ). k + 1) stands.scrub.stripes_are ∙ sym f.stripes_are;
        symbols_are = λ j below. (λ i. stands.scrub.symbols_are j below i + off j below i)
            ∙ sym (f.symbols_are j (within j below));
        blocks_are = λ j below.
            (λ i. stands.scrub.blocks_are j below i + (if off j below i == 0 then 0 else 1))
            ∙ sym (f.blocks_are j (within j below));
        long_symbols = f.long_symbols;
        long_blocks = f.long_blocks;
      })

  loses : (o t row : ℕ) (rest : List Action) (new : ScrubView) → v.todo ≡ Work o t ∷ rest →
      LosesOne v o t row → MakesScrubStep w m (turn.Done (answer.Lost t row)) new ps
  loses o t row rest new todo f =
      let seen = seen_is o t f.x f.one f.providers_are f.seen f.at_is f.count in
      ending (Work o t) rest todo (answer.Lost t row) w.providers new ps (
        refl,
        subst (λ (l : List SeenBlock). LosesRow (scrubbed_object w m o) t l row) (sym seen)
            (subst (λ (y : Object). LosesRow y t f.seen row) (sym (object_is o f.x f.one)) f.lost),
        refl,
      )
      (handed_same ps w _ stands.handed refl (λ k. refl))

  stores : (j o t : ℕ) (rest : List Action) (new : ScrubView) (qs : List Provider) →
      v.todo ≡ Store j o t ∷ rest → StoresOne v j o t rest ps new qs → MakesScrubStep w m turn.More new qs
  stores j o t rest new qs todo f =
      let c = f.calls in
      let next : Scrub = record m { todo = rest } in
      let rows = work_is (views.Opened o t f.rows) f.at_is in
      let call : Stores o t (block_to_scrub w m j o t) (w.providers j) c.after =
      subst (λ (b : List ℕ). Stores o t b (w.providers j) c.after)
      (λ i. column_of_symbols ((sym (object_is o f.x f.one)) i) (rows i) j t)
      (subst (λ (p : Provider). Stores o t (column_of_symbols f.x f.rows j t) p c.after)
      (before_is ps w stands.handed j c.before c.there) c.called) in
      let made : ScrubIs (record v { todo = rest; at = new.at }) (setup_in w) next = record {
        few = stands.scrub.few;
        objects_are = stands.scrub.objects_are;
        todo_is = refl;
        in_work = behind_work o t f.rows new.at m.given f.behind rows;
        stripes_are = stands.scrub.stripes_are;
        symbols_are = stands.scrub.symbols_are;
        blocks_are = stands.scrub.blocks_are;
        long_symbols = stands.scrub.long_symbols;
        long_blocks = stands.scrub.long_blocks;
      } in
      going (Store j o t) rest todo next (with_provider w.providers j c.after) new qs
      (c.after, call, refl)
      (subst (λ (l : List Provider). AreHanded l (record w {
        alone = Some (Scrubbing next);
        providers = with_provider w.providers j c.after;
      })) (sym c.others)
      (handed_after ps w stands.handed j c.before c.there c.after _ refl (λ k. refl)))
      refl refl refl
      (subst (λ (z : ScrubView). ScrubIs z (setup_in w) next) (sym f.new_is) made)

  -- a store that is not done
  fails : (j o t : ℕ) (rest : List Action) (new : ScrubView) (qs : List Provider) →
      v.todo ≡ Store j o t ∷ rest → CallsAt j ps qs FailsToStore →
      MakesScrubStep w m (turn.Done (answer.ProviderFault j)) new qs
  fails j o t rest new qs todo c =
      ending (Store j o t) rest todo (answer.ProviderFault j) (with_provider w.providers j c.after) new qs (
        refl,
        (
          c.after,
          subst (λ (p : Provider). FailsToStore p c.after)
              (before_is ps w stands.handed j c.before c.there) c.called,
          refl,
        ),
      )
      (subst (λ (l : List Provider). AreHanded l (record w {
        alone = None;
        providers = with_provider w.providers j c.after;
      })) (sym c.others)
      (handed_after ps w stands.handed j c.before c.there c.after _ refl (λ k. refl)))

  finds_none : (j o t : ℕ) (rest : List Action) (new : ScrubView) (qs : List Provider) →
      v.todo ≡ Store j o t ∷ rest → CallsAt j ps qs FindsNoMemory →
      MakesScrubStep w m (turn.Done answer.Memory) new qs
  finds_none j o t rest new qs todo c =
      ending (Store j o t) rest todo answer.Memory (with_provider w.providers j c.after) new qs (
        c.after,
        subst (λ (p : Provider). FindsNoMemory p c.after)
            (before_is ps w stands.handed j c.before c.there) c.called,
        refl,
      )
      (subst (λ (l : List Provider). AreHanded l (record w {
        alone = None;
        providers = with_provider w.providers j c.after;
      })) (sym c.others)
      (handed_after ps w stands.handed j c.before c.there c.after _ refl (λ k. refl)))

  ends : (rest : List Action) (new : ScrubView) (stripes : ℕ) (symbols blocks : List ℕ) →
      v.todo ≡ End ∷ rest → stripes ≡ v.stripes → symbols ≡ v.symbols → blocks ≡ v.blocks →
      MakesScrubStep w m (turn.Done (answer.Scrubbed stripes symbols blocks)) new ps
  ends rest new stripes symbols blocks todo stripes_are symbols_are blocks_are =
      let few : (setup_in w).n ≤ 16 = stands.scrub.few in
      ending End rest todo (answer.Scrubbed stripes symbols blocks) w.providers new ps (
        stripes_are ∙ sym stands.scrub.stripes_are,
        ap (take (setup_in w).n) symbols_are
            ∙ take-map v.symbols m.found.symbols (setup_in w).n
            (omega (arith, few, stands.scrub.long_symbols)) stands.scrub.symbols_are,
        ap (take (setup_in w).n) blocks_are
            ∙ take-map v.blocks m.found.blocks (setup_in w).n
            (omega (arith, few, stands.scrub.long_blocks)) stands.scrub.blocks_are,
        refl,
      )
      (handed_same ps w _ stands.handed refl (λ k. refl))

  -- a step is one of the machine's scrub
  pub made_step : (t : ScrubTurn) (new : ScrubView) (qs : List Provider) → MakesNext v ps t new qs →
      MakesScrubStep w m t new qs
  made_step t new qs step = by_action step.action step.rest t step.todo_is step.acts
    where
      by_action : (a : Action) (rest : List Action) (t : ScrubTurn) → v.todo ≡ a ∷ rest →
          ComesTo v a rest ps t new qs → MakesScrubStep w m t new qs
      by_action (Fetch j o t) rest turn.More todo acts = fetches j o t rest new qs todo acts
      by_action (Work o t) rest turn.More todo acts =
          subst (λ (l : List Provider). MakesScrubStep w m turn.More new l) (sym acts.1)
          (opens o t rest new todo acts.0)
      by_action (Work o t) rest (turn.Done (answer.Lost s row)) todo acts =
          subst (λ (l : List Provider). MakesScrubStep w m (turn.Done (answer.Lost s row)) new l) (sym acts.2)
          (subst (λ (k : ℕ). MakesScrubStep w m (turn.Done (answer.Lost k row)) new ps) (sym acts.0)
          (loses o t row rest new todo acts.1))
      by_action (Store j o t) rest turn.More todo acts = stores j o t rest new qs todo acts
      by_action (Store j o t) rest (turn.Done (answer.ProviderFault k)) todo acts =
          subst (λ (k : ℕ). MakesScrubStep w m (turn.Done (answer.ProviderFault k)) new qs) (sym acts.0)
          (fails j o t rest new qs todo acts.1)
      by_action (Store j o t) rest (turn.Done answer.Memory) todo acts =
          finds_none j o t rest new qs todo acts
      by_action End rest (turn.Done (answer.Scrubbed stripes symbols blocks)) todo acts = subst
          (λ (l : List Provider). MakesScrubStep w m (turn.Done (answer.Scrubbed stripes symbols blocks)) new
          l) (sym acts.3) (ends rest new stripes symbols blocks todo acts.0 acts.1 acts.2)
      by_action a rest t todo acts = absurd acts
