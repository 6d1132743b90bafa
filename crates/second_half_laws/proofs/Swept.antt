-- What a scrub has swept: of a stripe that it has opened and rewritten, each provider holds its own column, or
-- was replaced since the scrub's begin.
use Rattle.second_half_laws.proofs.Words.{true, cond, ◌⊎◌, refl, ap, sym, subst, ◌∙◌, inl, inr, arith, flat_map, cases_Bool, eqb-true, false≢true, Each, In, each_append, each_map, each_flat, in_left, in_right, in_flat, upto, profile_of, Object, GivesSymbols, columns, column_of_symbols, length-column_of_symbols, Setup, File, setup_of, sized, FetchGives, Pinned, Fetched, Worked, Action, Store, Fetch, Work, End, on_each_provider, on_each_stripe, open_actions, object_of, profiled, pinned_stripes, State, Scrub, Scrubbing, setup_in, pinned_object, file_in, pinned_file, block_given, blocks_given, scrub_actions, scrubbed_object, differs, off_by, scrub_stores, opened_scrub, new_scrub, block_to_scrub, Moment, now, is_replaced_since, Mark, replaced_count, AllTell, told_block, cond_false, found_none, Block_is, Changes, some_told, differs-none, setup_same, All, replaced_before, IsReplaced}
use Rattle.std.proofs.Common.{◌≡◌, ℕ, zero, suc, ◌≤◌, ◌<◌, ◌==◌, Bool, false, List, [], ◌∷◌, ◌++◌, length, Option, Some, None}
use Rattle.run_laws.proofs.InEffect as eff
use Rattle.second_half_laws.proofs.Lists.{in_upto}
use Rattle.second_half_laws.proofs.Scrubbing.{Beside, Scrub_goes, Scrub_is}
use Rattle.second_half_laws.proofs.Blocks.{since_more, since_now, telling}
use Rattle.second_half_laws.proofs.Files.{all_pinned}
use Rattle.second_half_laws.proofs.Readers.{block_in}
use Rattle.second_half_laws.proofs.ScrubFacts.{scrub_mark, Scrubbed, stores_own, gives_there, object_is, right, opened_right}

-- ---- lists of actions

-- actions of which the end is the last, and is there once
abbrev pub IsEnded : List Action → Type 0
IsEnded [] = ⊥
IsEnded (End ∷ rest) = rest ≡ []
IsEnded (action ∷ rest) = IsEnded rest

abbrev pub NotEnd : Action → Type 0
NotEnd End = ⊥
NotEnd action = Unit {0}

ended_append : (xs todo : List Action) → Each NotEnd xs → IsEnded todo → IsEnded (xs ++ todo)
ended_append [] todo h e = e
ended_append (End ∷ xs) todo h e = absurd h.0
ended_append (action ∷ xs) todo h e = ended_append xs todo h.1 e

ended_tail : (action : Action) (rest : List Action) → NotEnd action → IsEnded (action ∷ rest) → IsEnded rest
ended_tail End rest n e = absurd n
ended_tail action rest n e = e

opens_on : Setup → Pinned → List Action
opens_on t f = on_each_stripe (profiled t f.profile) (length f.bytes) (open_actions t f.id)

first_ended : (t : Setup) (files : List Pinned) → IsEnded (scrub_actions t files)
unfolding opens_on
first_ended t files = ended_append (flat_map (opens_on t) files) (End ∷ [])
    (each_flat NotEnd (opens_on t) files (λ f. each_flat NotEnd (open_actions t f.id)
    (upto (pinned_stripes t f)) (λ st. each_append NotEnd (on_each_provider t (λ j. Fetch j f.id st))
    (Work f.id st ∷ []) (each_map NotEnd (λ j. Fetch j f.id st) (upto t.n) (λ j. tt)) (tt, tt)))) refl

first_work : (t : Setup) (files : List Pinned) (f : Pinned) (s : ℕ) → In f files → s < pinned_stripes t f →
    In (Work f.id s) (scrub_actions t files)
unfolding opens_on
first_work t files f s in_f l = in_left (flat_map (opens_on t) files) (End ∷ []) (Work f.id s)
    (in_flat (opens_on t) files f (Work f.id s) in_f (in_flat (open_actions t f.id)
    (upto (pinned_stripes t f)) s (Work f.id s) (in_upto (pinned_stripes t f) s l)
    (in_right (on_each_provider t (λ j. Fetch j f.id s)) (Work f.id s ∷ []) (Work f.id s) (inl refl))))

stores_not_end : (w : State) (scrub : Scrub) (o s : ℕ) (symbols : List ℕ) →
    Each NotEnd (scrub_stores w scrub o s symbols)
stores_not_end w scrub o s symbols = each_flat NotEnd
    (λ j. cond (off_by w scrub o s symbols j == 0) [] (Store j o s ∷ [])) (upto (setup_in w).n)
    (λ j. one (off_by w scrub o s symbols j == 0) j)
  where
    one : (b : Bool) (j : ℕ) → Each NotEnd (cond b [] (Store j o s ∷ []))
    one true j = tt
    one false j = (tt, tt)

in_stores : (w : State) (scrub : Scrub) (o s : ℕ) (symbols : List ℕ) (i : ℕ) → i < (setup_in w).n →
    (off_by w scrub o s symbols i == 0) ≡ false → In (Store i o s) (scrub_stores w scrub o s symbols)
in_stores w scrub o s symbols i l off =
    in_flat (λ j. cond (off_by w scrub o s symbols j == 0) [] (Store j o s ∷ [])) (upto (setup_in w).n) i
    (Store i o s) (in_upto (setup_in w).n i l) (subst (In (Store i o s))
    (sym (cond_false (off_by w scrub o s symbols i == 0) [] (Store i o s ∷ []) off)) (inl refl))

-- a block of the size is there whole
sized_is : (size : ℕ) (b : Option (List ℕ)) (c : List ℕ) → sized size b ≡ Some c →
    (b ≡ Some c) × (length c ≡ size)
sized_is size None c h = absurd (cc h)
sized_is size (Some x) c h = elim (cases_Bool (length x == size)) [
  | inl t ↦ (let z : Some x ≡ Some c = cc in
      (ap Some cc, cc (eqb-true (length x) size t)))
  | inr f ↦ absurd (let z : None ≡ Some c = cc in cc)
]

-- each profile's blocks have symbols
some_size : (number : ℕ) → (profile_of number).size ≡ 0 → ⊥
some_size (suc (suc (suc zero))) h = omega (arith, h)
some_size number h = omega (arith, h)

-- ---- what a scrub has swept

pub record Swept (start : State) (ms : List Moment) (scrub : Scrub) : Type 0 where
  pub all : (q : List ℕ) (f : File) → file_in (now start ms) q ≡ Some f →
      In (pinned_file (now start ms) f) scrub.files
  pub seen : (f : Pinned) (i s : ℕ) (block : List ℕ) (b : Option (List ℕ)) → In f scrub.files →
      In (Fetched i f.id s (Some block)) scrub.given → is_replaced_since scrub.begun i ms ≡ false →
      told_block (now start ms) i f.id s ≡ Some b →
      (sized (pinned_object (now start ms) f).profile.size b ≡ Some block) ⊎
      (b ≡ Some (columns (pinned_object (now start ms) f) ((now start ms).bytes f.id) i s))
  pub left : (f : Pinned) (i s : ℕ) (block : Option (List ℕ)) → In f scrub.files →
      i < (setup_in (now start ms)).n → s < pinned_stripes (setup_in (now start ms)) f →
      told_block (now start ms) i f.id s ≡ Some block →
      (block ≡ Some (columns (pinned_object (now start ms) f) ((now start ms).bytes f.id) i s)) ⊎
      (IsReplaced scrub.begun i ms ⊎ (In (Work f.id s) scrub.todo ⊎ In (Store i f.id s) scrub.todo))
  pub ended : IsEnded scrub.todo

module _ (limit : ℕ) (mark : Mark) (start : State) (m : Moment) (ms : List Moment) (A : All start ms)
    (I : eff.Facts (now start ms)) (X : Changes limit (length ms) (now start ms) m.event m.outcome m.state)
    (tell : AllTell (now start ms))
    (none : (now start ms).jobs ≡ []) (b : Beside (now start ms) m.state) where
  -- the state after these moments
  abbrev here : State
  here = now start ms

  setup : setup_in m.state ≡ setup_in here
  setup = setup_same m.state here (ap setup_of b.records)

  bytes_are : (o : ℕ) → m.state.bytes o ≡ here.bytes o
  bytes_are o = ap (λ g. g o) b.bytes

  file_is : (f : File) → pinned_file here f ≡ pinned_file m.state f
  file_is f = ap (λ l. record { id = f.id; profile = f.profile; bytes = l }) (sym (bytes_are f.id))

  columns_are : (f : Pinned) (i s : ℕ) → columns (pinned_object here f) (here.bytes f.id) i s ≡ columns
      (pinned_object m.state f) (m.state.bytes f.id) i s
  columns_are f i s = ap (λ y. columns (pinned_object here f) y i s) (sym (bytes_are f.id))
      ∙ ap (λ t. columns (object_of (profiled t f.profile) f.id) (m.state.bytes f.id) i s)
      (sym setup)

  module _ (scrub : Scrub) (at : here.alone ≡ Some (Scrubbing scrub)) (K : Scrubbed mark start ms scrub)
      (C : Swept start ms scrub) where
    -- what is seen of a block, before the event
    abbrev Seen : Pinned → ℕ → ℕ → List ℕ → Option (List ℕ) → Type 0
    Seen f i s block c = (sized (pinned_object here f).profile.size c ≡ Some block)
        ⊎ (c ≡ Some (columns (pinned_object here f) (here.bytes f.id) i s))

    -- the block is the provider's own column after the event
    abbrev Own : Pinned → ℕ → ℕ → Option (List ℕ) → Type 0
    Own f i s block = block ≡ Some (columns (pinned_object m.state f) (m.state.bytes f.id) i s)

    -- so it is, or its provider was replaced, or the stripe is still to do
    abbrev Left : List Action → Pinned → ℕ → ℕ → Option (List ℕ) → Type 0
    Left todo f i s block = Own f i s block ⊎
        (IsReplaced scrub.begun i (m ∷ ms) ⊎ (In (Work f.id s) todo ⊎ In (Store i f.id s) todo))

    -- of each block that the event leaves as it was
    abbrev Leaves : List Action → Type 0
    Leaves todo = (f : Pinned) (i s : ℕ) (block : Option (List ℕ)) → In f scrub.files →
        i < (setup_in here).n → s < pinned_stripes (setup_in here) f → told_block m.state i f.id s ≡ Some
        block → told_block here i f.id s ≡ Some block → Left todo f i s block

    sweeps : (next : Scrub) → next.files ≡ scrub.files → next.begun ≡ scrub.begun →
        ((f : Pinned) (i s : ℕ) (block : List ℕ) (c : Option (List ℕ)) → In f scrub.files →
        In (Fetched i f.id s (Some block)) next.given → is_replaced_since scrub.begun i ms ≡ false →
        told_block here i f.id s ≡ Some c → Seen f i s block c) → Leaves next.todo → IsEnded next.todo →
        Swept start (m ∷ ms) next
    sweeps next files begun seen left ended = record {
      all = λ q f h. subst (In (pinned_file m.state f)) (sym files) (subst (λ x. In x scrub.files)
          (file_is f) (C.all q f (cc)));
      seen = λ f i s block c in_f given unreplaced told. see f i s block c (subst (In f) files in_f) given
          (cc) told;
      left = λ f i s block in_f l k told. subst
          (λ n. Own f i s block ⊎
          (IsReplaced n i (m ∷ ms) ⊎ (In (Work f.id s) next.todo ⊎ In (Store i f.id s) next.todo)))
          (sym begun) (leave f i s block (subst (In f) files in_f) (subst (λ t. i < t.n) setup l)
          (subst (λ t. s < pinned_stripes t f) setup k) told);
      ended = ended;
    }
      where
        see : (f : Pinned) (i s : ℕ) (block : List ℕ) (c : Option (List ℕ)) → In f scrub.files →
            In (Fetched i f.id s (Some block)) next.given → is_replaced_since scrub.begun i (m ∷ ms) ≡ false →
            told_block m.state i f.id s ≡ Some c →
            (sized (pinned_object m.state f).profile.size c ≡ Some block) ⊎
            (c ≡ Some (columns (pinned_object m.state f) (m.state.bytes f.id) i s))
        see f i s block c in_f given unreplaced told = elim (X.block i f.id s) [
          | Block_is.same e ↦ elim (seen f i s block c in_f given
              (replaced_before scrub.begun i m ms unreplaced) (sym e ∙ told)) [
                | inl whole ↦ inl whole
                | inr column ↦ inr (cc (columns_are f i s))
              ]
          | Block_is.replaced r ↦ absurd (false≢true (cc (since_now scrub.begun i m ms r K.begun)))
          | Block_is.stored x runs next_is is ↦ absurd (found_none here.jobs x.number x none runs)
          | Block_is.scrubbed other rest at_other next_is is ↦
              inr (some_told _ _ c (sym is ∙ told) ∙ ap Some (stores_own mark start ms A scrub at K f i s in_f
              other rest at_other next_is ∙ columns_are f i s))
          | Block_is.removed x runs next_is ↦ absurd (found_none here.jobs x.number x none runs)
        ]

        leave : (f : Pinned) (i s : ℕ) (block : Option (List ℕ)) → In f scrub.files → i < (setup_in here).n →
            s < pinned_stripes (setup_in here) f → told_block m.state i f.id s ≡ Some block →
            Left next.todo f i s block
        leave f i s block in_f l k told = elim (X.block i f.id s) [
          | Block_is.same e ↦ left f i s block in_f l k told (sym e ∙ told)
          | Block_is.replaced r ↦ inr (inl (since_now scrub.begun i m ms r K.begun))
          | Block_is.stored x runs next_is is ↦ absurd (found_none here.jobs x.number x none runs)
          | Block_is.scrubbed other rest at_other next_is is ↦
              inl (some_told _ _ block (sym is ∙ told) ∙ ap Some (stores_own mark start ms A scrub at K f i s
              in_f other rest at_other next_is ∙ columns_are f i s))
          | Block_is.removed x runs next_is ↦ absurd (found_none here.jobs x.number x none runs)
        ]

    -- where it was left before, where an action was made and others come into its place
    left_by : (f : Pinned) (i s : ℕ) (block : Option (List ℕ)) (a : Action) (more rest : List Action) →
        In f scrub.files → i < (setup_in here).n → s < pinned_stripes (setup_in here) f →
        told_block here i f.id s ≡ Some block → scrub.todo ≡ a ∷ rest →
        (Work f.id s ≡ a → Left (more ++ rest) f i s block) →
        (Store i f.id s ≡ a → Left (more ++ rest) f i s block) → Left (more ++ rest) f i s block
    left_by f i s block a more rest in_f l k old is work store = elim (C.left f i s block in_f l k old) [
      | inl own ↦ inl (cc (columns_are f i s))
      | inr (inl r) ↦ inr (inl (since_more scrub.begun i m ms r))
      | inr (inr (inl w)) ↦ elim (subst (In (Work f.id s)) is w)
          [ inl e ↦ work e | inr h ↦ inr (inr (inl (in_right more rest (Work f.id s) h))) ]
      | inr (inr (inr st)) ↦ elim (subst (In (Store i f.id s)) is st)
          [ inl e ↦ store e | inr h ↦ inr (inr (inr (in_right more rest (Store i f.id s) h))) ]
    ]

    -- nothing of the scrub changes
    swept_kept : Swept start (m ∷ ms) scrub
    swept_kept = sweeps scrub refl refl C.seen (λ f i s block in_f l k told old.
        elim (C.left f i s block in_f l k old) [
          | inl own ↦ inl (cc (columns_are f i s))
          | inr (inl r) ↦ inr (inl (since_more scrub.begun i m ms r))
          | inr (inr h) ↦ inr (inr h)
        ]) C.ended

    swept_stored : (i o s : ℕ) (rest : List Action) → scrub.todo ≡ Store i o s ∷ rest →
        ((c : Option (List ℕ)) → told_block m.state i o s ≡ Some c →
        c ≡ Some (block_to_scrub here scrub i o s)) → Swept start (m ∷ ms) (record scrub { todo = rest })
    swept_stored i o s rest todo told = sweeps _ refl refl C.seen leave (ended_tail (Store i o s) rest tt
        (subst IsEnded todo C.ended))
      where
        Told : ℕ → ℕ → ℕ → Type 0
        Told a p q = (c : Option (List ℕ)) → told_block m.state a p q ≡ Some c →
            c ≡ Some (block_to_scrub here scrub a p q)

        stored_now : (f : Pinned) (j t : ℕ) (block : Option (List ℕ)) → In f scrub.files → j ≡ i →
            f.id ≡ o → t ≡ s → scrub.todo ≡ Store j f.id t ∷ rest →
            told_block m.state j f.id t ≡ Some block → Own f j t block
        stored_now f j t block in_f ji fo ts next_is told_b =
            (let own : Told j f.id t = subst (λ a. Told a f.id t) (sym ji)
            (subst (λ p. Told i p t) (sym fo) (subst (λ q. Told i o q) (sym ts) told)) in
            own block told_b ∙ ap Some (right mark start ms A scrub K f rest j t in_f next_is
            ∙ columns_are f j t))

        leave : Leaves rest
        leave f j t block in_f l k new old = left_by f j t block (Store i o s) [] rest in_f l k old todo
            (λ e. absurd (cc e)) (λ e. (let z : Store j f.id t ≡ Store i o s = e in let ji : j ≡ i = cc in
            let fo : f.id ≡ o = cc in let ts : t ≡ s = cc in
            inl (stored_now f j t block in_f ji fo ts (cc) new)))

    swept_fetched : (i o s : ℕ) (rest : List Action) (block : Option (List ℕ)) →
        scrub.todo ≡ Fetch i o s ∷ rest → FetchGives (scrubbed_object here scrub o).profile.size o s
        (here.providers i).held block ⊎ (block ≡ None) →
        Swept start (m ∷ ms) (record scrub { todo = rest; given = Fetched i o s block ∷ scrub.given })
    swept_fetched i o s rest block todo got = sweeps
        (record scrub { todo = rest; given = Fetched i o s block ∷ scrub.given }) refl refl seen leave
        (ended_tail (Fetch i o s) rest tt (rw todo at C.ended))
      where
        seen : (f : Pinned) (j t : ℕ) (c : List ℕ) (d : Option (List ℕ)) → In f scrub.files →
            In (Fetched j f.id t (Some c)) (Fetched i o s block ∷ scrub.given) →
            is_replaced_since scrub.begun j ms ≡ false → told_block here j f.id t ≡ Some d → Seen f j t c d
        seen f j t c d in_f (inr old) unreplaced told = C.seen f j t c d in_f old unreplaced told
        seen f j t c d in_f (inl e) unreplaced told =
            (let z : Fetched j f.id t (Some c) ≡ Fetched i o s block = e in
            let ji : j ≡ i = cc in let fo : f.id ≡ o = cc in let ts : t ≡ s = cc in
            let cb : Some c ≡ block = cc in let h = telling here j f.id t d told in
            let gives = rw h.1 at (subst (λ (ob : Object). FetchGives ob.profile.size f.id t
            (here.providers j).held (Some c)) (object_is mark start ms A scrub K f in_f) (gives_there here
            scrub i o s block f j t c ji fo ts cb got)) in inl (cc))

        leave : Leaves rest
        leave f j t block in_f l k new old = left_by f j t block (Fetch i o s) [] rest in_f l k old todo
            (λ e. absurd (cc e)) (λ e. absurd (cc e))

    -- a stripe that the scrub opened just now
    module _ (calm : replaced_count here (scrub_mark mark ms scrub) ms ≤ (setup_in here).b) (o s : ℕ)
        (rest : List Action) (symbols : List ℕ) (todo : scrub.todo ≡ Work o s ∷ rest) (gives : GivesSymbols
        (scrubbed_object here scrub o) s (blocks_given scrub.given (setup_in here).n o s) symbols) where
      seen : (f : Pinned) (j t : ℕ) (c : List ℕ) (d : Option (List ℕ)) → In f scrub.files →
          In (Fetched j f.id t (Some c)) (Worked o s symbols ∷ scrub.given) →
          is_replaced_since scrub.begun j ms ≡ false → told_block here j f.id t ≡ Some d → Seen f j t c d
      seen f j t c d in_f (inl e) unreplaced told = absurd (cc e)
      seen f j t c d in_f (inr old) unreplaced told = C.seen f j t c d in_f old unreplaced told

      -- a block that does not differ is the provider's own column
      same_block : (f : Pinned) (j t : ℕ) (block : Option (List ℕ)) → In f scrub.files →
          t < pinned_stripes (setup_in here) f → f.id ≡ o → t ≡ s → (off_by here scrub f.id t symbols j == 0)
          ≡ true → is_replaced_since scrub.begun j ms ≡ false → told_block here j f.id t ≡ Some block →
          block ≡ Some (columns (pinned_object here f) (here.bytes f.id) j t)
      same_block f j t block in_f k fo ts off unreplaced told = by_given (block_given scrub.given f.id t j)
          refl (eqb-true (off_by here scrub f.id t symbols j) 0 off)
        where
          own_gives : GivesSymbols (scrubbed_object here scrub f.id) t (blocks_given scrub.given
              (setup_in here).n f.id t) symbols
          own_gives = subst (λ q. GivesSymbols (scrubbed_object here scrub f.id) q (blocks_given scrub.given
              (setup_in here).n f.id q) symbols) (sym ts) (subst (λ p. GivesSymbols (scrubbed_object here
              scrub p) s (blocks_given scrub.given (setup_in here).n p s) symbols) (sym fo) gives)

          column_is : column_of_symbols (scrubbed_object here scrub f.id) symbols j t ≡ columns
              (pinned_object here f) (here.bytes f.id) j t
          column_is = cc (
            object_is mark start ms A scrub K f in_f,
            opened_right limit mark start m ms A I X tell none b scrub at K calm f t symbols in_f k own_gives,
          )

          size_is : length (column_of_symbols (scrubbed_object here scrub f.id) symbols j t) ≡ (pinned_object
              here f).profile.size
          size_is = cc (
            object_is mark start ms A scrub K f in_f,
            length-column_of_symbols (pinned_object here f) symbols j t,
          )

          by_given : (g : Option (List ℕ)) → block_given scrub.given f.id t j ≡ g →
              differs (block_given scrub.given f.id t j) (column_of_symbols (scrubbed_object here scrub f.id)
              symbols j t) ≡ 0 → block ≡ Some (columns (pinned_object here f) (here.bytes f.id) j t)
          by_given None is h = absurd (let z : differs None (column_of_symbols (scrubbed_object here scrub
              f.id) symbols j t) ≡ 0 = cc in some_size f.profile (sym size_is ∙ z))
          by_given (Some c) is h =
              (let z : differs (Some c) (column_of_symbols (scrubbed_object here scrub f.id) symbols j t) ≡ 0
              = cc in elim (C.seen f j t c block in_f (block_in scrub.given f.id t j c is) unreplaced told) [
                | inl whole ↦ (let p = sized_is (pinned_object here f).profile.size block c whole in
                    p.0 ∙ ap Some (differs-none c (column_of_symbols (scrubbed_object here scrub f.id) symbols
                    j t) (p.1 ∙ sym size_is) z ∙ column_is))
                | inr e ↦ e
              ])

      leave : Leaves (scrub_stores here scrub o s symbols ++ rest)
      leave f j t block in_f l k new old = left_by f j t block (Work o s)
          (scrub_stores here scrub o s symbols) rest in_f l k old todo
          (λ e. (let z : Work f.id t ≡ Work o s = e in let fo : f.id ≡ o = cc in let ts : t ≡ s = cc in
          now_open fo ts)) (λ e. absurd (cc e))
        where
          now_open : f.id ≡ o → t ≡ s → Left (scrub_stores here scrub o s symbols ++ rest) f j t block
          now_open fo ts = elim (cases_Bool (off_by here scrub f.id t symbols j == 0)) [
            | inl off ↦ elim (cases_Bool (is_replaced_since scrub.begun j ms)) [
              | inl r ↦ inr (inl (since_more scrub.begun j m ms r))
              | inr unreplaced ↦ inl (same_block f j t block in_f k fo ts off unreplaced old
                  ∙ ap Some (columns_are f j t))
            ]
            | inr off ↦ inr (inr (inr (in_left (scrub_stores here scrub o s symbols) rest (Store j f.id t)
                (subst (λ q. In (Store j f.id t) (scrub_stores here scrub o q symbols)) ts
                (subst (λ p. In (Store j f.id t) (scrub_stores here scrub p t symbols)) fo
                (in_stores here scrub f.id t symbols j l off))))))
          ]

      swept_worked : Swept start (m ∷ ms) (opened_scrub here scrub o s rest symbols)
      swept_worked = sweeps (opened_scrub here scrub o s rest symbols) refl refl seen leave
          (ended_append (scrub_stores here scrub o s symbols) rest (stores_not_end here scrub o s symbols)
          (ended_tail (Work o s) rest tt (subst IsEnded todo C.ended)))

    swept_went : replaced_count here (scrub_mark mark ms scrub) ms ≤ (setup_in here).b → (next : Scrub) →
        Scrub_goes here m.state scrub next → Swept start (m ∷ ms) next
    swept_went calm next (Scrub_goes.stored i o s rest todo is told) =
        subst (λ (x : Scrub). Swept start (m ∷ ms) x) (sym is) (swept_stored i o s rest todo told)
    swept_went calm next (Scrub_goes.fetched i o s rest block todo is got) =
        subst (λ (x : Scrub). Swept start (m ∷ ms) x) (sym is) (swept_fetched i o s rest block todo got)
    swept_went calm next (Scrub_goes.worked o s rest symbols todo gives is) =
        subst (λ (x : Scrub). Swept start (m ∷ ms) x) (sym is) (swept_worked calm o s rest symbols todo gives)

  swept_begun : (next : Scrub) → next ≡ new_scrub here (length ms) → Swept start (m ∷ ms) next
  swept_begun next is = subst (λ x. Swept start (m ∷ ms) x) (sym is) (record {
    all = λ q f h. (rw (file_is f) at (all_pinned here q f (cc)));
    seen = λ f i s block c in_f given unreplaced told. absurd given;
    left = λ f i s block in_f l k told. inr (inr (inl (first_work (setup_in here)
        (new_scrub here (length ms)).files f s in_f (rw setup at k))));
    ended = first_ended (setup_in here) (new_scrub here (length ms)).files;
  })

-- one event more
pub swept_step : (limit : ℕ) (mark : Mark) (start : State) (m : Moment) (ms : List Moment) → All start ms →
    eff.Facts (now start ms) → Changes limit (length ms) (now start ms) m.event m.outcome m.state →
    AllTell (now start ms) →
    ((scrub : Scrub) → (now start ms).alone ≡ Some (Scrubbing scrub) → Scrubbed mark start ms scrub) →
    ((scrub : Scrub) → (now start ms).alone ≡ Some (Scrubbing scrub) → Swept start ms scrub) →
    ((scrub : Scrub) → (now start ms).alone ≡ Some (Scrubbing scrub) →
    replaced_count (now start ms) (scrub_mark mark ms scrub) ms ≤ (setup_in (now start ms)).b) →
    ((scrub : Scrub) → m.state.alone ≡ Some (Scrubbing scrub) →
    Scrub_is (length ms) m.event (now start ms) m.state scrub) → (next : Scrub) →
    m.state.alone ≡ Some (Scrubbing next) → Swept start (m ∷ ms) next
swept_step limit mark start m ms A I X tell K C calm S next h = by_scrub (S next h)
  where
    none_new : m.state.jobs ≡ []
    none_new = X.lone A.numbers.idle.lone (Scrubbing next) h

    by_scrub : Scrub_is (length ms) m.event (now start ms) m.state next → Swept start (m ∷ ms) next
    by_scrub (Scrub_is.kept was b) = swept_kept limit mark start m ms A I X tell
        (sym b.jobs ∙ none_new) b next was (K next was) (C next was)
    by_scrub (Scrub_is.begun event is alone is_open unbarred b) =
        swept_begun limit mark start m ms A I X tell (sym b.jobs ∙ none_new) b next is
    by_scrub (Scrub_is.went scrub was goes b) = swept_went limit mark start m ms A I X tell
        (sym b.jobs ∙ none_new) b scrub was (K scrub was) (C scrub was) (calm scrub was) next goes
