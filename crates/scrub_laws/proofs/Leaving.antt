-- What a scrub leaves that ran alone, by its last step.
use Rattle.scrub_laws.proofs.Words.{◌≡◌, ℕ, ◌<◌, ◌≤◌, ◌⊎◌, List, [], ◌∷◌, ◌++◌, length, map, Option, None, Some, refl, ap, sym, subst, ◌∙◌, inl, inr, arith, All, Contains, sum_by, IfSome, option_map, Each, In, in_contains, upto, Object, GivesSymbols, LosesRow, Held, Provider, sized, RepairJob, Given, Action, Store, Fetch, Ask, Remove, End, Answer, block_given, blocks_given, symbols_given, pinned_profile, now, State, Scrub, Doubt, setup_in, Ran, ran_from, object_numbered, EachHeldGoes, Place, Gave, blocks_at, held_at, IsTruth, GivesPlace, RewrittenOn, PartlyRewrittenOn, IfFlagged, RewritesPart, RewritesSome, LosesAtPlace, everyone, SweepsAll, ScrubGives, ScrubLeaves, IsOpenAtRest, Made, object_made, Called, made-keeps, Rises, rises-more, IsBelow, called-below, all-each, each-parts, IsRepairing, column_at, after, after-either, after-none, after-some, Told, made-told, works-opened, FetchesAll, OpensAll, opens-fetches, told-places, lacks-places, gives-places, no-stores, made-rises}
use Rattle.device_defs.specs.Told.{Goes}
use Rattle.command_defs.specs.Truthful.{IsTruthful}
use Rattle.job_laws.proofs.Profiles.{made-numbered}
use Rattle.scrub_laws.proofs.Blocks.{some-size, own-block}
use Rattle.scrub_laws.proofs.Counts.{off_given, block_off}
use Rattle.scrub_laws.proofs.Lines.{ordered-front}
use Rattle.scrub_laws.proofs.Sweeps.{job, x, all, past, Facts}

-- what is in a line before its end
in-front : (j o t : ℕ) (xs : List Action) → In (Store j o t) (xs ++ End ∷ []) → In (Store j o t) xs
in-front j o t [] (inl e) = absurd (let z : Store j o t ≡ End = e in cc)
in-front j o t [] (inr i) = absurd i
in-front j o t (a ∷ xs) (inl e) = inl e
in-front j o t (a ∷ xs) (inr i) = inr (in-front j o t xs i)

module _ (start : State) (O : IsOpenAtRest start 1) (scrub : Scrub) (ps : ℕ → Provider) (acts : List Action)
    (sofar : List Place) (F : Facts start O scrub ps acts sofar) where
  abbrev n : ℕ
  n = (setup_in start).n

  made-acts : Made (x start O) acts start.providers ps [] scrub.given
  made-acts = F.made

  below-acts : Each (IsBelow n) acts
  below-acts = (each-parts (IsBelow n) acts scrub.todo F.below).0

  -- one that doesn't tell what it holds goes on so
  untold : (j : ℕ) → (start.providers j).held ≡ None → (ps j).held ≡ None
  untold j = made-keeps (x start O) j (λ p q. p.held ≡ None → q.held ≡ None) IsRepairing (λ p e. e)
      (λ p q r a b e. b (a e)) step acts start.providers ps [] scrub.given F.repairing made-acts
    where
      step : (a : Action) (given now : List Given) (p q : Provider) → IsRepairing a →
          Called (x start O) a given now j p q → p.held ≡ None → q.held ≡ None
      step (Fetch k o t) given now p q u (e, (block, c, is)) h = c.held ∙ h
      step (Store k o t) given now p q u (e, c, is) h = c.held ∙ ap (option_map _) h
      step (Ask k o r) given now p q u c h = absurd u
      step (Remove k o) given now p q u c h = absurd u
      step a given now p q u c h = absurd c

  told : (j : ℕ) (held : Held) → (start.providers j).held ≡ Some held →
      Told (x start O) refl scrub.given j held held acts (start.providers j) (ps j)
  told j held e = made-told (x start O) refl scrub.given j held acts start.providers ps F.repairing
      (ordered-front acts scrub.todo F.ordered) made-acts e

  -- ---- what its actions gave and left, in the words of the command

  module _ (np : ℕ → Provider) (held-same : (j : ℕ) → (np j).held ≡ (ps j).held)
      (count-same : (j : ℕ) → (np j).other_faults ≡ (ps j).other_faults) where
    abbrev ran : Ran
    ran = ran_from start (past start O np) []

    abbrev gave : Gave
    gave j p = block_given scrub.given p.object p.stripe j

    abbrev symbols : Place → List ℕ
    symbols p = symbols_given scrub.given p.object p.stripe

    abbrev made : ℕ → Object
    made = object_made (x start O)

    -- the objects that it works on are those of the files in effect
    objects-are : made ≡ object_numbered ran
    objects-are i id = made-numbered start O RepairJob (job start O) ran refl refl id i

    truth : (qs : List Place) → FetchesAll (setup_in start) qs acts → IsTruth ran gave qs
    unfolding setup_in
    truth qs f = λ j below. by_held j below (start.providers j).held refl
      where
        tells : (j : ℕ) → j < n → (held : Held) → (start.providers j).held ≡ Some held →
            IsTruthful (gave j) (held_at ran held) qs (start.providers j).other_faults (np j).other_faults
        tells j below held e = subst (λ (objs : ℕ → Object). IsTruthful (gave j)
            (λ p. sized (objs p.object).profile.size (held p.object p.stripe)) qs
            (start.providers j).other_faults (np j).other_faults) objects-are
            (let t = told j held e in record {
              each = all-each (λ p. (gave j p ≡ sized (made p.object).profile.size
                  (held p.object p.stripe)) ⊎ (gave j p ≡ None)) qs
                  (told-places (x start O) refl scrub.given j held below qs acts f t.told);
              few = λ l. (let same = count-same j in let c = t.count (omega (arith, l, same)) in
                  let m = lacks-places (x start O) refl scrub.given j held below qs acts f in
                  omega (arith, c, m, same));
            })

        by_held : (j : ℕ) → j < n → (h : Option Held) → (start.providers j).held ≡ h →
            IfSome h (λ held. IsTruthful (gave j) (held_at ran held) qs (start.providers j).other_faults
            (np j).other_faults)
        by_held j below None e = tt
        by_held j below (Some held) e = tells j below held e

    opened : (qs : List Place) → OpensAll (setup_in start) qs acts → All (GivesPlace ran gave symbols) qs
    unfolding setup_in
    opened qs o = subst (λ (objs : ℕ → Object). All (λ p. GivesSymbols (objs p.object) p.stripe
        (blocks_at ran gave p) (symbols p)) qs) objects-are (all-each
        (λ p. GivesSymbols (made p.object) p.stripe (blocks_at ran gave p) (symbols p)) qs
        (gives-places (x start O) scrub.given qs acts o (works-opened (x start O) acts start.providers ps []
        scrub.given (ordered-front acts scrub.todo F.ordered) made-acts)))

    -- what a provider holds now
    now-held : (j : ℕ) (held : Held) → (start.providers j).held ≡ Some held →
        (np j).held ≡ Some (after (x start O) scrub.given j acts held)
    now-held j held e = held-same j ∙ (told j held e).held_is

    goes-by : (change : ℕ → Held → Held → Type 0) →
        ((j : ℕ) (held : Held) → j < n → (start.providers j).held ≡ Some held →
        change j held (after (x start O) scrub.given j acts held)) → (j : ℕ) →
        j < n → Goes (change j) (start.providers j).held (np j).held
    goes-by change f j below = by_held (start.providers j).held refl
      where
        by_held : (h : Option Held) → (start.providers j).held ≡ h → Goes (change j) h (np j).held
        by_held None e = subst (Goes (change j) None) (sym (held-same j ∙ untold j e)) tt
        by_held (Some held) e = subst (Goes (change j) (Some held)) (sym (now-held j held e))
            (f j held below e)

    same-elsewhere : (j : ℕ) (held : Held) (p : Place) → (Contains sofar p → ⊥) →
        after (x start O) scrub.given j acts held p.object p.stripe ≡ held p.object p.stripe
    same-elsewhere j held p none = after-none (x start O) scrub.given j acts held p.object p.stripe
        (no-stores (job start O) n sofar j p.object p.stripe acts (λ h. none (in_contains sofar p h.1))
        F.stored)

    -- some places are rewritten
    rewritten-part :
        EachHeldGoes ran (λ j. IfFlagged (everyone j) (PartlyRewrittenOn (object_numbered ran) symbols sofar j))
    unfolding setup_in
    rewritten-part = subst (λ (objs : ℕ → Object). EachHeldGoes ran
        (λ j. IfFlagged (everyone j) (PartlyRewrittenOn objs symbols sofar j))) objects-are
        (goes-by (λ j. PartlyRewrittenOn made symbols sofar j) (λ j held below e. record {
          stored = all-each (λ (p : Place). (after (x start O) scrub.given j acts held p.object p.stripe ≡
              held p.object p.stripe) ⊎ (after (x start O) scrub.given j acts held p.object p.stripe ≡ Some
              (column_at (x start O) scrub.given j p.object p.stripe))) sofar (each-place j held sofar);
          others = λ p none. same-elsewhere j held p none;
        }))
      where
        each-place : (j : ℕ) (held : Held) (qs : List Place) →
            Each (λ (p : Place). (after (x start O) scrub.given j acts held p.object p.stripe
            ≡ held p.object p.stripe) ⊎
            (after (x start O) scrub.given j acts held p.object p.stripe
            ≡ Some (column_at (x start O) scrub.given j p.object p.stripe))) qs
        each-place j held [] = tt
        each-place j held (p ∷ qs) =
            (after-either (x start O) scrub.given j acts held p.object p.stripe, each-place j held qs)

    part : (rest : List Place) → all start O ≡ sofar ++ rest → OpensAll (setup_in start) sofar acts →
        RewritesPart ran everyone sofar rest gave symbols
    unfolding setup_in
    part rest parts o = record {
      parts = parts;
      truth = truth sofar (opens-fetches (setup_in start) sofar acts o);
      gives = opened sofar o;
      held = rewritten-part;
    }

    pub some-part : (rest : List Place) → all start O ≡ sofar ++ rest → OpensAll (setup_in start) sofar acts →
        RewritesSome ran everyone
    some-part rest parts o =
        record { done = sofar; rest = rest; gave = gave; symbols = symbols; part = part rest parts o }

    -- a row of the next place is lost
    pub lost-at : (p : Place) (rest : List Place) (row : ℕ) → all start O ≡ sofar ++ p ∷ rest →
        OpensAll (setup_in start) sofar acts → FetchesAll (setup_in start) (sofar ++ p ∷ []) acts →
        LosesRow (made p.object) p.stripe (blocks_given scrub.given n p.object p.stripe) row →
        LosesAtPlace ran everyone p.stripe row
    unfolding setup_in
    lost-at p rest row parts o f loses = record {
      done = sofar;
      place = p;
      rest = rest;
      gave = gave;
      symbols = symbols;
      part = part (p ∷ rest) parts o;
      truth = truth (sofar ++ p ∷ []) f;
      stripe_is = refl;
      loses = subst (λ (objs : ℕ → Object). LosesRow (objs p.object) p.stripe
          (blocks_given scrub.given n p.object p.stripe) row) objects-are loses;
    }

    -- at the end each provider holds its column of each place
    own-columns : (j : ℕ) (held : Held) → (start.providers j).held ≡ Some held → j < n →
        scrub.todo ≡ End ∷ [] → (qs : List Place) →
        Each (λ (p : Place). (i : ℕ) → i < n → In (Store i p.object p.stripe) (acts ++ scrub.todo) ⊎
        (off_given made scrub.given i p ≡ 0)) qs →
        Each (λ (p : Place). (gave j p ≡ sized (made p.object).profile.size (held p.object p.stripe)) ⊎
        (gave j p ≡ None)) qs →
        Each (λ (p : Place). after (x start O) scrub.given j acts held p.object p.stripe
        ≡ Some (column_at (x start O) scrub.given j p.object p.stripe)) qs
    own-columns j held e below last [] h t = tt
    own-columns j held e below last (p ∷ qs) h t = (
      elim (h.0 j below) [
        | inl i ↦ after-some (x start O) scrub.given j acts held p.object p.stripe
            (in-front j p.object p.stripe acts
            (subst (λ l. In (Store j p.object p.stripe) (acts ++ l)) last i))
        | inr z ↦ elim (after-either (x start O) scrub.given j acts held p.object p.stripe) [
          | inr column ↦ column
          | inl same ↦ same ∙ own-block (made p.object) (gave j p) (held p.object p.stripe) (symbols p) j
              p.stripe (some-size (pinned_profile (setup_in start).profile (x start O).pinned p.object)) t.0 z
        ]
      ],
      own-columns j held e below last qs h.1 t.1,
    )

    pub sweeps-all : (stripes : ℕ) (off blocks : List ℕ) → all start O ≡ sofar → scrub.todo ≡ End ∷ [] →
        OpensAll (setup_in start) sofar acts → stripes ≡ scrub.found.stripes →
        off ≡ map scrub.found.symbols (upto n) → blocks ≡ map scrub.found.blocks (upto n) →
        SweepsAll ran stripes off blocks
    unfolding setup_in
    sweeps-all stripes off blocks whole last o stripes_is off_is blocks_are = record {
      gave = gave;
      rows = symbols;
      truth = subst (IsTruth ran gave) (sym whole) (truth sofar (opens-fetches (setup_in start) sofar acts o));
      gives = subst (All (GivesPlace ran gave symbols)) (sym whole) (opened sofar o);
      stripes_are = stripes_is ∙ (F.stripes ∙ ap length (sym whole));
      symbols_are = off_is
          ∙ ((λ i. map (λ j. F.symbols j i) (upto n))
          ∙ ((λ i. map (λ j. sum_by (off_given (objects-are i) scrub.given j) sofar) (upto n))
          ∙ ap (λ qs. map (λ j. sum_by (off_given (object_numbered ran) scrub.given j) qs) (upto n))
          (sym whole)));
      blocks_are = blocks_are
          ∙ ((λ i. map (λ j. F.blocks j i) (upto n))
          ∙ ((λ i. map (λ j. sum_by (block_off (objects-are i) scrub.given j) sofar) (upto n))
          ∙ ap (λ qs. map (λ j. sum_by (block_off (object_numbered ran) scrub.given j) qs) (upto n))
          (sym whole)));
      held = subst (λ (objs : ℕ → Object). EachHeldGoes ran (RewrittenOn objs symbols (all start O)))
          objects-are (subst (λ qs. EachHeldGoes ran (RewrittenOn made symbols qs)) (sym whole)
          (goes-by (RewrittenOn made symbols sofar) (λ j held below e. record {
            stored = all-each (λ (p : Place). after (x start O) scrub.given j acts held p.object p.stripe ≡
                Some (column_at (x start O) scrub.given j p.object p.stripe)) sofar
                (own-columns j held e below last sofar F.settled (told-places (x start O) refl scrub.given j
                held below sofar acts (opens-fetches (setup_in start) sofar acts o) (told j held e).told));
            others = λ p none. same-elsewhere j held p none;
          })));
    }

  -- ---- the whole state after it

  -- counts do not fall, and providers beyond the setup's stay
  module _ (np : ℕ → Provider) (rises : (j : ℕ) → Rises (ps j) (np j))
      (others : (j : ℕ) → n ≤ j → np j ≡ ps j) where
    rises-all : (j : ℕ) → Rises (start.providers j) (np j)
    rises-all j = rises-more (start.providers j) (ps j) (np j)
        (made-rises (x start O) acts start.providers ps [] scrub.given j made-acts) (rises j)

    others-all : (j : ℕ) → n ≤ j → np j ≡ start.providers j
    others-all j l = others j l
        ∙ made-keeps (x start O) j (λ p q. q ≡ p) (IsBelow n) (λ p. refl) (λ p q r a b. b ∙ a)
        (λ a given now p q b c. absurd (called-below (x start O) n a given now j p q b l c))
        acts start.providers ps [] scrub.given below-acts made-acts

    -- what is left, by what the answer gives
    pub leaves-all : (how : Answer) → ScrubGives (ran_from start (past start O np) []) how →
        ScrubLeaves (ran_from start (past start O np) []) how
    unfolding setup_in
    leaves-all how gives = record {
      gives = gives;
      records = record { after = refl; sure = ap (option_map (λ (d : Doubt). d.entry)) O.rest.undoubted };
      heard = refl;
      counts = record { disk = omega arith; stores = λ j. (rises-all j).0; others = λ j. (rises-all j).1 };
      others = others-all;
    }
