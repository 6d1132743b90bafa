-- How a scrub ends that ran alone, by its last step.
use Rattle.scrub_laws.proofs.Words.{◌≡◌, ℕ, ◌+◌, ◌<◌, ◌≤◌, ◌==◌, ◌⊎◌, List, [], ◌∷◌, ◌++◌, length, map, None, refl, ap, sym, subst, ◌∙◌, inl, inr, arith, flat_map, eq-eqb, append-nil, Object, LosesRow, Provider, StoreCounts, Scrubs, StepsScrub, new_scrub, Action, Store, Fetch, Work, End, open_actions, Answer, Step, Ended, blocks_given, Happens, now, State, Scrub, setup_in, with_provider, cond_true, GoesOnTo, ran_from, Place, LosesAtPlace, everyone, ScrubGives, ScrubLeaves, RunsScrub, IsOpenAtRest, calls-at, Rises, rises-same, fetches_at, FetchesAll, OpensAll, made-rises}
use Rattle.device_defs.specs.Faults.{Rose}
use Rattle.device_defs.proofs.Lasting.{rose-before}
use Rattle.machine_defs.specs.Answers as answer
use Rattle.scrub_laws.specs.Ended.{IsPastScrub, IsOfScrub}
use Rattle.scrub_laws.proofs.Leaving.{some-part, lost-at, sweeps-all, leaves-all}
use Rattle.scrub_laws.proofs.Lines.{Part, part_place, part_actions, parts-open, parts-fetch}
use Rattle.scrub_laws.proofs.Sweeps.{x, all, opens, at, past, Facts, object-is, Where, next-fetch, Stepped, steps-scrub, steps-sweep, begins-sweep}

-- how a scrub ended
pub record Ended_by (start new : State) (how : Answer) : Type 0 where
  pub leaves : ScrubLeaves (ran_from start new []) how
  pub is_past : IsPastScrub start new
  pub is_answer : IsOfScrub how

module _ (start : State) (O : IsOpenAtRest start 1) where
  -- the state is past the scrub
  past-is : (np : ℕ → Provider) (new : State) → new ≡ past start O np → IsPastScrub start new
  past-is np new is = is
      ∙ ap (λ (f : ℕ → Provider). record start {
        alone = None;
        next_job = start.next_job + 1;
        providers = f;
      }) (sym (ap (λ (w : State). w.providers) is))

  ended-by : (np : ℕ → Provider) (new : State) (how : Answer) → new ≡ past start O np →
      ScrubLeaves (ran_from start (past start O np) []) how → IsOfScrub how → Ended_by start new how
  ended-by np new how is leaves of = record {
    leaves = subst (λ (w : State). ScrubLeaves (ran_from start w []) how) (sym is) leaves;
    is_past = past-is np new is;
    is_answer = of;
  }

  module _ (scrub : Scrub) (ps : ℕ → Provider) (acts : List Action) (sofar : List Place)
      (F : Facts start O scrub ps acts sofar) (new : State) where
    abbrev n : ℕ
    n = (setup_in start).n

    -- providers are as before
    ended-still : (how : Answer) → new ≡ past start O ps →
        ScrubGives (ran_from start (past start O ps) []) how → IsOfScrub how → Ended_by start new how
    ended-still how is gives of = ended-by ps new how is
        (leaves-all start O scrub ps acts sofar F ps (λ j. rises-same (ps j)) (λ j l. refl) how gives) of

    -- one was called for a store, and did not store
    module _ (k : ℕ) (q : Provider) (below : k < n) (held : q.held ≡ (ps k).held)
        (counts : StoreCounts (ps k) q) where
      abbrev np : ℕ → Provider
      np = with_provider ps k q

      at-one : (j : ℕ) → (np j ≡ ps j) ⊎ ((j ≡ k) × (((np j).held ≡ (ps j).held) × StoreCounts (ps j) (np j)))
      at-one j = calls-at ps k (λ a b. (b.held ≡ a.held) × StoreCounts a b) np j (q, (held, counts), refl)

      held-one : (j : ℕ) → (np j).held ≡ (ps j).held
      held-one j = elim (at-one j) [ inl e ↦ ap (λ (z : Provider). z.held) e | inr c ↦ c.1.0 ]

      count-one : (j : ℕ) → (np j).other_faults ≡ (ps j).other_faults
      count-one j = elim (at-one j) [
        | inl e ↦ ap (λ (z : Provider). z.other_faults) e
        | inr c ↦ c.1.1.other_faults
      ]

      rises-one : (j : ℕ) → Rises (ps j) (np j)
      rises-one j = elim (at-one j) [
        | inl e ↦ subst (Rises (ps j)) (sym e) (rises-same (ps j))
        | inr c ↦ (c.1.1.store_faults, (let f = c.1.1.other_faults in omega (arith, f)))
      ]

      others-one : (j : ℕ) → n ≤ j → np j ≡ ps j
      others-one j l = elim (at-one j) [ inl e ↦ e | inr c ↦ absurd (let f = c.0 in omega (arith, f, l, below)) ]

      rose-one : Rose (ps k).store_faults q.store_faults →
          Rose (start.providers k).store_faults (np k).store_faults
      rose-one rose = subst (λ (z : Provider). Rose (start.providers k).store_faults z.store_faults)
          (sym (cond_true (k == k) q (ps k) (eq-eqb k k refl))) (rose-before (start.providers k).store_faults
          (ps k).store_faults q.store_faults
          (made-rises (x start O) acts start.providers ps [] scrub.given k F.made).0 counts.store_faults rose)

      ended-one : (how : Answer) → new ≡ past start O np →
          ScrubGives (ran_from start (past start O np) []) how → IsOfScrub how → Ended_by start new how
      ended-one how is gives of = ended-by np new how is
          (leaves-all start O scrub ps acts sofar F np rises-one others-one how gives) of

    by-work : (p : Place) (rest : List Place) (parts : List Part) (front : List Action) (how : Answer) →
        sofar ≡ map part_place parts → all start O ≡ sofar ++ p ∷ rest →
        acts ≡ flat_map (part_actions (setup_in start)) parts ++ front →
        fetches_at (setup_in start) p ≡ front ++ [] →
        Scrubs (at start O scrub ps) scrub (Work p.object p.stripe) (opens start O rest) (Ended how) new →
        Ended_by start new how
    unfolding setup_in
    by-work p rest parts front (answer.Lost u row) places_are split acts_are fetches (same, loses, is)
        = ended-still (answer.Lost u row) is (subst (λ t. LosesAtPlace (ran_from start (past start O ps) [])
        everyone t row) (sym same) (lost-at start O scrub ps acts sofar F ps (λ j. refl) (λ j. refl) p rest
        row split (subst (λ qs. OpensAll (setup_in start) qs acts) (append-nil (map part_place parts) ∙
        sym places_are) (subst (OpensAll (setup_in start) (map part_place parts ++ [])) (sym acts_are)
        (parts-open (setup_in start) parts [] front tt))) (subst (λ qs. FetchesAll (setup_in start)
        (qs ++ p ∷ []) acts) (sym places_are)
        (subst (FetchesAll (setup_in start) (map part_place parts ++ p ∷ [])) (sym acts_are)
        (parts-fetch (setup_in start) parts (p ∷ []) front (
          [],
          [],
          sym (append-nil (fetches_at (setup_in start) p ++ [])
              ∙ (append-nil (fetches_at (setup_in start) p) ∙ (fetches ∙ append-nil front))),
          tt,
        ))))
        (subst (λ (z : Object). LosesRow z p.stripe
        (blocks_given scrub.given n p.object p.stripe) row)
        (object-is start O scrub ps acts sofar F p.object) loses))) tt
    by-work p rest parts front how places_are split acts_are fetches h = absurd h

    module _ (p : Place) (rest : List Place) (parts : List Part) (stores : List Action)
        (places_are : sofar ≡ map part_place parts ++ p ∷ []) (split : all start O ≡ sofar ++ rest)
        (acts_are : acts ≡ flat_map (part_actions (setup_in start)) parts
        ++ (open_actions (setup_in start) p.object p.stripe ++ stores)) where
      opens-here : OpensAll (setup_in start) sofar acts
      opens-here = subst (λ qs. OpensAll (setup_in start) qs acts) (sym places_are)
          (subst (OpensAll (setup_in start) (map part_place parts ++ p ∷ [])) (sym acts_are)
          (parts-open (setup_in start) parts (p ∷ [])
          (open_actions (setup_in start) p.object p.stripe ++ stores) (
            stores,
            [],
            sym (append-nil (open_actions (setup_in start) p.object p.stripe ++ stores)),
            tt,
          )))

      failed : (k o t : ℕ) (left : List Action) (how : Answer) → k < n →
          Scrubs (at start O scrub ps) scrub (Store k o t) left (Ended how) new → Ended_by start new how
      unfolding setup_in
      failed k o t left (answer.ProviderFault i) below (same, (q, fails, is)) =
          ended-one k q below fails.held fails.counts (answer.ProviderFault i) is
          (subst (λ m. ScrubGives (ran_from start (past start O (with_provider ps k q)) [])
          (answer.ProviderFault m)) (sym same) (
            below,
            rose-one k q below fails.held fails.counts fails.cause,
            some-part start O scrub ps acts sofar F (with_provider ps k q)
                (held-one k q below fails.held fails.counts) (count-one k q below fails.held fails.counts)
                rest split opens-here,
          )) tt
      failed k o t left answer.Memory below (q, finds, is) = ended-one k q below finds.held finds.counts
          answer.Memory is (some-part start O scrub ps acts sofar F (with_provider ps k q)
          (held-one k q below finds.held finds.counts) (count-one k q below finds.held finds.counts) rest
          split opens-here) tt
      failed k o t left how below h = absurd h

    by-end : (parts : List Part) (how : Answer) → sofar ≡ map part_place parts → all start O ≡ sofar →
        acts ≡ flat_map (part_actions (setup_in start)) parts → scrub.todo ≡ End ∷ [] →
        Scrubs (at start O scrub ps) scrub End [] (Ended how) new → Ended_by start new how
    unfolding setup_in
    by-end parts (answer.Scrubbed stripes off blocks) places_are whole acts_are last
        (stripes_is, off_is, blocks_are, is) = ended-still (answer.Scrubbed stripes off blocks) is
        (sweeps-all start O scrub ps acts sofar F ps (λ j. refl) (λ j. refl) stripes off blocks whole last
        (subst (λ qs. OpensAll (setup_in start) qs acts) (append-nil (map part_place parts) ∙ sym places_are)
        (subst (OpensAll (setup_in start) (map part_place parts ++ []))
        (append-nil (flat_map (part_actions (setup_in start)) parts) ∙ sym acts_are)
        (parts-open (setup_in start) parts [] [] tt))) stripes_is off_is blocks_are) tt
    by-end parts how places_are whole acts_are last h = absurd h

    -- by where the scrub stands
    by-last : (how : Answer) → Where start O scrub acts sofar →
        StepsScrub (at start O scrub ps) scrub scrub.todo (Ended how) new → Ended_by start new how
    by-last how (Where.opening parts p rest front [] places_are split acts_are fetches todo) h =
        by-work p rest parts front how places_are split acts_are fetches
        (subst (λ l. StepsScrub (at start O scrub ps) scrub l (Ended how) new) todo h)
    by-last how (Where.opening parts p rest front (Fetch k o t ∷ back) places_are split acts_are fetches todo) h =
        absurd (subst (λ l. StepsScrub (at start O scrub ps) scrub l (Ended how) new) todo h)
    by-last how (Where.opening parts p rest front (a ∷ back) places_are split acts_are fetches todo) h =
        absurd (next-fetch start O p front a back fetches)
    by-last how (Where.storing parts p rest stores (Store k o t) left places_are split acts_are mine todo) h =
        failed p rest parts stores places_are split acts_are k o t (left ++ opens start O rest) how mine.0.0
        (subst (λ l. StepsScrub (at start O scrub ps) scrub l (Ended how) new) todo h)
    by-last how (Where.storing parts p rest stores a left places_are split acts_are mine todo) h = absurd mine.0
    by-last how (Where.ending parts places_are whole acts_are todo) h = by-end parts how places_are whole
        acts_are todo (subst (λ l. StepsScrub (at start O scrub ps) scrub l (Ended how) new) todo h)

  -- a scrub that ran alone
  pub scrub-ends : (new : State) (moment : ℕ) (how : Answer) → RunsScrub start moment how new →
      Ended_by start new how
  unfolding setup_in
  scrub-ends new moment how r = (let b = r.begins in
      let g : GoesOnTo (at start O (new_scrub start moment) start.providers) (moment + 1) start.next_job how []
      new = subst (λ (w : State). GoesOnTo w (moment + 1) start.next_job how [] new) b.3
      (subst (λ k. GoesOnTo r.begun (moment + 1) k how [] new) b.2 r.goes_on) in
      let z : Stepped start O (now (at start O (new_scrub start moment) start.providers) g.steps) =
      steps-sweep start O (new_scrub start moment) start.providers (moment + 1) g.steps
      (begins-sweep start O moment) g.are_steps in
      by-last z.scrub z.providers z.sweeps.acts z.sweeps.sofar z.sweeps.facts new how z.sweeps.stands
      (steps-scrub start O z.scrub z.providers ((moment + 1) + length g.steps) (Ended how) new
      z.sweeps.facts.number
      (subst (λ (w : State). Happens 8 ((moment + 1) + length g.steps) w (Step start.next_job) (Ended how) new)
      z.is g.ends)))
