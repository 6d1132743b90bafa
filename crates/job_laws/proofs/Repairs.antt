-- What a repair leaves whose job was the only one.
use Rattle.job_laws.proofs.Words.{◌≡◌, ℕ, zero, suc, ◌-◌, ◌<◌, ◌≤◌, ◌==◌, ◌⊎◌, Bool, true, false, List, [], ◌∷◌, ◌++◌, length, take, drop, Option, None, Some, refl, ap, sym, subst, ◌∙◌, inl, inr, arith, All, Contains, slice_get, option_map, flat_map, eq-eqb, false≢true, append_assoc, append-nil, Each, each_get, each_append, each_map, each_mono, each_take, in_contains, in_left, in_right, upto, Object, GivesSymbols, LosesRow, Rose, Held, Provider, sized, FailsToStore, FindsNoMemory, StoreCounts, Goes, rose-before, Setup, RepairDone, Due, files_of, due_of, RepairJob, Given, Job, Action, WriteBody, SyncBody, WriteGate, SyncGate, Store, Fetch, Ask, Work, Remove, End, append_actions, open_actions, rewrite_actions, repair_actions, actions_of, appends_left, Answer, Ended, block_given, blocks_given, symbols_given, Entry, State, Doubt, setup_in, worked_object, with_provider, ended, Moves, next_action, Acts, EndsAs, split_get, cond_true, RunsJob, Leaves, Ran, ran_from, object_numbered, EachHeldGoes, IsWhole, IsCut, Place, places, Gave, blocks_at, IsTruth, GivesPlace, RewrittenOn, PartlyRewrittenOn, IfFlagged, flags, RewritesAll, RewritesPart, RewritesSome, LosesAtPlace, RepairGives, IsTruthful, moves_made, moves_before, begun-repair, moves-next, appends_in, is_some-at, With, Made, object_made, IsOpenAtRest, MayName, first_record, with_job_of, Walked, repair-list, audit-within, runs}
use Rattle.machine_defs.specs.Answers as answer
use Rattle.job_laws.proofs.Runs.{Ends, job-ends}
use Rattle.job_laws.proofs.Providers.{Called, calls-at, made-keeps}
use Rattle.job_laws.proofs.Profiles.{made-numbered, worked-made}
use Rattle.job_laws.proofs.Lasts.{Faults, NoRoom, none-moving}
use Rattle.job_laws.proofs.Truth.{if-some, made-rises}
use Rattle.job_laws.proofs.Leaving.{counts-rise, others-stay}
use Rattle.job_laws.proofs.Moving.{IsMove}
use Rattle.job_laws.proofs.Endings.{listed, move-ends, act-ends, end-left, end-sure, none-written, one-whole, one-doubted, one-cut}
use Rattle.job_laws.proofs.Questions.{each-in, held-sizes, all-each}
use Rattle.job_laws.proofs.Heard.{IsNot}
use Rattle.job_laws.proofs.Tails.{NoStore}
use Rattle.job_laws.proofs.Rewritten.{IsNoneOf, IsBefore, AreOrdered, IsRepairing, column_at, after, after-either, after-none, after-some, Told, made-told, works-opened}
use Rattle.job_laws.proofs.Places.{fetches_at, actions_at, IsAt, at-place, repairs-places, AreApart, all-apart, ordered-places, Cut, cut-at}
use Rattle.job_laws.proofs.PlaceFacts.{FetchesAll, OpensAll, opens-fetches, opens-done, fetches-done, told-places, lacks-places, gives-places, work-cut, store-cut, IsStoreOf, stores-of, stores-all, stores-wider, stored-at, no-stores}

ordered-take : (xs : List Action) (p : ℕ) → AreOrdered xs → AreOrdered (take p xs)
ordered-take xs zero o = tt
ordered-take [] (suc p) o = tt
ordered-take (x ∷ xs) (suc p) o = (before-take x o.0, ordered-take xs p o.1)
  where
    before-take : (x : Action) → IsBefore x xs → IsBefore x (take p xs)
    before-take (Fetch j o s) h = each_take (IsNot (Fetch j o s)) xs p h
    before-take (Work o s) h = each_take (IsNoneOf o s) xs p h
    before-take (Store j o s) h = each_take (IsNoneOf o s) xs p h
    before-take x h = tt

-- what a repair may do at a place
at-repairs : (p : Place) (a : Action) → IsAt p a → IsRepairing a
at-repairs p (Fetch j o s) h = tt
at-repairs p (Work o s) h = tt
at-repairs p (Store j o s) h = tt
at-repairs p a h = absurd h

module _ (start : State) (O : IsOpenAtRest start 1) (w : State) (job : Job)
    (W : Walked start RepairJob w job) where
  abbrev s : Setup
  s = setup_in start

  abbrev x : With
  x = with_job_of start RepairJob job

  abbrev tail : List Action
  tail = append_actions ++ End ∷ []

  abbrev all : List Place
  all = places s (files_of start.records)

  abbrev acts : List Action
  acts = take job.place (actions_of s job)

  list-is : actions_of s job ≡ flat_map (actions_at s job) all ++ tail
  list-is = cc (
    repair-list s job W.kind_is,
    repairs-places s start job (files_of start.records) W.pinned (held-sizes start O),
  )

  places-apart : AreApart all
  places-apart = all-apart s start (files_of start.records)
      (rw W.pinned at (W.sound.jobs job.number job (runs start O RepairJob w job W)).ascending)

  ordered-acts : AreOrdered acts
  ordered-acts = ordered-take (actions_of s job) job.place
      (rw (← list-is) at (ordered-places s job all tail places-apart (tt, (tt, (tt, (tt, (tt, tt)))))
      (λ o t. tt, (λ o t. tt, (λ o t. tt, (λ o t. tt, (λ o t. tt, tt)))))))

  repairing-places : (ps : List Place) → Each IsRepairing (flat_map (actions_at s job) ps)
  repairing-places [] = tt
  repairing-places (p ∷ ps) = each_append IsRepairing (actions_at s job p) (flat_map (actions_at s job) ps)
      (each_mono (IsAt p) IsRepairing (actions_at s job p) (λ a h. at-repairs p a h) (at-place s job p))
      (repairing-places ps)

  repairing-acts : Each IsRepairing acts
  repairing-acts = each_take IsRepairing (actions_of s job) job.place
      (rw (← list-is) at (each_append IsRepairing (flat_map (actions_at s job) all) tail (repairing-places all)
      (tt, (tt, (tt, (tt, (tt, tt)))))))

  made-acts : Made x acts start.providers w.providers [] job.given
  made-acts = W.made

  -- where the next action stands
  cut-next : (action : Action) → slice_get (actions_of s job) job.place ≡ Some action →
      Cut (actions_at s job) all tail job.place action
  cut-next action h = cut-at (actions_at s job) all tail job.place action
      (ap (λ xs. slice_get xs job.place) (sym list-is) ∙ h)

  acts-are : (front : List Action) → take job.place (flat_map (actions_at s job) all ++ tail) ≡ front →
      acts ≡ front
  acts-are front e = ap (take job.place) list-is ∙ e

  -- one that doesn't tell what it holds goes on so
  untold : (j : ℕ) → (start.providers j).held ≡ None → (w.providers j).held ≡ None
  untold j = made-keeps x j (λ p q. p.held ≡ None → q.held ≡ None) IsRepairing (λ p e. e)
      (λ p q r a b e. b (a e)) step acts start.providers w.providers [] job.given repairing-acts made-acts
    where
      step : (a : Action) (given now : List Given) (p q : Provider) → IsRepairing a →
          Called x a given now j p q → p.held ≡ None → q.held ≡ None
      step (Fetch k o t) given now p q u (e, (block, c, is)) h = c.held ∙ h
      step (Store k o t) given now p q u (e, c, is) h = cc
      step (Ask k o r) given now p q u c h = absurd u
      step (Remove k o) given now p q u c h = absurd u
      step a given now p q u c h = absurd c

  -- ---- what its actions gave and left, in the words of the command

  module _ (new : State) (heard : List Entry) (held-same : (j : ℕ) →
      (new.providers j).held ≡ (w.providers j).held)
      (count-same : (j : ℕ) → (new.providers j).other_faults ≡ (w.providers j).other_faults)
      (due : Due) (is-due : due_of start.records ≡ Some due) where
    abbrev ran : Ran
    ran = ran_from start new heard

    abbrev gave : Gave
    gave j p = block_given job.given p.object p.stripe j

    abbrev symbols : Place → List ℕ
    symbols p = symbols_given job.given p.object p.stripe

    abbrev made : ℕ → Object
    made = object_made x

    -- the objects that it works on are those of the files in effect
    objects-are : made ≡ object_numbered ran
    objects-are i id = made-numbered start O RepairJob job ran refl refl id i

    -- the flagged providers are those of the due audit
    flagged-is : (j : ℕ) → job.flagged j ≡ flags ran due j
    unfolding setup_in
    flagged-is j = cc

    told : (j : ℕ) (held : Held) → (start.providers j).held ≡ Some held →
        Told x refl job.given j held held acts (start.providers j) (w.providers j)
    told j held e = made-told x refl job.given j held acts start.providers w.providers repairing-acts
        ordered-acts made-acts e

    truth : (ps : List Place) → FetchesAll s ps acts → IsTruth ran gave ps
    unfolding setup_in
    truth ps f j below = if-some (start.providers j).held _
        (λ held e. subst (λ (objs : ℕ → Object). IsTruthful (gave j)
        (λ p. sized (objs p.object).profile.size (held p.object p.stripe)) ps (start.providers j).other_faults
        (new.providers j).other_faults) objects-are (let t = told j held e in record {
          each = all-each _ ps (told-places x refl job.given j held below ps acts f t.told);
          few = λ l. (let same = count-same j in omega (
            arith,
            t.count (omega (arith, l, same)),
            lacks-places x refl job.given j held below ps acts f,
          ));
        }))

    opened : (ps : List Place) → OpensAll s ps acts → All (GivesPlace ran gave symbols) ps
    unfolding setup_in
    opened ps o = subst (λ (objs : ℕ → Object). All
        (λ p. GivesSymbols (objs p.object) p.stripe (blocks_at ran gave p) (symbols p)) ps) objects-are
        (all-each (λ p. GivesSymbols (made p.object) p.stripe (blocks_at ran gave p) (symbols p)) ps
        (gives-places x job.given ps acts o
        (works-opened x acts start.providers w.providers [] job.given ordered-acts made-acts)))

    -- what a provider holds now
    now-held : (j : ℕ) (held : Held) → (start.providers j).held ≡ Some held →
        (new.providers j).held ≡ Some (after x job.given j acts held)
    now-held j held e = held-same j ∙ (told j held e).held_is

    goes-by : (change : ℕ → Held → Held → Type 0) →
        ((j : ℕ) (held : Held) → j < s.n → change j held (after x job.given j acts held)) → (j : ℕ) →
        j < s.n → Goes (change j) (start.providers j).held (new.providers j).held
    goes-by change f j below = by_held (start.providers j).held refl
      where
        by_held : (h : Option Held) → (start.providers j).held ≡ h → Goes (change j) h (new.providers j).held
        by_held None e = cc (held-same j, untold j e)
        by_held (Some held) e = subst (Goes (change j) (Some held)) (sym (now-held j held e)) (f j held below)

    same-unflagged : (ps : List Place) → Each (IsStoreOf job s.n ps) acts → (j : ℕ) (held : Held) →
        job.flagged j ≡ false → (o t : ℕ) → after x job.given j acts held o t ≡ held o t
    same-unflagged ps st j held f o t = after-none x job.given j acts held o t
        (no-stores job s.n ps j o t acts (λ h. false≢true (sym f ∙ h.0)) st)

    same-elsewhere : (ps : List Place) → Each (IsStoreOf job s.n ps) acts →
        (j : ℕ) (held : Held) (p : Place) → (Contains ps p → ⊥) →
        after x job.given j acts held p.object p.stripe ≡ held p.object p.stripe
    same-elsewhere ps st j held p n = after-none x job.given j acts held p.object p.stripe
        (no-stores job s.n ps j p.object p.stripe acts (λ h. n (in_contains ps p h.1)) st)

    -- some places are rewritten
    rewritten-part : (ps : List Place) → Each (IsStoreOf job s.n ps) acts →
        EachHeldGoes ran (λ j. IfFlagged (flags ran due j)
        (PartlyRewrittenOn (object_numbered ran) symbols ps j))
    unfolding setup_in
    rewritten-part ps st =
        rw objects-are at (goes-by (λ j. IfFlagged (flags ran due j) (PartlyRewrittenOn made symbols ps j))
        (λ j held below. by_flag j held (flags ran due j) (flagged-is j)))
      where
        each-place : (j : ℕ) (held : Held) (qs : List Place) →
            Each (λ (p : Place). (after x job.given j acts held p.object p.stripe ≡ held p.object p.stripe) ⊎
            (after x job.given j acts held p.object p.stripe
            ≡ Some (column_at x job.given j p.object p.stripe))) qs
        each-place j held [] = tt
        each-place j held (p ∷ qs) =
            (after-either x job.given j acts held p.object p.stripe, each-place j held qs)

        by_flag : (j : ℕ) (held : Held) (b : Bool) → job.flagged j ≡ b →
            IfFlagged b (PartlyRewrittenOn made symbols ps j) held (after x job.given j acts held)
        by_flag j held true f = record {
          stored = all-each _ ps (each-place j held ps);
          others = λ p n. same-elsewhere ps st j held p n;
        }
        by_flag j held false f = λ o t. same-unflagged ps st j held f o t

    part : (done rest : List Place) → all ≡ done ++ rest → OpensAll s done acts →
        Each (IsStoreOf job s.n done) acts → RewritesPart ran (flags ran due) done rest gave symbols
    unfolding setup_in
    part done rest parts o st = record {
      parts = parts;
      truth = truth done (opens-fetches s done acts o);
      gives = opened done o;
      held = rewritten-part done st;
    }

    some-part : (done rest : List Place) → all ≡ done ++ rest → OpensAll s done acts →
        Each (IsStoreOf job s.n done) acts → RewritesSome ran (flags ran due)
    some-part done rest parts o st =
        record { done = done; rest = rest; gave = gave; symbols = symbols; part = part done rest parts o st }

    -- all places are rewritten
    all-part : (behind : List Action) → acts ≡ flat_map (actions_at s job) all ++ behind →
        Each (IsStoreOf job s.n all) behind → RewritesAll ran (flags ran due)
    unfolding setup_in
    all-part behind e b = record {
      gave = gave;
      symbols = symbols;
      truth = truth all (opens-fetches s all acts opens);
      gives = opened all opens;
      held = rw objects-are at (goes-by (λ j. IfFlagged (flags ran due j) (RewrittenOn made symbols all j))
          (λ j held below. by_flag j held below (flags ran due j) (flagged-is j)));
    }
      where
        opens : OpensAll s all acts
        opens = subst (OpensAll s all) (sym e) (rw (append-nil all) at (opens-done s job all [] behind tt))

        st : Each (IsStoreOf job s.n all) acts
        st = (rw (← e) at (each_append (IsStoreOf job s.n all) (flat_map (actions_at s job) all) behind
            (stores-all s job all) b))

        by_flag : (j : ℕ) (held : Held) → j < s.n → (b : Bool) → job.flagged j ≡ b →
            IfFlagged b (RewrittenOn made symbols all j) held (after x job.given j acts held)
        by_flag j held below true f = record {
          stored = all-each _ all (each-in _ all (λ p i. after-some x job.given j acts held p.object p.stripe
              (rw (← e) at (in_left (flat_map (actions_at s job) all) behind (Store j p.object p.stripe)
              (stored-at s job j all p below f i)))));
          others = λ p n. same-elsewhere all st j held p n;
        }
        by_flag j held below false f = λ o t. same-unflagged all st j held f o t

  -- before the append it is left
  places-left : (a : Action) → slice_get (actions_of s job) job.place ≡ Some a → (p : Place) → IsAt p a →
      0 < appends_left (setup_in w) job
  places-left a h p at = rw (← W.setup) at (subst (λ xs. 0 < appends_in (drop job.place xs))
      (sym (repair-list s job W.kind_is))
      (elim (split_get (repair_actions s job) tail job.place a (cc (repair-list s job W.kind_is))) [
        | inl l ↦ audit-within (repair_actions s job) job.place l.0
        | inr r ↦ absurd (each_get (λ y. IsAt p y → ⊥) tail (job.place - length (repair_actions s job)) a
            ((λ u. u), ((λ u. u), ((λ u. u), ((λ u. u), ((λ u. u), tt))))) r.1 at)
      ]))

-- ---- all ends of a repair

-- no work
abbrev IsNoWork : Action → Type 0
IsNoWork (Work o t) = ⊥
IsNoWork action = Unit {0}

module _ (start new : State) (how : Answer) (heard : List Entry) (O : IsOpenAtRest start 1)
    (E : Ends start RepairJob None how heard new) (due : Due) (is-due : due_of start.records ≡ Some due) where
  abbrev Gives : Answer → Type 0
  Gives a = RepairGives (ran_from start new heard) due a

  abbrev sx : Setup
  sx = setup_in start

  subject-is : E.job.subject ≡ due.number
  subject-is = cc

  -- a move, or the end, stands behind all places
  behind-all : (action : Action) → slice_get (actions_of sx E.job) E.job.place ≡ Some action →
      ((p : Place) → IsAt p action → ⊥) →
      (q : ℕ) × (take E.job.place (actions_of sx E.job)
      ≡ flat_map (actions_at sx E.job) (places sx (files_of start.records)) ++ take q
      (append_actions ++ End ∷ []))
  behind-all action h n = elim (cut-next start O E.before E.job E.walked action h) [
    | Cut.inside done place rest q parts at front ↦ absurd
        (n place (each_get (IsAt place) (actions_at sx E.job place) q action (at-place sx E.job place) at))
    | Cut.behind q at front ↦ (q, acts-are start O E.before E.job E.walked _ front)
  ]

  quiet-tail : (q : ℕ) →
      Each (IsStoreOf E.job sx.n (places sx (files_of start.records))) (take q (append_actions ++ End ∷ []))
  quiet-tail q = each_take (IsStoreOf E.job sx.n (places sx (files_of start.records)))
      (append_actions ++ End ∷ []) q (tt, (tt, (tt, (tt, (tt, tt)))))

  module _ (held-same : (j : ℕ) → (new.providers j).held ≡ (E.before.providers j).held)
      (count-same : (j : ℕ) → (new.providers j).other_faults ≡ (E.before.providers j).other_faults) where
    -- at a move or the end all places are rewritten, so some of them are
    all-some : (action : Action) → slice_get (actions_of sx E.job) E.job.place ≡ Some action →
        ((p : Place) → IsAt p action → ⊥) → RewritesSome (ran_from start new heard)
        (flags (ran_from start new heard) due)
    all-some action h n = (let b = behind-all action h n in
        let ps = places sx (files_of start.records) in
        some-part start O E.before E.job E.walked new heard held-same count-same due is-due ps []
        (sym (append-nil ps))
        (subst (OpensAll sx ps) (sym b.1)
        (rw (append-nil ps) at (opens-done sx E.job ps [] (take b.0 (append_actions ++ End ∷ [])) tt)))
        (rw (← b.1) at (each_append (IsStoreOf E.job sx.n ps) (flat_map (actions_at sx E.job) ps)
        (take b.0 (append_actions ++ End ∷ [])) (stores-all sx E.job ps) (quiet-tail b.0))))

    -- at a store the place is open, and some of its blocks may be stored
    store-some : (j o t : ℕ) → slice_get (actions_of sx E.job) E.job.place ≡ Some (Store j o t) →
        RewritesSome (ran_from start new heard) (flags (ran_from start new heard) due)
    store-some j o t h = elim (cut-next start O E.before E.job E.walked (Store j o t) h) [
      | Cut.behind q at front ↦ absurd (each_get NoStore (append_actions ++ End ∷ []) q (Store j o t)
          (tt, (tt, (tt, (tt, (tt, tt))))) at)
      | Cut.inside done place rest q parts at front ↦ (let c = store-cut sx E.job place q j o t at in
          let here : List Action = open_actions sx place.object place.stripe ++ take c.0
          (rewrite_actions sx E.job place.object place.stripe) in
          let is : take E.job.place (actions_of sx E.job) ≡ flat_map (actions_at sx E.job) done ++ here =
          acts-are start O E.before E.job E.walked
          (flat_map (actions_at sx E.job) done ++ take q (actions_at sx E.job place)) front
          ∙ ap (λ l. flat_map (actions_at sx E.job) done ++ l) c.1 in
          some-part start O E.before E.job E.walked new heard held-same count-same due is-due
          (done ++ place ∷ []) rest (parts ∙ sym (append_assoc done (place ∷ []) rest))
          (rw (← is) at (opens-done sx E.job done (place ∷ []) here (
            take c.0 (rewrite_actions sx E.job place.object place.stripe),
            [],
            sym (append-nil here),
            tt,
          )))
          (rw (← is) at (each_append (IsStoreOf E.job sx.n (done ++ place ∷ []))
          (flat_map (actions_at sx E.job) done) here
          (stores-wider E.job sx.n done (done ++ place ∷ []) (flat_map (actions_at sx E.job) done)
          (λ p i. in_left done (place ∷ []) p i) (stores-all sx E.job done))
          (stores-wider E.job sx.n (place ∷ []) (done ++ place ∷ []) here
          (λ p i. in_right done (place ∷ []) p i)
          (subst (Each (IsStoreOf E.job sx.n (place ∷ []))) c.1
          (each_take (IsStoreOf E.job sx.n (place ∷ [])) (actions_at sx E.job place) q
          (stores-of sx E.job place)))))))
    ]

    -- at a work all blocks of the place were fetched
    lost-at : (o t row : ℕ) → slice_get (actions_of sx E.job) E.job.place ≡ Some (Work o t) →
        LosesRow (worked_object E.before E.job o) t (blocks_given E.job.given (setup_in E.before).n o t) row →
        LosesAtPlace (ran_from start new heard) (flags (ran_from start new heard) due) t row
    unfolding setup_in
    lost-at o t row h loses = elim (cut-next start O E.before E.job E.walked (Work o t) h) [
      | Cut.behind q at front ↦ absurd (each_get IsNoWork (append_actions ++ End ∷ []) q (Work o t)
          (tt, (tt, (tt, (tt, (tt, tt))))) at)
      | Cut.inside done place rest q parts at front ↦ (let c = work-cut sx E.job place q o t at in
          let is =
          acts-are start O E.before E.job E.walked
          (flat_map (actions_at sx E.job) done ++ take q (actions_at sx E.job place)) front
          ∙ ap (λ l. flat_map (actions_at sx E.job) done ++ l) c.0 in
          record {
            done = done;
            place = place;
            rest = rest;
            gave = λ j p. block_given E.job.given p.object p.stripe j;
            symbols = λ p. symbols_given E.job.given p.object p.stripe;
            part = part start O E.before E.job E.walked new heard held-same count-same due is-due done
                (place ∷ rest) parts (subst (OpensAll sx done) (sym is) (rw (append-nil done) at
                (opens-done sx E.job done [] (fetches_at sx place) tt))) (rw (← is) at
                (each_append (IsStoreOf E.job sx.n done) (flat_map (actions_at sx E.job) done)
                (fetches_at sx place) (stores-all sx E.job done) (each_map (IsStoreOf E.job sx.n done)
                (λ j. Fetch j place.object place.stripe) (upto sx.n) (λ j. tt))));
            truth = truth start O E.before E.job E.walked new heard held-same count-same due is-due
                (done ++ place ∷ [])
                (rw (← is) at (fetches-done sx E.job done (place ∷ []) (fetches_at sx place) (
                  [],
                  [],
                  sym (append-nil (fetches_at sx place ++ [])
                      ∙ append-nil (fetches_at sx place)),
                  tt,
                )));
            stripe_is = sym c.2;
            loses = subst (λ m. LosesRow (object_numbered (ran_from start new heard) place.object) t
                (blocks_given E.job.given sx.n place.object m) row) c.2
                (rw c.1 at (subst (λ (z : Object). LosesRow z t (blocks_given E.job.given sx.n o t) row)
                (worked-made start O RepairJob E.before E.job E.walked o
                ∙ made-numbered start O RepairJob E.job (ran_from start new heard) refl refl o)
                (subst (λ n. LosesRow (worked_object E.before E.job o) t (blocks_given E.job.given n o t) row)
                (ap (λ (u : Setup). u.n) E.walked.setup) loses)));
          })
    ]

  -- ---- by the last action

  -- where a provider was called last, what it holds and its other count are as before
  called-held : (k : ℕ) (p : Provider) → (p.held ≡ (E.before.providers k).held) ×
      StoreCounts (E.before.providers k) p → new.providers ≡ with_provider E.before.providers k p →
      (j : ℕ) → ((new.providers j).held ≡ (E.before.providers j).held) ×
      ((new.providers j).other_faults ≡ (E.before.providers j).other_faults)
  called-held k p c is j =
      elim (calls-at E.before.providers k (λ p q. (q.held ≡ p.held) × StoreCounts p q) new.providers j
      (p, c, is)) [
        | inl e ↦ (cc, cc)
        | inr d ↦ (d.1.0, d.1.1.other_faults)
      ]

  same-held : new.providers ≡ E.before.providers → (j : ℕ) →
      (new.providers j).held ≡ (E.before.providers j).held
  same-held e j = cc

  same-count : new.providers ≡ E.before.providers → (j : ℕ) →
      (new.providers j).other_faults ≡ (E.before.providers j).other_faults
  same-count e j = cc

  -- nothing is in doubt between appends
  sure : (action : Action) → E.action ≡ action → moves_before action ≡ 0 → E.before.doubt ≡ None
  sure action at none = (none-moving start O RepairJob E.before E.job E.walked
      (moves-next E.before E.job action (moves_made E.before.append E.job.number) (E.next ∙ ap Some at)
      (E.walked.sound.jobs E.job.number E.job (runs start O RepairJob E.before E.job E.walked)).order
      ∙ none)).1

  none-done : (new.records ≡ E.before.records) → 0 < appends_left (setup_in E.before) E.job →
      new.records ≡ start.records
  none-done e left = e ∙ none-written O E.walked refl left

  -- a store is one of a flagged provider, at a place
  store-flagged : (j o t : ℕ) → slice_get (actions_of sx E.job) E.job.place ≡ Some (Store j o t) →
      (place : Place) × (j < sx.n) × (E.job.flagged j ≡ true) × IsAt place (Store j o t)
  store-flagged j o t h = elim (cut-next start O E.before E.job E.walked (Store j o t) h) [
    | Cut.behind q at front ↦ absurd (each_get NoStore (append_actions ++ End ∷ []) q (Store j o t)
        (tt, (tt, (tt, (tt, (tt, tt))))) at)
    | Cut.inside done place rest q parts at front ↦ (let u = each_get (IsStoreOf E.job sx.n (place ∷ []))
        (actions_at sx E.job place) q (Store j o t) (stores-of sx E.job place) at in (
          place,
          u.0,
          u.1,
          each_get (IsAt place) (actions_at sx E.job place) q (Store j o t) (at-place sx E.job place) at,
        ))
  ]

  store-rose : (j : ℕ) (p : Provider) → Rose (E.before.providers j).store_faults p.store_faults →
      (E.before.providers j).store_faults ≤ p.store_faults →
      new.providers ≡ with_provider E.before.providers j p →
      Rose (start.providers j).store_faults (new.providers j).store_faults
  store-rose j p rose low e = (let now : new.providers j ≡ p = ap (λ (f : ℕ → Provider). f j) e
      ∙ cond_true (j == j) p (E.before.providers j) (eq-eqb j j refl) in
      let up = (made-rises (with_job_of start RepairJob E.job)
      (take E.job.place (actions_of sx E.job)) start.providers E.before.providers
      [] E.job.given j E.walked.made).0 in
      (rw (← now) at (rose-before (start.providers j).store_faults (E.before.providers j).store_faults
      p.store_faults up low
      rose)))

  -- a store failed
  store-fails : (j o t : ℕ) → E.action ≡ Store j o t → (p : Provider) →
      FailsToStore (E.before.providers j) p →
      new ≡ record (ended E.before E.job) { providers = with_provider E.before.providers j p } →
      Gives (answer.ProviderFault j)
  unfolding setup_in
  store-fails j o t at p failed is = (let h = listed E (Store j o t) at (λ e. cc) in
      let e : new.providers ≡ with_provider E.before.providers j p = ap (λ (v : State). v.providers) is in
      let kept = called-held j p (failed.held, failed.counts) e in
      let cut = store-flagged j o t h in (
        cut.1,
        sym (flagged-is start O E.before E.job E.walked new heard (λ k. (kept k).0)
            (λ k. (kept k).1) due is-due j) ∙ cut.2,
        store-rose j p failed.cause failed.counts.store_faults e,
        record {
          after = none-done (ap (λ (v : State). v.records) is) (places-left start O E.before E.job E.walked
              (Store j o t) h cut.0 cut.3);
          sure = ap (option_map (λ (d : Doubt). d.entry))
              (ap (λ (v : State). v.doubt) is ∙ sure (Store j o t) at refl);
        },
        store-some (λ k. (kept k).0) (λ k. (kept k).1) j o t h,
      ))

  -- its one record
  record-is : first_record start RepairJob ≡ RepairDone due.number
  record-is = cc

  -- a cut before the one record
  cut-none : 0 < appends_left (setup_in E.before) E.job → new.records ≡ E.before.records → new.doubt ≡ None →
      IsCut (ran_from start new heard) (RepairDone due.number ∷ [])
  cut-none left records none = rw record-is at (one-cut O E.walked refl new heard left records none)

  store-memory : (j o t : ℕ) → E.action ≡ Store j o t → (p : Provider) →
      FindsNoMemory (E.before.providers j) p →
      new ≡ record (ended E.before E.job) { providers = with_provider E.before.providers j p } →
      Gives answer.Memory
  store-memory j o t at p failed is = (let h = listed E (Store j o t) at (λ e. cc) in
      let kept = called-held j p (failed.held, failed.counts) (cc) in let cut = store-flagged j o t h in (
        cut-none (places-left start O E.before E.job E.walked (Store j o t) h cut.0 cut.3) (cc)
            (cc (sure (Store j o t) at refl)),
        store-some (λ k. (kept k).0) (λ k. (kept k).1) j o t h,
      ))

  -- a row was lost
  work-loses : (o t row : ℕ) → E.action ≡ Work o t →
      LosesRow (worked_object E.before E.job o) t (blocks_given E.job.given (setup_in E.before).n o t) row →
      new ≡ ended E.before E.job → Gives (answer.Lost t row)
  work-loses o t row at loses is = (let h = listed E (Work o t) at (λ e. cc) in
      let e : new.providers ≡ E.before.providers = ap (λ (v : State). v.providers) is in (
        record {
          after = none-done (ap (λ (v : State). v.records) is) (places-left start O E.before E.job E.walked
              (Work o t) h (record { object = o; stripe = t }) (refl, refl));
          sure = ap (option_map (λ (d : Doubt). d.entry))
              (ap (λ (v : State). v.doubt) is ∙ sure (Work o t) at refl);
        },
        lost-at (same-held e) (same-count e) o t row h loses,
      ))

  -- a move failed
  moved : (action : Action) → E.action ≡ action → (action ≡ End → ⊥) → ((p : Place) → IsAt p action → ⊥) →
      Moves E.before E.job action E.before.append (Ended how) new → Gives how
  moved action at not_end n h = move-ends O E Gives action at (λ failed F. faulted F) no-room h
    where
      some : new.providers ≡ E.before.providers → RewritesSome (ran_from start new heard)
          (flags (ran_from start new heard) due)
      some e = all-some (same-held e) (same-count e) action (listed E action at not_end) n

      whole : new.providers ≡ E.before.providers → RewritesAll (ran_from start new heard)
          (flags (ran_from start new heard) due)
      whole e = (let b = behind-all action (listed E action at not_end) n in
          all-part start O E.before E.job E.walked new heard (same-held e) (same-count e) due is-due
          (take b.0 (append_actions ++ End ∷ [])) b.1 (quiet-tail b.0))

      faulted : Faults start O RepairJob E.before E.job E.walked new → Gives answer.DiskFault
      faulted F = (
        rose-before start.disk_faults E.before.disk_faults new.disk_faults E.walked.disk F.low F.rose,
        (rw record-is at (one-doubted O E.walked refl new heard F)),
        whole F.providers,
      )

      no-room : NoRoom start O RepairJob E.before E.job E.walked new → Gives answer.Memory
      no-room N = (cut-none N.left N.records N.doubt, some N.providers)

  -- the repair came to its end
  at-end : E.action ≡ End → (new.records ≡ E.before.records) → new.doubt ≡ E.before.doubt →
      new.providers ≡ E.before.providers →
      IsWhole (ran_from start new heard) (RepairDone due.number ∷ []) ×
      RewritesAll (ran_from start new heard) (flags (ran_from start new heard) due)
  at-end at records doubt providers =
      (let next : next_action E.before E.job ≡ Some End = E.next ∙ ap Some at in
      let stands : slice_get (actions_of sx E.job) E.job.place ≡ Some End = cc in
      let b = behind-all End stands (λ p u. u) in (
        (rw record-is at (one-whole O E.walked refl new heard (end-left O E.walked refl next)
            (end-sure O E.walked refl next) records doubt)),
        all-part start O E.before E.job E.walked new heard (same-held providers)
            (same-count providers) due is-due (take b.0 (append_actions ++ End ∷ [])) b.1 (quiet-tail b.0),
      ))

  ended-by : (a : Answer) → E.action ≡ End → EndsAs E.before E.job RepairJob a → new ≡ ended E.before E.job →
      Gives a
  ended-by (answer.Repaired number) at so is = (let e = at-end at (ap (λ (v : State). v.records) is)
      (ap (λ (v : State). v.doubt) is) (ap (λ (v : State). v.providers) is) in (so ∙ subject-is, e.0, e.1))
  ended-by a at so is = absurd so

  by-store : (j o t : ℕ) (a : Answer) → E.action ≡ Store j o t →
      Acts E.before E.job (Store j o t) (Ended a) new → Gives a
  by-store j o t (answer.ProviderFault k) at (same, (p, failed, is)) =
      subst (λ n. Gives (answer.ProviderFault n)) (sym same) (store-fails j o t at p failed is)
  by-store j o t answer.Memory at (p, failed, is) = store-memory j o t at p failed is
  by-store j o t a at h = absurd h

  by-work : (o t : ℕ) (a : Answer) → E.action ≡ Work o t → Acts E.before E.job (Work o t) (Ended a) new →
      Gives a
  by-work o t (answer.Lost u row) at (same, loses, is) =
      subst (λ n. Gives (answer.Lost n row)) (sym same) (work-loses o t row at loses is)
  by-work o t a at h = absurd h

  -- a move stands at no place
  no-place : (action : Action) → IsMove action → (p : Place) → IsAt p action → ⊥
  no-place WriteBody m p u = u
  no-place SyncBody m p u = u
  no-place WriteGate m p u = u
  no-place SyncGate m p u = u
  no-place action m p u = absurd m

  repair-gives : Gives how
  repair-gives = act-ends E Gives (ended-by how)
      (λ action at move tail h. moved action at (λ e. subst IsMove e move) (no-place action move) h)
      (λ j o t at h. by-store j o t how at h) (λ o t at h. by-work o t how at h)

  repair-silent : heard ≡ []
  repair-silent = cc

-- a repair leaves flagged providers rewritten in all places, or in some where it failed or was cut
pub repairs-leave : (start new : State) (moment : ℕ) (how : Answer) (heard : List Entry) →
    IsOpenAtRest start 1 → RunsJob start moment RepairJob None how heard new →
    Leaves (ran_from start new heard) RepairJob None how
unfolding setup_in
repairs-leave start new moment how heard O r =
    (let E = job-ends start new moment RepairJob None how heard O tt (MayName.none refl) r in
    let due = is_some-at (due_of start.records) (begun-repair 8 start RepairJob None r.begins.1 refl) in
    record {
      by_kind = (
        record {
          due = due.0;
          is_due = due.1;
          gives = repair-gives start new how heard O E due.0 due.1;
        },
        repair-silent start new how heard O E due.0 due.1,
      );
      counts = counts-rise start new RepairJob None how heard O E;
      others = others-stay start new RepairJob None how heard O E;
    })
