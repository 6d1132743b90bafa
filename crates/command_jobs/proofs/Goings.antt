-- The only job of a vault, step by step.
use Rattle.command_jobs.proofs.Words.{◌≡◌, ℕ, ◌+◌, ◌-◌, ◌≤◌, ◌⊎◌, List, [], ◌∷◌, length, drop, Option, Some, None, refl, ap, sym, subst, ◌∙◌, inl, inr, arith, option_map, IfSome, drop-drop, Cells, reads, Goes, Record, Area, base_of, end_in, Kind, job_of, Step, More, State, Append, setup_in, chosen, same_value, Happens, Moment, now, heard_by, outside, with_next, IsNext, SameAround, SameOutside, SameFrom, found, Keeps, WalkedOn, walk-on, Turn, Vault, Devices, records_in_flight, machine_answer, outcome_of, Stands, MakesStep, IsOnly, SameUpTo, OnWay, GoesToEnd}
use Rattle.machine_defs.specs.Jobs.{Job}
use Rattle.machine_defs.specs.Answers as answer
use Rattle.machine_defs.specs.Answers.{Answer}
use Rattle.machine_defs.specs.Events.{Ended}
use Rattle.vault.specs.declared.turn.Ended.{Ended as EndedJob}
use Rattle.vault.specs.declared.turn.Turn.TheVariants as turn
use Rattle.command_jobs.proofs.Acting.{flight_end, step-turn, step-grows, step-ends}
use Rattle.command_jobs.proofs.Fronts.{front-still}
use Rattle.command_jobs.proofs.Cuts.{fault-records, memory-clears, next-written, next-flight}
use Rattle.command_jobs.proofs.Kept.{step-keeps, same-journal, only-further, next-alike}

-- ---- what the disk reads past a place

drop-further : (m n : ℕ) (xs ys : List ℕ) → m ≤ n → drop m xs ≡ drop m ys → drop n xs ≡ drop n ys
drop-further m n xs ys l e = sym (beyond xs) ∙ (ap (drop (n - m)) e ∙ beyond ys)
  where
    beyond : (zs : List ℕ) → drop (n - m) (drop m zs) ≡ drop n zs
    beyond zs = drop-drop (n - m) m zs ∙ ap (λ k. drop k zs) (let f : m + (n - m) ≡ n = omega (arith, l) in f)

pub goes-same : (n : ℕ) (told : Option Cells) → Goes (SameFrom n) told told
goes-same n None = tt
goes-same n (Some cells) = refl

pub goes-on-same : (m n : ℕ) (a b c : Option Cells) → m ≤ n → Goes (SameFrom m) a b → Goes (SameFrom n) b c →
    Goes (SameFrom n) a c
goes-on-same m n None None None l h k = tt
goes-on-same m n (Some a) (Some b) (Some c) l h k = k ∙ drop-further m n (reads b) (reads a) l h
goes-on-same m n None (Some b) c l h k = absurd h
goes-on-same m n (Some a) None c l h k = absurd h
goes-on-same m n None None (Some c) l h k = absurd k
goes-on-same m n (Some a) (Some b) None l h k = absurd k

goes-further : (m n : ℕ) (a b : Option Cells) → m ≤ n → Goes (SameFrom m) a b → Goes (SameFrom n) a b
goes-further m n None None l h = tt
goes-further m n (Some a) (Some b) l h = drop-further m n (reads b) (reads a) l h
goes-further m n _ _ l h = absurd h

-- what is read in front of a place stays where it stays twice
pub front-on : (k : ℕ) (a b c : Option Cells) → Goes (SameUpTo k) a b → Goes (SameUpTo k) b c →
    Goes (SameUpTo k) a c
front-on k None None None h g = tt
front-on k (Some a) (Some b) (Some c) h g = g ∙ h
front-on k None (Some b) c h g = absurd h
front-on k (Some a) None c h g = absurd h
front-on k None None (Some c) h g = absurd g
front-on k (Some a) (Some b) None h g = absurd g

-- what is read outside a text is as before where it is in front of the area and behind the text
pub outside-same : (area : Area) (rs : List Record) (a b : Option Cells) → Goes (SameUpTo (base_of area)) a b →
    Goes (SameFrom (end_in area rs)) a b → option_map (outside area rs) b ≡ option_map (outside area rs) a
outside-same area rs None None f h = refl
outside-same area rs (Some a) (Some b) f h = λ i. Some (f i, h i)
outside-same area rs _ _ f h = absurd h

-- outside the text it reads as before, by how the job ended
same-outside : (area : Area) (kind : Kind) (own : Option ℕ) (how : Answer) (before after : List Record) (a b : Option Cells) →
    ((how ≡ answer.DiskFault → ⊥) → (how ≡ answer.Memory → ⊥) →
    option_map (outside area after) b ≡ option_map (outside area after) a)
    → (how ≡ answer.DiskFault → SameAround area kind own before after a b) →
    (how ≡ answer.Memory → SameAround area kind own before after a b) →
    SameOutside area kind own how before after a b
same-outside area kind own answer.DiskFault before after a b h d m = d refl
same-outside area kind own answer.Memory before after a b h d m = m refl
same-outside area kind own _ before after a b h d m = h (λ e. cc) (λ e. cc)

-- the record in flight, if one is
abbrev flying : Option Append → Option Record
flying o = option_map (λ (a : Append). a.entry) o

flying-same : (rs : List Record) (o : Option Append) → records_in_flight rs o ≡ with_next (flying o) rs
flying-same rs None = refl
flying-same rs (Some a) = refl

-- the text with the record in flight is no longer than that with the one that was being appended
flying-le : (area : Area) (rs : List Record) (entry : Record) (o : Option Append) →
    ((a : Append) → o ≡ Some a → a.entry ≡ entry) → flight_end area rs o ≤ end_in area (entry ∷ rs)
flying-le area rs entry None same = omega arith
flying-le area rs entry (Some a) same =
    (let e = ap (λ (r : Record). end_in area (r ∷ rs)) (same a refl) in omega (arith, e))

-- ---- the job on its way

-- before its first step a job is on its way
abbrev pub no-steps : (start : State) (kind : Kind) (own : Option ℕ) (w : State) (moment : ℕ) (v : Vault) (d : Devices) →
    IsOnly start kind own w → Stands v d w → OnWay start kind own w moment v d d
no-steps start kind own w moment v d only stands =
    record {
      steps = [];
      are_steps = tt;
      only = only;
      place = λ begun is. (let e = same_value (job_of w.jobs 1) only.job begun
          (found start only.opened kind w only.job only.walked) is in
          let p = ap (λ (j : Job). j.place) e in omega (arith, p));
      stands = stands;
      front = front-still (base_of start.area) d.holds d.holds refl;
      beyond = goes-same (flight_end w.area w.journal w.append) d.holds;
    }

-- a step goes on, or ends the job
pub steps-turn : (start : State) (kind : Kind) (own : Option ℕ) (w : State) (moment number : ℕ) (result : Turn) (v : Vault)
    (old new : Devices) → IsOnly start kind own w → number ≡ 1 → MakesStep w moment number result v old new →
    (outcome_of result ≡ More) ⊎ ((how : Answer) × (outcome_of result ≡ Ended how))
steps-turn start kind own w moment number result v old new only first M =
    step-turn start only.opened kind w only.job only.walked moment (outcome_of result) M.state
    (subst (λ n. Happens 8 moment w (Step n) (outcome_of result) M.state) first M.happens)

module _ (start : State) (kind : Kind) (own : Option ℕ) (w : State) (moment number : ℕ) (first : number ≡ 1) (v next : Vault)
    (old mid new : Devices) (way : OnWay start kind own w moment v old mid) where
  abbrev pub here : State
  here = now w way.steps

  -- what a step leaves in front of the area, and the steps before it did
  abbrev pub StepFront : Type 0
  StepFront = Goes (SameUpTo (base_of here.area)) mid.holds new.holds

  pub front_all : StepFront → (area : Area) → area ≡ start.area → Goes (SameUpTo (base_of area)) old.holds new.holds
  front_all front area is = subst (λ a. Goes (SameUpTo (base_of a)) old.holds new.holds) (sym is)
      (front-on (base_of start.area) old.holds mid.holds new.holds way.front
      (subst (λ a. Goes (SameUpTo (base_of a)) mid.holds new.holds) way.only.area front))

  -- one more step, and it is still on its way
  module _ (front : StepFront)
      (M : MakesStep here (moment + length way.steps) number turn.More next mid new) where
    pub made : Happens 8 (moment + length way.steps) here (Step 1) More M.state
    made = subst (λ n. Happens 8 (moment + length way.steps) here (Step n) More M.state) first M.happens

    abbrev pub step : Moment
    step = record { event = Step 1; outcome = More; state = M.state }

    pub further : WalkedOn start kind (chosen (setup_in start) own) way.only.job 1 M.state
    further = walk-on start here kind (chosen (setup_in start) own) way.only.job (moment + length way.steps)
        (step ∷ []) way.only.opened way.only.walked (
          refl,
          refl,
          subst (λ n. Happens 8 n here (Step 1) More M.state)
              (let e : moment + length way.steps ≡ (moment + length way.steps) + 0 = omega arith in e) made,
          tt,
        )

    abbrev further-only : IsOnly start kind own M.state
    further-only = only-further start kind own here M.state further.next way.only further.walked
        (step-keeps start way.only.opened kind here way.only.job way.only.walked
        (moment + length way.steps) More M.state made)

    abbrev pub one-more : OnWay start kind own w moment next old new
    one-more =
        record {
          steps = step ∷ way.steps;
          are_steps = (refl, refl, made, way.are_steps);
          only = further-only;
          place = λ begun is. (let a = way.place begun is in let b = further.place in omega (arith, a, b));
          stands = M.stands;
          front = front_all front start.area refl;
          beyond = goes-on-same (flight_end here.area here.journal here.append)
              (flight_end M.state.area M.state.journal M.state.append) old.holds mid.holds new.holds
              (step-grows start way.only.opened kind here way.only.job way.only.walked
              (moment + length way.steps) M.state made) way.beyond (M.beyond (λ e. cc));
        }

    -- it is one place further
    pub one-further : one-more.only.job.place ≡ way.only.job.place + 1
    one-further = further.place

  -- a step that ends the job
  module _ (ended : EndedJob) (front : StepFront)
      (M : MakesStep here (moment + length way.steps) number (turn.Done ended) next mid new) where
    happens : Happens 8 (moment + length way.steps) here (Step 1)
        (Ended (machine_answer ended.answer)) M.state
    happens = rw first at M.happens

    kept : Keeps here M.state
    kept = step-keeps start way.only.opened kind here way.only.job way.only.walked
        (moment + length way.steps) (Ended (machine_answer ended.answer)) M.state happens

    -- where the history is as before, so is the end of the text
    same_end : M.state.records ≡ here.records → end_in here.area here.journal ≡ end_in M.state.area M.state.journal
    same_end e = λ i. end_in (sym kept.area i) (sym (same-journal here M.state kept e) i)

    past_end : (machine_answer ended.answer ≡ answer.DiskFault → ⊥) →
        (machine_answer ended.answer ≡ answer.Memory → ⊥) →
        option_map (outside start.area M.state.journal) new.holds
        ≡ option_map (outside start.area M.state.journal) old.holds
    past_end d m = (let s = step-ends start way.only.opened kind here way.only.job way.only.walked
        (moment + length way.steps) (machine_answer ended.answer) M.state d m happens in
        let before =
        subst (λ n. Goes (SameFrom n) old.holds mid.holds) (same_end s.2)
        (rw s.0 at way.beyond) in
        let after =
        rw s.1 at (M.beyond (λ e. d (same-answer (machine_answer ended.answer) answer.DiskFault e))) in
        (rw (kept.area ∙ way.only.area) at (outside-same M.state.area M.state.journal old.holds new.holds
        (front_all front M.state.area (kept.area ∙ way.only.area))
        (goes-on-same (end_in M.state.area M.state.journal) (end_in M.state.area M.state.journal) old.holds
        mid.holds new.holds (omega arith) before after))))
      where
        same-answer : (a b : Answer) → Ended a ≡ Ended b → a ≡ b
        same-answer a b e = cc

    one_end : (how : Answer) → machine_answer ended.answer ≡ how →
        Happens 8 (moment + length way.steps) here (Step 1) (Ended how) M.state
    one_end how e = rw e at happens

    -- what comes next over the history comes next over the journal
    next_here : (entry : Record) → IsNext kind own start.records here.records entry →
        IsNext kind own start.journal here.journal entry
    next_here entry h = next-alike kind own start.records start.journal here.records here.journal way.only.added
        entry way.only.opened.rest.journal.alike way.only.records way.only.journal h

    -- where the history is as before, the disk reads as before behind the journal
    behind_here : M.state.records ≡ here.records →
        SameAround here.area kind own start.journal here.journal old.holds new.holds →
        SameAround start.area kind own start.journal M.state.journal old.holds new.holds
    behind_here e h = rw (← (same-journal here M.state kept e)) at
        (subst (λ a. SameAround a kind own start.journal here.journal old.holds new.holds) way.only.area h)

    past_fault : machine_answer ended.answer ≡ answer.DiskFault →
        SameAround start.area kind own start.journal M.state.journal old.holds new.holds
    past_fault e = (let T = M.torn (ap Ended e) in
        let same = fault-records start way.only.opened kind own here way.only.job way.only.walked
        (moment + length way.steps) M.state (one_end answer.DiskFault e) in
        let next = next_here T.entry (next-written start way.only.opened kind own here way.only.job
        way.only.walked T.entry (rw first at T.writing)) in
        behind_here same (record {
          next = Some T.entry;
          is_next = next;
          same = outside-same here.area (T.entry ∷ here.journal) old.holds new.holds
              (front_all front here.area way.only.area) (goes-on-same (flight_end here.area here.journal
              here.append) (end_in here.area (T.entry ∷ here.journal)) old.holds mid.holds new.holds
              (flying-le here.area here.journal T.entry here.append T.in_flight) way.beyond T.same);
        }))

    past_memory : machine_answer ended.answer ≡ answer.Memory →
        SameAround start.area kind own start.journal M.state.journal old.holds new.holds
    past_memory e = (let c = memory-clears start way.only.opened kind own here way.only.job way.only.walked
        (moment + length way.steps) M.state (one_end answer.Memory e) in
        let last : Goes (SameFrom (end_in here.area here.journal)) mid.holds new.holds =
        subst (λ n. Goes (SameFrom n) mid.holds new.holds) (sym (same_end c.0))
        (rw c.1 at (M.beyond (λ f. no_fault (machine_answer ended.answer) e f))) in
        behind_here c.0 (by_flight here.append refl last))
      where
        no_fault : (a : Answer) → a ≡ answer.Memory → Ended a ≡ Ended answer.DiskFault → ⊥
        no_fault a m f = (let g : Ended answer.Memory ≡ Ended answer.DiskFault = ap Ended (sym m) ∙ f in cc)

        flight-le : (o : Option Append) → end_in here.area here.journal ≤ flight_end here.area here.journal o
        flight-le None = omega arith
        flight-le (Some a) = omega arith

        flight-next : (o : Option Append) → here.append ≡ o →
            IfSome (flying o) (IsNext kind own start.journal here.journal)
        flight-next None is = tt
        flight-next (Some a) is = next_here a.entry
            (next-flight start way.only.opened kind own here way.only.job way.only.walked a is)

        by_flight : (o : Option Append) → here.append ≡ o →
            Goes (SameFrom (end_in here.area here.journal)) mid.holds new.holds →
            SameAround here.area kind own start.journal here.journal old.holds new.holds
        by_flight o is last = (let beyond : Goes (SameFrom (flight_end here.area here.journal o)) old.holds
            mid.holds = rw is at way.beyond in
            let on = goes-further (end_in here.area here.journal)
            (flight_end here.area here.journal o) mid.holds new.holds (flight-le o) last in
            record {
              next = flying o;
              is_next = flight-next o is;
              same = outside-same here.area (with_next (flying o) here.journal) old.holds new.holds
                  (front_all front here.area way.only.area) (rw (flying-same here.journal o) at
                  (goes-on-same (flight_end here.area here.journal o) (flight_end here.area here.journal o)
                  old.holds mid.holds new.holds (omega arith) beyond on));
            })

    -- the step that ends it brings it to its end
    pub at-end : GoesToEnd start kind own w moment ended next old new
    at-end = record {
      last = M.state;
      goes = record {
        steps = way.steps;
        are_steps = way.are_steps;
        ends = happens;
        heard_is = subst (λ n. ended.heard ≡ heard_by (job_of here.jobs n)) first M.heard;
      };
      stands = M.stands;
      outside_text = same-outside start.area kind own (machine_answer ended.answer) start.journal M.state.journal
          old.holds new.holds past_end past_fault past_memory;
    }

    -- its steps before the last one are those on its way
    pub end-steps : at-end.goes.steps ≡ way.steps
    unfolding at-end
    end-steps = refl

-- other turns do not come
pub never-stops : (r : Turn) → ((holder : ℕ) × (r ≡ turn.Waiting holder)) ⊎
    ((r ≡ turn.NoSuchJob) ⊎ (r ≡ turn.MustReopen)) →
    (outcome_of r ≡ More) ⊎ ((how : Answer) × (outcome_of r ≡ Ended how)) → ⊥
never-stops r (inl (holder, e)) (inl f) = (cc (sym (ap outcome_of e) ∙ f))
never-stops r (inl (holder, e)) (inr (how, f)) = (cc (sym (ap outcome_of e) ∙ f))
never-stops r (inr (inl e)) (inl f) = (cc (sym (ap outcome_of e) ∙ f))
never-stops r (inr (inl e)) (inr (how, f)) = (cc (sym (ap outcome_of e) ∙ f))
never-stops r (inr (inr e)) (inl f) = (cc (sym (ap outcome_of e) ∙ f))
never-stops r (inr (inr e)) (inr (how, f)) = (cc (sym (ap outcome_of e) ∙ f))
