-- Jobs that a transcript tells of: begun by one command, and run to their end by a later one.
use Rattle.effect_laws.proofs.Words.{◌≡◌, ℕ, List, [], ◌∷◌, ◌++◌, length, sym, subst, append_assoc, GetJob, DropJob, Answer, Put, Dropped, Event, Begin, Outcome, Begun, Ended, Moment, NoneBegan, IsPutBegin, Instruction, Once, RunJob, Touches, NoneUnderWay, IsFree, NoneAsksOn, steps_begin_none, Stored, GetEnds, PutsUnder, DroppedOut, ReadsAs, NonePuts, NoneIsBegun, job_behind, TellsJob}
use Rattle.effect_laws.proofs.Apart.{ends_apart}
use Rattle.effect_laws.proofs.Asked.{none_for, none_on, none_begun, both_none, free_more}

both_begun : (number : ℕ) (xs ys : List Moment) → NoneBegan number xs → NoneBegan number ys →
    NoneBegan number (xs ++ ys)
both_begun number [] ys a b = b
both_begun number (x ∷ xs) ys a b = (a.0, both_begun number xs ys a.1 b)

-- where a job stands among the moments
pub tells : (middle between front : List Instruction) (event : Event) (number : ℕ) (how : Answer)
    (ms : List Moment) (rs ts us : List Outcome) →
    ReadsAs (job_behind middle between event number front) ms (rs ++ Ended how ∷ (ts ++ Begun number ∷ us)) →
    length rs ≡ length middle → length ts ≡ length between → NoneIsBegun number ts →
    TellsJob middle between front event number how ms rs us
tells middle between front event number how ms rs ts us E first second none =
    (let P = ends_apart middle (RunJob number ∷ (between ++ Once event ∷ front)) ms rs
    (Ended how ∷ (ts ++ Begun number ∷ us)) E first in
    let R = P.rest in
    let Q = ends_apart between (Once event ∷ front) R.2 ts (Begun number ∷ us) R.6 second in
    let B = Q.rest in
    let steps = steps_begin_none number number [] R.1 R.4.before in
    record {
      later = P.later;
      end = R.0;
      gap = R.1 ++ Q.later;
      begin = B.0;
      older = B.1;
      moments = cc (P.moments, R.3, Q.moments, B.2, append_assoc R.1 Q.later (B.0 ∷ B.1));
      begin_event = B.3;
      begun = B.4;
      none = both_begun number R.1 Q.later steps.0 (none_begun number between Q.later ts Q.owns none);
      none_between = λ name asks. both_none (Touches name) R.1 Q.later
          (steps_begin_none number number name R.1 R.4.before).1 (none_on name between Q.later ts Q.owns asks);
      end_event = R.4.step;
      ended = R.5;
      behind = P.owns;
      before = B.5;
    })

module _ (middle between front : List Instruction) (number : ℕ) (name : List ℕ) (ms base : List Moment)
    (rs us : List Outcome) where
  split : (event : Event) (how : Answer) (T : TellsJob middle between front event number how ms rs us) →
      ms ++ base ≡ T.later ++ T.end ∷ (T.gap ++ T.begin ∷ (T.older ++ base))
  split event how T = cc (
    T.moments,
    append_assoc T.later (T.end ∷ (T.gap ++ T.begin ∷ T.older)) base,
    append_assoc T.gap (T.begin ∷ T.older) base,
  )

  -- a put that ended well has stored its file
  pub stores : (event : Event) (bytes : List ℕ) → IsPutBegin event name bytes →
      (T : TellsJob middle between front event number Put ms rs us) → NoneAsksOn name middle →
      NoneAsksOn name between → IsFree name (T.older ++ base) → Stored (ms ++ base) name bytes
  stores event bytes put T behind asks free = record {
    later = T.later;
    end = T.end;
    between = T.gap;
    begin = T.begin;
    older = T.older ++ base;
    number = number;
    split = split event Put T;
    free = free;
    begin_event = subst (λ (e : Event). IsPutBegin e name bytes) (sym T.begin_event) put;
    begun = T.begun;
    none = T.none;
    none_between = T.none_between name asks;
    end_event = T.end_event;
    ended = T.ended;
    none_since = none_on name middle T.later rs T.behind behind;
  }

  -- a drop that ended well has taken its name out
  pub drops : (T : TellsJob middle between front (Begin (DropJob name)) number Dropped ms rs us) →
      NonePuts name middle → NoneAsksOn name between → IsFree name (T.older ++ base) →
      DroppedOut (ms ++ base) name
  drops T behind asks free = record {
    later = T.later;
    end = T.end;
    between = T.gap;
    begin = T.begin;
    older = T.older ++ base;
    number = number;
    split = split (Begin (DropJob name)) Dropped T;
    free = free;
    begin_event = T.begin_event;
    begun = T.begun;
    none = T.none;
    none_between = T.none_between name asks;
    end_event = T.end_event;
    ended = T.ended;
    none_since = none_for (PutsUnder name) middle T.later rs T.behind behind;
  }

  -- behind its end, and while none is asked for, the name is free again
  pub frees : (event : Event) (how : Answer) (T : TellsJob middle between front event number how ms rs us) →
      NoneAsksOn name middle → NoneAsksOn name between → IsFree name (T.older ++ base) →
      IsFree name (ms ++ base)
  frees event how T behind asks free = subst (IsFree name) (sym (split event how T))
      (free_more name T.later (T.end ∷ (T.gap ++ T.begin ∷ (T.older ++ base)))
      (NoneUnderWay.ended T.end T.begin T.gap (T.older ++ base) number how T.end_event T.ended
      (T.none_between name asks) T.begun free) (none_on name middle T.later rs T.behind behind))

  -- a get ended so
  pub gets : (how : Answer) → (T : TellsJob middle between front (Begin (GetJob name)) number how ms rs us) →
      GetEnds T.begin T.gap T.end number name how
  gets how T = record {
    begin_event = T.begin_event;
    begun = T.begun;
    none = T.none;
    end_event = T.end_event;
    ended = T.ended;
  }
