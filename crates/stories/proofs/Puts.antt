-- A put behind commands, with commands behind it that begin no put and no drop of its name.
use Rattle.stories.proofs.Words.{◌≡◌, ℕ, List, ◌∷◌, ◌++◌, Option, None, Some, ap, subst, ◌∙◌, inl, inr, append_assoc, arith, IsPutBegin, steps_begin_none, commands_begin_none, carried_apart, carried_end, ends_read, free_behind, lines_of, CarriesOut, IsStart, NoneUnderWay, call_from, called_behind, IsFree, NoneAsksOn, LeavesFree, AsksForOneLine, PutsFile, SaysPut}
use Rattle.stories.specs.Words.{Event, put_event, Moment, IsRun, State, Instruction, now}
use Rattle.stories.specs.Files.{put_of}
use Rattle.stories.proofs.Said.{put-said}

-- the begin of a put, with a profile of its own or without, is one, and writes one line
pub begins-put : (own : Option ℕ) (event : Event) (name bytes : List ℕ) → event ≡ put_event own name bytes →
    IsPutBegin event name bytes
begins-put None event name bytes is = inl is
begins-put (Some profile) event name bytes is = inr (profile, is)

asks-one : (own : Option ℕ) (name bytes : List ℕ) → AsksForOneLine (put_event own name bytes)
asks-one None name bytes = tt
asks-one (Some profile) name bytes = tt

-- a free name is so behind commands that leave it so
pub carried-free : (name : List ℕ) (commands : List Instruction) (ms base : List Moment) (lines : List ℕ) →
    CarriesOut commands ms lines → LeavesFree name commands → IsFree name base → IsFree name (ms ++ base)
carried-free name commands ms base lines C leaves free = (let E = carried_end commands ms lines C in
    free_behind name commands ms base E.0 (ends_read commands ms E.0 E.1) leaves free)

-- each name is free behind a later call of the program
pub called-free : (name : List ℕ) (start : State) (ms : List Moment) → IsFree name (called_behind start ms)
called-free name start ms = NoneUnderWay.given_up (call_from (now start ms)) ms tt

-- its file is stored
pub puts-file : (front middle : List Instruction) (name bytes : List ℕ) (own : Option ℕ) (p : ℕ)
    (ms base : List Moment) (lines : List ℕ) →
    CarriesOut (middle ++ put_of front name bytes own p) ms lines → NoneAsksOn name middle →
    LeavesFree name front → IsFree name base → (start : State) → IsStart start →
    IsRun 8 start (ms ++ base) → PutsFile front middle own ms base lines p name bytes
puts-file front middle name bytes own p ms base lines C asks leaves free start clean run =
    (let S = carried_apart middle (put_of front name bytes own p) ms lines C in
    let P = S.rest in
    let Q = P.6 in
    let moments = S.moments ∙ ap (λ l. S.later ++ l) (P.4 ∙ ap (λ l. P.0 ∷ (P.1 ++ l)) Q.3) in
    let split = ap (λ l. l ++ base) moments
    ∙ (append_assoc S.later (P.0 ∷ (P.1 ++ Q.0 ∷ Q.1)) base
    ∙ ap (λ l. S.later ++ P.0 ∷ l) (append_assoc P.1 (Q.0 ∷ Q.1) base)) in
    let lines_are = S.lines_are ∙ ap (λ l. l ++ S.more) (P.7 ∙ ap (λ l. l ++ lines_of P.0.outcome) Q.6) in
    record {
      later = S.later;
      end = P.0;
      steps = P.1;
      begin = Q.0;
      older = Q.1;
      before = Q.2;
      rest = S.more;
      moments = moments;
      lines_are = lines_are;
      begins = Q.4;
      ends = P.5;
      behind = S.owns;
      ahead = Q.5;
      stored = λ is_begun is_ended. record {
        later = S.later;
        end = P.0;
        between = P.1;
        begin = Q.0;
        older = Q.1 ++ base;
        number = p;
        split = split;
        free = carried-free name front Q.1 base Q.2 Q.5 leaves free;
        begin_event = begins-put own Q.0.event name bytes Q.4;
        begun = is_begun;
        none = (steps_begin_none p p name P.1 P.5.before).0;
        none_between = (steps_begin_none p p name P.1 P.5.before).1;
        end_event = P.5.step;
        ended = is_ended;
        none_since = commands_begin_none name middle S.later S.more S.owns asks;
      };
      said = λ says. put-said 8 start (omega arith, omega arith) clean Q.0 P.0 S.later P.1 Q.1 base (put_event own name bytes) p Q.2
          S.more front middle (subst (IsRun 8 start) split run) Q.4 (asks-one own name bytes) P.5.step Q.5
          S.owns (subst (λ l. SaysPut l front p middle) lines_are says);
    })
