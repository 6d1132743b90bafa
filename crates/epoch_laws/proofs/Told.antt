-- A get that a transcript tells last, and a put before it.
use Rattle.epoch_laws.proofs.Words.{◌≡◌, ℕ, List, [], ◌∷◌, ◌++◌, length, Option, None, Some, refl, ap, sym, subst, ◌∙◌, inl, inr, append_assoc, GetJob, Answer, Put, IsPutBegin, Mark, DamagesOnly, AsksDamageOf, Begin, Outcome, Begun, Ended, put_event, Moment, State, Instruction, Once, RunJob, RunsToEnd, Touches, IsBeginFor, IsFree, NoneBeganOn, NoneAsksOn, steps_begin_none, Stored, GetEnds, IsMarkedRun, IsAudit, ReadsAs, NoneAsksFor, AreOverOn, EndsApart, TellsJob, ends_apart, both_none, none_on, damages, over, done_by, GotBack, IsWhole}
use Rattle.second_half_laws.proofs.GetsByEvents.{stored_got}
use Rattle.effect_laws.proofs.Jobs.{tells, stores}

-- the begin of a put, with a profile of its own or without, is one, and begins no audit
begins-put : (own : Option ℕ) (name bytes : List ℕ) → IsPutBegin (put_event own name bytes) name bytes
begins-put None name bytes = inl refl
begins-put (Some profile) name bytes = inr (profile, refl)

pub no-audit : (own : Option ℕ) (name bytes : List ℕ) → IsBeginFor IsAudit (put_event own name bytes) → ⊥
no-audit None name bytes h = h
no-audit (Some profile) name bytes h = h

-- commands that ask for none that is meant, behind others
pub both-ask-none : (xs ys : List Instruction) → NoneAsksFor IsAudit xs → NoneAsksFor IsAudit ys →
    NoneAsksFor IsAudit (xs ++ ys)
both-ask-none [] ys a b = b
both-ask-none (Once event ∷ xs) ys a b = (a.0, both-ask-none xs ys a.1 b)
both-ask-none (RunJob job ∷ xs) ys a b = both-ask-none xs ys a b

-- ---- the put

-- a put that ended well has stored its file
pub stored-behind : (front middle : List Instruction) (name bytes : List ℕ) (own : Option ℕ) (p : ℕ)
    (ms base : List Moment) (ts us : List Outcome) →
    ReadsAs (middle ++ done_by (put_event own name bytes) p front) ms (ts ++ Ended Put ∷ Begun p ∷ us) →
    length ts ≡ length middle → NoneAsksOn name middle → AreOverOn name front us → IsFree name base →
    Stored (ms ++ base) name bytes
stored-behind front middle name bytes own p ms base ts us E many asks leaves free =
    (let T : TellsJob middle [] front (put_event own name bytes) p Put ms ts us =
    tells middle [] front (put_event own name bytes) p Put ms ts [] us E many refl tt in
    stores middle [] front p name ms base ts us (put_event own name bytes) bytes (begins-put own name bytes) T
    asks tt (over (Touches name) front T.older base us T.before leaves free))

-- it is so with moments behind it that begin no put and no drop of the name
pub stored-more : (name bytes : List ℕ) (later ms : List Moment) → NoneBeganOn name later →
    Stored ms name bytes → Stored (later ++ ms) name bytes
stored-more name bytes later ms none S = record {
  later = later ++ S.later;
  end = S.end;
  between = S.between;
  begin = S.begin;
  older = S.older;
  number = S.number;
  free = S.free;
  begin_event = S.begin_event;
  begun = S.begun;
  none = S.none;
  none_between = S.none_between;
  end_event = S.end_event;
  ended = S.ended;
  split = ap (λ l. later ++ l) S.split
      ∙ sym (append_assoc later S.later (S.end ∷ (S.between ++ S.begin ∷ S.older)));
  none_since = both_none (Touches name) later S.later none S.none_since;
}

-- ---- the get

module _ (name : List ℕ) (g : ℕ) (how : Answer) (behind front : List Instruction) (rs os : List Outcome)
    (base ms : List Moment)
    (E : ReadsAs (done_by (Begin (GetJob name)) g (behind ++ front)) ms (Ended how ∷ Begun g ∷ (rs ++ os)))
    (many : length rs ≡ length behind) where
  -- its moments, and those of the commands behind others before it
  pub record Parts : Type 0 where
    pub last : Moment
    pub gaps : List Moment
    pub begin : Moment
    pub before : List Moment
    pub moments : ms ≡ last ∷ (gaps ++ begin ∷ before)
    pub event : begin.event ≡ Begin (GetJob name)
    pub begun : begin.outcome ≡ Begun g
    pub runs : RunsToEnd g last gaps
    pub ended : last.outcome ≡ Ended how
    pub apart : EndsApart behind front before rs os

  pub parts : Parts
  parts = (let B = E.6 in record {
    last = E.0;
    gaps = E.1;
    begin = B.0;
    before = B.1;
    moments = E.3 ∙ ap (λ l. E.0 ∷ (E.1 ++ l)) B.2;
    event = B.3;
    begun = B.4;
    runs = E.4;
    ended = E.5;
    apart = ends_apart behind front B.1 rs os B.5 many;
  })

  module _ (P : Parts) where
    pub get-ends : GetEnds P.begin P.gaps P.last g name how
    get-ends = record {
      begin_event = P.event;
      begun = P.begun;
      none = (steps_begin_none g g name P.gaps P.runs.before).0;
      end_event = P.runs.step;
      ended = P.ended;
    }

    -- the moments of the get and of the commands behind the others
    abbrev pub later : List Moment
    later = P.last ∷ (P.gaps ++ P.begin ∷ P.apart.later)

    pub later-damages : (qs : List ℕ) → AsksDamageOf qs behind → DamagesOnly qs later
    later-damages qs asks = damages qs (RunJob g ∷ Once (Begin (GetJob name)) ∷ behind) later
        (Ended how ∷ Begun g ∷ rs) (
          P.last,
          P.gaps,
          P.begin ∷ P.apart.later,
          refl,
          P.runs,
          P.ended,
          (P.begin, P.apart.later, refl, P.event, P.begun, P.apart.owns),
        ) (tt, asks)

    -- all moments, and those up to the begin of the get
    all-before : P.before ++ base ≡ P.apart.later ++ (P.apart.older ++ base)
    all-before = ap (λ l. l ++ base) P.apart.moments ∙ append_assoc P.apart.later P.apart.older base

    whole-is : ms ++ base ≡ P.last ∷ (P.gaps ++ P.begin ∷ (P.before ++ base))
    whole-is = ap (λ l. l ++ base) P.moments
        ∙ ap (λ l. P.last ∷ l) (append_assoc P.gaps (P.begin ∷ P.before) base)

    pub all-is : ms ++ base ≡ later ++ (P.apart.older ++ base)
    all-is = whole-is ∙ (ap (λ l. P.last ∷ (P.gaps ++ P.begin ∷ l)) all-before
        ∙ ap (λ l. P.last ∷ l)
        (sym (append_assoc P.gaps (P.begin ∷ P.apart.later) (P.apart.older ++ base))))

    pub got-back : (bytes : List ℕ) → Stored (P.apart.older ++ base) name bytes → NoneAsksOn name behind →
        GotBack base ms name bytes g how
    got-back bytes S asks = (let stored = subst (λ l. Stored l name bytes) (sym all-before)
        (stored-more name bytes P.apart.later (P.apart.older ++ base)
        (none_on name behind P.apart.later rs P.apart.owns asks) S) in
        let own : List Moment = P.last ∷ (P.gaps ++ P.begin ∷ []) in record {
          before = P.before;
          begin = P.begin;
          gaps = P.gaps;
          last = P.last;
          moments = P.moments;
          stored = stored;
          ends = get-ends;
          still = subst (λ l. Stored l name bytes) (sym (whole-is ∙ ap (λ l. P.last ∷ l)
              (sym (append_assoc P.gaps (P.begin ∷ []) (P.before ++ base)))))
              (stored-more name bytes own (P.before ++ base)
              (none_on name (done_by (Begin (GetJob name)) g []) own (Ended how ∷ Begun g ∷ []) (
                P.last,
                P.gaps,
                P.begin ∷ [],
                refl,
                P.runs,
                P.ended,
                (P.begin, [], refl, P.event, P.begun, refl),
              ) ((λ on. on), tt)) stored);
        })

-- in a run that is calm by a mark a get that is told so gives the bytes, or is lost by faults
pub gives : (name bytes : List ℕ) (g : ℕ) (how : Answer) (base ms : List Moment) (limit : ℕ) (mark : Mark)
    (start : State) (G : GotBack base ms name bytes g how) → IsMarkedRun limit mark start (ms ++ base) →
    IsWhole start G
gives name bytes g how base ms limit mark start G h = stored_got limit mark start (G.before ++ base) G.gaps
    G.begin G.last g name bytes how (subst (IsMarkedRun limit mark start) (ap (λ l. l ++ base) G.moments
    ∙ ap (λ l. G.last ∷ l) (append_assoc G.gaps (G.begin ∷ G.before) base)) h) G.stored G.ends
