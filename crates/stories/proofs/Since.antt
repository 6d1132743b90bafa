-- What a get gives behind a put and others of its name.
use Rattle.stories.proofs.Words.{◌≡◌, ◌⊎◌, ℕ, List, [], ◌∷◌, ◌++◌, length, Option, Some, refl, ap, sym, subst, ◌∙◌, inl, inr, append_assoc, arith, Touches, GotRight, ReadsAs, PutsOnly, AreButBlocks, NoneIsBegun, AsksPutsOnly, AreOverOn, job_behind, ends_apart, puts_only, one_call, gave_only, tells, stores, over, GivesOrIsLost, Answer, Ended, IsLostByFaults, file_in, heard_in, GetEnds, IsStart, Once, RunJob, NoneAsksOn, NoneCalls, Stored, Seen, Ending, called_behind, IsOldOrNew, WasTold}
use Rattle.machine_defs.specs.Events.{put_event}
use Rattle.effect_laws.proofs.Since.{whose, put_only}
use Rattle.stories.specs.Words.{Put, Got, Begin, Begun, GetJob, Moment, now, IsRun, Outcome, State, Instruction}
use Rattle.stories.proofs.Among.{Among}
use Rattle.stories.proofs.Beside.{old-or-new}
use Rattle.stories.proofs.Puts.{begins-put, called-free}
use Rattle.stories.proofs.Told.{get-told, begun-but, over-but}

-- behind moments that stored the bytes stand others whose puts of the name are of other bytes
pub record Since (name bytes other : List ℕ) (base ms : List Moment) : Type 0 where
  pub later : List Moment
  pub older : List Moment
  pub moments : ms ++ base ≡ later ++ (older ++ base)
  pub stored : Stored (older ++ base) name bytes
  pub only : PutsOnly name other later

pub stored-since : (front beside middle : List Instruction) (us vs ts own_outcomes : List Outcome)
    (name bytes other : List ℕ) (own : Option ℕ) (p : ℕ) (start : State) (ms older : List Moment) →
    AreButBlocks own_outcomes (ts ++ Ended Put ∷ (vs ++ Begun p ∷ us)) →
    ReadsAs (job_behind middle beside (put_event own name bytes) p front) older own_outcomes →
    length ts ≡ length middle → length vs ≡ length beside → NoneIsBegun p vs → AreOverOn name front us →
    NoneAsksOn name beside → AsksPutsOnly name other middle → Since name bytes other (called_behind start ms) older
stored-since front beside middle us vs ts own_outcomes name bytes other own p start ms older but reads many
    some none leaves asks only = (let base : List Moment = called_behind start ms in
    let event = put_event own name bytes in
    let P = get-told own_outcomes ts vs us Put p tt but in
    let A = ends_apart middle (RunJob p ∷ (beside ++ Once event ∷ front)) older P.first
    (Ended Put ∷ (P.next ++ Begun p ∷ P.last))
    (subst (ReadsAs (job_behind middle beside event p front) older) P.is reads) (P.as_many ∙ many) in
    let T = tells [] beside front event p Put A.older [] P.next P.last A.rest refl (P.nexts ∙ some)
    (begun-but p P.next vs P.alike none) in
    record {
      later = A.later;
      older = A.older;
      moments = ap (λ l. l ++ base) A.moments ∙ append_assoc A.later A.older base;
      stored = stores [] beside front p name A.older base [] P.last event bytes (begins-put own event name bytes refl) T tt asks
          (over (Touches name) front T.older base P.last T.before
          (over-but (Touches name) front P.last us [] P.lasts leaves) (called-free name start ms));
      only = puts_only name other middle A.later P.first A.owns only;
    })

-- where none of commands is a later call, none of those behind others is
calls-front : (xs ys : List Instruction) → NoneCalls (xs ++ ys) → NoneCalls xs
calls-front [] ys none = tt
calls-front (Once event ∷ xs) ys none = (none.0, calls-front xs ys none.1)
calls-front (RunJob job ∷ xs) ys none = calls-front xs ys none

-- a get among them gave the ones or the others, or a forgery is heard
pub gave-since : (first between behind : List Instruction) (us ws rs own : List Outcome)
    (name bytes other : List ℕ) (g : ℕ) (how : Answer) (start : State) (ms : List Moment) (new : Seen)
    (end : Ending) (W : WasTold (job_behind behind between (Begin (GetJob name)) g first) own start ms new end)
    (A : Among first between behind us ws rs own name g how start (called_behind start ms) W.later new) →
    Since name bytes other (called_behind start ms) A.job.older →
    NoneCalls (job_behind behind between (Begin (GetJob name)) g first) → (got : List ℕ) → how ≡ Got got →
    IsOldOrNew start (A.job.older ++ called_behind start ms) end g name bytes other got
gave-since first between behind us ws rs own name bytes other g how start ms new end W A S calls got is =
    (let base : List Moment = called_behind start ms in
    let all : List Moment → List Moment = λ l. A.job.later ++ A.job.end ∷ (A.job.gap ++ A.job.begin ∷ l) in
    let stands : IsRun 8 start (all (S.later ++ (S.older ++ base))) =
    subst (λ l. IsRun 8 start (all l)) S.moments A.left.run in
    old-or-new start end g name bytes other got (A.job.older ++ base) (all (A.job.older ++ base))
    (W.heard ∙ ap (heard_in start) A.whole)
    (subst (λ l. GotRight start l (all l) g name bytes got ⊎ GotRight start l (all l) g name other got)
    (sym S.moments) (gave_only 8 start A.job.later A.job.gap A.job.begin A.job.end g name got A.left.starts
    (one_call behind A.job.later A.told.first A.job.behind
    (calls-front behind (RunJob g ∷ (between ++ Once (Begin (GetJob name)) ∷ first)) calls))
    (subst (λ h. GetEnds A.job.begin A.job.gap A.job.end g name h) is A.ends) S.later (S.older ++ base) bytes
    (omega arith, omega arith) stands S.stored other S.only)))

-- what stood is the ones or the others
pub stood-since : (name bytes other : List ℕ) (start : State) (base ms : List Moment) → IsStart start →
    IsRun 8 start (ms ++ base) → Since name bytes other base ms → (end : State) (how : Answer) →
    GivesOrIsLost (now start (ms ++ base)) end name how →
    (how ≡ Got bytes) ⊎ (how ≡ Got other) ⊎ IsLostByFaults (now start (ms ++ base)) end how
stood-since name bytes other start base ms clean run S end how G = elim G.gives [
  | inl gave ↦ elim (whose 8 start S.later (S.older ++ base) name bytes (omega arith, omega arith) clean
      (subst (IsRun 8 start) S.moments run) S.stored G.file
      (inl (subst (λ l. file_in (now start l) name ≡ Some G.file) S.moments G.in_effect))) [
        | inl old ↦ inl (gave ∙ ap Got (same ∙ old))
        | inr put ↦ inr (inl (gave ∙ ap Got (same ∙ put_only name other
            ((now start (S.later ++ (S.older ++ base))).bytes G.file.id) S.later S.only put)))
      ]
  | inr lost ↦ inr (inr lost)
]
  where
    same : (now start (ms ++ base)).bytes G.file.id ≡ (now start (S.later ++ (S.older ++ base))).bytes G.file.id
    same = ap (λ l. (now start l).bytes G.file.id) S.moments
