-- A get that began and ended among the moments of a replay, as its text and what it wrote tell it.
use Rattle.stories.proofs.Words.{◌≡◌, ℕ, List, [], ◌∷◌, ◌++◌, length, ap, sym, subst, ◌∙◌, append_assoc, run_back, ReadsAs, AreButBlocks, NoneIsBegun, TellsJob, job_behind, tells, gets, GivesOrIsLost, AreFew, Answer, Ended, IsToldAnswer, GetEnds, Seen, Ending, devices_of_seen, AreLeft, called_behind, WasTold}
use Rattle.machine_defs.specs.Calm.{Mark}
use Rattle.second_half_laws.specs.MarkedRuns.{IsMarkedRun}
use Rattle.epoch_laws.proofs.Moved.{marked_back}
use Rattle.stories.specs.Words.{Begin, Begun, GetJob, Moment, IsRun, now, Outcome, State, Instruction}
use Rattle.stories.proofs.Told.{HasGet, get-told, begun-but}

-- where the get stands
pub record Among (front between behind : List Instruction) (us ts rs own : List Outcome) (name : List ℕ) (g : ℕ)
    (how : Answer) (start : State) (base ms : List Moment) (new : Seen) : Type 0 where
  pub told : HasGet own rs ts us how g
  pub job : TellsJob behind between front (Begin (GetJob name)) g how ms told.first told.last
  pub whole : ms ++ base ≡ job.later ++ job.end ∷ (job.gap ++ job.begin ∷ (job.older ++ base))
  pub left : AreLeft start (job.later ++ job.end ∷ (job.gap ++ job.begin ∷ (job.older ++ base))) (devices_of_seen new)
  pub ends : GetEnds job.begin job.gap job.end g name how

pub among : (front between behind : List Instruction) (us ts rs own : List Outcome) (name : List ℕ) (g : ℕ)
    (how : Answer) (start : State) (ms : List Moment) (new : Seen) (end : Ending) →
    AreButBlocks own (rs ++ Ended how ∷ (ts ++ Begun g ∷ us)) →
    (W : WasTold (job_behind behind between (Begin (GetJob name)) g front) own start ms new end) → IsToldAnswer how →
    length rs ≡ length behind → length ts ≡ length between → NoneIsBegun g ts →
    Among front between behind us ts rs own name g how start (called_behind start ms) W.later new
among front between behind us ts rs own name g how start ms new end but W told many some none =
    (let commands = job_behind behind between (Begin (GetJob name)) g front in
    let called : List Moment = called_behind start ms in
    let S = get-told own rs ts us how g told but in
    let reads = subst (ReadsAs commands W.later) S.is W.reads in
    let T = tells behind between front (Begin (GetJob name)) g how W.later S.first S.next S.last reads (S.as_many ∙ many)
    (S.nexts ∙ some) (begun-but g S.next ts S.alike none) in
    let split = ap (λ l. l ++ called) T.moments
    ∙ (append_assoc T.later (T.end ∷ (T.gap ++ T.begin ∷ T.older)) called
    ∙ ap (λ l. T.later ++ T.end ∷ l) (append_assoc T.gap (T.begin ∷ T.older) called)) in
    record {
      told = S;
      job = T;
      whole = split;
      left = subst (λ l. AreLeft start l (devices_of_seen new)) split W.left;
      ends = gets behind between front g name W.later [] S.first S.last how T;
    })

module _ (front between behind : List Instruction) (us ts rs own : List Outcome) (name : List ℕ) (g : ℕ)
    (how : Answer) (start : State) (base ms : List Moment) (new : Seen)
    (A : Among front between behind us ts rs own name g how start base ms new) where
  abbrev ahead : List Moment
  ahead = A.job.older ++ base

  abbrev up : List Moment
  up = A.job.end ∷ (A.job.gap ++ A.job.begin ∷ ahead)

  -- up to the get's begin it is a run
  pub run-before : IsRun 8 start ahead
  run-before = (run_back 8 start A.job.gap (A.job.begin ∷ ahead) (run_back 8 start A.job.later up A.left.run).2).2

  -- in a run that is calm by a mark it gives what stood under its name at its begin, or is lost by calls that failed
  pub gives-among : ((limit : ℕ) (mark : Mark) (start : State) (ms gaps : List Moment) (c g : Moment) (get : ℕ)
      (name : List ℕ) (how : Answer) → IsMarkedRun limit mark start (g ∷ (gaps ++ c ∷ ms)) →
      GetEnds c gaps g get name how → GivesOrIsLost (now start ms) g.state name how) →
      (named : List (List ℕ)) (mark : Mark) →
      (AreFew named (now start (ms ++ base)) → IsMarkedRun 8 mark start (ms ++ base)) →
      AreFew named (now start (A.job.later ++ up)) → GivesOrIsLost (now start ahead) A.job.end.state name how
  gives-among stood named mark marked few = stood 8 mark start ahead A.job.gap A.job.begin A.job.end g name how
      (marked_back 8 mark start A.job.later up (subst (IsMarkedRun 8 mark start) A.whole
      (marked (subst (λ l. AreFew named (now start l)) (sym A.whole) few)))) A.ends
