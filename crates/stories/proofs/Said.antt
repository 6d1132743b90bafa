-- What a text says of a put and of a get behind it is so.
use Rattle.stories.proofs.Words.{◌≡◌, ℕ, ◌<◌, ◌^◌, List, ◌∷◌, ◌++◌, length, Option, Some, sym, ap, subst, ◌∙◌, inl, inr, arith, append_assoc, append_cancel_left, run_back, joined, outcome-lines, run-lines, IsLimit, both-one, forward, told_then, IsStart, Answer, Ended, IsSpelled, lines_of, CarriesOut, lines_of_all, IsToldAnswer, AsksForOneLine, WritesOneLine, IsOfLines, SaysBehind, SaysBefore, SaysPut, SaysGot}
use Rattle.line_laws.proofs.Happened.{happened}
use Rattle.line_laws.proofs.LastLines.{last-told}
use Rattle.line_laws.proofs.Read.{written-lines, text-behind}
use Rattle.stories.specs.Words.{Put, Event, Step, Begun, Moment, now, IsRun, Outcome, State, Instruction}

-- what was written behind what a sink had taken
pub written-as : (old new : Option (List ℕ)) (lines taken text : List ℕ) → new ≡ told_then old lines →
    old ≡ Some taken → new ≡ Some (taken ++ text) → lines ≡ text
written-as old new lines taken text written is same =
    (let e : told_then old lines ≡ Some (taken ++ lines) = ap (λ (o : Option (List ℕ)). told_then o lines) is in
    append_cancel_left taken lines text cc)

-- the lines of a job behind whole lines
job-lines : (x : List ℕ) (begun ended : Outcome) → IsOfLines x →
    IsOfLines ((x ++ lines_of begun) ++ lines_of ended)
job-lines x begun ended whole = joined (x ++ lines_of begun) (lines_of ended)
    (joined x (lines_of begun) whole (outcome-lines begun)) (outcome-lines ended)

-- a text that says so is of whole lines
says-lines : (text : List ℕ) (front : List Instruction) (p : ℕ) (middle : List Instruction) →
    SaysPut text front p middle → IsOfLines text
says-lines text front p middle (inl S) = rw S.text_is
    (joined ((S.front ++ lines_of (Begun p)) ++ lines_of (Ended Put)) (lines_of_all S.outcomes)
    (job-lines S.front (Begun p) (Ended Put) S.whole) (written-lines S.outcomes))
says-lines text front p middle (inr S) = rw S.text_is
    (joined ((lines_of_all S.outcomes ++ lines_of (Begun p)) ++ lines_of (Ended Put)) S.rest
    (job-lines (lines_of_all S.outcomes) (Begun p) (Ended Put) (written-lines S.outcomes)) S.whole)

-- four texts, the first apart
four-texts : (w x y z : List ℕ) → ((w ++ x) ++ y) ++ z ≡ w ++ (x ++ (y ++ z))
four-texts w x y z = append_assoc (w ++ x) y z ∙ append_assoc w x (y ++ z)

module _ (limit : ℕ) (start : State) where
  one-line-by : (m : Moment) (ms : List Moment) (event : Event) → m.event ≡ event → AsksForOneLine event →
      IsRun limit start (m ∷ ms) → WritesOneLine m.outcome
  one-line-by m ms event is asks run = happened (now start ms) m.state limit (length ms) m.event m.outcome
      (subst AsksForOneLine (sym is) asks) run.1

  -- the number of a job that was stepped is short
  short : (m : Moment) (ms : List Moment) (job : ℕ) → m.event ≡ Step job → IsRun limit start (m ∷ ms) →
      job < 2 ^ 64
  short m ms job is run = (let s : job < 2 ^ 32 = subst IsSpelled is run.0 in omega (arith, s))

  -- the two moments of a job behind a front of whole lines: what stands before the last two lines is that
  -- front, and the two lines are theirs
  pub two-said : (begin end : Moment) (steps older : List Moment) (event : Event) (job : ℕ) (how : Answer)
      (front other : List ℕ) → IsRun limit start (end ∷ (steps ++ begin ∷ older)) → begin.event ≡ event →
      AsksForOneLine event → end.event ≡ Step job → IsToldAnswer how → IsOfLines front → IsOfLines other →
      (front ++ lines_of begin.outcome) ++ lines_of end.outcome
      ≡ (other ++ lines_of (Begun job)) ++ lines_of (Ended how) →
      (front ≡ other) × (begin.outcome ≡ Begun job) × (end.outcome ≡ Ended how)
  two-said begin end steps older event job how front other run begun asks ended told whole ahead same =
      let last = last-told end.outcome (Ended how) (front ++ lines_of begin.outcome)
      (other ++ lines_of (Begun job)) (one-line-by end (steps ++ begin ∷ older) (Step job) ended tt run) told
      (joined front (lines_of begin.outcome) whole (outcome-lines begin.outcome))
      (joined other (lines_of (Begun job)) ahead (outcome-lines (Begun job))) same in
      let first = last-told begin.outcome (Begun job) front other
      (one-line-by begin older event begun asks (run_back limit start steps (begin ∷ older) run.2))
      (short end (steps ++ begin ∷ older) job ended run) whole ahead last.0 in
      (first.0, first.1, last.1)

  -- a put with commands behind it
  said-behind : (begin end : Moment) (later steps older : List Moment) (event : Event) (p : ℕ)
      (front rest : List ℕ) (middle : List Instruction) →
      IsRun limit start (later ++ end ∷ (steps ++ begin ∷ older)) → begin.event ≡ event →
      AsksForOneLine event → end.event ≡ Step p → IsOfLines front → CarriesOut middle later rest →
      SaysBehind (((front ++ lines_of begin.outcome) ++ lines_of end.outcome) ++ rest) p middle →
      (begin.outcome ≡ Begun p) × (end.outcome ≡ Ended Put)
  said-behind begin end later steps older event p front rest middle run begun asks ended whole owns S =
      let B = text-behind limit start (end ∷ (steps ++ begin ∷ older)) middle later rest
      ((front ++ lines_of begin.outcome) ++ lines_of end.outcome)
      ((S.front ++ lines_of (Begun p)) ++ lines_of (Ended Put)) S.outcomes run S.one_each owns S.told
      S.as_many
      (job-lines front begin.outcome end.outcome whole) (job-lines S.front (Begun p) (Ended Put) S.whole)
      S.text_is in
      let two = two-said begin end steps older event p Put front S.front
      (run_back limit start later (end ∷ (steps ++ begin ∷ older)) run) begun asks ended tt whole S.whole
      B.0 in
      (two.1, two.2)

  -- a put behind commands whose lines are read
  said-before : IsLimit limit → IsStart start → (begin end : Moment) (steps older base : List Moment)
      (event : Event) (p : ℕ) (before rest : List ℕ) (front : List Instruction) →
      IsRun limit start (end ∷ (steps ++ begin ∷ (older ++ base))) → begin.event ≡ event →
      AsksForOneLine event → end.event ≡ Step p → CarriesOut front older before →
      SaysBefore (((before ++ lines_of begin.outcome) ++ lines_of end.outcome) ++ rest) front p →
      (begin.outcome ≡ Begun p) × (end.outcome ≡ Ended Put)
  said-before fits clean begin end steps older base event p before rest front run begun asks ended ahead S =
      let at_begin = run_back limit start steps (begin ∷ (older ++ base)) run.2 in
      let F = forward limit start base fits clean front older before S.outcomes
      (lines_of begin.outcome ++ (lines_of end.outcome ++ rest))
      (lines_of (Begun p) ++ (lines_of (Ended Put) ++ S.rest)) at_begin.2 S.no_calls ahead S.told S.as_many
      (sym (four-texts before (lines_of begin.outcome) (lines_of end.outcome) rest)
      ∙ (S.text_is ∙ four-texts (lines_of_all S.outcomes) (lines_of (Begun p)) (lines_of (Ended Put)) S.rest)) in
      let first = both-one begin.outcome (Begun p) (lines_of end.outcome ++ rest)
      (lines_of (Ended Put) ++ S.rest) (one-line-by begin (older ++ base) event begun asks at_begin)
      (short end (steps ++ begin ∷ (older ++ base)) p ended run) F.1 in
      let second = both-one end.outcome (Ended Put) rest S.rest
      (one-line-by end (steps ++ begin ∷ (older ++ base)) (Step p) ended tt run) tt first.1 in
      (first.0, second.0)

  -- a put that a text tells of in either way
  pub put-said : IsLimit limit → IsStart start → (begin end : Moment) (later steps older base : List Moment)
      (event : Event) (p : ℕ) (before rest : List ℕ) (front middle : List Instruction) →
      IsRun limit start (later ++ end ∷ (steps ++ begin ∷ (older ++ base))) → begin.event ≡ event →
      AsksForOneLine event → end.event ≡ Step p → CarriesOut front older before →
      CarriesOut middle later rest →
      SaysPut (((before ++ lines_of begin.outcome) ++ lines_of end.outcome) ++ rest) front p middle →
      (begin.outcome ≡ Begun p) × (end.outcome ≡ Ended Put)
  put-said fits clean begin end later steps older base event p before rest front middle run begun asks ended
      ahead owns (inl S) = said-behind begin end later steps (older ++ base) event p before rest middle run
      begun asks ended (run-lines front older before ahead) owns S
  put-said fits clean begin end later steps older base event p before rest front middle run begun asks ended
      ahead owns (inr S) = said-before fits clean begin end steps older base event p before rest front
      (run_back limit start later (end ∷ (steps ++ begin ∷ (older ++ base))) run) begun asks ended ahead S

  -- a get behind lines
  pub got-said : (begin end : Moment) (gaps before : List Moment) (event : Event) (g : ℕ) (how : Answer)
      (lines text : List ℕ) (front : List Instruction) (p : ℕ) (middle : List Instruction) →
      IsRun limit start (end ∷ (gaps ++ begin ∷ before)) → begin.event ≡ event → AsksForOneLine event →
      end.event ≡ Step g → IsOfLines lines →
      (lines ++ lines_of begin.outcome) ++ lines_of end.outcome ≡ text → SaysGot text front p g middle how →
      SaysPut lines front p middle × (begin.outcome ≡ Begun g) × (end.outcome ≡ Ended how)
  got-said begin end gaps before event g how lines text front p middle run begun asks ended whole same S =
      let two = two-said begin end gaps before event g how lines S.before run begun asks ended S.told whole
      (says-lines S.before front p middle S.put) (same ∙ S.text_is) in
      (subst (λ l. SaysPut l front p middle) (sym two.0) S.put, two.1, two.2)
