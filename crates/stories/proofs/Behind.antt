-- Instructions that are carried out behind the moments of a run.
use Rattle.std.proofs.Common.{◌≡◌, ℕ, List, [], ◌∷◌, ◌++◌, length, refl, ap, sym, subst}
use Rattle.made_runs.specs.Instructions.{Instruction, Begins, Comes, begun_by, done, FitsOne, run_of, AreFit}
use Rattle.made_runs.proofs.Instructions.{are-run}
use Rattle.damage_run.specs.Words.{Begun, State, Moment, IsRun, now}

-- their moments, in front of those
abbrev pub behind : State → List Moment → List Instruction → List Moment
behind start base [] = base
behind start base (i ∷ is) = done start (behind start base is) i

-- each can be carried out
abbrev pub AreFitBehind : State → List Moment → List Instruction → Type 0
AreFitBehind start base [] = Unit {0}
AreFitBehind start base (i ∷ is) = FitsOne 8 start (behind start base is) i × AreFitBehind start base is

-- the same as instructions alone, of which each begin knows how many moments were before it
abbrev pub alone : State → List Moment → List Instruction → List Instruction
alone start base [] = []
alone start base (Begins event ∷ is) = Comes event (Begun (now start (behind start base is)).next_job)
    (λ w. begun_by w (length (behind start base is)) event) ∷ alone start base is
alone start base (i ∷ is) = i ∷ alone start base is

-- ---- moments of a run as instructions

came : List Moment → List Instruction
came [] = []
came (m ∷ ms) = Comes m.event m.outcome (λ w. m.state) ∷ came ms

came-is : (start : State) (ms : List Moment) → run_of start (came ms) ≡ ms
unfolding came
came-is start [] = refl
came-is start (m ∷ ms) = ap (λ l. m ∷ l) (came-is start ms)

came-fit : (start : State) (ms : List Moment) → IsRun 8 start ms → AreFit 8 start (came ms)
unfolding came
came-fit start [] run = tt
came-fit start (m ∷ ms) run = (
  subst (λ l. FitsOne 8 start l (Comes m.event m.outcome (λ w. m.state))) (sym (came-is start ms)) (run.0, run.1),
  came-fit start ms run.2,
)

behind-is : (start : State) (base : List Moment) (is : List Instruction) →
    run_of start (is ++ came base) ≡ behind start base is
behind-is start base [] = came-is start base
behind-is start base (i ∷ is) = ap (λ l. done start l i) (behind-is start base is)

behind-fit : (start : State) (base : List Moment) (is : List Instruction) → IsRun 8 start base →
    AreFitBehind start base is → AreFit 8 start (is ++ came base)
behind-fit start base [] run fits = came-fit start base run
behind-fit start base (i ∷ is) run fits = (
  subst (λ l. FitsOne 8 start l i) (sym (behind-is start base is)) fits.0,
  behind-fit start base is run fits.1,
)

-- what they make is a run
pub behind-run : (start : State) (base : List Moment) (is : List Instruction) → IsRun 8 start base →
    AreFitBehind start base is → IsRun 8 start (behind start base is)
behind-run start base is run fits =
    subst (IsRun 8 start) (behind-is start base is) (are-run 8 start (is ++ came base) (behind-fit start base is run fits))
