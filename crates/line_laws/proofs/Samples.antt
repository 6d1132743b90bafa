-- A text that is read, and a step at a closed vault.
use Rattle.line_laws.proofs.Words.{◌≡◌, ℕ, List, [], ◌∷◌, ◌++◌, refl, arith, inr, codes, AllByRecursion, flat_map, digits, File, Put, Got, Outcome, Step, More, Opened, Begun, Ended, Listed, Closed, line, lines_of, Moment, lines_of_all, IsToldByLine, WritesOneLine, HasNoNewline, IsOfLines}
use Rattle.machine_defs.specs.Examples.{set_up}
use Rattle.line_laws.proofs.Outcomes.{lines-tell}
use Rattle.line_laws.proofs.OneLine.{by-test}
use Rattle.line_laws.proofs.LastLines.{last-told}

-- what a put and a get of one byte come to, the newest first
abbrev pub read-outcomes : List Outcome
read-outcomes = Ended (Got (111 ∷ [])) ∷ Begun 2 ∷ Ended Put ∷ Begun 1 ∷ Opened ∷ []

pub read-told : AllByRecursion IsToldByLine read-outcomes
read-told = (tt, (omega arith, (tt, (omega arith, (tt, tt)))))

pub read-text : lines_of_all read-outcomes
    ≡ flat_map line (codes "opened" ∷ codes "job 1" ∷ codes "put" ∷ codes "job 2" ∷ codes "got 6f" ∷ [])
unfolding digits
read-text = refl

pub read-line : HasNoNewline (codes "got 6f") × IsOfLines (line (codes "job 2"))
read-line = (by-test (codes "got 6f") refl, inr (codes "job 2", refl))

pub read-got : (r : Outcome) → lines_of r ≡ line (codes "got 6f") → r ≡ Ended (Got (111 ∷ []))
read-got r same = lines-tell r (Ended (Got (111 ∷ []))) tt same

pub read-last : (r : Outcome) (front : List ℕ) → WritesOneLine r → IsOfLines front →
    front ++ lines_of r ≡ line (codes "job 2") ++ line (codes "got 6f") →
    (front ≡ line (codes "job 2")) × (r ≡ Ended (Got (111 ∷ [])))
read-last r front one of same = last-told r (Ended (Got (111 ∷ []))) front (line (codes "job 2")) one tt of
    (inr (codes "job 2", refl)) same

-- a file whose line in a list is that of a begin
abbrev pub job-file : File
job-file = record { name = codes "job"; id = 1; size = 2; profile = 0 }

pub read-list : lines_of (Listed (job-file ∷ [])) ≡ line (codes "names 1") ++ lines_of (Begun 2)
unfolding digits
read-list = refl

-- a step at a closed vault
abbrev pub closed-step : Moment
closed-step = record { event = Step 1; outcome = Closed; state = set_up }

pub not-more : Closed ≡ More → ⊥
not-more same = grind arith
