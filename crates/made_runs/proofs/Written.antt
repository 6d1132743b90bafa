-- What instructions make carries out their commands and writes their lines.
use Rattle.made_runs.proofs.Words.{refl, ap, sym, ◌∙◌, ◌≡◌, ◌≢◌, ℕ, zero, suc, true, not, List, [], ◌∷◌, ◌++◌, false≢true, Lost, DiskFault, ProviderFault, Scrubbed, Packed, Step, More, lines_of, Moment, now, State, GoOn, CarriesOut, stepped, Turn, Gives, LosesOne, StoreFails, Cut, told, is_more, step_of, after_step, gone_by, turned, job_run, Sweep, Finds, Tells, swept_so, swept, Instruction, Turns, Sweeps, moment, sweep_run, done, run_of}
use Rattle.machine_defs.specs.Transcripts as transcripts
use Rattle.machine_defs.proofs.RunParts.{not_more}
use Rattle.made_runs.specs.Turns.{Goes}
use Rattle.made_runs.specs.Written.{all_more, is_end, none_ends, is_whole, are_whole, commanded, schedule_of, newest_outcome, lines_made}
use Rattle.made_runs.proofs.Steps.{first, second}

-- ---- the moments of an instruction alone, which come before the others

-- those of plain steps
abbrev own_gone : State → List Moment → ℕ → ℕ → List Moment
own_gone start ms n zero = []
own_gone start ms n (suc k) =
    step_of n More (stepped (now start (gone_by start ms n k)) n) ∷ own_gone start ms n k

gone-own : (start : State) (ms : List Moment) (n k : ℕ) → gone_by start ms n k ≡ own_gone start ms n k ++ ms
gone-own start ms n zero = refl
gone-own start ms n (suc k) =
    ap (λ x. step_of n More (stepped (now start (gone_by start ms n k)) n) ∷ x) (gone-own start ms n k)

gone-on : (start : State) (ms : List Moment) (n k : ℕ) → GoOn n (own_gone start ms n k)
gone-on start ms n zero = tt
gone-on start ms n (suc k) = (refl, refl, gone-on start ms n k)

-- those of a turn
abbrev own_turned : State → List Moment → ℕ → Turn → List Moment
own_turned start ms n (Goes k) = own_gone start ms n k
own_turned start ms n turn = step_of n (told turn) (after_step (now start ms) n turn) ∷ []

turned-own : (start : State) (ms : List Moment) (n : ℕ) (turn : Turn) →
    turned start ms n turn ≡ own_turned start ms n turn ++ ms
turned-own start ms n (Goes k) = gone-own start ms n k
turned-own start ms n turn = refl

turned-on : (start : State) (ms : List Moment) (n : ℕ) (turn : Turn) → is_more turn ≡ true →
    GoOn n (own_turned start ms n turn)
turned-on start ms n (Goes k) m = gone-on start ms n k
turned-on start ms n (Gives answer) m = absurd (false≢true m)
turned-on start ms n (LosesOne stripe row) m = absurd (false≢true m)
turned-on start ms n (StoreFails j) m = absurd (false≢true m)
turned-on start ms n Cut m = absurd (false≢true m)
turned-on start ms n turn m = (refl, refl, tt)

-- those of turns
abbrev own_by : State → List Moment → ℕ → List Turn → List Moment
own_by start ms n [] = []
own_by start ms n (t ∷ ts) = own_turned start (job_run start ms n ts) n t ++ own_by start ms n ts

-- lists are joined in any order
assoc : (xs ys zs : List Moment) → (xs ++ ys) ++ zs ≡ xs ++ (ys ++ zs)
assoc [] ys zs = refl
assoc (x ∷ xs) ys zs = ap (λ l. x ∷ l) (assoc xs ys zs)

by-own : (start : State) (ms : List Moment) (n : ℕ) (ts : List Turn) →
    job_run start ms n ts ≡ own_by start ms n ts ++ ms
by-own start ms n [] = refl
by-own start ms n (t ∷ ts) = turned-own start (job_run start ms n ts) n t
    ∙ (ap (λ l. own_turned start (job_run start ms n ts) n t ++ l) (by-own start ms n ts)
    ∙ sym (assoc (own_turned start (job_run start ms n ts) n t) (own_by start ms n ts) ms))

on-append : (n : ℕ) (xs ys : List Moment) → GoOn n xs → GoOn n ys → GoOn n (xs ++ ys)
on-append n [] ys a b = b
on-append n (x ∷ xs) ys a b = (a.0, a.1, on-append n xs ys a.2 b)

by-on : (start : State) (ms : List Moment) (n : ℕ) (ts : List Turn) → all_more ts ≡ true →
    GoOn n (own_by start ms n ts)
by-on start ms n [] c = tt
by-on start ms n (t ∷ ts) c = on-append n (own_turned start (job_run start ms n ts) n t)
    (own_by start ms n ts) (turned-on start (job_run start ms n ts) n t (first (is_more t) (all_more ts) c))
    (by-on start ms n ts (second (is_more t) (all_more ts) c))

-- those of steps of what runs alone
abbrev own_sweeps : State → List Moment → ℕ → List Sweep → List Moment
own_sweeps start ms n [] = []
own_sweeps start ms n (s ∷ ss) =
    moment (Step n) (swept_so s) (swept (now start (sweep_run start ms n ss)) s) ∷ own_sweeps start ms n ss

sweeps-own : (start : State) (ms : List Moment) (n : ℕ) (ss : List Sweep) →
    sweep_run start ms n ss ≡ own_sweeps start ms n ss ++ ms
sweeps-own start ms n [] = refl
sweeps-own start ms n (s ∷ ss) =
    ap (λ l. moment (Step n) (swept_so s) (swept (now start (sweep_run start ms n ss)) s) ∷ l)
    (sweeps-own start ms n ss)

more-swept : (sweep : Sweep) → not (is_end sweep) ≡ true → swept_so sweep ≡ More
more-swept (Finds stripes symbols blocks) c = absurd (false≢true c)
more-swept (Tells before after) c = absurd (false≢true c)
more-swept sweep c = refl

sweeps-on : (start : State) (ms : List Moment) (n : ℕ) (ss : List Sweep) → none_ends ss ≡ true →
    GoOn n (own_sweeps start ms n ss)
sweeps-on start ms n [] c = tt
sweeps-on start ms n (s ∷ ss) c = (
  refl,
  more-swept s (first (not (is_end s)) (none_ends ss) c),
  sweeps-on start ms n ss (second (not (is_end s)) (none_ends ss) c),
)

-- ---- commands

-- a job is run to its end
runs : (start : State) (ms : List Moment) (n : ℕ) (t : Turn) (ts : List Turn)
    (cs : List transcripts.Instruction) (bytes : List ℕ) → not (is_more t) ≡ true → all_more ts ≡ true →
    CarriesOut cs ms bytes →
    CarriesOut (transcripts.RunJob n ∷ cs) (job_run start ms n (t ∷ ts))
    (bytes ++ lines_of (newest_outcome (job_run start ms n (t ∷ ts))))
runs start ms n t ts cs bytes e c r = by t e
  where
    ends : (t : Turn) → told t ≢ More →
        CarriesOut (transcripts.RunJob n ∷ cs)
        (step_of n (told t) (after_step (now start (job_run start ms n ts)) n t) ∷ job_run start ms n ts)
        (bytes ++ lines_of (told t))
    ends t over = (
      step_of n (told t) (after_step (now start (job_run start ms n ts)) n t),
      own_by start ms n ts,
      ms,
      bytes,
      ap (λ l. step_of n (told t) (after_step (now start (job_run start ms n ts)) n t) ∷ l)
          (by-own start ms n ts),
      record { step = refl; over = over; before = by-on start ms n ts c },
      r,
      refl,
    )

    by : (t : Turn) → not (is_more t) ≡ true →
        CarriesOut (transcripts.RunJob n ∷ cs) (job_run start ms n (t ∷ ts))
        (bytes ++ lines_of (newest_outcome (job_run start ms n (t ∷ ts))))
    by (Gives answer) e = ends (Gives answer) (not_more answer)
    by (LosesOne stripe row) e = ends (LosesOne stripe row) (not_more (Lost stripe row))
    by (StoreFails j) e = ends (StoreFails j) (not_more (ProviderFault j))
    by Cut e = ends Cut (not_more DiskFault)
    by turn e = absurd (false≢true e)

-- what runs alone is run to its end
sweeps : (start : State) (ms : List Moment) (n : ℕ) (s : Sweep) (ss : List Sweep)
    (cs : List transcripts.Instruction) (bytes : List ℕ) → is_end s ≡ true → none_ends ss ≡ true →
    CarriesOut cs ms bytes →
    CarriesOut (transcripts.RunJob n ∷ cs) (sweep_run start ms n (s ∷ ss)) (bytes ++ lines_of (swept_so s))
sweeps start ms n s ss cs bytes e c r = by s e
  where
    ends : (s : Sweep) → swept_so s ≢ More →
        CarriesOut (transcripts.RunJob n ∷ cs) (sweep_run start ms n (s ∷ ss))
        (bytes ++ lines_of (swept_so s))
    ends s over = (
      moment (Step n) (swept_so s) (swept (now start (sweep_run start ms n ss)) s),
      own_sweeps start ms n ss,
      ms,
      bytes,
      ap (λ l. moment (Step n) (swept_so s) (swept (now start (sweep_run start ms n ss)) s) ∷ l)
          (sweeps-own start ms n ss),
      record { step = refl; over = over; before = sweeps-on start ms n ss c },
      r,
      refl,
    )

    by : (s : Sweep) → is_end s ≡ true →
        CarriesOut (transcripts.RunJob n ∷ cs) (sweep_run start ms n (s ∷ ss))
        (bytes ++ lines_of (swept_so s))
    by (Finds stripes symbols blocks) e =
        ends (Finds stripes symbols blocks) (not_more (Scrubbed stripes symbols blocks))
    by (Tells before after) e = ends (Tells before after) (not_more (Packed before after))
    by sweep e = absurd (false≢true e)

-- an instruction carries out its command behind others
one : (start : State) (ms : List Moment) (i : Instruction) (cs : List transcripts.Instruction)
    (bytes : List ℕ) → is_whole i ≡ true → CarriesOut cs ms bytes →
    CarriesOut (commanded i ∷ cs) (done start ms i) (bytes ++ lines_of (newest_outcome (done start ms i)))
one start ms (Turns n []) cs bytes c r = absurd (false≢true c)
one start ms (Turns n (t ∷ ts)) cs bytes c r = runs start ms n t ts cs bytes
    (first (not (is_more t)) (all_more ts) c) (second (not (is_more t)) (all_more ts) c) r
one start ms (Sweeps n []) cs bytes c r = absurd (false≢true c)
one start ms (Sweeps n (s ∷ ss)) cs bytes c r = sweeps start ms n s ss cs bytes
    (first (is_end s) (none_ends ss) c) (second (is_end s) (none_ends ss) c) r
one start ms i cs bytes c r = (_, ms, bytes, refl, refl, r, refl)

-- what instructions make carries out their commands and writes their lines
pub carries : (start : State) (is : List Instruction) → are_whole is ≡ true →
    CarriesOut (schedule_of is) (run_of start is) (lines_made start is)
carries start [] c = (refl, refl)
carries start (i ∷ is) c = one start (run_of start is) i (schedule_of is) (lines_made start is)
    (first (is_whole i) (are_whole is) c) (carries start is (second (is_whole i) (are_whole is) c))
