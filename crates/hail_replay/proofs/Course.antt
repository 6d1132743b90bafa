-- A replay and a trial, event by event.
use Rattle.hail_replay.proofs.Words.{◌≡◌, ℕ, ◌≤◌, List, [], ◌∷◌, ◌++◌, Option, Result, Ok, Err, refl, ap, sym, subst, ◌∙◌, OnOk, OnErr, reverse-append, WritesLine, headline, failures_rose, Entry, heard_in, lines_of, Moment, now, State, continued, Instruction, Once, RunJob, GoOn, CarriesOut, TrialCounts, table_tolerance, SeesOne, Devices, AreDevices, Client, names_of, ClientStands, IsReached, Came, AreLeft, called_behind, outcome_in, heard_in_came, AreMomentsOf, Performs, CarriesOn, HasCome, HasDone, HasRun, HasCounted, devices-of}
use Rattle.std.proofs.Common.{reverse}
use Rattle.std.proofs.lemmas.List.{append_assoc}
use Rattle.state_laws.specs.Sound.{IsSound}
use Rattle.hail_replay.proofs.Judged.{judged}
use Rattle.hail_replay.proofs.Wrote.{sank, written-on, behind-others}

module _ (start : State) (base : List Moment) where
  -- the moments of one command more carry it out
  carried-on : (command : Instruction) (done : List Instruction) (last : Moment) (steps later : List Moment)
      (lines : List ℕ) → AreMomentsOf command last steps
      → CarriesOut done later lines →
      CarriesOut (command ∷ done) (last ∷ (steps ++ later)) (lines ++ lines_of last.outcome)
  carried-on (Once event) done last steps later lines (is, none) so_far =
      (last, later, lines, ap (λ (s : List Moment). last ∷ (s ++ later)) none, is, so_far, refl)
  carried-on (RunJob job) done last steps later lines runs so_far =
      (last, steps, later, lines, refl, runs, so_far, refl)

  -- one command more
  pub come-on : (command : Instruction) (came : Option Came) (done : List Instruction) (later : List Moment)
      (lines : List ℕ) (heard : List Entry) (c next : Client) (d e : Devices)
      → HasCome start base done later lines heard c d →
      (P : Performs start (later ++ base) command came next e)
      → HasCome start base (command ∷ done) (P.last ∷ (P.steps ++ later)) (lines ++ lines_of P.last.outcome)
      (heard ++ heard_in_came came) next e
  come-on command came done later lines heard c next d e H P =
      (let same : P.last ∷ (P.steps ++ (later ++ base)) ≡ (P.last ∷ (P.steps ++ later)) ++ base =
      ap (λ (s : List Moment). P.last ∷ s) (sym (append_assoc P.steps later base)) in
      record {
        carried_out = carried-on command done P.last P.steps later lines P.moments H.carried_out;
        reached = subst (λ (s : List Moment). IsReached start s next e) same P.reached;
        heard_is = ap (λ (s : List Entry). s ++ heard_in_came came) H.heard_is ∙ sym P.heard_is
            ∙ ap (heard_in start) same;
      })

  -- and its lines
  pub done-on : (command : Instruction) (came : Option Came) (done : List Instruction)
      (first mid last : Option (List ℕ)) (b f g status : ℕ) (text : List ℕ) (heard after : List Entry)
      (c next : Client) (d e : Devices) → b ≤ f → f ≤ g →
      HasDone start base done 0 (sank first mid b f) heard c d
      → ((start : State) (ms : List Moment) → IsReached start ms c d → Performs start ms command came next e)
      → text ≡ lines_of (outcome_in next came) → WritesLine text status (sank mid last f g) →
      after ≡ heard ++ heard_in_came came
      → HasDone start base (command ∷ done) status (sank first last b g) after next e
  done-on command came done first mid last b f g status text heard after c next d e low never H performs text_is writes after_is =
      (let P = performs start (H.later ++ base) H.come.reached in
      let same : lines_of P.last.outcome ≡ text = ap lines_of P.outcome_is ∙ sym text_is in
      record {
        later = P.last ∷ (P.steps ++ H.later);
        lines = H.lines ++ lines_of P.last.outcome;
        come = subst (λ (x : List Entry). HasCome start base (command ∷ done) (P.last ∷ (P.steps ++ H.later))
            (H.lines ++ lines_of P.last.outcome) x next e) (sym after_is)
            (come-on command came done H.later H.lines heard c next d e H.come P);
        wrote = written-on first mid last b f g H.lines (lines_of P.last.outcome) status low never H.wrote
            (subst (λ (x : List ℕ). WritesLine x status (sank mid last f g)) (sym same) writes);
        stops = record {
          newest = P.last ∷ P.steps;
          older = H.later;
          before = H.lines;
          more = lines_of P.last.outcome;
          moments = refl;
          others = H.come.carried_out;
          lines_are = refl;
          cut = behind-others first mid last b f g H.lines (lines_of P.last.outcome) status low never H.wrote
              (subst (λ (x : List ℕ). WritesLine x status (sank mid last f g)) (sym same) writes);
        };
      })

  -- the same without lines
  pub run-on : (command : Instruction) (came : Option Came) (done : List Instruction)
      (heard after : List Entry) (c next : Client) (d e : Devices) → HasRun start base done heard c d
      → ((start : State) (ms : List Moment) → IsReached start ms c d → Performs start ms command came next e)
      → after ≡ heard ++ heard_in_came came → HasRun start base (command ∷ done) after next e
  run-on command came done heard after c next d e H performs after_is =
      (let P = performs start (H.later ++ base) H.come.reached in
      record {
        later = P.last ∷ (P.steps ++ H.later);
        lines = H.lines ++ lines_of P.last.outcome;
        come = subst (λ (x : List Entry). HasCome start base (command ∷ done) (P.last ∷ (P.steps ++ H.later))
            (H.lines ++ lines_of P.last.outcome) x next e) (sym after_is)
            (come-on command came done H.later H.lines heard c next d e H.come P);
      })

  -- the moments before the last went on
  went-on : (command : Instruction) (last : Moment) (steps : List Moment) → AreMomentsOf command last steps →
      (job : ℕ) × GoOn job steps
  went-on (Once event) last steps (is, none) = (0, subst (λ (s : List Moment). GoOn 0 s) (sym none) tt)
  went-on (RunJob job) last steps runs = (job, runs.before)

  -- and what a tally sees
  pub counted-on : (expected : List ℕ) (tolerance : ℕ) (command : Instruction) (came : Option Came)
      (done : List Instruction) (old new : TrialCounts) (heard after : List Entry) (c next : Client)
      (d e : Devices)
      → HasCounted expected start base done old heard c d
      → ((start : State) (ms : List Moment) → IsReached start ms c d → Performs start ms command came next e)
      → SeesOne expected tolerance (outcome_in next came) old new
      → tolerance ≡ table_tolerance (names_of next)
      → after ≡ heard ++ heard_in_came came → HasCounted expected start base (command ∷ done) new after next e
  counted-on expected tolerance command came done old new heard after c next d e H performs sees tolerates after_is =
      (let P = performs start (H.later ++ base) H.come.reached in
      let g = went-on command P.last P.steps P.moments in
      record {
        later = P.last ∷ (P.steps ++ H.later);
        lines = H.lines ++ lines_of P.last.outcome;
        come = subst (λ (x : List Entry). HasCome start base (command ∷ done) (P.last ∷ (P.steps ++ H.later))
            (H.lines ++ lines_of P.last.outcome) x next e) (sym after_is)
            (come-on command came done H.later H.lines heard c next d e H.come P);
        counts_are = sees done command H.later P.steps P.last g.0 P.outcome_is
            (judged start (P.steps ++ (H.later ++ base)) P.last next e P.reached tolerance tolerates) g.1
            H.counts_are;
      })

-- ---- beginning and end

-- a client with no vault open, behind the event of this call
pub come-first : (start : State) (before : List Moment) (c : Client) (d : Devices) → AreLeft start before d
    → IsSound 8 (now start before) →
    ((d : Devices) (w : State) → IsSound 8 w → AreDevices d w → ClientStands c d (continued w))
    → HasCome start (called_behind start before) [] [] [] [] c d
come-first start before c d L sound stands = record {
  carried_out = (refl, refl);
  reached = record { run = (tt, refl, L.run); stands = stands d (now start before) sound L.devices };
  heard_is = refl;
}

-- a run of instructions that goes on with an earlier run has its headline
pub carries-on : (start : State) (before : List Moment) (done : List Instruction) (later : List Moment)
    (lines : List ℕ) (heard : List Entry) (c : Client) (d : Devices)
    → AreLeft start before d → (e : Devices) →
    HasCome start (called_behind start before) done later lines heard c e →
    CarriesOn start before done later lines heard e
carries-on start before done later lines heard c d L e H = record {
  carried_out = H.carried_out;
  run = H.reached.run;
  last = devices-of c.vault c.alone c.next_job e (now start (later ++ called_behind start before)) H.reached.stands;
  heard_is = H.heard_is;
  counted = λ count n fails. failures_rose 8 start later
      (called_behind start before) count n H.reached.run fails;
  headline = headline 8 start (later ++ called_behind start before) L.starts H.reached.run;
}

-- the next of the commands left is done
pub next-done : (all done left : List Instruction) (command : Instruction) →
    all ≡ reverse done ++ command ∷ left → all ≡ reverse (command ∷ done) ++ left
next-done all done left command is = is ∙ sym (append_assoc (reverse done) (command ∷ []) left)
    ∙ ap (λ (l : List Instruction). l ++ left) (sym (reverse-append (command ∷ []) done))

-- what an Ok, and what an error gives
pub on-ok : {X E A B : Type 0} (r : Result X E) → OnOk r A → (A → B) → OnOk r B
on-ok (Ok x) a f = f a
on-ok (Err e) a f = tt

-- what always holds, holds at a fault
pub on-err : {X E B : Type 0} (r : Result X E) → B → OnErr r B
on-err (Ok x) b = tt
on-err (Err e) b = b
