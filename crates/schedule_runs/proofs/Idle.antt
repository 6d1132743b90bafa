-- A replay that writes nothing has done no command that writes a line.
use Rattle.std.proofs.Common.{◌≡◌, ◌≢◌, ◌⊎◌, ℕ, List, [], ◌∷◌, ◌++◌, length, length-append, reverse, Option, Some, IsSome, codes, refl, ap, sym, subst, ◌∙◌, inl, inr, arith}
use Rattle.std.proofs.lemmas.List.{append-nil, reverse-reverse}
use Rattle.device_defs.specs.Told.{told_then, then_told}
use Rattle.command_defs.specs.Sinking.{WritesLine}
use Rattle.machine_defs.specs.Events.{Event, Step, Outcome, Ended, Begun, Refused, Waiting, Listed, Continued}
use Rattle.machine_defs.specs.Lines.{lines_of, answer_text, refusal_text, then_number}
use Rattle.machine_defs.specs.Machine.{Happens}
use Rattle.machine_defs.specs.Runs.{Moment, now, IsRun}
use Rattle.machine_defs.specs.States.{State}
use Rattle.machine_defs.specs.Transcripts.{Instruction, Once, RunJob, CarriesOut}
use Rattle.line_laws.specs.Read.{AskForOneLine}
use Rattle.line_laws.specs.Told.{AsksForOneLine, WritesOneLine}
use Rattle.hail_replay.specs.Starts.{called_behind}
use Rattle.hail_replay.specs.declared.forms.Form.TheVariants as forms
use Rattle.hail_top.specs.Carried.{AsksByText}
use Rattle.schedule_runs.specs.Words.{Seen, Ending, sinking, IsSchedule, AreLeft, devices_of_seen, KeepsTheHeadline}

-- what is put behind other bytes is nothing, where these stay as they were
none_behind : (front more : List ℕ) → front ≡ front ++ more → more ≡ []
none_behind front [] e = refl
none_behind front (x ∷ xs) e =
    absurd (let l = ap length e in let a = length-append front (x ∷ xs) in omega (arith, l, a))

none_before : (front more : List ℕ) → front ++ more ≡ [] → more ≡ []
none_before front [] e = refl
none_before front (x ∷ xs) e =
    absurd (let l = ap length e in let a = length-append front (x ∷ xs) in omega (arith, l, a))

-- a line is not empty
is_some_line : (text : List ℕ) → text ++ 10 ∷ [] ≡ [] → ⊥
is_some_line text e = (let l = ap length e in let a = length-append text (10 ∷ []) in omega (arith, l, a))

writes : (r : Outcome) → WritesOneLine r → lines_of r ≡ [] → ⊥
writes (Listed files) one e = one
writes Continued one e = one
writes (Ended how) one e = is_some_line (answer_text how) e
writes (Refused why) one e = is_some_line (codes "refused " ++ refusal_text why) e
writes (Begun job) one e = is_some_line (codes "job" ++ then_number job) e
writes (Waiting holder) one e = is_some_line (codes "waiting" ++ then_number holder) e
writes r one e = cc e

-- of an event that asks for one line
abbrev HasWritten : Type 0
HasWritten = (limit moment : ℕ) (old new : State) (event : Event) (outcome : Outcome) → AsksForOneLine event
    → Happens limit moment old event outcome new → WritesOneLine outcome

wrote : HasWritten → (m : Moment) (base : List Moment) (start : State) (event : Event) → AsksForOneLine event →
    m.event ≡ event → IsRun 8 start (m ∷ base) → lines_of m.outcome ≡ [] → ⊥
wrote law m base start event one is run =
    writes m.outcome (law 8 (length base) (now start base) m.state event m.outcome one
    (subst (λ (e : Event). Happens 8 (length base) (now start base) e m.outcome m.state) is run.1))

-- commands that wrote nothing, the newest of which asks for one line, were not carried out
silent : HasWritten → (command : Instruction) (older : List Instruction) (later base : List Moment)
    (lines : List ℕ) (start : State) → CarriesOut (command ∷ older) later lines → AskForOneLine (command ∷ []) →
    IsRun 8 start (later ++ base) → lines ≡ [] → ⊥
silent law (Once event) older later base lines start C one run none =
    wrote law C.0 (C.1 ++ base) start event one.0 C.4 (subst (λ l. IsRun 8 start (l ++ base)) C.3 run)
    (none_before C.2 (lines_of C.0.outcome) (sym C.6 ∙ none))
silent law (RunJob job) older later base lines start C one run none =
    wrote law C.0 ((C.1 ++ C.2) ++ base) start (Step job) tt C.5.step
    (subst (λ l. IsRun 8 start (l ++ base)) C.4 run) (none_before C.3 (lines_of C.0.outcome) (sym C.7 ∙ none))

-- at status 0 the lines are what the sink took
no_lines : (lines : List ℕ) (status : ℕ) (old new : Seen) (taken : List ℕ) → status ≡ 0 →
    WritesLine lines status (sinking old new) → old.sink ≡ Some taken → new.sink ≡ old.sink → lines ≡ []
no_lines lines status old new taken ok (inl (is, w)) before same =
    none_behind taken lines (let e : Some taken ≡ Some (taken ++ lines) =
    sym before ∙ sym same ∙ w ∙ ap (λ told. told_then told lines) before in cc)
no_lines lines status old new taken ok (inr (inl (n, is, rose, front))) before same =
    absurd (omega (arith, ok, is))
no_lines lines status old new taken ok (inr (inr (is, front))) before same = absurd (omega (arith, ok, is))

-- what was read up to its end is what the source had
read_whole : (text read : List ℕ) (old new : Option (List ℕ)) → old ≡ then_told read new → old ≡ Some text →
    new ≡ Some [] → read ≡ text
read_whole text read old new front from gone =
    (let e : Some text ≡ Some (read ++ []) = sym from ∙ front ∙ ap (then_told read) gone in
    let z : text ≡ read ++ [] = cc in sym (z ∙ append-nil read))

pub idle : HasWritten → ((text : List ℕ) (commands others : List Instruction) → IsSchedule text commands
    → IsSchedule text others → commands ≡ others) → (text : List ℕ) (command : Instruction)
    (older : List Instruction) (start : State) (before : List Moment) (old new : Seen) (end : Ending)
    (taken : List ℕ) → old.source ≡ Some text → new.source ≡ Some []
    → IsSchedule text (reverse (command ∷ older)) → AskForOneLine (command ∷ []) → IsSome old.disk
    → AreLeft start before (devices_of_seen old) → end.status ≡ 0 → old.sink ≡ Some taken
    → new.sink ≡ old.sink → KeepsTheHeadline forms.Replay old new end → ⊥
idle law one text command older start before old new end taken from gone spells asks disk left ok takes same
    (inl (status, at, other, undone)) = other (sym undone.status_is ∙ ok)
idle law one text command older start before old new end taken from gone spells asks disk left ok takes same
    (inr A) = (let T : AsksByText old new A.commands = A.asks in
    let commands : A.commands ≡ reverse (command ∷ older) = one text A.commands (reverse (command ∷ older))
    (subst (λ t. IsSchedule t A.commands)
    (read_whole text T.text old.source new.source T.reads.front from gone) T.spells) spells in
    let G = A.goes_on start before disk left in
    let done : G.goes.done ≡ command ∷ older = sym (reverse-reverse G.goes.done)
    ∙ ap reverse (sym (append-nil (reverse G.goes.done)) ∙ ap (λ l. reverse G.goes.done ++ l) (sym (G.whole ok))
    ∙ sym G.order ∙ commands) ∙ reverse-reverse (command ∷ older) in
    silent law command older G.goes.later (called_behind start before) G.goes.lines start
    (subst (λ cs. CarriesOut cs G.goes.later G.goes.lines) done G.goes.carries.carried_out) asks
    G.goes.carries.run (no_lines G.goes.lines end.status old new taken ok G.told takes same))
