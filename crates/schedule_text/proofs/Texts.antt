-- The lines of a text and the commands that they spell.
use Rattle.schedule_text.proofs.Words.{◌≡◌, ℕ, suc, ◌+◌, ◌<◌, ◌≤◌, List, [], ◌∷◌, ◌++◌, length, Option, Some, None, refl, sym, ap, subst, ◌∙◌, arith, inl, inr, ◌⊎◌, append_assoc, length-append, IfSome, IfOk, IfErr, MatchResult, Result, Ok, Err, AllByRecursion, map-append, Instruction, words, SpellsCommand, IsSkipped, lines, IsLine, AreLines, IsSchedule, IsFirstBadLine, event_command, commands_of, lines_behind, IsCauseOf}
use Rattle.schedule_text.specs.declared.event.Event.{Event}
use Rattle.schedule_text.specs.declared.fault.ScheduleFault.{ScheduleFault}
use Rattle.schedule_text.specs.declared.fault.ScheduleFault.TheVariants as faults
use Rattle.schedule_text.proofs.Again.{spelled-not_skipped, Spells-once}

-- lines spell one list of commands
pub AreLines-once : (ls : List (List ℕ)) (commands others : List Instruction) → AreLines ls commands →
    AreLines ls others → commands ≡ others
AreLines-once [] commands others a b = a ∙ sym b
AreLines-once (line ∷ ls) commands others (inl a) (inl b) = AreLines-once ls commands others a.1 b.1
AreLines-once (line ∷ ls) commands others (inl a) (inr b) =
    absurd (spelled-not_skipped (words line) b.0 a.0 b.3)
AreLines-once (line ∷ ls) commands others (inr a) (inl b) =
    absurd (spelled-not_skipped (words line) a.0 b.0 a.3)
AreLines-once (line ∷ ls) commands others (inr a) (inr b) =
    cc (a.2, Spells-once (words line) a.0 b.0 a.3 b.3, AreLines-once ls a.1 b.1 a.4 b.4, b.2)

-- a line outside the grammar spoils all
bad_excluded : (before : List (List ℕ)) (line : List ℕ) (behind : List (List ℕ)) (commands : List Instruction)
    → ¬ (IsLine line) → AreLines (before ++ line ∷ behind) commands → ⊥
bad_excluded [] line behind commands bad (inl a) = bad (inl a.0)
bad_excluded [] line behind commands bad (inr a) = bad (inr (a.0, a.3))
bad_excluded (x ∷ before) line behind commands bad (inl a) = bad_excluded before line behind commands bad a.1
bad_excluded (x ∷ before) line behind commands bad (inr a) = bad_excluded before line behind a.1 bad a.4

-- a text with a bad line is no schedule
pub first_bad_excluded : (text : List ℕ) (number : ℕ) (commands : List Instruction) →
    IsFirstBadLine text number → IsSchedule text commands → ⊥
first_bad_excluded text number commands bad all = bad_excluded bad.before bad.line bad.behind commands bad.bad
    (subst (λ (ls : List (List ℕ)). AreLines ls commands) bad.lines_are all)

-- the first line outside the grammar is one
fronts-same : (a : List (List ℕ)) (x : List ℕ) (c b : List (List ℕ)) (y : List ℕ) (d : List (List ℕ)) →
    a ++ x ∷ c ≡ b ++ y ∷ d
    → AllByRecursion IsLine a → ¬ (IsLine x) → AllByRecursion IsLine b → ¬ (IsLine y) → length a ≡ length b
fronts-same [] x c [] y d same good_a bad_x good_b bad_y = refl
fronts-same [] x c (z ∷ b) y d same good_a bad_x good_b bad_y =
    let head : z ≡ x = cc in
    absurd (bad_x (subst IsLine head good_b.0))
fronts-same (z ∷ a) x c [] y d same good_a bad_x good_b bad_y =
    let head : z ≡ y = cc in
    absurd (bad_y (subst IsLine head good_a.0))
fronts-same (z ∷ a) x c (w ∷ b) y d same good_a bad_x good_b bad_y =
    ap (λ (n : ℕ). suc n) (fronts-same a x c b y d (cc) good_a.1 bad_x good_b.1 bad_y)

-- a text has one first bad line
pub first_bad-once : (text : List ℕ) (number other : ℕ) → IsFirstBadLine text number →
    IsFirstBadLine text other → number ≡ other
first_bad-once text number other a b =
    let same = sym a.lines_are ∙ b.lines_are in
    cc (
      a.number_is,
      fronts-same a.before a.line a.behind b.before b.line b.behind same a.good a.bad b.good b.bad,
      b.number_is,
    )

-- ---- one line more

AreLines-skip : (front : List (List ℕ)) (line : List ℕ) (commands : List Instruction) →
    AreLines front commands → IsSkipped (words line) → AreLines (front ++ line ∷ []) commands
AreLines-skip [] line commands before skipped = inl (skipped, before)
AreLines-skip (x ∷ front) line commands (inl a) skipped =
    inl (a.0, AreLines-skip front line commands a.1 skipped)
AreLines-skip (x ∷ front) line commands (inr a) skipped =
    inr (a.0, a.1, a.2, a.3, AreLines-skip front line a.1 a.4 skipped)

AreLines-push : (front : List (List ℕ)) (line : List ℕ) (commands : List Instruction)
    (command : Instruction) → AreLines front commands → SpellsCommand (words line) command
    → AreLines (front ++ line ∷ []) (commands ++ command ∷ [])
AreLines-push [] line commands command before spelled =
    inr (command, [], ap (λ (cs : List Instruction). cs ++ command ∷ []) before, spelled, refl)
AreLines-push (x ∷ front) line commands command (inl a) spelled =
    inl (a.0, AreLines-push front line commands command a.1 spelled)
AreLines-push (x ∷ front) line commands command (inr a) spelled = inr (
  a.0,
  a.1 ++ command ∷ [],
  ap (λ (cs : List Instruction). cs ++ command ∷ []) a.2,
  a.3,
  AreLines-push front line a.1 command a.4 spelled,
)

AreLines-good : (front : List (List ℕ)) (commands : List Instruction) → AreLines front commands →
    AllByRecursion IsLine front
AreLines-good [] commands all = tt
AreLines-good (x ∷ front) commands (inl a) = (inl a.0, AreLines-good front commands a.1)
AreLines-good (x ∷ front) commands (inr a) = (inr (a.0, a.3), AreLines-good front a.1 a.4)

-- ---- a text that is read up to some place

-- how much is left
abbrev pub size_left : Option (List ℕ) → ℕ
size_left None = 0
size_left (Some behind) = length behind + 1

-- so many lines were read as these commands, and this is left
pub record HasRead (text : List ℕ) (left : Option (List ℕ)) (number : ℕ)
    (commands : List Instruction) : Type 0 where
  pub front : List (List ℕ)
  pub parts : lines text ≡ front ++ lines_behind left
  pub count : number ≡ length front
  pub read : AreLines front commands
  pub room : number + size_left left ≤ length text + 1

-- the parts with one line more
more_parts : (text rest line : List ℕ) (behind : Option (List ℕ)) (front : List (List ℕ)) →
    lines text ≡ front ++ lines rest → lines rest ≡ line ∷ lines_behind behind
    → lines text ≡ (front ++ line ∷ []) ++ lines_behind behind
more_parts text rest line behind front parts first = parts ∙ ap (λ (ls : List (List ℕ)). front ++ ls) first
    ∙ sym (append_assoc front (line ∷ []) (lines_behind behind))

less_left : (number total rest : ℕ) (behind : Option (List ℕ)) → number + (rest + 1) ≤ total →
    IfSome behind (λ b. length b < rest) → number + 1 + size_left behind ≤ total
less_left number total rest None room shorter = omega (arith, room)
less_left number total rest (Some b) room shorter = omega (arith, room, shorter)

-- behind a line without a command the same commands are read
pub has_skipped : (text rest line : List ℕ) (behind : Option (List ℕ)) (number : ℕ)
    (commands : List Instruction)
    → HasRead text (Some rest) number commands → lines rest ≡ line ∷ lines_behind behind →
    IfSome behind (λ b. length b < length rest)
    → IsSkipped (words line) → HasRead text behind (number + 1) commands
has_skipped text rest line behind number commands so_far first shorter skipped = record {
  front = so_far.front ++ line ∷ [];
  parts = more_parts text rest line behind so_far.front so_far.parts first;
  count = omega (arith, so_far.count, length-append so_far.front (line ∷ []));
  read = AreLines-skip so_far.front line commands so_far.read skipped;
  room = less_left number (length text + 1) (length rest) behind so_far.room shorter;
}

-- behind a line with a command that one is read too
pub has_pushed : (text rest line : List ℕ) (behind : Option (List ℕ)) (number : ℕ)
    (commands : List Instruction) (command : Instruction)
    → HasRead text (Some rest) number commands → lines rest ≡ line ∷ lines_behind behind →
    IfSome behind (λ b. length b < length rest)
    → SpellsCommand (words line) command → HasRead text behind (number + 1) (commands ++ command ∷ [])
has_pushed text rest line behind number commands command so_far first shorter spelled = record {
  front = so_far.front ++ line ∷ [];
  parts = more_parts text rest line behind so_far.front so_far.parts first;
  count = omega (arith, so_far.count, length-append so_far.front (line ∷ []));
  read = AreLines-push so_far.front line commands command so_far.read spelled;
  room = less_left number (length text + 1) (length rest) behind so_far.room shorter;
}

-- a line that is none, behind lines that were read, is the first bad one
pub is_bad : (text rest line : List ℕ) (behind : Option (List ℕ)) (number : ℕ) (commands : List Instruction)
    → HasRead text (Some rest) number commands → lines rest ≡ line ∷ lines_behind behind → ¬ (IsLine line) →
    IsFirstBadLine text (number + 1)
is_bad text rest line behind number commands so_far first bad = record {
  before = so_far.front;
  line = line;
  behind = lines_behind behind;
  lines_are = so_far.parts ∙ ap (λ (ls : List (List ℕ)). so_far.front ++ ls) first;
  number_is = ap (λ (n : ℕ). n + 1) so_far.count;
  good = AreLines-good so_far.front commands so_far.read;
  bad = bad;
}

-- the commands of one event more
pub commands_of-push : (old new : List Event) (event : Event) → new ≡ old ++ event ∷ [] →
    commands_of old ++ event_command event ∷ [] ≡ commands_of new
commands_of-push old new event pushed =
    sym (ap (λ (es : List Event). commands_of es) pushed ∙ map-append event_command old (event ∷ []))

-- ---- what was answered is what must be

-- what is read of a schedule are its commands, or there was no memory
pub reads_as : {V : Type 0} (commands_in : V → List Instruction) (text : List ℕ)
    (read : Result V ScheduleFault)
    → IfOk read (λ v. IsSchedule text (commands_in v)) → IfErr read (IsCauseOf text)
    → (commands : List Instruction) → IsSchedule text commands →
    MatchResult read (λ v. commands_in v ≡ commands) (λ fault. fault ≡ faults.Memory)
reads_as commands_in text (Ok v) ok bad commands is =
    AreLines-once (lines text) (commands_in v) commands ok is
reads_as commands_in text (Err (faults.BadLine number)) ok bad commands is =
    absurd (first_bad_excluded text number commands bad is)
reads_as commands_in text (Err faults.Memory) ok bad commands is = refl

-- a text is refused for its first bad line, or there was no memory
pub refuses_for : {V : Type 0} (commands_in : V → List Instruction) (text : List ℕ)
    (read : Result V ScheduleFault)
    → IfOk read (λ v. IsSchedule text (commands_in v)) → IfErr read (IsCauseOf text)
    → (number : ℕ) → IsFirstBadLine text number →
    MatchResult read (λ _. ⊥) (λ fault. (fault ≡ faults.BadLine number) ⊎ (fault ≡ faults.Memory))
refuses_for commands_in text (Ok v) ok bad number is = first_bad_excluded text number (commands_in v) is ok
refuses_for commands_in text (Err (faults.BadLine other)) ok bad number is =
    inl (ap (λ (n : ℕ). faults.BadLine n) (first_bad-once text other number bad is))
refuses_for commands_in text (Err faults.Memory) ok bad number is = inr refl
