-- The spelling of commands is a schedule of them.
use Rattle.schedule_text.proofs.Words.{◌≡◌, ℕ, ◌<◌, false, List, [], ◌∷◌, ◌++◌, length, refl, sym, ap, ◌∙◌, arith, inl, inr, append_assoc, slice_index, AllByRecursion, flat_map, decimal, encode_lower, PutJob, GetJob, DropJob, AuditJob, Init, Begin, BeginAt, Step, Alter, Lose, Stop, Continue, Instruction, Once, RunJob, Word, pieces, words, SpellsCommand, without_returns, lines, IsSchedule, CanBeSpelled, hex_of, words_of, spaced, schedule_bytes}
use Rattle.std.specs.Prelude.{◌==◌}
use Rattle.schedule_text.proofs.Pieces.{Free, differ, pieces-append, words-append}
use Rattle.schedule_text.proofs.Lines.{keep}
use Rattle.schedule_text.proofs.Plain.{IsPlain, written, plain-name, plain-decimal, plain-encode, plain-hex_of, number-decimal, hex-hex_of, key-encode, size-master}

-- the words of a line
abbrev body : List Word → List ℕ
body ws = flat_map spaced ws

-- ---- words with a space behind each

words-body : (ws : List Word) → AllByRecursion IsPlain ws → words (body ws) ≡ ws
words-body [] all = refl
words-body (word ∷ ws) all = ap (λ (t : List ℕ). words t) (append_assoc word (32 ∷ []) (body ws))
    ∙ words-append word (body ws) all.0.some all.0.no_space
    ∙ ap (λ (t : List Word). word ∷ t) (words-body ws all.1)

-- bytes, and a space behind them
record Ends (text : List ℕ) : Type 0 where
  front : List ℕ
  is : text ≡ front ++ 32 ∷ []
  free : Free 10 front

Free-append : (c : ℕ) (a b : List ℕ) → Free c a → Free c b → Free c (a ++ b)
Free-append c [] b free_a free_b = free_b
Free-append c (x ∷ a) b free_a free_b = (free_a.0, Free-append c a b free_a.1 free_b)

body-ends : (word : Word) (ws : List Word) → AllByRecursion IsPlain (word ∷ ws) → Ends (body (word ∷ ws))
body-ends word [] all = record { front = word; is = none (word ++ 32 ∷ []); free = all.0.no_newline }
  where
    none : (text : List ℕ) → text ++ [] ≡ text
    none [] = refl
    none (x ∷ text) = ap (λ (t : List ℕ). x ∷ t) (none text)
body-ends word (second ∷ ws) all =
    let rest = body-ends second ws all.1 in
    record {
      front = word ++ 32 ∷ rest.front;
      is = ap (λ (t : List ℕ). (word ++ 32 ∷ []) ++ t) rest.is
          ∙ append_assoc word (32 ∷ []) (rest.front ++ 32 ∷ [])
          ∙ sym (append_assoc word (32 ∷ rest.front) (32 ∷ []));
      free = Free-append 10 word (32 ∷ rest.front) all.0.no_newline ((λ e. omega (arith, e)), rest.free);
    }

-- no carriage return stands before the newline
returns-spaced : (front rest : List ℕ) → Free 10 front →
    without_returns (front ++ 32 ∷ 10 ∷ rest) ≡ front ++ 32 ∷ 10 ∷ without_returns rest
returns-spaced [] rest free = refl
returns-spaced (b ∷ front) rest free =
    keep (b == 13) (slice_index (front ++ 32 ∷ 10 ∷ rest) 0 == 10) (without_returns (front ++ 32 ∷ 10 ∷ rest))
    (b ∷ without_returns (front ++ 32 ∷ 10 ∷ rest)) (after front free.1)
    ∙ ap (λ (t : List ℕ). b ∷ t) (returns-spaced front rest free.1)
  where
    after : (front : List ℕ) → Free 10 front → (slice_index (front ++ 32 ∷ 10 ∷ rest) 0 == 10) ≡ false
    after [] free = refl
    after (c ∷ front) free = differ c 10 free.0

-- a line and its newline
lines-line : (text rest : List ℕ) → Ends text → lines ((text ++ 10 ∷ []) ++ rest) ≡ text ∷ lines rest
lines-line text rest ends = ap (λ (t : List ℕ). lines ((t ++ 10 ∷ []) ++ rest)) ends.is
    ∙ ap (λ (t : List ℕ). lines t) (regrouped ends.front rest)
    ∙ ap (λ (t : List ℕ). pieces 10 t) (returns-spaced ends.front rest ends.free
    ∙ grouped ends.front (without_returns rest))
    ∙ pieces-append 10 (ends.front ++ 32 ∷ []) (without_returns rest)
    (Free-append 10 ends.front (32 ∷ []) ends.free ((λ e. omega (arith, e)), tt))
    ∙ ap (λ (t : List ℕ). t ∷ lines rest) (sym ends.is)
  where
    regrouped : (front rest : List ℕ) → ((front ++ 32 ∷ []) ++ 10 ∷ []) ++ rest ≡ front ++ 32 ∷ 10 ∷ rest
    regrouped [] rest = refl
    regrouped (x ∷ front) rest = ap (λ (t : List ℕ). x ∷ t) (regrouped front rest)

    grouped : (front rest : List ℕ) → front ++ 32 ∷ 10 ∷ rest ≡ (front ++ 32 ∷ []) ++ 10 ∷ rest
    grouped [] rest = refl
    grouped (x ∷ front) rest = ap (λ (t : List ℕ). x ∷ t) (grouped front rest)

-- ---- the words of a command

-- they are words
words_plain : (command : Instruction) → CanBeSpelled command → AllByRecursion IsPlain (words_of command)
words_plain (Once (Init s)) can =
    search (arith, written, plain-decimal, plain-encode s.master (size-master s.master can.7), can)
words_plain (Once (Begin (PutJob name bytes))) can = search (written, plain-hex_of, plain-name name can.1)
words_plain (Once (Begin (GetJob name))) can = search (written, plain-name name can.1)
words_plain (Once (Begin (DropJob name))) can = search (written, plain-name name can.1)
words_plain (Once (BeginAt profile name bytes)) can =
    search (written, plain-hex_of, plain-name name can.1, plain-decimal profile (omega (arith, can.0.0)))
words_plain (Once (Alter provider object stripe place symbol)) can =
    search (arith, written, plain-decimal, can)
words_plain (Once (Lose provider object stripe)) can = search (arith, written, plain-decimal, can)
words_plain (Once (Step job)) can = search (written, plain-decimal job (omega (arith, can)))
words_plain (RunJob job) can = search (written, plain-decimal job (omega (arith, can)))
words_plain (Once Continue) can = absurd can
words_plain (Once event) can = search (written, plain-hex_of)

words_some : (command : Instruction) → CanBeSpelled command → 0 < length (words_of command)
words_some (Once Continue) can = absurd can
words_some (Once (Begin AuditJob)) can = omega arith
words_some (Once event) can = omega arith
words_some (RunJob job) can = omega arith

-- and they spell it
words_spell : (command : Instruction) → CanBeSpelled command → SpellsCommand (words_of command) command
words_spell (Once (Init s)) can = (
  decimal s.n,
  decimal s.l,
  decimal s.b,
  decimal s.profile,
  decimal s.rounds,
  decimal s.picks,
  decimal s.tolerance,
  encode_lower s.master,
  refl,
  number-decimal 8 s.n can.0 (omega (arith, can.0)),
  number-decimal 8 s.l can.1 (omega (arith, can.1)),
  number-decimal 8 s.b can.2 (omega (arith, can.2)),
  number-decimal 8 s.profile can.3 (omega (arith, can.3)),
  number-decimal 8 s.rounds can.4 (omega (arith, can.4)),
  number-decimal 8 s.picks can.5 (omega (arith, can.5)),
  number-decimal 16 s.tolerance can.6 (omega (arith, can.6)),
  key-encode s.master can.7,
)
words_spell (Once (Begin (PutJob name bytes))) can = (hex_of bytes, refl, hex-hex_of bytes can.0.1)
words_spell (Once (BeginAt profile name bytes)) can = (
  hex_of bytes,
  decimal profile,
  refl,
  hex-hex_of bytes can.0.1.1,
  number-decimal 8 profile can.0.0 (omega (arith, can.0.0)),
)
words_spell (Once (Step job)) can = (decimal job, refl, number-decimal 32 job can (omega (arith, can)))
words_spell (RunJob job) can = (decimal job, refl, number-decimal 32 job can (omega (arith, can)))
words_spell (Once (Alter provider object stripe place symbol)) can = (
  decimal provider,
  decimal object,
  decimal stripe,
  decimal place,
  decimal symbol,
  refl,
  number-decimal 32 provider can.0 (omega (arith, can.0)),
  number-decimal 64 object can.1 (omega (arith, can.1)),
  number-decimal 32 stripe can.2 (omega (arith, can.2)),
  number-decimal 32 place can.3 (omega (arith, can.3)),
  number-decimal 128 symbol can.4 can.4,
)
words_spell (Once (Lose provider object stripe)) can = (
  decimal provider,
  decimal object,
  decimal stripe,
  refl,
  number-decimal 32 provider can.0 (omega (arith, can.0)),
  number-decimal 64 object can.1 (omega (arith, can.1)),
  number-decimal 32 stripe can.2 (omega (arith, can.2)),
)
words_spell (Once (Stop picks)) can = (hex_of picks, refl, hex-hex_of picks can)
words_spell (Once Continue) can = absurd can
words_spell (Once event) can = refl

-- ---- a whole schedule

body_line : (ws : List Word) → 0 < length ws → AllByRecursion IsPlain ws → Ends (body ws)
body_line [] some all = absurd (omega arith)
body_line (word ∷ ws) some all = body-ends word ws all

-- the lines of commands that can be spelled are a schedule of them
pub spelling_is : (commands : List Instruction) → AllByRecursion CanBeSpelled commands →
    IsSchedule (schedule_bytes commands) commands
spelling_is [] can = inl (tt, refl)
spelling_is (command ∷ commands) can =
    let ws = words_of command in
    let plain = words_plain command can.0 in
    let spells : SpellsCommand (words (body ws)) command =
    rw (words-body ws plain) (words_spell command can.0) in
    let ends = body_line ws (words_some command can.0) plain in
    rw (lines-line (body ws) (schedule_bytes commands) ends)
    (inr (command, commands, refl, spells, spelling_is commands can.1))
