-- The text of an outcome that writes one line has no newline inside.
use Rattle.line_laws.proofs.Words.{◌≡◌, ◌≢◌, ℕ, ◌-◌, ◌/◌, ◌%◌, Bool, true, List, [], ◌∷◌, ◌++◌, take, refl, arith, not, codes, ◌&&◌, AllByRecursion, flat_map, decimal, nat_tests, Refusal, BadJournal, Answer, Got, Audited, Repaired, Lost, ProviderFault, Scrubbed, Packed, Outcome, Refused, Begun, Waiting, Ended, Listed, Continued, line, then_number, hex_digit, hex, hex_or_dash, refusal_text, answer_text, lines_of, WritesOneLine, HasNoNewline}
use Rattle.std.proofs.Common.{length}
use Rattle.std.specs.Prelude.{◌==◌}
use Rattle.line_laws.proofs.Digits.{IsDigit, digits-decimal}

-- no newline, by a test
abbrev is_free : List ℕ → Bool
is_free [] = true
is_free (b ∷ bytes) = not (b == 10) && is_free bytes

pub by-test : (x : List ℕ) → is_free x ≡ true → HasNoNewline x
by-test [] free = tt
by-test (b ∷ bytes) free = (grind (arith, nat_tests), by-test bytes (grind (arith, nat_tests)))

append : (x y : List ℕ) → HasNoNewline x → HasNoNewline y → HasNoNewline (x ++ y)
append [] y free rest = rest
append (b ∷ x) y free rest = (free.0, append x y free.1 rest)

digits : (ds : List ℕ) → AllByRecursion IsDigit ds → HasNoNewline ds
digits [] all = tt
digits (d ∷ ds) all = ((λ e. omega (arith, e, all.0)), digits ds all.1)

number : (n : ℕ) → HasNoNewline (then_number n)
number n = ((λ e. omega (arith, e)), digits (decimal n) (digits-decimal n))

numbers : (ns : List ℕ) → HasNoNewline (flat_map then_number ns)
numbers [] = tt
numbers (n ∷ ns) = append (then_number n) (flat_map then_number ns) (number n) (numbers ns)

digit : (d : ℕ) → hex_digit d ≢ 10
digit d same = grind (arith, nat_tests)

bytes-hex : (bytes : List ℕ) → HasNoNewline (hex bytes)
bytes-hex [] = tt
bytes-hex (b ∷ bytes) = (digit (b / 16), (digit (b % 16), bytes-hex bytes))

bytes-word : (bytes : List ℕ) → HasNoNewline (hex_or_dash bytes)
bytes-word [] = by-test (codes "-") refl
bytes-word (b ∷ bytes) = bytes-hex (b ∷ bytes)

-- words, and what is behind them
behind : (x y : List ℕ) → is_free x ≡ true → HasNoNewline y → HasNoNewline (x ++ y)
behind x y free rest = append x y (by-test x free) rest

refusal : (why : Refusal) → HasNoNewline (refusal_text why)
refusal (BadJournal at) = behind (codes "BadJournal") (then_number at) refl (number at)
refusal why = by-test (refusal_text why) refl

answer : (how : Answer) → HasNoNewline (answer_text how)
answer (Got bytes) = behind (codes "got ") (hex_or_dash bytes) refl (bytes-word bytes)
answer (Audited n undecided counts) =
    let named : List ℕ = codes "audited" ++ then_number n in
    let open_word : List ℕ = named ++ codes " undecided" in
    let both : List ℕ = open_word ++ then_number undecided in
    let free = append named (codes " undecided") (behind (codes "audited") (then_number n) refl (number n))
    (by-test (codes " undecided") refl) in
    let clear = append both (codes " counts")
    (append open_word (then_number undecided) free (number undecided)) (by-test (codes " counts") refl) in
    append (both ++ codes " counts") (flat_map then_number counts) clear (numbers counts)
answer (Repaired n) = behind (codes "repaired") (then_number n) refl (number n)
answer (Lost stripe row) = append (codes "lost" ++ then_number stripe) (then_number row)
    (behind (codes "lost") (then_number stripe) refl (number stripe)) (number row)
answer (ProviderFault p) = behind (codes "provider fault") (then_number p) refl (number p)
answer (Scrubbed stripes symbols blocks) =
    let named : List ℕ = codes "scrubbed" ++ then_number stripes in
    let free = append named (codes " symbols")
    (behind (codes "scrubbed") (then_number stripes) refl (number stripes))
    (by-test (codes " symbols") refl) in
    append (named ++ codes " symbols") (flat_map then_number symbols) free (numbers symbols)
answer (Packed before after) = append (codes "packed" ++ then_number before) (then_number after)
    (behind (codes "packed") (then_number before) refl (number before)) (number after)
answer how = by-test (answer_text how) refl

-- a text without its last byte
abbrev without_end : List ℕ → List ℕ
without_end text = take (length text - 1) text

-- a line of words, and what is behind them
words : (x y : List ℕ) → is_free x ≡ true → HasNoNewline y →
    (text : List ℕ) × HasNoNewline text × (line (x ++ y) ≡ line text)
words x y free rest = (x ++ y, behind x y free rest, refl)

-- an outcome that writes one line, and the text of it
pub one-line : (outcome : Outcome) → WritesOneLine outcome →
    (x : List ℕ) × HasNoNewline x × (lines_of outcome ≡ line x)
one-line (Refused why) one = words (codes "refused ") (refusal_text why) refl (refusal why)
one-line (Begun job) one = words (codes "job") (then_number job) refl (number job)
one-line (Waiting holder) one = words (codes "waiting") (then_number holder) refl (number holder)
one-line (Ended how) one = (answer_text how, answer how, refl)
one-line (Listed files) one = absurd one
one-line Continued one = absurd one
one-line outcome one = (without_end (lines_of outcome), by-test (without_end (lines_of outcome)) refl, refl)
