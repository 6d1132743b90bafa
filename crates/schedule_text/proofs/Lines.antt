-- The first line of a text.
use Rattle.schedule_text.proofs.Words.{◌≡◌, ℕ, suc, ◌+◌, ◌-◌, ◌<◌, Bool, true, false, cond, List, [], ◌∷◌, ◌++◌, length, take, drop, refl, sym, ◌∙◌, ap, subst, arith, length-drop, slice_index, take_all, Nowhere, Passes, pieces, without_returns, lines, without_return}
use Rattle.std.specs.Prelude.{◌==◌, ◌&&◌}
use Rattle.std.proofs.Math.Numerals.{add-one}
use Rattle.memchr.specs.Find.{is_byte}
use Rattle.schedule_text.proofs.Pieces.{Free, differ, free_before, free_from, around, pieces-free, pieces-append}

-- a line by the place of its last byte
without_return-last : (line : List ℕ) (last : ℕ) → length line ≡ suc last →
    without_return line ≡ cond (slice_index line last == 13) (take last line) line
without_return-last line last is =
    let place : length line - 1 ≡ last = omega (arith, is) in
    ap (λ (n : ℕ). cond (slice_index line n == 13) (take n line) line) place

-- one byte more at the front
without_return-suc : (b c : ℕ) (line : List ℕ) → without_return (b ∷ c ∷ line) ≡ b ∷ without_return (c ∷ line)
without_return-suc b c line = without_return-last (b ∷ c ∷ line) (suc (length line)) refl
    ∙ push (slice_index (c ∷ line) (length line) == 13) (take (length line) (c ∷ line)) (c ∷ line)
    ∙ ap (λ (l : List ℕ). b ∷ l) (sym (without_return-last (c ∷ line) (length line) refl))
  where
    push : (test : Bool) (x y : List ℕ) → cond test (b ∷ x) (b ∷ y) ≡ b ∷ cond test x y
    push true x y = refl
    push false x y = refl

free-without_return : (line : List ℕ) → Free 10 line → Free 10 (without_return line)
free-without_return [] free = tt
free-without_return (b ∷ []) free = at (b == 13)
  where
    at : (test : Bool) → Free 10 (cond test [] (b ∷ []))
    at true = tt
    at false = free
free-without_return (b ∷ c ∷ line) free =
    subst (Free 10) (sym (without_return-suc b c line)) (free.0, free-without_return (c ∷ line) free.1)

-- a test that does not let pass
pub keep : (p q : Bool) (x y : List ℕ) → q ≡ false → cond (p && q) x y ≡ y
keep true true x y fails = absurd cc
keep true false x y fails = refl
keep false q x y fails = refl

-- the next byte is no newline
pub next : (text : List ℕ) → Free 10 text → (slice_index text 0 == 10) ≡ false
next [] free = refl
next (c ∷ text) free = differ c 10 free.0

-- no newline, so nothing is dropped
without_returns-free : (text : List ℕ) → Free 10 text → without_returns text ≡ text
without_returns-free [] free = refl
without_returns-free (b ∷ text) free = keep (b == 13) (slice_index text 0 == 10) (without_returns text)
    (b ∷ without_returns text) (next text free.1)
    ∙ ap (λ (t : List ℕ). b ∷ t) (without_returns-free text free.1)

-- up to the first newline
without_returns-append : (line rest : List ℕ) → Free 10 line →
    without_returns (line ++ 10 ∷ rest) ≡ without_return line ++ 10 ∷ without_returns rest
without_returns-append [] rest free = refl
without_returns-append (b ∷ []) rest free = at (b == 13) (without_returns rest)
  where
    at : (test : Bool) (others : List ℕ) → cond (test && true) (10 ∷ others) (b ∷ 10 ∷ others)
        ≡ cond test [] (b ∷ []) ++ 10 ∷ others
    at true others = refl
    at false others = refl
without_returns-append (b ∷ c ∷ line) rest free =
    let others = c ∷ line ++ 10 ∷ rest in
    keep (b == 13) (c == 10) (without_returns others) (b ∷ without_returns others) (differ c 10 free.1.0)
    ∙ ap (λ (t : List ℕ). b ∷ t) (without_returns-append (c ∷ line) rest free.1)
    ∙ ap (λ (l : List ℕ). l ++ 10 ∷ without_returns rest) (sym (without_return-suc b c line))

-- a text without a newline is one line
pub lines-free : (text : List ℕ) → Free 10 text → lines text ≡ text ∷ []
lines-free text free =
    ap (λ (t : List ℕ). pieces 10 t) (without_returns-free text free) ∙ pieces-free 10 text free

-- a line and its newline
pub lines-append : (line rest : List ℕ) → Free 10 line →
    lines (line ++ 10 ∷ rest) ≡ without_return line ∷ lines rest
lines-append line rest free = ap (λ (t : List ℕ). pieces 10 t) (without_returns-append line rest free)
    ∙ pieces-append 10 (without_return line) (without_returns rest) (free-without_return line free)

-- up to the first place of a newline
pub lines-first : (text : List ℕ) (end : ℕ) → end < length text → Nowhere (Passes (is_byte 10) text) 0 end →
    Passes (is_byte 10) text end →
    lines text ≡ without_return (take end text) ∷ lines (take (length text - (end + 1)) (drop (end + 1) text))
lines-first text end within none here = rw (
  take_all (length text - (end + 1)) (drop (end + 1) text) (omega (arith, length-drop (end + 1) text)),
  add-one end,
)
    (ap (λ (t : List ℕ). lines t) (around 10 text end within here)
    ∙ lines-append (take end text) (drop (suc end) text) (free_before 10 text end (omega arith) none))

-- with no newline
pub lines-none : (text : List ℕ) → Nowhere (Passes (is_byte 10) text) 0 (length text) → lines text ≡ text ∷ []
lines-none text none = lines-free text (free_from 10 text none)
