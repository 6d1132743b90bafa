-- The pieces, words and lines of joined lists.
use Rattle.schedule_text.proofs.Words.{◌≡◌, ◌≢◌, ℕ, zero, suc, ◌<◌, ◌≤◌, Bool, true, false, cond, List, [], ◌∷◌, ◌++◌, length, take, drop, refl, sym, ◌∙◌, ap, arith, inl, inr, ◌⊎◌, slice_index, filter, eqb-true, eq-eqb, nat_tests, Nowhere, Passes, begun_piece, pieces, has_bytes, words}
use Rattle.std.specs.Prelude.{◌==◌}
use Rattle.memchr.specs.Find.{is_byte}

-- no byte is c
abbrev pub Free : ℕ → List ℕ → Type 0
Free c [] = Unit {0}
Free c (b ∷ bytes) = (b ≢ c) × Free c bytes

-- other numbers are told apart
pub differ : (a b : ℕ) → a ≢ b → (a == b) ≡ false
differ a b other = grind (arith, nat_tests)

-- a text in which the byte is nowhere
pub free_from : (c : ℕ) (text : List ℕ) → Nowhere (Passes (is_byte c) text) 0 (length text) → Free c text
free_from c [] none = tt
free_from c (b ∷ text) none = (
  (λ same. none 0 (omega arith) (omega arith) (eq-eqb b c same)),
  free_from c text (λ k low high. none (suc k) (omega arith) (omega arith)),
)

-- the front before the first place of the byte
pub free_before : (c : ℕ) (text : List ℕ) (end : ℕ) → end ≤ length text →
    Nowhere (Passes (is_byte c) text) 0 end → Free c (take end text)
free_before c text zero within none = tt
free_before c [] (suc end) within none = tt
free_before c (b ∷ text) (suc end) within none = (
  (λ same. none 0 (omega arith) (omega arith) (eq-eqb b c same)),
  free_before c text end (omega arith) (λ k low high. none (suc k) (omega arith) (omega arith)),
)

-- the text around a place of the byte
pub around : (c : ℕ) (text : List ℕ) (end : ℕ) → end < length text → Passes (is_byte c) text end →
    text ≡ take end text ++ c ∷ drop (suc end) text
around c [] end within here = absurd (omega arith)
around c (b ∷ text) zero within here = ap (λ (x : ℕ). x ∷ text) (eqb-true b c here)
around c (b ∷ text) (suc end) within here = ap (λ (x : List ℕ). b ∷ x) (around c text end (omega arith) here)

-- ---- pieces

-- a text without the separator is one piece
pub pieces-free : (c : ℕ) (text : List ℕ) → Free c text → pieces c text ≡ text ∷ []
pieces-free c [] free = refl
pieces-free c (b ∷ text) free = rw (differ b c free.0, pieces-free c text free.1) refl

-- a front without the separator, and the separator, are the first piece
pub pieces-append : (c : ℕ) (front rest : List ℕ) → Free c front →
    pieces c (front ++ c ∷ rest) ≡ front ∷ pieces c rest
pieces-append c [] rest free = rw (eq-eqb c c refl) refl
pieces-append c (b ∷ front) rest free = rw (differ b c free.0, pieces-append c front rest free.1) refl

-- ---- words

-- a text without a space is one word
pub words-free : (word : List ℕ) → 0 < length word → Free 32 word → words word ≡ word ∷ []
words-free [] some free = absurd (omega arith)
words-free (b ∷ word) some free =
    ap (λ (ps : List (List ℕ)). filter has_bytes ps) (pieces-free 32 (b ∷ word) free)

-- a word and a space before a text are its first word
pub words-append : (word rest : List ℕ) → 0 < length word → Free 32 word →
    words (word ++ 32 ∷ rest) ≡ word ∷ words rest
words-append [] rest some free = absurd (omega arith)
words-append (b ∷ word) rest some free =
    ap (λ (ps : List (List ℕ)). filter has_bytes ps) (pieces-append 32 (b ∷ word) rest free)

-- the first word, up to the first space
pub words-first : (line : List ℕ) (end : ℕ) → 0 < length line → slice_index line 0 ≢ 32 → end < length line
    → Nowhere (Passes (is_byte 32) line) 0 end → Passes (is_byte 32) line end →
    words line ≡ take end line ∷ words (drop end line)
words-first [] end some front within none here = absurd (omega arith)
words-first (b ∷ line) zero some front within none here = absurd (front (eqb-true b 32 here))
words-first (b ∷ line) (suc end) some front within none here =
    let text = b ∷ line in
    let rest = drop (suc (suc end)) text in
    let behind : drop (suc end) text ≡ 32 ∷ rest = split text (suc end) within here in
    ap (λ (t : List ℕ). words t) (around 32 text (suc end) within here)
    ∙ words-append (take (suc end) text) rest (omega arith) (free_before 32 text (suc end) (omega arith) none)
    ∙ ap (λ (t : List ℕ). take (suc end) text ∷ words t) (sym behind)
  where
    split : (text : List ℕ) (end : ℕ) → end < length text → Passes (is_byte 32) text end →
        drop end text ≡ 32 ∷ drop (suc end) text
    split [] end within here = absurd (omega arith)
    split (x ∷ text) zero within here = ap (λ (y : ℕ). y ∷ text) (eqb-true x 32 here)
    split (x ∷ text) (suc end) within here = split text end (omega arith) here

-- what is left begins with no space
pub front_is : (left : List ℕ) → 0 < length left → (length left ≡ 0) ⊎ (slice_index left 0 ≢ 32) →
    slice_index left 0 ≢ 32
front_is left some (inl none) = absurd (omega arith)
front_is left some (inr other) = other

-- there is a piece
pieces-some : (c : ℕ) (text : List ℕ) → (piece : List ℕ) × (others : List (List ℕ)) ×
    (pieces c text ≡ piece ∷ others)
pieces-some c [] = ([], [], refl)
pieces-some c (b ∷ text) = at (b == c) (pieces c text) (pieces-some c text)
  where
    at : (test : Bool) (all : List (List ℕ)) →
        ((piece : List ℕ) × (others : List (List ℕ)) × (all ≡ piece ∷ others))
        → (piece : List ℕ) × (others : List (List ℕ)) ×
        (cond test ([] ∷ all) (begun_piece b all) ≡ piece ∷ others)
    at true all some = ([], all, refl)
    at false all some = (b ∷ some.0, some.1, ap (λ (ps : List (List ℕ)). begun_piece b ps) some.2)

-- and a word, where no space is at the front
pub words-some : (line : List ℕ) → 0 < length line → slice_index line 0 ≢ 32 →
    (word : List ℕ) × (others : List (List ℕ)) × (words line ≡ word ∷ others)
words-some [] some front = absurd (omega arith)
words-some (b ∷ line) some front =
    let rest = pieces-some 32 line in (
      b ∷ rest.0,
      filter has_bytes rest.1,
      ap (λ (test : Bool). filter has_bytes
          (cond test ([] ∷ pieces 32 line) (begun_piece b (pieces 32 line)))) (differ b 32 front)
          ∙ ap (λ (ps : List (List ℕ)). filter has_bytes (begun_piece b ps)) rest.2,
    )

-- a line of which more than spaces is left has a word
pub words-left : (line left : List ℕ) → words left ≡ words line → (length left ≡ 0) ⊎ (slice_index left 0 ≢ 32)
    → 0 < length left → (word : List ℕ) × (others : List (List ℕ)) × (words line ≡ word ∷ others)
words-left line left same front some =
    let word = words-some left some (front_is left some front) in
    (word.0, word.1, sym same ∙ word.2)
