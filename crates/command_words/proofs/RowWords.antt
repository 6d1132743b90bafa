-- What the words of a row spell, word by word.
use Rattle.std.proofs.Common.{◌≡◌, ℕ, zero, suc, ◌<◌, ◌≤◌, List, [], ◌∷◌, ◌++◌, length, get_or, drop, Option, Some, None, Result, Ok, Err, MatchOption, IfOk, String, arith, Bool, true, false, refl, sym, subst}
use mathlib.Core.Bool.{not}
use Rattle.std.specs.Str.{bytes_eq}
use Rattle.std.proofs.lemmas.Slice.Eq.{bytes_eq-Decides}
use Rattle.std.specs.String.{string_bytes}
use Rattle.std.specs.declared.alloc.Global.{Global}
use Rattle.std.specs.Prelude.{codes}
use Rattle.command_defs.specs.Words.{IsNumberWord, IsSymbolWord, AreSymbolWords}
use Rattle.command_defs.specs.Row.{IsRowForm}

abbrev pub Word : Type 0
Word = String Global

-- one word more
pub AreSymbolWords-push : (words : List Word) (symbols : List (Option ℕ)) (word : Word) (symbol : Option ℕ) →
    AreSymbolWords words symbols → IsSymbolWord (string_bytes word) symbol →
    AreSymbolWords (words ++ word ∷ []) (symbols ++ symbol ∷ [])
AreSymbolWords-push [] [] word symbol before here = (here, tt)
AreSymbolWords-push (w ∷ words) (s ∷ symbols) word symbol before here =
    (before.0, AreSymbolWords-push words symbols word symbol before.1 here)
AreSymbolWords-push [] (s ∷ symbols) word symbol before here = absurd before
AreSymbolWords-push (w ∷ words) [] word symbol before here = absurd before

-- each word spells a symbol
pub AreSymbolWords-at : (words : List Word) (symbols : List (Option ℕ)) (i : ℕ) (word : Word) →
    AreSymbolWords words symbols → i < length words → word ≡ get_or words i word →
    (symbol : Option ℕ) × IsSymbolWord (string_bytes word) symbol
AreSymbolWords-at [] symbols i word all within is = absurd (omega arith)
AreSymbolWords-at (w ∷ words) [] i word all within is = absurd all
AreSymbolWords-at (w ∷ words) (s ∷ symbols) zero word all within is = rw is (s, all.0)
AreSymbolWords-at (w ∷ words) (s ∷ symbols) (suc i) word all within is =
    AreSymbolWords-at words symbols i word all.1 (omega arith) is

-- the five parts of the words make the form
pub IsRowForm-from_parts : (words : List Word) (command first second third : Word) (n l b : ℕ)
    (seen : List (Option ℕ))
    → 4 ≤ length words → command ≡ get_or words 0 command → first ≡ get_or words 1 first →
    second ≡ get_or words 2 second → third ≡ get_or words 3 third
    → string_bytes command ≡ codes "row" → IsNumberWord (string_bytes first) n →
    IsNumberWord (string_bytes second) l → IsNumberWord (string_bytes third) b
    → length (drop 4 words) ≡ n → AreSymbolWords (drop 4 words) seen → IsRowForm words n l b seen
IsRowForm-from_parts (c ∷ f ∷ s ∷ t ∷ words) command first second third n l b seen long is_c is_f is_s is_t row n_word l_word b_word count symbols =
    ((rw (← is_c) row), (rw (← is_f) n_word), (rw (← is_s) l_word), (rw (← is_t) b_word), count, symbols)
IsRowForm-from_parts [] command first second third n l b seen long is_c is_f is_s is_t row n_word l_word b_word count symbols =
    absurd (omega arith)
IsRowForm-from_parts (c ∷ []) command first second third n l b seen long is_c is_f is_s is_t row n_word l_word b_word count symbols =
    absurd (omega arith)
IsRowForm-from_parts (c ∷ f ∷ []) command first second third n l b seen long is_c is_f is_s is_t row n_word l_word b_word count symbols =
    absurd (omega arith)
IsRowForm-from_parts (c ∷ f ∷ s ∷ []) command first second third n l b seen long is_c is_f is_s is_t row n_word l_word b_word count symbols =
    absurd (omega arith)

-- texts that `!=` does not tell apart are the same
pub same_from_ne : (text other : List ℕ) → false ≡ not (bytes_eq text other) → text ≡ other
same_from_ne text other not_different =
    (bytes_eq-Decides text other).0 (equal (bytes_eq text other) not_different)
  where
    equal : (test : Bool) → false ≡ not test → test ≡ true
    equal true is = refl
    equal false is = cc

-- what one text spells, the same text spells
pub spelled_by : {text other : List ℕ} {number : ℕ} → text ≡ other → IsNumberWord other number →
    IsNumberWord text number
spelled_by {text} {other} {number} is word = subst (λ (t : List ℕ). IsNumberWord t number) (sym is) word

-- the symbols of so many words
pub counted-symbols : {V E : Type 0} (items : V → List (Option ℕ)) (count : ℕ) (words : List Word)
    (read : Result (Option V) E) → length words ≡ count
    → IfOk read (λ found. MatchOption found ((symbols : List (Option ℕ)) → AreSymbolWords words symbols → ⊥)
    (λ symbols. AreSymbolWords words (items symbols)))
    → IfOk read (λ found. MatchOption found
    ((symbols : List (Option ℕ)) → length words ≡ count → AreSymbolWords words symbols → ⊥)
    (λ symbols. (length words ≡ count) × AreSymbolWords words (items symbols)))
counted-symbols items count words (Ok (Some symbols)) so_many are = (so_many, are)
counted-symbols items count words (Ok None) so_many none = λ symbols _ are. none symbols are
counted-symbols items count words (Err fault) so_many _ = tt
