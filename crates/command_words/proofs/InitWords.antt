-- The numbers of an `init`, by the places of their words.
use Rattle.std.proofs.Common.{◌≡◌, ◌≤◌, ◌<◌, List, [], ◌∷◌, length, get_or, arith}
use Rattle.std.specs.Prelude.{codes}
use Rattle.std.specs.String.{string_bytes}
use Rattle.command_defs.specs.Words.{IsNumberWord}
use Rattle.command_defs.specs.Forms.{Numbers, IsInitForm}
use Rattle.command_words.proofs.RowWords.{Word}

-- what a word of an `init` spells at each place
pub record SpellsInit (words : List Word) (numbers : Numbers) (word : Word) : Type 0 where
  pub command : word ≡ get_or words 0 word → string_bytes word ≡ codes "init"
  pub n : word ≡ get_or words 1 word → IsNumberWord (string_bytes word) numbers.n
  pub l : word ≡ get_or words 2 word → IsNumberWord (string_bytes word) numbers.l
  pub b : word ≡ get_or words 3 word → IsNumberWord (string_bytes word) numbers.b
  pub profile : word ≡ get_or words 4 word → IsNumberWord (string_bytes word) numbers.profile
  pub rounds : word ≡ get_or words 5 word → IsNumberWord (string_bytes word) numbers.rounds
  pub picks : word ≡ get_or words 6 word → IsNumberWord (string_bytes word) numbers.picks
  pub tolerance : word ≡ get_or words 7 word → IsNumberWord (string_bytes word) numbers.tolerance

-- the words of an `init` spell its numbers
pub IsInitForm-spells : (words : List Word) (numbers : Numbers) (word : Word) → IsInitForm words numbers →
    SpellsInit words numbers word
IsInitForm-spells (c ∷ n ∷ l ∷ b ∷ profile ∷ rounds ∷ picks ∷ tolerance ∷ []) numbers word form = record {
  command = λ is. rw is form.0;
  n = λ is. rw is form.1.0;
  l = λ is. rw is form.1.1;
  b = λ is. rw is form.1.2;
  profile = λ is. rw is form.1.3;
  rounds = λ is. rw is form.1.4;
  picks = λ is. rw is form.1.5;
  tolerance = λ is. rw is form.1.6;
}
IsInitForm-spells [] numbers word form = absurd form
IsInitForm-spells (c ∷ []) numbers word form = absurd form.1
IsInitForm-spells (c ∷ n ∷ []) numbers word form = absurd form.1
IsInitForm-spells (c ∷ n ∷ l ∷ []) numbers word form = absurd form.1
IsInitForm-spells (c ∷ n ∷ l ∷ b ∷ []) numbers word form = absurd form.1
IsInitForm-spells (c ∷ n ∷ l ∷ b ∷ profile ∷ []) numbers word form = absurd form.1
IsInitForm-spells (c ∷ n ∷ l ∷ b ∷ profile ∷ rounds ∷ []) numbers word form = absurd form.1
IsInitForm-spells (c ∷ n ∷ l ∷ b ∷ profile ∷ rounds ∷ picks ∷ []) numbers word form = absurd form.1
IsInitForm-spells (c ∷ n ∷ l ∷ b ∷ profile ∷ rounds ∷ picks ∷ tolerance ∷ more ∷ words) numbers word form =
    absurd form.1

-- a list of eight words is its eight items
pub eight_words : (words : List Word) (a b c d e f g h : Word) → 8 ≤ length words → length words < 9
    → a ≡ get_or words 0 a → b ≡ get_or words 1 b → c ≡ get_or words 2 c → d ≡ get_or words 3 d
    → e ≡ get_or words 4 e → f ≡ get_or words 5 f → g ≡ get_or words 6 g → h ≡ get_or words 7 h
    → words ≡ a ∷ b ∷ c ∷ d ∷ e ∷ f ∷ g ∷ h ∷ []
eight_words (w0 ∷ w1 ∷ w2 ∷ w3 ∷ w4 ∷ w5 ∷ w6 ∷ w7 ∷ []) a b c d e f g h least below at_a at_b at_c at_d at_e at_f at_g at_h =
    cc
eight_words [] a b c d e f g h least below _ _ _ _ _ _ _ _ = absurd (omega arith)
eight_words (w0 ∷ []) a b c d e f g h least below _ _ _ _ _ _ _ _ = absurd (omega arith)
eight_words (w0 ∷ w1 ∷ []) a b c d e f g h least below _ _ _ _ _ _ _ _ = absurd (omega arith)
eight_words (w0 ∷ w1 ∷ w2 ∷ []) a b c d e f g h least below _ _ _ _ _ _ _ _ = absurd (omega arith)
eight_words (w0 ∷ w1 ∷ w2 ∷ w3 ∷ []) a b c d e f g h least below _ _ _ _ _ _ _ _ = absurd (omega arith)
eight_words (w0 ∷ w1 ∷ w2 ∷ w3 ∷ w4 ∷ []) a b c d e f g h least below _ _ _ _ _ _ _ _ = absurd (omega arith)
eight_words (w0 ∷ w1 ∷ w2 ∷ w3 ∷ w4 ∷ w5 ∷ []) a b c d e f g h least below _ _ _ _ _ _ _ _ =
    absurd (omega arith)
eight_words (w0 ∷ w1 ∷ w2 ∷ w3 ∷ w4 ∷ w5 ∷ w6 ∷ []) a b c d e f g h least below _ _ _ _ _ _ _ _ =
    absurd (omega arith)
eight_words (w0 ∷ w1 ∷ w2 ∷ w3 ∷ w4 ∷ w5 ∷ w6 ∷ w7 ∷ more ∷ words) a b c d e f g h least below _ _ _ _ _ _ _ _ =
    absurd (omega arith)
