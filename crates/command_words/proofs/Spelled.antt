-- The one command that words may spell, read off the words.
use Rattle.std.proofs.Common.{◌≡◌, ℕ, List, [], ◌∷◌, Option, Some, None, Bool, true, false, cond, sym, ◌∙◌, ap, refl, subst, arith}
use Rattle.std.proofs.lemmas.Slice.Eq.{bytes_eq-Decides}
use Rattle.std.specs.Prelude.{codes, if◌then◌else◌}
use Rattle.std.specs.Str.{bytes_eq}
use Rattle.std.specs.Str.Parse.{IsNumeral, digits_value}
use Rattle.std.specs.String.{string_bytes}
use Rattle.command_defs.specs.Words.{IsSymbolWord, AreSymbolWords}
use Rattle.command_defs.specs.Forms.{Numbers, Command, RowOf, InitWith, PutUnder, PutAt, GetOf, DropOf, ListAll, AuditAll, RepairAll, UpgradeJournal, ScrubAll, PackJournal, IsForm, IsInitForm, IsPutAtForm, AreNumbers, IsNamedForm, IsBareForm}
use Rattle.command_defs.specs.Row.{IsRowForm}
use Rattle.command_words.proofs.RowWords.{Word}

-- the number of a word
abbrev number : Word → ℕ
number word = digits_value 10 (string_bytes word)

-- the symbol of a text
abbrev symbol : List ℕ → Option ℕ
symbol text = if bytes_eq text (codes "-") then None else Some (digits_value 10 text)

-- the symbols of words, one for each
abbrev symbols : List Word → List (Option ℕ)
symbols [] = []
symbols (word ∷ words) = symbol (string_bytes word) ∷ symbols words

-- the row of the words behind `row`
abbrev row : List Word → Option Command
row (n ∷ l ∷ b ∷ words) = Some (RowOf (number n) (number l) (number b) (symbols words))
row words = None

-- the setup of the words behind `init`
abbrev init : List Word → Option Command
init (n ∷ l ∷ b ∷ profile ∷ rounds ∷ picks ∷ tolerance ∷ []) = Some (InitWith (record {
  n = number n;
  l = number l;
  b = number b;
  profile = number profile;
  rounds = number rounds;
  picks = number picks;
  tolerance = number tolerance;
}))
init words = None

-- the command of a name
abbrev named : (List ℕ → Command) → List Word → Option Command
named made (name ∷ []) = Some (made (string_bytes name))
named made words = None

-- the put of a name, or of a name and the number of a profile
abbrev put : List Word → Option Command
put (name ∷ []) = Some (PutUnder (string_bytes name))
put (name ∷ profile ∷ []) = Some (PutAt (string_bytes name) (number profile))
put words = None

-- the command of a first word and the words behind it
abbrev by_word : List ℕ → List Word → Option Command
by_word first words = if bytes_eq first (codes "row") then row words else if bytes_eq first (codes "init")
    then init words else if bytes_eq first (codes "put") then put words else if bytes_eq first (codes "get")
    then named (λ name. GetOf name) words else if bytes_eq first (codes "drop") then named
    (λ name. DropOf name) words else if bytes_eq first (codes "list") then Some ListAll else if bytes_eq first
    (codes "audit") then Some AuditAll else if bytes_eq first (codes "repair") then Some RepairAll else if
    bytes_eq first (codes "upgrade") then Some UpgradeJournal else if bytes_eq first (codes "scrub") then Some
    ScrubAll else if bytes_eq first (codes "pack") then Some PackJournal else None

-- the command of the words
abbrev spelled : List Word → Option Command
spelled [] = None
spelled (word ∷ words) = by_word (string_bytes word) words

-- a symbol word is read off as its symbol
symbol-word : (text : List ℕ) (s : Option ℕ) → IsSymbolWord text s → symbol text ≡ s
symbol-word text None word = ap (λ (t : List ℕ). symbol t) word
symbol-word text (Some s) word = at (bytes_eq text (codes "-")) refl
  where
    no_digit : IsNumeral 10 (codes "-") → ⊥
    no_digit numeral = omega (arith, numeral.1.0)

    at : (test : Bool) → bytes_eq text (codes "-") ≡ test →
        cond test None (Some (digits_value 10 text)) ≡ Some s
    at true is = absurd (no_digit
        (subst (λ (t : List ℕ). IsNumeral 10 t) ((bytes_eq-Decides text (codes "-")).0 is) word.numeral))
    at false is = ap (λ (n : ℕ). Some n) word.value

-- and so are symbol words
symbols-words : (words : List Word) (seen : List (Option ℕ)) → AreSymbolWords words seen →
    symbols words ≡ seen
symbols-words [] [] all = refl
symbols-words [] (s ∷ seen) all = absurd all
symbols-words (w ∷ words) [] all = absurd all
symbols-words (w ∷ words) (s ∷ seen) all = ap (λ (x : Option ℕ). x ∷ symbols words)
    (symbol-word (string_bytes w) s all.0)
    ∙ ap (λ (xs : List (Option ℕ)). s ∷ xs) (symbols-words words seen all.1)

-- the words of a row
spelled-row : (words : List Word) (n l b : ℕ) (seen : List (Option ℕ)) → IsRowForm words n l b seen →
    spelled words ≡ Some (RowOf n l b seen)
spelled-row (c ∷ f ∷ s ∷ t ∷ words) n l b seen form =
    ap (λ (text : List ℕ). by_word text (f ∷ s ∷ t ∷ words)) form.0
    ∙ cc (form.1.value, form.2.value, form.3.value, symbols-words words seen form.5)
spelled-row [] n l b seen form = absurd form
spelled-row (c ∷ []) n l b seen form = absurd form
spelled-row (c ∷ f ∷ []) n l b seen form = absurd form
spelled-row (c ∷ f ∷ s ∷ []) n l b seen form = absurd form

-- seven number words
init-words : (words : List Word) (numbers : Numbers) → AreNumbers words numbers →
    init words ≡ Some (InitWith numbers)
init-words (n ∷ l ∷ b ∷ profile ∷ rounds ∷ picks ∷ tolerance ∷ []) numbers all =
    ap (λ (x : Numbers). Some (InitWith x)) (λ i. record {
      n = all.0.value i;
      l = all.1.value i;
      b = all.2.value i;
      profile = all.3.value i;
      rounds = all.4.value i;
      picks = all.5.value i;
      tolerance = all.6.value i;
    })
init-words [] numbers all = absurd all
init-words (n ∷ []) numbers all = absurd all
init-words (n ∷ l ∷ []) numbers all = absurd all
init-words (n ∷ l ∷ b ∷ []) numbers all = absurd all
init-words (n ∷ l ∷ b ∷ profile ∷ []) numbers all = absurd all
init-words (n ∷ l ∷ b ∷ profile ∷ rounds ∷ []) numbers all = absurd all
init-words (n ∷ l ∷ b ∷ profile ∷ rounds ∷ picks ∷ []) numbers all = absurd all
init-words (n ∷ l ∷ b ∷ profile ∷ rounds ∷ picks ∷ tolerance ∷ more ∷ words) numbers all = absurd all

-- the words of an `init`
spelled-init : (words : List Word) (numbers : Numbers) → IsInitForm words numbers →
    spelled words ≡ Some (InitWith numbers)
spelled-init [] numbers form = absurd form
spelled-init (c ∷ words) numbers form =
    ap (λ (text : List ℕ). by_word text words) form.0 ∙ init-words words numbers form.1

-- a command word and a name
spelled-named : (words : List Word) (word name : List ℕ) (made : List ℕ → Command) →
    IsNamedForm word words name
    → ((n : Word) → by_word word (n ∷ []) ≡ Some (made (string_bytes n))) → spelled words ≡ Some (made name)
spelled-named (c ∷ n ∷ []) word name made form by =
    ap (λ (text : List ℕ). by_word text (n ∷ [])) form.0 ∙ by n
    ∙ ap (λ (text : List ℕ). Some (made text)) form.1
spelled-named [] word name made form by = absurd form
spelled-named (c ∷ []) word name made form by = absurd form
spelled-named (c ∷ n ∷ more ∷ words) word name made form by = absurd form

-- `put`, a name and the number of a profile
spelled-put_at : (words : List Word) (name : List ℕ) (profile : ℕ) → IsPutAtForm words name profile →
    spelled words ≡ Some (PutAt name profile)
spelled-put_at (c ∷ n ∷ p ∷ []) name profile form = ap (λ (text : List ℕ). by_word text (n ∷ p ∷ [])) form.0
    ∙ ap (λ (text : List ℕ). Some (PutAt text (number p))) form.1
    ∙ ap (λ (k : ℕ). Some (PutAt name k)) form.2.value
spelled-put_at [] name profile form = absurd form
spelled-put_at (c ∷ []) name profile form = absurd form
spelled-put_at (c ∷ n ∷ []) name profile form = absurd form
spelled-put_at (c ∷ n ∷ p ∷ more ∷ words) name profile form = absurd form

-- a command word alone
spelled-bare : (words : List Word) (word : List ℕ) (command : Command) → IsBareForm word words →
    by_word word [] ≡ Some command → spelled words ≡ Some command
spelled-bare (c ∷ []) word command form by = ap (λ (text : List ℕ). by_word text []) form ∙ by
spelled-bare [] word command form by = absurd form
spelled-bare (c ∷ more ∷ words) word command form by = absurd form

-- the words of a command are read off as this command
spelled-IsForm : (words : List Word) (command : Command) → IsForm words command → spelled words ≡ Some command
spelled-IsForm words (RowOf n l b seen) form = spelled-row words n l b seen form
spelled-IsForm words (InitWith numbers) form = spelled-init words numbers form
spelled-IsForm words (PutUnder name) form =
    spelled-named words (codes "put") name (λ n. PutUnder n) form (λ n. refl)
spelled-IsForm words (PutAt name profile) form = spelled-put_at words name profile form
spelled-IsForm words (GetOf name) form =
    spelled-named words (codes "get") name (λ n. GetOf n) form (λ n. refl)
spelled-IsForm words (DropOf name) form =
    spelled-named words (codes "drop") name (λ n. DropOf n) form (λ n. refl)
spelled-IsForm words ListAll form = spelled-bare words (codes "list") ListAll form refl
spelled-IsForm words AuditAll form = spelled-bare words (codes "audit") AuditAll form refl
spelled-IsForm words RepairAll form = spelled-bare words (codes "repair") RepairAll form refl
spelled-IsForm words UpgradeJournal form = spelled-bare words (codes "upgrade") UpgradeJournal form refl
spelled-IsForm words ScrubAll form = spelled-bare words (codes "scrub") ScrubAll form refl
spelled-IsForm words PackJournal form = spelled-bare words (codes "pack") PackJournal form refl

-- words spell one command at most
pub IsForm-once : (words : List Word) (command other : Command) → IsForm words command → IsForm words other →
    command ≡ other
IsForm-once words command other first second =
    cc (sym (spelled-IsForm words command first) ∙ spelled-IsForm words other second)
