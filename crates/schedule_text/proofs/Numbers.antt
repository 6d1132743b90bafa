-- Number words, by the test of reading.
use Rattle.schedule_text.proofs.Words.{◌≡◌, ℕ, Bool, true, false, List, Option, None, Some, refl, sym, ap, subst, arith, MatchOption, all_ascii_digits, IsUtf8, digits_value, IsAscii-from_digits, IsNumeralModel, numerals_by_value, tells_all_ascii_digits, nat_tests, IsNumberWord, is_number_word, number_in, only_if}
use Rattle.std.proofs.lemmas.Str.{IsUtf8-from_ascii}

digits : IsNumeralModel (λ ds. all_ascii_digits ds ≡ true) (digits_value 10)
digits = numerals_by_value _ tells_all_ascii_digits

-- a number word passes
pub is_number_word-passes : (word : List ℕ) (number : ℕ) → IsNumberWord word number →
    is_number_word word ≡ true
is_number_word-passes word number is =
    grind (arith, nat_tests, is.value, is.small, is.leading, is.numeral.0, digits.from word is.numeral.1)

-- what passes is a number word
pub number_word-from_test : (word : List ℕ) → is_number_word word ≡ true →
    IsNumberWord word (digits_value 10 word)
number_word-from_test word passes = record {
  numeral = (grind (arith, nat_tests), digits.to word (grind arith));
  leading = λ zero_first. grind (arith, nat_tests);
  value = refl;
  small = grind (arith, nat_tests);
}

-- a number word is read as its number
pub number_in-word : (word : List ℕ) (number : ℕ) → IsNumberWord word number → number_in word ≡ Some number
number_in-word word number is = rw (is_number_word-passes word number is) (ap (λ (n : ℕ). Some n) is.value)

-- what is read is a number word
pub word-number_in : (word : List ℕ) (number : ℕ) → number_in word ≡ Some number → IsNumberWord word number
word-number_in word number e = at (is_number_word word) refl e
  where
    done : ℕ → Option ℕ
    done n = Some n

    same : (n : ℕ) → done n ≡ done number → n ≡ number
    same n e = cc

    at : (test : Bool) → is_number_word word ≡ test → only_if test (digits_value 10 word) ≡ Some number →
        IsNumberWord word number
    at true passes e = subst (λ (n : ℕ). IsNumberWord word n) (same (digits_value 10 word) e)
        (number_word-from_test word passes)
    at false passes e = absurd cc

-- nothing is read where the word spells no number
pub number_in-none : (word : List ℕ) → ((number : ℕ) → IsNumberWord word number → ⊥) → number_in word ≡ None
number_in-none word none = at (is_number_word word) refl
  where
    at : (test : Bool) → is_number_word word ≡ test → only_if test (digits_value 10 word) ≡ None
    at true passes = absurd (none (digits_value 10 word) (number_word-from_test word passes))
    at false passes = refl

-- what a reader of number words answers
pub number_in-match : (word : List ℕ) (read : Option ℕ) →
    MatchOption read ((number : ℕ) → IsNumberWord word number → ⊥) (IsNumberWord word) → read ≡ number_in word
number_in-match word None none = sym (number_in-none word none)
number_in-match word (Some number) is = sym (number_in-word word number is)

-- a number word is text
pub number_word-IsUtf8 : (word : List ℕ) (number : ℕ) → IsNumberWord word number → IsUtf8 word
number_word-IsUtf8 word number is = IsUtf8-from_ascii word (IsAscii-from_digits word is.numeral.1)
