-- A field that was read is one word, which spells it; and what a word spells is read.
use Rattle.schedule_text.proofs.Words.{◌≡◌, ℕ, ◌^◌, Bool, true, false, cond, ltb, List, [], ◌∷◌, length, Option, Some, None, refl, sym, ap, subst, inl, inr, codes, Result, Ok, Err, IsErrAnd, bytes_eq, eqb-true, lt-ltb, ltb-true, eq-eqb, bytes_eq-Decides, decode_of, cond-cases, bind_some, some_is, done, Instruction, IsNumberWord, Word, IsNumber, IsHex, IsKey, Gives, FailsToRead, only_if, found_in, word_at, only_command, number_in, bytes_in, key_in, numeral_at, number_word_at, profile_at, bytes_at, key_at}
use Rattle.std.specs.Prelude.{◌==◌}
use Rattle.record_codec.specs.Reading.{◌>>=◌}
use Rattle.record_codec.proofs.Fields.{passed}
use Rattle.schedule_text.specs.declared.fault.LineFault.{LineFault}
use Rattle.schedule_text.specs.declared.fault.LineFault.TheVariants as faults
use Rattle.schedule_text.proofs.Numbers.{word-number_in, number_in-word}

-- one word was taken from the front, and it spells the value
abbrev pub Took : {A : Type 0} → (Word → A → Type 0) → List Word → A × List Word → Type 0
Took P ws x = (word : Word) × (ws ≡ word ∷ x.1) × P word x.0

-- a word that is taken stands first
pub word-took : (ws : List Word) (x : Word × List Word) → word_at ws ≡ Some x → ws ≡ x.0 ∷ x.1
word-took [] x e = absurd cc
word-took (word ∷ ws) x e = ap (λ (y : Word × List Word). y.0 ∷ y.1) (some_is (word, ws) x e)

-- a command that takes no more words has none behind it
pub ended-took : (command other : Instruction) (ws : List Word) → only_command command ws ≡ Some other →
    (ws ≡ []) × (command ≡ other)
ended-took command other [] e = (refl, some_is command other e)
ended-took command other (word ∷ ws) e = absurd cc

-- a word that was read by a function of its own
took : {A : Type 0} (P : Word → A → Type 0) (read : Word → Option A)
    (sound : (word : Word) (value : A) → read word ≡ Some value → P word value)
    (ws : List Word) (x : A × List Word) →
    (word_at ws >>= λ word. read word.0 >>= λ value. Some (value, word.1)) ≡ Some x → Took P ws x
took P read sound ws x e =
    let a = bind_some _ _ x e in
    let b = bind_some _ _ x a.2 in
    let made : (b.0, a.0.1) ≡ x = some_is (b.0, a.0.1) x b.2 in
    subst (Took P ws) made (a.0.0, word-took ws a.0 a.1, sound a.0.0 b.0 b.1)

-- a numeral that is taken is the number of the first word
pub numeral-took : (ws : List Word) (x : ℕ × List Word) → numeral_at ws ≡ Some x → Took IsNumberWord ws x
unfolding numeral_at
numeral-took ws x e = took IsNumberWord number_in word-number_in ws x e

-- a number that is taken is that of the first word, within its bits
pub number-took : (bits : ℕ) (ws : List Word) (x : ℕ × List Word) → number_word_at bits ws ≡ Some x →
    Took (IsNumber bits) ws x
unfolding number_word_at
number-took bits ws x e =
    let a = bind_some (numeral_at ws) (λ number. only_if (ltb number.0 (2 ^ bits)) number) x e in
    let b = passed (ltb a.0.0 (2 ^ bits)) a.0 x a.2 in
    let word = numeral-took ws a.0 a.1 in
    subst (Took (IsNumber bits) ws) b.1 (word.0, word.1, (word.2, ltb-true _ _ b.0))

-- no word was taken, or one that spells the number of a profile
abbrev pub TookProfile : List Word → Option ℕ → List Word → Type 0
TookProfile ws None behind = ws ≡ behind
TookProfile ws (Some profile) behind = Took (IsNumber 8) ws (profile, behind)

-- a profile that is taken is that of the first word, where there is one
pub profile-took : (ws : List Word) (x : Option ℕ × List Word) → profile_at ws ≡ Some x →
    TookProfile ws x.0 x.1
unfolding profile_at
profile-took [] x e =
    subst (λ (y : Option ℕ × List Word). TookProfile [] y.0 y.1) (some_is (None, []) x e) refl
profile-took (word ∷ ws) x e =
    let a = bind_some (number_word_at 8 (word ∷ ws)) (λ number. Some (Some number.0, number.1)) x e in
    subst (λ (y : Option ℕ × List Word). TookProfile (word ∷ ws) y.0 y.1)
    (some_is (Some a.0.0, a.0.1) x a.2) (number-took 8 (word ∷ ws) a.0 a.1)

-- bytes, and keys
found-in : {A E : Type 0} (decoded : Result A E) (value : A) → found_in decoded ≡ Some value →
    decoded ≡ Ok value
found-in (Ok x) value e = ap (λ y. Ok y) (some_is x value e)
found-in (Err fault) value e = absurd cc

bytes-sound : (word : Word) (bytes : List ℕ) → bytes_in word ≡ Some bytes → IsHex word bytes
bytes-sound word bytes e =
    elim (cond-cases (bytes_eq word (codes "-")) (done []) (found_in (decode_of word)) (Some bytes) e) [
      | inl none ↦ inl ((bytes_eq-Decides word (codes "-")).0 none.0, sym (some_is [] bytes none.1))
      | inr some ↦ inr (found-in (decode_of word) bytes some.1)
    ]

-- bytes that are taken are those of the first word, in hexadecimal
pub bytes-took : (ws : List Word) (x : List ℕ × List Word) → bytes_at ws ≡ Some x → Took IsHex ws x
unfolding bytes_at
bytes-took ws x e = took IsHex bytes_in bytes-sound ws x e

key-sound : (word : Word) (key : List ℕ) → key_in word ≡ Some key → IsKey word key
key-sound word key e = elim (cond-cases (length word == 64) (found_in (decode_of word)) None (Some key) e) [
  | inl long ↦ (eqb-true (length word) 64 long.0, found-in (decode_of word) key long.1)
  | inr short ↦ absurd cc
]

-- a key that is taken is that of the first word
pub key-took : (ws : List Word) (x : List ℕ × List Word) → key_at ws ≡ Some x → Took IsKey ws x
unfolding key_at
key-took ws x e = took IsKey key_in key-sound ws x e

-- ---- what a word spells is read

-- the numeral of a word is taken from it
pub numeral-again : (word : Word) (ws : List Word) (number : ℕ) → IsNumberWord word number →
    numeral_at (word ∷ ws) ≡ Some (number, ws)
unfolding numeral_at
numeral-again word ws number is = rw (number_in-word word number is) refl

-- a number within its bits is taken from its word
pub number-again : (bits : ℕ) (word : Word) (ws : List Word) (number : ℕ) → IsNumber bits word number →
    number_word_at bits (word ∷ ws) ≡ Some (number, ws)
unfolding number_word_at
number-again bits word ws number is = rw (numeral-again word ws number is.0, lt-ltb _ _ is.1) refl

module _ (ws : List Word) (word : Word) (more : List Word) (is : ws ≡ word ∷ more) where
  -- where a word is left, what is read as a number is read as a profile
  profile-first : (read : Option (ℕ × List Word)) → number_word_at 8 ws ≡ read →
      profile_at ws ≡ (read >>= λ number. Some (Some number.0, number.1))
  unfolding profile_at
  profile-first read e = rw (← e, is) refl

  -- where a word is left, its number is the profile's
  pub profile-reads : (number : ℕ) (left : List Word) → number_word_at 8 ws ≡ Some (number, left) →
      profile_at ws ≡ Some (Some number, left)
  profile-reads number left read = profile-first (Some (number, left)) read

  -- where a word is left, a fault of its number is one of the profile
  pub profile-fails : {X : Type 0} (view : X → Option ℕ × List Word) (result : Result X LineFault)
      (fault : LineFault) → IsErrAnd result (λ e. e ≡ fault) → FailsToRead fault (number_word_at 8 ws)
      → Gives view result (profile_at ws)
  profile-fails view (Ok x) fault same fails = absurd same
  profile-fails view (Err e) faults.Memory same fails = rw same tt
  profile-fails view (Err e) faults.Bad same fails = rw same (profile-first None fails)

-- bytes are taken from their word
pub bytes-again : (word : Word) (ws : List Word) (bytes : List ℕ) → IsHex word bytes →
    bytes_at (word ∷ ws) ≡ Some (bytes, ws)
unfolding bytes_at
bytes-again word ws bytes is = ap (λ (read : Option (List ℕ)). read >>= λ value. Some (value, ws)) (read is)
  where
    read : IsHex word bytes → bytes_in word ≡ Some bytes
    read (inl none) = rw ((bytes_eq-Decides word (codes "-")).1 none.0, none.1) refl
    read (inr some) = at (bytes_eq word (codes "-")) refl
      where
        at : (test : Bool) → bytes_eq word (codes "-") ≡ test →
            cond test (done []) (found_in (decode_of word)) ≡ Some bytes
        at true dash = absurd (cc (some, (bytes_eq-Decides word (codes "-")).0 dash))
        at false other = rw some refl

-- a key is taken from its word
pub key-again : (word : Word) (ws : List Word) (key : List ℕ) → IsKey word key →
    key_at (word ∷ ws) ≡ Some (key, ws)
unfolding key_at
key-again word ws key is = rw (eq-eqb (length word) 64 is.0, is.1) refl
