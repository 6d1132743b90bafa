-- Keys, as they are read.
use Rattle.schedule_text.proofs.Words.{◌≡◌, ℕ, Bool, true, false, cond, List, length, Option, None, Some, refl, sym, ◌∙◌, ap, ◌↔◌, Result, Ok, Err, IsSome, IfSome, is_ok, option_map, AllPass, eqb-true, decode_of, decode_sized, is_hex_digit, IsOk-decode_sized, key_in, found_in}
use Rattle.std.specs.Prelude.{◌==◌}
use Rattle.hex.specs.declared.error.FromHexError.{FromHexError}

-- at 64 digits both decode the same
sized : (word : List ℕ) → length word ≡ 64 → decode_sized word 32 ≡ decode_of word
sized word long = rw long refl

read-none : (word : List ℕ) (decoded : Result (List ℕ) FromHexError) → (is_ok decoded ≡ true → ⊥) →
    found_in decoded ≡ None
read-none word (Ok bytes) bad = absurd (bad refl)
read-none word (Err e) bad = refl

-- what reads 64 digits gives the key of the word
pub key_in-read : {M : Type 0} (bytes : M → List ℕ) (word : List ℕ) (read : Option M)
    → (IsSome read ↔ ((length word ≡ 64) × AllPass is_hex_digit word)) →
    IfSome read (λ m. decode_of word ≡ Ok (bytes m)) → option_map bytes read ≡ key_in word
key_in-read bytes word (Some m) found value =
    let long : (length word == 64) ≡ true = ap (λ (n : ℕ). n == 64) (found.0 refl).0 in
    rw (long, value) refl
key_in-read bytes word None found value = at (length word == 64) refl
  where
    at : (test : Bool) → (length word == 64) ≡ test → None ≡ cond test (found_in (decode_of word)) None
    at true is = sym (read-none word (decode_of word) (λ ok.
        let long : length word ≡ 64 = eqb-true (length word) 64 is in
        let all = (IsOk-decode_sized word 32).0 (ap is_ok (sized word long) ∙ ok) in
        let none : false ≡ true = found.1 (long, all.1) in
        absurd cc))
    at false is = refl
