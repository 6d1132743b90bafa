-- The words of a command are text, so the name in them is of bytes.
use Rattle.command_laws.proofs.Words.{◌≡◌, ℕ, ◌+◌, ◌<◌, ◌/◌, Bool, true, false, cond, List, [], ◌∷◌, ◌++◌, String, IsUtf8, refl, arith, inl, inr, list_all, ltb-true, and_parts, and_from, nat_tests, is_byte, AreBytes, Command, PutUnder, PutAt, GetOf, DropOf, IsNamedForm, IsForm, IsSpelledCommand}
use Rattle.std.specs.String.{string_bytes}
use Rattle.std.specs.declared.alloc.Global.{Global}
use Rattle.std.proofs.lemmas.Str.{IsUtf8-string_bytes}
use lib.Utf8.{scalar, scalars, encode, encodes, next, scalar_cases}
use lib.Dec.{ltb}

-- ---- a character's bytes

both : (xs ys : List ℕ) → list_all is_byte xs ≡ true → list_all is_byte ys ≡ true →
    list_all is_byte (xs ++ ys) ≡ true
both [] ys h g = g
both (x ∷ xs) ys h g = (let p = and_parts (is_byte x) (list_all is_byte xs) h in
    and_from (is_byte x) (list_all is_byte (xs ++ ys)) p.0 (both xs ys p.1 g))

more : (x : ℕ) (xs : List ℕ) → x < 256 → list_all is_byte xs ≡ true → list_all is_byte (x ∷ xs) ≡ true
more x xs l h = and_from (is_byte x) (list_all is_byte xs) (byte x l) h
  where
    byte : (x : ℕ) → x < 256 → is_byte x ≡ true
    byte x l = grind (arith, nat_tests, l)

by-length : (c : ℕ) → c < 1114112 → (x y z : Bool) → (x ≡ true → c < 128) → (y ≡ true → c < 2048) →
    (z ≡ true → c < 65536) → list_all is_byte (cond x (c ∷ []) (cond y ((192 + c / 64) ∷ next c ∷ [])
    (cond z ((224 + c / 4096) ∷ next (c / 64) ∷ next c ∷ [])
    ((240 + c / 262144) ∷ next (c / 4096) ∷ next (c / 64) ∷ next c ∷ [])))) ≡ true
by-length c l true y z one two three = more c [] (omega (arith, one refl)) refl
by-length c l false true z one two three =
    more (192 + c / 64) (next c ∷ []) (omega (arith, two refl)) (more (next c) [] (omega arith) refl)
by-length c l false false true one two three =
    more (224 + c / 4096) (next (c / 64) ∷ next c ∷ []) (omega (arith, three refl))
    (more (next (c / 64)) (next c ∷ []) (omega arith) (more (next c) [] (omega arith) refl))
by-length c l false false false one two three =
    more (240 + c / 262144) (next (c / 4096) ∷ next (c / 64) ∷ next c ∷ []) (omega (arith, l))
    (more (next (c / 4096)) (next (c / 64) ∷ next c ∷ []) (omega arith)
    (more (next (c / 64)) (next c ∷ []) (omega arith) (more (next c) [] (omega arith) refl)))

encode-bytes : (c : ℕ) → scalar c ≡ true → list_all is_byte (encode c) ≡ true
unfolding encode
encode-bytes c h = by-length c low (ltb c 128) (ltb c 2048) (ltb c 65536) (ltb-true c 128) (ltb-true c 2048)
    (ltb-true c 65536)
  where
    low : c < 1114112
    low = elim (scalar_cases c h) [ inl l ↦ omega (arith, l) | inr p ↦ p.1 ]

encodes-bytes : (cs : List ℕ) → scalars cs ≡ true → list_all is_byte (encodes cs) ≡ true
encodes-bytes [] h = refl
encodes-bytes (c ∷ cs) h = (let p = and_parts (scalar c) (scalars cs) h in
    both (encode c) (encodes cs) (encode-bytes c p.0) (encodes-bytes cs p.1))

text-bytes : (bs : List ℕ) → IsUtf8 bs → AreBytes bs
text-bytes bs h = rw h.1.1 at (encodes-bytes h.0 h.1.0)

-- ---- the words of a command

name-spelled : (form : List ℕ) (words : List (String Global)) (name : List ℕ) →
    IsNamedForm form words name → AreBytes name
name-spelled form (first ∷ second ∷ []) name h =
    (rw h.1 at (text-bytes (string_bytes second) (IsUtf8-string_bytes second)))
name-spelled form words name h = absurd h

-- the words of a command are text, so the name in them is of bytes, and the number of a profile fits
pub form-spelled : (words : List (String Global)) (command : Command) → IsForm words command →
    IsSpelledCommand command
form-spelled words (PutUnder name) h = name-spelled _ words name h
form-spelled (first ∷ second ∷ third ∷ []) (PutAt name profile) h =
    ((rw h.1 at (text-bytes (string_bytes second) (IsUtf8-string_bytes second))), h.3)
form-spelled [] (PutAt name profile) h = absurd h
form-spelled (first ∷ []) (PutAt name profile) h = absurd h
form-spelled (first ∷ second ∷ []) (PutAt name profile) h = absurd h
form-spelled (first ∷ second ∷ third ∷ fourth ∷ rest) (PutAt name profile) h = absurd h
form-spelled words (GetOf name) h = name-spelled _ words name h
form-spelled words (DropOf name) h = name-spelled _ words name h
form-spelled words command h = tt
