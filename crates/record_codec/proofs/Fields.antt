-- A field that is read is the field that was written, and what was written is read again.
use Rattle.record_codec.proofs.Words.{◌≡◌, ℕ, suc, ◌+◌, ◌^◌, ◌<◌, ◌≤◌, Bool, true, false, cond, ltb, List, [], ◌∷◌, ◌++◌, length, get_or, take, drop, Option, Some, None, refl, sym, ap, subst, ◌∙◌, append_assoc, arith, inl, inr, Width, w16, w32, w64, byte_len, from_le_bytes, to_le_bytes, cases_lt, ltb-false, le-ltb, take_at, get_or-drop, get_or-take, get_or_past, is_name, name_bytes, ◌>>=◌, number_at, name_at}
use Rattle.std.proofs.lemmas.List.{drop_at, take-append-drop, length-append, length-take}
use Rattle.std.proofs.lemmas.Nat.{le_bytes_2, le_bytes_4, le_bytes_8, from_le_bytes-to_le_bytes_2, from_le_bytes-to_le_bytes_4, from_le_bytes-to_le_bytes_8}

abbrev pub IsBytes : List ℕ → Type 0
IsBytes bytes = (i : ℕ) → get_or bytes i 0 < 256

-- what stands behind some bytes are bytes
pub IsBytes-drop : (n : ℕ) (bytes : List ℕ) → IsBytes bytes → IsBytes (drop n bytes)
IsBytes-drop n bytes h i = rw get_or-drop (h (n + i))

-- a front of bytes are bytes
pub IsBytes-take : (n : ℕ) (bytes : List ℕ) → IsBytes bytes → IsBytes (take n bytes)
IsBytes-take n bytes h i =
    elim (cases_lt i n) [
      | inl lt ↦ rw (get_or-take n bytes i 0 lt) (h i)
      | inr le ↦ rw (get_or_past (take n bytes) i 0 (omega (arith, length-take n bytes))) (omega arith)
    ]

-- what stands behind the first byte are bytes
pub IsBytes-rest : (b : ℕ) (bytes : List ℕ) → IsBytes (b ∷ bytes) → IsBytes bytes
IsBytes-rest b bytes h i = h (suc i)

-- the value of a step that did not fail
pub bind_some : {A B : Type 0} (r : Option A) (f : A → Option B) (y : B) → (r >>= f) ≡ Some y →
    (x : A) × (r ≡ Some x) × (f x ≡ Some y)
bind_some (Some x) f y e = (x, refl, e)
bind_some None f y e = absurd cc

-- a test that let pass
pub passed : {A : Type 0} (b : Bool) (x y : A) → cond b (Some x) None ≡ Some y → (b ≡ true) × (x ≡ y)
passed true x y e = (refl, cc)
passed false x y e = absurd cc

-- what a test let through passed it
pub passed_to : {A : Type 0} (b : Bool) (r : Option A) (y : A) → cond b r None ≡ Some y →
    (b ≡ true) × (r ≡ Some y)
passed_to true r y e = (refl, e)
passed_to false r y e = absurd cc

-- what a test did not stop failed it
pub stopped : {A : Type 0} (b : Bool) (r : Option A) (y : A) → cond b None r ≡ Some y →
    (b ≡ false) × (r ≡ Some y)
stopped true r y e = absurd cc
stopped false r y e = (refl, e)

abbrev pub done : {A : Type 0} → A → Option A
done x = Some x

-- two values given as done are one
pub some_is : {A : Type 0} (x y : A) → done x ≡ done y → x ≡ y
some_is x y e = cc

-- what a reader took from the front
pub record Takes (bytes text rest : List ℕ) : Type 0 where
  pub parts : bytes ≡ text ++ rest
  pub rest_fits : IsBytes rest

-- two takes one behind the other are one of both
pub Takes-then : (a x b y c : List ℕ) → Takes a x b → Takes b y c → Takes a (x ++ y) c
Takes-then a x b y c p q =
    record {
      parts = p.parts ∙ ap (λ (t : List ℕ). x ++ t) q.parts ∙ sym (append_assoc x y c);
      rest_fits = q.rest_fits;
    }

pub record IsWide (w : Width) (limit : ℕ) : Type 0 where
  pub len : (n : ℕ) → length (to_le_bytes w n) ≡ byte_len w
  pub back : (bytes : List ℕ) → length bytes ≡ byte_len w → IsBytes bytes →
      to_le_bytes w (from_le_bytes w bytes) ≡ bytes
  pub again : (n : ℕ) → n < limit → from_le_bytes w (to_le_bytes w n) ≡ n
  pub below : (bytes : List ℕ) → IsBytes bytes → from_le_bytes w bytes < limit

-- 16 bits hold the numbers below 2^16
pub wide16 : IsWide w16 (2 ^ 16)
wide16 = record {
  len = λ n. refl;
  back = λ bytes len fits. le_bytes_2 bytes _ len fits refl;
  again = λ n lt. from_le_bytes-to_le_bytes_2 n lt;
  below = λ bytes fits. omega (arith, fits 0, fits 1);
}

-- 32 bits hold the numbers below 2^32
pub wide32 : IsWide w32 (2 ^ 32)
wide32 = record {
  len = λ n. refl;
  back = λ bytes len fits. le_bytes_4 bytes _ len fits refl;
  again = λ n lt. from_le_bytes-to_le_bytes_4 n lt;
  below = λ bytes fits. omega (arith, fits 0, fits 1, fits 2, fits 3);
}

-- 64 bits hold the numbers below 2^64
pub wide64 : IsWide w64 (2 ^ 64)
wide64 = record {
  len = λ n. refl;
  back = λ bytes len fits. le_bytes_8 bytes _ len fits refl;
  again = λ n lt. from_le_bytes-to_le_bytes_8 n lt;
  below = λ bytes fits. omega (arith, fits 0, fits 1, fits 2, fits 3, fits 4, fits 5, fits 6, fits 7);
}

-- a number that is read stands at the front, lowest byte first
pub number_takes : (w : Width) (limit : ℕ) (wide : IsWide w limit) (bytes : List ℕ) (x : ℕ × List ℕ) →
    IsBytes bytes → number_at w bytes ≡ Some x → Takes bytes (to_le_bytes w x.0) x.1 × (x.0 < limit)
number_takes w limit wide bytes x fits e =
    let made : ℕ × List ℕ = (from_le_bytes w (take (byte_len w) bytes), drop (byte_len w) bytes) in
    let g = stopped (ltb (length bytes) (byte_len w)) (Some made) x e in
    let long : byte_len w ≤ length bytes = ltb-false _ _ g.0 in
    let front : to_le_bytes w made.0 ≡ take (byte_len w) bytes =
    wide.back (take (byte_len w) bytes) (omega (arith, length-take (byte_len w) bytes))
    (IsBytes-take (byte_len w) bytes fits) in
    let took : Takes bytes (to_le_bytes w made.0) made.1 =
    record {
      parts = sym (take-append-drop (byte_len w) bytes)
          ∙ ap (λ (l : List ℕ). l ++ drop (byte_len w) bytes) (sym front);
      rest_fits = IsBytes-drop (byte_len w) bytes fits;
    } in
    subst (λ (y : ℕ × List ℕ). Takes bytes (to_le_bytes w y.0) y.1 × (y.0 < limit)) (some_is made x g.1)
    (took, wide.below (take (byte_len w) bytes) (IsBytes-take (byte_len w) bytes fits))

-- a number is read back from its bytes
pub number_again : (w : Width) (limit : ℕ) (wide : IsWide w limit) (n : ℕ) (rest : List ℕ) → n < limit →
    number_at w (to_le_bytes w n ++ rest) ≡ Some (n, rest)
number_again w limit wide n rest lt =
    let len = wide.len n in
    let long : ltb (length (to_le_bytes w n ++ rest)) (byte_len w) ≡ false =
    le-ltb _ _ (omega (arith, length-append (to_le_bytes w n) rest)) in
    rw (
      long,
      take_at (to_le_bytes w n) rest (byte_len w) len,
      drop_at (to_le_bytes w n) rest (byte_len w) len,
      wide.again n lt,
    ) refl

-- a name that is read stands at the front, behind its size
pub name_takes : (bytes : List ℕ) (x : List ℕ × List ℕ) → IsBytes bytes → name_at bytes ≡ Some x →
    Takes bytes (name_bytes x.0) x.1 × (is_name x.0 ≡ true)
unfolding name_at
name_takes [] x fits e = absurd cc
name_takes (n ∷ bytes) x fits e =
    let made : List ℕ × List ℕ = (take n bytes, drop n bytes) in
    let g = stopped (ltb (length bytes) n) (cond (is_name (take n bytes)) (Some made) None) x e in
    let long : n ≤ length bytes = ltb-false _ _ g.0 in
    let h = passed (is_name (take n bytes)) made x g.1 in
    let len : length (take n bytes) ≡ n = omega (arith, length-take n bytes) in
    let took : Takes (n ∷ bytes) (name_bytes made.0) made.1 =
    record {
      parts = (λ i. sym len i ∷ sym (take-append-drop n bytes) i);
      rest_fits = IsBytes-drop n bytes (IsBytes-rest n bytes fits);
    } in
    subst (λ (y : List ℕ × List ℕ). Takes (n ∷ bytes) (name_bytes y.0) y.1 × (is_name y.0 ≡ true)) h.1
    (took, h.0)

-- a name is read back from its bytes
pub name_again : (name rest : List ℕ) → is_name name ≡ true →
    name_at (name_bytes name ++ rest) ≡ Some (name, rest)
unfolding name_at
name_again name rest good =
    let long : ltb (length (name ++ rest)) (length name) ≡ false =
    le-ltb _ _ (omega (arith, length-append name rest)) in
    rw (long, take_at name rest (length name) refl, drop_at name rest (length name) refl, good) refl
