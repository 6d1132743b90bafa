-- The bytes of requests, piece by piece.
use Rattle.provider_wire.proofs.Words.{◌≡◌, ℕ, suc, ◌<◌, ◌≤◌, ◌^◌, true, List, [], ◌∷◌, ◌++◌, length, refl, ap, ◌∙◌, arith, append_assoc, ◌&&◌, nat_lt, ◌==◌, All, w64, to_le_bytes, list_all, lt-ltb, nat_tests, Challenge, bytes_of_symbols, IsByte, Store, Fetch, Ask, Remove, SpellsRequest, request_bytes, place_bytes, is_within}

-- numbers that are all below a limit pass the test for it
pub all_below : (limit : ℕ) (xs : List ℕ) → All (λ x. x < limit) xs → list_all (λ x. nat_lt x limit) xs ≡ true
all_below limit [] all = refl
all_below limit (x ∷ xs) all = λ i. lt-ltb x limit (all 0 0 (omega arith)) i && all_below limit xs
    (λ k d less. all (suc k) d (omega arith)) i

within : (low high n : ℕ) → low ≤ n → n ≤ high → is_within low high n ≡ true
within low high n above below = grind (arith, nat_tests)

-- the bytes of a store, put together piece by piece, spell it
pub store_spelled : (object stripe : ℕ) (block p q r : List ℕ) → object < 2 ^ 64 → stripe < 2 ^ 32 →
    1 ≤ length block → length block ≤ 128 → All (λ x. x < 2 ^ 128) block → p ≡ 1 ∷ place_bytes object stripe →
    q ≡ p ++ length block ∷ [] → r ≡ q ++ bytes_of_symbols block → SpellsRequest r (Store object stripe block)
unfolding request_bytes
store_spelled object stripe block p q r object_fits stripe_fits some few small p_is q_is r_is = record {
  is_request = (λ i. lt-ltb object (2 ^ 64) object_fits i && lt-ltb stripe (2 ^ 32) stripe_fits i &&
      (within 1 128 (length block) some few i && all_below (2 ^ 128) block small i));
  bytes_are = r_is ∙ ap (λ l. l ++ bytes_of_symbols block) (q_is ∙ ap (λ l. l ++ length block ∷ []) p_is)
      ∙ append_assoc (1 ∷ place_bytes object stripe) (length block ∷ []) (bytes_of_symbols block);
}

-- the bytes of a fetch spell it
pub fetch_spelled : (object stripe size : ℕ) (p q : List ℕ) → object < 2 ^ 64 → stripe < 2 ^ 32 → 1 ≤ size →
    size ≤ 128
    → p ≡ 2 ∷ place_bytes object stripe → q ≡ p ++ size ∷ [] → SpellsRequest q (Fetch object stripe size)
unfolding request_bytes
fetch_spelled object stripe size p q object_fits stripe_fits some few p_is q_is = record {
  is_request = (λ i. lt-ltb object (2 ^ 64) object_fits i && lt-ltb stripe
      (2 ^ 32) stripe_fits i && within 1 128 size some few i);
  bytes_are = q_is ∙ ap (λ (l : List ℕ). l ++ size ∷ []) p_is;
}

-- the bytes of an ask, put together piece by piece, spell it
pub ask_spelled : (object : ℕ) (c : Challenge) (p q r s rows : List ℕ) → object < 2 ^ 64 →
    length c.seed ≡ 32 → All IsByte c.seed → 1 ≤ c.rows → c.rows ≤ 2 ^ 32 → 1 ≤ c.size → c.size ≤ 128 →
    1 ≤ c.picks → c.picks ≤ 64
    → p ≡ 3 ∷ to_le_bytes w64 object → q ≡ p ++ c.seed → rows ≡ to_le_bytes w64 c.rows → r ≡ q ++ rows →
    s ≡ r ++ c.size ∷ c.picks ∷ [] → SpellsRequest s (Ask object c)
unfolding request_bytes
ask_spelled object c p q r s rows object_fits long bytes r1 r2 s1 s2 p1 p2 p_is q_is rows_is r_is s_is =
    let tail = c.size ∷ c.picks ∷ [] in
    let len : (length c.seed == 32) ≡ true = grind (arith, nat_tests, long) in
    record {
      is_request = (λ i. lt-ltb object (2 ^ 64) object_fits i && (len i && all_below 256 c.seed bytes i &&
          within 1 (2 ^ 32) c.rows r1 r2 i && within 1 128 c.size s1 s2 i && within 1 64 c.picks p1 p2 i));
      bytes_are = s_is
          ∙ ap (λ (l : List ℕ). l ++ tail)
          (r_is ∙ (λ i. (q_is ∙ ap (λ (l : List ℕ). l ++ c.seed) p_is) i ++ rows_is i))
          ∙ append_assoc ((3 ∷ to_le_bytes w64 object) ++ c.seed) (to_le_bytes w64 c.rows) tail
          ∙ append_assoc (3 ∷ to_le_bytes w64 object) c.seed (to_le_bytes w64 c.rows ++ tail);
    }

-- the bytes of a removal spell it
pub remove_spelled : (object : ℕ) (p : List ℕ) → object < 2 ^ 64 → p ≡ 4 ∷ to_le_bytes w64 object →
    SpellsRequest p (Remove object)
unfolding request_bytes
remove_spelled object p object_fits p_is =
    record { is_request = lt-ltb object (2 ^ 64) object_fits; bytes_are = p_is }
