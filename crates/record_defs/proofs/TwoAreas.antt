-- A disk with a text in each of its two areas.
use Rattle.record_defs.proofs.Words.{◌≡◌, ◌≢◌, List, [], ◌∷◌, ◌++◌, length, drop, refl, sym, ap, ◌∙◌, arith, append_assoc, length-append, magic, text, A, B, entries, HoldsIn, four_set_up, two_areas}
use Rattle.std.specs.Prelude.{ℕ, ◌-◌, ◌^◌}
use Rattle.record_defs.proofs.Sizes.{length-text}
use Rattle.record_defs.proofs.AreaLaws.{before_gate-entries}

-- a closed gate
open-not : ◌≢◌ {A = ℕ} 0 1
open-not e = absurd cc

-- a front of known length goes
drop-over : (front rest : List ℕ) (n : ℕ) → n ≡ length front → drop n (front ++ rest) ≡ rest
drop-over front rest n e = ap (λ (k : ℕ). drop k (front ++ rest)) e ∙ over front
  where
    over : (front : List ℕ) → drop (length front) (front ++ rest) ≡ rest
    over [] = refl
    over (x ∷ front) = over front

-- the text of one record, front first
text-is : text four_set_up ≡ magic ++ (entries four_set_up ++ 0 ∷ [])
text-is = ap (λ (l : List ℕ). l ++ 0 ∷ []) (before_gate-entries four_set_up)
    ∙ append_assoc magic (entries four_set_up) (0 ∷ [])

-- it has 51 bytes
text-size : length (text four_set_up) ≡ 51
text-size = length-text four_set_up refl

-- with a filling behind it, area A still holds that record
pub filled-first : (filling : List ℕ) → HoldsIn (two_areas filling) A four_set_up
filled-first filling = record {
  in_grammar = refl;
  gate = 0;
  rest = filling ++ 0 ∷ [];
  closed = open-not;
  bytes_are = ap (λ (l : List ℕ). drop 8 (l ++ (filling ++ 0 ∷ []))) text-is
      ∙ append_assoc (entries four_set_up) (0 ∷ []) (filling ++ 0 ∷ []);
}

-- where the filling ends at the middle of the disk, area B holds the text of no record
pub filled-other : (filling : List ℕ) → length filling ≡ 2 ^ 23 - 51 → HoldsIn (two_areas filling) B []
filled-other filling l = record {
  in_grammar = refl;
  gate = 0;
  rest = [];
  closed = open-not;
  bytes_are = ap (drop (2 ^ 23)) (sym (append_assoc (text four_set_up) filling (0 ∷ [])))
      ∙ drop-over (text four_set_up ++ filling) (0 ∷ []) (2 ^ 23) behind;
}
  where
    behind : 2 ^ 23 ≡ length (text four_set_up ++ filling)
    behind = omega (arith, length-append (text four_set_up) filling, text-size, l)
