-- One step of reading the text of an area.
use Rattle.journal_core.proofs.Words.{◌≢◌, inl, inr, ◌+◌, ◌<◌, ◌≤◌, ◌++◌, length, refl, get_or, take, drop, sym, ap, ◌∙◌, arith, append_assoc, take-append-drop, length-take, length-append, append-nil, drop-drop, drop_at, drop_all, drop_more, take_more, Entry, spelling, Spells, SpellsNone, Area, A, B, base_of, magic_front, area_of, entries, IsSwitched, HoldsIn}
use Rattle.std.proofs.Common.{◌≡◌, ℕ, List, [], ◌∷◌, ◌&&◌}
use Rattle.std.proofs.lemmas.Bool.Decides.{nat_tests}
use Rattle.journal_core.specs.Gates.{IsReadIn, StopsIn}

module _ (bytes : List ℕ) (area : Area) (rs : List Entry) (gate : ℕ) (is : IsReadIn bytes area rs gate) where
  -- what lies behind the records is what lies from the gate on
  behind-is : is.behind ≡ drop gate bytes
  behind-is = sym (ap (λ (k : ℕ). drop k bytes) is.gate_is
      ∙ sym (drop-drop (length (entries rs)) (base_of area) bytes)
      ∙ ap (λ (l : List ℕ). drop (length (entries rs)) l) is.bytes_are
      ∙ drop_at (entries rs) is.behind (length (entries rs)) refl)

  -- the bytes end at a gate
  pub ends-in : length bytes ≤ gate → StopsIn bytes area rs gate
  ends-in out = inl (
    record {
      records = rs;
      in_grammar = is.in_grammar;
      bytes_are = is.bytes_are
          ∙ ap (λ (l : List ℕ). entries rs ++ l) (behind-is ∙ drop_all gate bytes out)
          ∙ append-nil (entries rs);
      place = is.gate_is;
    },
    refl,
  )

  module _ (inside : gate < length bytes) where
    -- what is read, the gate, and what is behind it
    split-in : drop (base_of area) bytes ≡ entries rs ++ (get_or bytes gate 0 ∷ drop (gate + 1) bytes)
    split-in = is.bytes_are
        ∙ ap (λ (l : List ℕ). entries rs ++ l) (behind-is ∙ drop_more bytes gate 0 inside)

    -- bytes that were read as records up to a gate which is closed hold these records
    pub holds-in : get_or bytes gate 0 ≢ 1 → HoldsIn bytes area rs
    holds-in shut = record {
      in_grammar = is.in_grammar;
      gate = get_or bytes gate 0;
      rest = drop (gate + 1) bytes;
      closed = shut;
      bytes_are = split-in;
    }

    -- no record stands behind the open gate
    pub breaks-in : get_or bytes gate 0 ≡ 1 → SpellsNone (drop (gate + 1) bytes) →
        StopsIn bytes area rs (gate + 1)
    breaks-in opened none = inr (
      record {
        records = rs;
        rest = drop (gate + 1) bytes;
        in_grammar = is.in_grammar;
        bytes_are = split-in ∙ ap (λ (g : ℕ). entries rs ++ (g ∷ drop (gate + 1) bytes)) opened;
        none = none;
        place = ap (λ (k : ℕ). k + 1) is.gate_is;
      },
      refl,
    )

    -- one record more
    pub more-in : (r : Entry) (size : ℕ) → get_or bytes gate 0 ≡ 1 → size ≤ length (drop (gate + 1) bytes) →
        Spells (take size (drop (gate + 1) bytes)) r → IsReadIn bytes area (r ∷ rs) (gate + 1 + size)
    more-in r size opened small found =
        let rest = drop (gate + 1) bytes in
        let g = is.gate_is in
        let long : length (spelling r) ≡ size =
        omega (arith, ap length found.bytes_are, length-take size rest, small) in
        record {
          in_grammar = (λ k. found.in_grammar k && is.in_grammar k);
          behind = drop size rest;
          bytes_are = split-in
              ∙ ap (λ (k : ℕ). entries rs ++ (k ∷ rest)) opened
              ∙ ap (λ (l : List ℕ). entries rs ++ (1 ∷ l))
              (sym (take-append-drop size rest)
              ∙ ap (λ (l : List ℕ). l ++ drop size rest) found.bytes_are)
              ∙ sym (append_assoc (entries rs) (1 ∷ spelling r) (drop size rest));
          gate_is = omega (arith, g, long, length-append (entries rs) (1 ∷ spelling r));
        }

-- ---- the front

-- the first eight bytes, of which the last names the area
pub front-is : (bytes : List ℕ) → 8 ≤ length bytes → take 7 bytes ≡ magic_front →
    take 8 bytes ≡ magic_front ++ get_or bytes 7 0 ∷ []
front-is bytes long front = take_more bytes 7 0 (omega (arith, long))
    ∙ ap (λ (l : List ℕ). l ++ get_or bytes 7 0 ∷ []) front

pub switched : (bytes : List ℕ) (area : Area) → 8 ≤ length bytes → take 7 bytes ≡ magic_front →
    area_of (get_or bytes 7 0) ≡ area → IsSwitched bytes area
switched bytes area long front names =
    record { switch = get_or bytes 7 0; front = front-is bytes long front; names = names }

pub second-named : (switch : ℕ) → switch ≡ 50 → area_of switch ≡ B
second-named switch is = grind (arith, nat_tests)

pub first-named : (switch : ℕ) → switch ≢ 50 → area_of switch ≡ A
first-named switch is = grind (arith, nat_tests)

-- at where an area begins no record is read yet
pub none-read : (bytes : List ℕ) (area : Area) → IsReadIn bytes area [] (base_of area)
none-read bytes area =
    record { in_grammar = refl; behind = drop (base_of area) bytes; bytes_are = refl; gate_is = omega arith }
