-- Texts in the two areas of a disk.
use Rattle.record_defs.proofs.Words.{◌≡◌, ◌⊎◌, IsTrue, suc, List, [], ◌∷◌, ◌++◌, length, take, drop, refl, sym, ap, ◌∙◌, arith, inl, inr, append_assoc, take-append-drop, drop-drop, list_all, Record, is_in_grammar, spelling, magic, before_gate, text, text_size, Area, A, B, other_area, base_of, magic_front, area_of, entries, end_in, HoldsIn, StandsActive}
use Rattle.std.specs.Prelude.{ℕ}

-- what stands before the closing gate is the magic and then the entries
pub before_gate-entries : (rs : List Record) → before_gate rs ≡ magic ++ entries rs
before_gate-entries [] = refl
before_gate-entries (r ∷ rs) =
    ap (λ l. l ++ 1 ∷ spelling r) (before_gate-entries rs) ∙ append_assoc magic (entries rs) (1 ∷ spelling r)

-- the text's size in area A is that of the one area of before
pub text_size-end : (rs : List Record) → end_in A rs ≡ text_size rs
text_size-end [] = refl
text_size-end (r ∷ rs) = omega (arith, text_size-end rs)

-- the text of records in the grammar stands for them in area A
pub text-active : (rs : List Record) → IsTrue (list_all is_in_grammar rs) → StandsActive (text rs) A rs
text-active rs all = record {
  active = record { switch = 49; front = ap (take 8) is; names = refl };
  holds = record {
    in_grammar = all;
    gate = 0;
    rest = [];
    closed = λ e. omega (arith, e);
    bytes_are = ap (drop 8) is;
  };
}
  where
    is : text rs ≡ magic ++ (entries rs ++ 0 ∷ [])
    is = ap (λ l. l ++ 0 ∷ []) (before_gate-entries rs) ∙ append_assoc magic (entries rs) (0 ∷ [])

-- two disks agree on the front and on the text of an area, its closed gate included
pub record Agree (area : Area) (rs : List Record) (a b : List ℕ) : Type 0 where
  pub front : take 8 a ≡ take 8 b
  pub text : take (suc (length (entries rs))) (drop (base_of area) a)
      ≡ take (suc (length (entries rs))) (drop (base_of area) b)

take_text : (xs : List ℕ) (x : ℕ) (rest : List ℕ) → take (suc (length xs)) (xs ++ x ∷ rest) ≡ xs ++ x ∷ []
take_text [] x rest = refl
take_text (y ∷ xs) x rest = ap (λ l. y ∷ l) (take_text xs x rest)

-- what bytes stand for rests on these alone
pub active_again : (area : Area) (rs : List Record) (a b : List ℕ) → Agree area rs a b →
    StandsActive a area rs → StandsActive b area rs
active_again area rs a b agree s = record {
  active = record {
    switch = s.active.switch;
    front = sym agree.front ∙ s.active.front;
    names = s.active.names;
  };
  holds = record {
    in_grammar = s.holds.in_grammar;
    gate = s.holds.gate;
    rest = drop n (drop (base_of area) b);
    closed = s.holds.closed;
    bytes_are = sym (take-append-drop n (drop (base_of area) b))
        ∙ (ap (λ l. l ++ drop n (drop (base_of area) b))
        (sym agree.text ∙ (ap (take n) s.holds.bytes_are
        ∙ take_text (entries rs) s.holds.gate s.holds.rest))
        ∙ append_assoc (entries rs) (s.holds.gate ∷ []) (drop n (drop (base_of area) b)));
  };
}
  where
    n : ℕ
    n = suc (length (entries rs))

-- an area lies behind the switch byte
behind_switch : (area : Area) (a b : List ℕ) → drop 8 a ≡ drop 8 b →
    drop (base_of area) a ≡ drop (base_of area) b
behind_switch A a b e = e
behind_switch B a b e = sym (drop-drop 8388600 8 a) ∙ (ap (drop 8388600) e ∙ drop-drop 8388600 8 b)

held_again : (area : Area) (rs : List Record) (a b : List ℕ) → drop 8 a ≡ drop 8 b → HoldsIn a area rs →
    HoldsIn b area rs
held_again area rs a b e h =
    record {
      in_grammar = h.in_grammar;
      gate = h.gate;
      rest = h.rest;
      closed = h.closed;
      bytes_are = sym (behind_switch area a b e) ∙ h.bytes_are;
    }

-- while both areas hold a text, a disk with any switch byte stands for the one or for the other
pub either_active : (area : Area) (rs qs : List Record) (a b : List ℕ) (switch : ℕ) → HoldsIn a area rs →
    HoldsIn a (other_area area) qs → take 8 b ≡ magic_front ++ switch ∷ [] → drop 8 a ≡ drop 8 b →
    StandsActive b area rs ⊎ StandsActive b (other_area area) qs
either_active area rs qs a b switch h k front same = by (area_of switch) area refl h k
  where
    by : (named area : Area) → area_of switch ≡ named → HoldsIn a area rs → HoldsIn a (other_area area) qs →
        StandsActive b area rs ⊎ StandsActive b (other_area area) qs
    by A A is h k = inl (record {
      active = record { switch = switch; front = front; names = is };
      holds = held_again A rs a b same h;
    })
    by B A is h k = inr (record {
      active = record { switch = switch; front = front; names = is };
      holds = held_again B qs a b same k;
    })
    by A B is h k = inr (record {
      active = record { switch = switch; front = front; names = is };
      holds = held_again A qs a b same k;
    })
    by B B is h k = inl (record {
      active = record { switch = switch; front = front; names = is };
      holds = held_again B rs a b same h;
    })
