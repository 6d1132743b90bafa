-- The text of an area on cells: what of it stays under a write, a sync and a stop.
use Rattle.journal_core.proofs.Words.{◌≢◌, ◌+◌, ◌≤◌, Bool, true, ◌++◌, length, take, drop, refl, sym, ap, ◌∙◌, subst, arith, append_assoc, length-append, IsTrue, list_all, map-append, length-map, Cells, firm, loose, written, Torn, IsImage, is_in_grammar, Area, A, B, other_area, base_of, magic_front, switch_of, area_of, entries, HoldsIn, IsSwitched, HasText, HasLooseText, IsNamed, IsSwitching, IsApart}
use Rattle.std.proofs.Common.{◌≡◌, ℕ, false, List, [], ◌∷◌}
use Rattle.record_defs.specs.Records.{Record}
use Rattle.record_defs.proofs.Sizes.{length-entries}
use Rattle.journal_core.proofs.CellLemmas.{written-behind, torn_gate, settled, settled-append, settled-firm, settled-loose, IsImage-firm}
use Rattle.journal_core.proofs.Splices.{IsSplice, kept-below, kept-above, drop-written, drop-settled, IsImage-drop}

-- ---- a text under a write

-- a text with its closed gate, and what lies behind it
regroup : (area : Area) (rs : List Record) (cells : Cells) (t : HasText cells area rs) →
    drop (base_of area) cells ≡ (firm (entries rs) ++ (t.gate, false) ∷ []) ++ t.rest
regroup area rs cells t = t.cells_are ∙ sym (append_assoc (firm (entries rs)) ((t.gate, false) ∷ []) t.rest)

-- a text in front of a write stays
pub text-below : (area : Area) (rs : List Record) (at n : ℕ) (old new : Cells) → IsSplice at n old new →
    base_of area + length (entries rs) + 1 ≤ at → HasText old area rs → HasText new area rs
text-below area rs at n old new s below t =
    let front : Cells = firm (entries rs) ++ (t.gate, false) ∷ [] in
    let size : length front ≡ length (entries rs) + 1 =
    omega (
      arith,
      length-append (firm (entries rs)) ((t.gate, false) ∷ []),
      length-map {B = ℕ × Bool} (entries rs) (λ b. (b, false)),
    ) in
    let kept = kept-below (base_of area) at n front t.rest old new s (regroup area rs old t)
    (omega (arith, size)) (omega (arith, size, below)) in
    record {
      in_grammar = t.in_grammar;
      gate = t.gate;
      rest = kept.0;
      closed = t.closed;
      cells_are = kept.1 ∙ append_assoc (firm (entries rs)) ((t.gate, false) ∷ []) kept.0;
    }

-- a text behind a write stays
pub text-above : (area : Area) (rs : List Record) (at n : ℕ) (old new : Cells) → IsSplice at n old new →
    at + n ≤ base_of area → HasText old area rs → HasText new area rs
text-above area rs at n old new s past t = record {
  in_grammar = t.in_grammar;
  gate = t.gate;
  rest = t.rest;
  closed = t.closed;
  cells_are = kept-above (base_of area) at n old new s past ∙ t.cells_are;
}

-- under a write into the other area the text of this one stays
pub text-apart : (area : Area) (rs : List Record) (n : ℕ) (old new : Cells) →
    IsSplice (base_of (other_area area)) n old new → IsApart area rs → n + 8 ≤ base_of B →
    HasText old area rs → HasText new area rs
text-apart A rs n old new s apart short t =
    text-below A rs (base_of B) n old new s (omega (arith, apart, length-entries rs t.in_grammar)) t
text-apart B rs n old new s apart short t = text-above B rs 8 n old new s (omega (arith, short)) t

-- under a write into an area the first eight bytes stay
pub named-below : (area : Area) (at n : ℕ) (old new : Cells) → IsSplice at n old new → 8 ≤ at →
    IsNamed old area → IsNamed new area
named-below area at n old new s below named =
    let front : Cells = firm (magic_front ++ named.switch ∷ []) in
    let kept = kept-below 0 at n front named.rest old new s named.cells_are
    (omega arith) (omega (arith, below)) in
    record { switch = named.switch; rest = kept.0; names = named.names; cells_are = kept.1 }

-- the text that is written stands, loose
pub text-written : (area : Area) (qs : List Record) (cells : Cells) → IsTrue (list_all is_in_grammar qs) →
    HasLooseText (written (base_of area) (entries qs ++ 0 ∷ []) cells) area qs
text-written area qs cells good = record {
  in_grammar = good;
  rest = drop (base_of area + length (entries qs ++ 0 ∷ [])) cells;
  cells_are = drop-written (base_of area) (entries qs ++ 0 ∷ []) cells;
}

-- ---- the switch byte under a write

-- the switch byte is written
pub switch-written : (area : Area) (switch : ℕ) (cells : Cells) → IsNamed cells area →
    IsSwitching (written 7 (switch ∷ []) cells) switch
switch-written area switch cells named = record {
  rest = named.rest;
  cells_are = ap (λ (c : Cells). written 7 (switch ∷ []) c) named.cells_are
      ∙ written-behind (firm magic_front) ((named.switch, false) ∷ named.rest) 7 refl (switch ∷ []);
}

-- the write of the switch byte failed
pub switch-torn : (area : Area) (cells new : Cells) → IsNamed cells area → Torn 7 1 cells new →
    (switch : ℕ) × IsSwitching new switch
switch-torn area cells new named torn =
    let after = torn_gate (firm magic_front) named.rest (named.switch, false) 7 new refl
    (subst (λ (c : Cells). Torn 7 1 c new) named.cells_are torn) in
    (after.0, record { rest = named.rest; cells_are = after.1 })

-- ---- a sync

-- a firm text stays under a sync
pub text-settled : (area : Area) (rs : List Record) (cells : Cells) → HasText cells area rs →
    HasText (settled cells) area rs
text-settled area rs cells t = record {
  in_grammar = t.in_grammar;
  gate = t.gate;
  rest = settled t.rest;
  closed = t.closed;
  cells_are = drop-settled (base_of area) cells
      ∙ ap settled t.cells_are
      ∙ settled-append (firm (entries rs)) ((t.gate, false) ∷ t.rest)
      ∙ ap (λ (c : Cells). c ++ (t.gate, false) ∷ settled t.rest) (settled-firm (entries rs));
}

-- a closed gate
shut : ◌≢◌ {A = ℕ} 0 1
shut e = omega (arith, e)

-- a loose text is firm after a sync
pub loose-settled : (area : Area) (qs : List Record) (cells : Cells) → HasLooseText cells area qs →
    HasText (settled cells) area qs
loose-settled area qs cells t = record {
  in_grammar = t.in_grammar;
  gate = 0;
  rest = settled t.rest;
  closed = shut;
  cells_are = drop-settled (base_of area) cells
      ∙ ap settled t.cells_are
      ∙ settled-append (loose (entries qs ++ 0 ∷ [])) t.rest
      ∙ ap (λ (c : Cells). c ++ settled t.rest) (settled-loose (entries qs ++ 0 ∷ [])
      ∙ map-append (λ b. (b, false)) (entries qs) (0 ∷ []))
      ∙ append_assoc (firm (entries qs)) ((0, false) ∷ []) (settled t.rest);
}

-- a name stays under a sync
pub named-settled : (area : Area) (cells : Cells) → IsNamed cells area → IsNamed (settled cells) area
named-settled area cells named = record {
  switch = named.switch;
  rest = settled named.rest;
  names = named.names;
  cells_are = ap settled named.cells_are
      ∙ settled-append (firm (magic_front ++ named.switch ∷ [])) named.rest
      ∙ ap (λ (c : Cells). c ++ settled named.rest) (settled-firm (magic_front ++ named.switch ∷ []));
}

-- the switch byte names its area
pub switch-names : (area : Area) → area_of (switch_of area) ≡ area
switch-names A = refl
switch-names B = refl

-- after a sync the written switch byte names its area
pub switching-settled : (area : Area) (cells : Cells) → IsSwitching cells (switch_of area) →
    IsNamed (settled cells) area
switching-settled area cells s = record {
  switch = switch_of area;
  rest = settled s.rest;
  names = switch-names area;
  cells_are = ap settled s.cells_are
      ∙ settled-append (firm magic_front) ((switch_of area, true) ∷ s.rest)
      ∙ ap (λ (c : Cells). c ++ (switch_of area, false) ∷ settled s.rest) (settled-firm magic_front);
}

-- ---- images

-- an image holds a firm text
pub text-image : (area : Area) (rs : List Record) (cells : Cells) (image : List ℕ) → HasText cells area rs →
    IsImage cells image → HoldsIn image area rs
text-image area rs cells image t of = behind (IsImage-firm (entries rs) ((t.gate, false) ∷ t.rest)
    (drop (base_of area) image) (subst (λ (c : Cells). IsImage c (drop (base_of area) image)) t.cells_are
    (IsImage-drop (base_of area) cells image of)))
  where
    behind : (tail : List ℕ) × (drop (base_of area) image ≡ entries rs ++ tail) ×
        IsImage ((t.gate, false) ∷ t.rest) tail → HoldsIn image area rs
    behind ([], is, none) = absurd none
    behind (g ∷ tail, is, some) = record {
      in_grammar = t.in_grammar;
      gate = g;
      rest = tail;
      closed = λ opened. t.closed (sym (some.0 refl) ∙ opened);
      bytes_are = is;
    }

-- an image has a firm name
pub named-image : (area : Area) (cells : Cells) (image : List ℕ) → IsNamed cells area → IsImage cells image →
    IsSwitched image area
named-image area cells image named of =
    let behind = IsImage-firm (magic_front ++ named.switch ∷ []) named.rest image
    (subst (λ (c : Cells). IsImage c image) named.cells_are of) in
    record { switch = named.switch; front = ap (λ (l : List ℕ). take 8 l) behind.1; names = named.names }

-- an image has some switch byte behind the firm front
pub switching-image : (cells : Cells) (image : List ℕ) (switch : ℕ) → IsSwitching cells switch →
    IsImage cells image → (s : ℕ) × (take 8 image ≡ magic_front ++ s ∷ [])
switching-image cells image switch is of = by (IsImage-firm magic_front ((switch, true) ∷ is.rest) image
    (subst (λ (c : Cells). IsImage c image) is.cells_are of))
  where
    by : (tail : List ℕ) × (image ≡ magic_front ++ tail) × IsImage ((switch, true) ∷ is.rest) tail →
        (s : ℕ) × (take 8 image ≡ magic_front ++ s ∷ [])
    by ([], e, none) = absurd none
    by (s ∷ tail, e, some) = (s, ap (λ (l : List ℕ). take 8 l) e)
