-- What the images of a disk hold in an area in the course of an append there.
use Rattle.journal_core.proofs.Words.{◌≢◌, ◌⊎◌, inl, inr, ◌<◌, Bool, true, ◌++◌, drop, sym, ap, ◌∙◌, subst, arith, lit<, append_assoc, IsTrue, list_all, map-append, Cells, firm, loose, IsImage, is_in_grammar, spelling, Area, base_of, entries, HoldsIn, IsClosed, IsInDoubt, IsAfterMoves, IsGivenUp, HasText}
use Rattle.std.proofs.Common.{◌≡◌, ℕ, zero, suc, false, List, [], ◌∷◌}
use Rattle.std.specs.Prelude.{◌&&◌}
use Rattle.std.proofs.lemmas.Bool.{cases_eq}
use Rattle.record_defs.specs.Records.{Record}
use Rattle.journal_core.proofs.CellLemmas.{IsImage-firm}
use Rattle.journal_core.proofs.Splices.{IsImage-drop}
use Rattle.journal_core.proofs.Texts.{text-image}

-- with a closed gate behind the records, an area has their text
pub closed-text : (area : Area) (rs : List Record) → IsTrue (list_all is_in_grammar rs) → (cells : Cells) →
    IsClosed (entries rs) (drop (base_of area) cells) → HasText cells area rs
closed-text area rs all cells (gate, rest, shut, is) =
    record { in_grammar = all; gate = gate; rest = rest; closed = shut; cells_are = is }

module _ (area : Area) (rs : List Record) (r : Record) (all : IsTrue (list_all is_in_grammar rs))
    (one : IsTrue (is_in_grammar r)) where
  abbrev front : List ℕ
  front = entries rs

  abbrev body : List ℕ
  body = spelling r ++ (0 ∷ [])

  -- the cells of the area, and the bytes of an image there
  abbrev part : {X : Type 0} → List X → List X
  part cells = drop (base_of area) cells

  -- records of the grammar and one more are records of the grammar
  both : IsTrue (list_all is_in_grammar (r ∷ rs))
  both = λ i. one i && all i

  without : (gate : ℕ) (rest image : List ℕ) → gate ≢ 1 → part image ≡ front ++ (gate ∷ rest) →
      HoldsIn image area rs
  without gate rest image shut is =
      record { in_grammar = all; gate = gate; rest = rest; closed = shut; bytes_are = is }

  with_entry : (gate : ℕ) (tail image : List ℕ) → gate ≡ 1 → part image ≡ front ++ (gate ∷ (body ++ tail)) →
      HoldsIn image area (r ∷ rs)
  with_entry gate tail image is_open is = record {
    in_grammar = both;
    gate = 0;
    rest = tail;
    closed = λ e. omega (arith, e);
    bytes_are = is
        ∙ ap (λ (g : ℕ). front ++ (g ∷ (body ++ tail))) is_open
        ∙ ap (λ (l : List ℕ). front ++ (1 ∷ l)) (append_assoc (spelling r) (0 ∷ []) tail)
        ∙ sym (append_assoc front (1 ∷ spelling r) (0 ∷ tail));
  }

  -- the gate as an image has it
  split : (c : ℕ × Bool) (rest : Cells) (bytes : List ℕ) → IsImage (firm front ++ (c ∷ rest)) bytes →
      (g : ℕ) × (tail : List ℕ) × (bytes ≡ front ++ (g ∷ tail)) × IsImage rest tail
  split c rest bytes is = behind (IsImage-firm front (c ∷ rest) bytes is)
    where
      behind : (tail : List ℕ) × (bytes ≡ front ++ tail) × IsImage (c ∷ rest) tail →
          (g : ℕ) × (tail : List ℕ) × (bytes ≡ front ++ (g ∷ tail)) × IsImage rest tail
      behind ([], is_image, none) = absurd none
      behind (g ∷ tail, is_image, some) = (g, tail, is_image, some.1)

  doubt_images : (cells : Cells) → IsInDoubt front body (part cells) → (image : List ℕ) →
      IsImage cells image → HoldsIn image area rs ⊎ HoldsIn image area (r ∷ rs)
  doubt_images cells (gate, rest, is) image of =
      let s = split (gate, true) (firm body ++ rest) (part image)
      (subst (λ (c : Cells). IsImage c (part image)) is (IsImage-drop (base_of area) cells image of)) in
      let behind = IsImage-firm body rest s.1 s.3 in
      let whole : part image ≡ front ++ (s.0 ∷ (body ++ behind.0)) = s.2
      ∙ ap (λ (l : List ℕ). front ++ (s.0 ∷ l)) behind.1 in
      elim (cases_eq s.0 1) [
        | inl opened ↦ inr (with_entry s.0 behind.0 image opened whole)
        | inr shut ↦ inl (without s.0 (body ++ behind.0) image shut whole)
      ]

  -- once an append is done, the area has the text with its record
  pub ended-text : (cells : Cells) → IsAfterMoves 4 front body (part cells) → HasText cells area (r ∷ rs)
  ended-text cells (rest, is) =
      let inner : firm body ++ rest ≡ firm (spelling r) ++ ((0, false) ∷ rest) =
      ap (λ (l : Cells). l ++ rest) (map-append (λ b. (b, false)) (spelling r) (0 ∷ []))
      ∙ append_assoc (firm (spelling r)) ((0, false) ∷ []) rest in
      let outer : firm (entries (r ∷ rs)) ≡ firm front ++ ((1, false) ∷ firm (spelling r)) =
      map-append (λ b. (b, false)) front (1 ∷ spelling r) in
      record {
        in_grammar = both;
        gate = 0;
        rest = rest;
        closed = λ e. omega (arith, e);
        cells_are = is ∙ ap (λ (l : Cells). firm front ++ ((1, false) ∷ l)) inner
            ∙ sym (ap (λ (l : Cells). l ++ ((0, false) ∷ rest)) outer
            ∙ append_assoc (firm front) ((1, false) ∷ firm (spelling r)) ((0, false) ∷ rest));
      }

  -- ---- after a move, and after its fault

  -- up to the third move of an append, the area has the text of the records before it
  pub old-text : (moves : ℕ) (cells : Cells) → moves < 3 → IsAfterMoves moves front body (part cells) →
      HasText cells area rs
  old-text zero cells few held = closed-text area rs all cells held
  old-text (suc zero) cells few held =
      closed-text area rs all cells (held.0, loose body ++ held.1, held.2, held.3)
  old-text (suc (suc zero)) cells few held =
      closed-text area rs all cells (held.0, firm body ++ held.1, held.2, held.3)
  old-text (suc (suc (suc n))) cells few held = absurd (omega (arith, few))

  -- so it has after a fault before the gate
  pub given-text : (moves : ℕ) (cells : Cells) → moves < 2 → IsGivenUp moves front body (part cells) →
      HasText cells area rs
  given-text zero cells few held = closed-text area rs all cells held
  given-text (suc zero) cells few held = closed-text area rs all cells held
  given-text (suc (suc n)) cells few held = absurd (omega (arith, few))

  -- all through an append each image holds the records before it, or these with its own
  pub either-after : (moves : ℕ) (cells : Cells) → IsAfterMoves moves front body (part cells) →
      (image : List ℕ) → IsImage cells image → HoldsIn image area rs ⊎ HoldsIn image area (r ∷ rs)
  either-after zero cells held image of =
      inl (text-image area rs cells image (old-text 0 cells (lit< tt) held) of)
  either-after (suc zero) cells held image of =
      inl (text-image area rs cells image (old-text 1 cells (lit< tt) held) of)
  either-after (suc (suc zero)) cells held image of =
      inl (text-image area rs cells image (old-text 2 cells (lit< tt) held) of)
  either-after (suc (suc (suc zero))) cells held image of = doubt_images cells (1, held.0, held.1) image of
  either-after (suc (suc (suc (suc n)))) cells held image of =
      inr (text-image area (r ∷ rs) cells image (ended-text cells held) of)

  -- so it does after a fault
  pub either-given : (moves : ℕ) (cells : Cells) → IsGivenUp moves front body (part cells) →
      (image : List ℕ) → IsImage cells image → HoldsIn image area rs ⊎ HoldsIn image area (r ∷ rs)
  either-given zero cells held image of =
      inl (text-image area rs cells image (closed-text area rs all cells held) of)
  either-given (suc zero) cells held image of =
      inl (text-image area rs cells image (closed-text area rs all cells held) of)
  either-given (suc (suc n)) cells (inl held) image of =
      inl (text-image area rs cells image (closed-text area rs all cells held) of)
  either-given (suc (suc n)) cells (inr held) image of = doubt_images cells held image of
