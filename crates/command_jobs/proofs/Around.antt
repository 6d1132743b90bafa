-- What a pack leaves of a disk outside its new text and the switch byte: its moves put bytes in the place of
-- others, or make them firm.
use Rattle.command_jobs.proofs.Words.{◌≡◌, ℕ, Bool, true, false, zero, suc, ◌+◌, ◌-◌, ◌<◌, ◌≤◌, min, List, [], ◌∷◌, ◌++◌, length, take, drop, replicate, refl, sym, ap, subst, ◌∙◌, inl, inr, arith, All, drop-append-le, drop-map, drop-take, length-append, length-map, length-replicate, length-take, length-take-le, map-append, take-append-drop, take-append-le, take-map, take_all, cases_lt, take-append-add, take-append_seam, take-length, Cells, reads, firm, loose, spliced, written, synced, reads-firm, image-firm, Record, Area, base_of, end_in, moved_on, MayBeTorn, StaysAround}
use Rattle.std.proofs.Common.{append_assoc}
use Rattle.std.proofs.lemmas.List.{append-nil}
use Rattle.std.proofs.lemmas.List.Elements.{All-replicate}
use Rattle.device_defs.specs.Images.{IsImage}
use Rattle.journal_core.proofs.CellLemmas.{settled, settled-append, settled-firm, IsImage-firm}
use Rattle.journal_core.proofs.Splices.{IsSplice, splice-torn, kept-above, drop-settled, IsImage-drop}

-- cells that are others but for a byte at offset 7, more cells in front of a place, and those from there to an
-- end
pub record IsAround (at end : ℕ) (old new : Cells) : Type 0 where
  pub front : take 7 new ≡ take 7 old
  pub gap : Cells
  pub middle : drop 8 (take at new) ≡ drop 8 (take at old) ++ gap
  pub behind : drop end new ≡ drop end old

-- ---- lists

take-min : (at : ℕ) (old : Cells) → take (min at (length old)) old ≡ take at old
take-min at old = elim (cases_lt at (length old)) [
  | inl few ↦ (ap (λ k. take k old) (omega (arith, few)))
  | inr many ↦ (ap (λ k. take k old) (omega (arith, many)) ∙ (take-length old ∙ sym (take_all at old many)))
]

take-spliced : (k at : ℕ) (new old : Cells) → k ≤ at → at ≤ length old →
    take k (spliced at new old) ≡ take k old
take-spliced k at new old low le =
    let size : length (take at old) ≡ at = length-take-le at old le in
    take-append-le k (take at old) (new ++ drop (at + length new) old) (omega (arith, low, size))
    ∙ (sym (take-append-le k (take at old) (drop at old) (omega (arith, low, size)))
    ∙ ap (λ (c : Cells). take k c) (take-append-drop at old))

take-settled : (k : ℕ) (c : Cells) → take k (settled c) ≡ settled (take k c)
take-settled k c = take-map (λ b. (b, false)) k (reads c) ∙ ap firm (take-map (λ c. c.0) k c)

reads-loose : (bytes : List ℕ) → reads (loose bytes) ≡ bytes
reads-loose [] = refl
reads-loose (b ∷ bytes) = ap (λ (l : List ℕ). b ∷ l) (reads-loose bytes)

-- an image up to a place
IsImage-take : (k : ℕ) (cells : Cells) (image : List ℕ) → IsImage cells image →
    IsImage (take k cells) (take k image)
IsImage-take zero cells image is = tt
IsImage-take (suc k) [] [] is = tt
IsImage-take (suc k) (c ∷ cells) (b ∷ image) is = (is.0, IsImage-take k cells image is.1)
IsImage-take (suc k) _ _ is = absurd is

-- ---- a write into the other area, and one that failed

module _ (at n : ℕ) (old new : Cells) (s : IsSplice at n old new) where
  abbrev start : ℕ
  start = min at (length old)

  abbrev added : Cells
  added = take (at - start) (s.part ++ drop (start + length s.part) old)

  in-front : take at new ≡ take at old ++ added
  in-front =
      let long : length (take start old) ≡ start = omega (arith, length-take start old) in
      ap (λ c. take at c) s.held
      ∙ (ap (λ k. take k (take start old ++ (s.part ++ drop (start + length s.part) old))) (omega (arith, long))
      ∙ (take-append-add (take start old) (s.part ++ drop (start + length s.part) old) (at - start)
      ∙ ap (λ c. c ++ added) (take-min at old)))

  around-text : 8 ≤ at → 8 ≤ length old → IsAround at (at + n) old new
  around-text low long = record {
    front = ap (λ (c : Cells). take 7 c) s.held
        ∙ take-spliced 7 start s.part old (omega (arith, low, long)) (omega arith);
    gap = added;
    middle = ap (λ (c : Cells). drop 8 c) in-front
        ∙ drop-append-le 8 (take at old) added (let t = length-take at old in omega (arith, t, low, long));
    behind = kept-above (at + n) at n old new s (omega arith);
  }

  -- it cuts nothing off
  still-long : 8 ≤ at → 8 ≤ length old → 8 ≤ length new
  still-long low long =
      let a = ap (λ (c : Cells). length c) in-front in
      let b = length-take at new in
      let c = length-append-of (take at old) added in
      let d = length-take at old in
      omega (arith, a, b, c, d, low, long)
    where
      length-append-of : (x y : Cells) → length x ≤ length (x ++ y)
      length-append-of [] y = omega arith
      length-append-of (c ∷ x) y = (let h = length-append-of x y in omega (arith, h))

-- a write puts zeros, where the cells end before it, and its bytes in the place of others
abbrev writes : (at : ℕ) (bytes : List ℕ) (old : Cells) → IsSplice at (length bytes) old (written at bytes old)
writes at bytes old = record {
  part = loose (replicate (at - length old) 0 ++ bytes);
  held = refl;
  no_longer = (let a : length (loose (replicate {A = ℕ} (at - length old) 0 ++ bytes))
      ≡ length (replicate {A = ℕ} (at - length old) 0 ++ bytes) =
      length-map {B = ℕ × Bool} (replicate (at - length old) 0 ++ bytes) (λ b. (b, true)) in
      let b = length-append (replicate {A = ℕ} (at - length old) 0) bytes in
      let c = length-replicate {A = ℕ} (at - length old) 0 in
      omega (arith, a, b, c));
}

-- a write adds zeros in front of its bytes
added-zeros : (at : ℕ) (bytes : List ℕ) (old : Cells) →
    All (λ b. b ≡ 0) (reads (added at (length bytes) old (written at bytes old) (writes at bytes old)))
added-zeros at bytes old =
    let zeros : List ℕ = replicate (at - length old) 0 in
    let rest : Cells = drop (min at (length old) + length (loose (zeros ++ bytes))) old in
    let size : length (loose zeros) ≡ at - length old =
    length-map zeros (λ b. (b, true)) ∙ length-replicate {A = ℕ} (at - length old) 0 in
    let k : at - min at (length old) ≡ length (loose zeros) = omega (arith, size) in
    let parts : loose (zeros ++ bytes) ++ rest ≡ loose zeros ++ (loose bytes ++ rest) =
    ap (λ (c : Cells). c ++ rest) (map-append (λ b. (b, true)) zeros bytes)
    ∙ append_assoc (loose zeros) (loose bytes) rest in
    let is : take (at - min at (length old)) (loose (zeros ++ bytes) ++ rest) ≡ loose zeros =
    ap (λ (i : ℕ). take i (loose (zeros ++ bytes) ++ rest)) k
    ∙ (ap (λ (c : Cells). take (length (loose zeros)) c) parts
    ∙ take-append_seam (loose zeros) (loose bytes ++ rest)) in
    subst (λ (l : List ℕ). All (λ b. b ≡ 0) l) (sym (ap reads is ∙ reads-loose zeros))
    (All-replicate (λ b. b ≡ 0) (at - length old) 0 refl)

-- ---- a write of the switch byte

around-switch : (at end : ℕ) (first old new : Cells) → IsSplice 7 1 old new → 8 ≤ at → 8 ≤ end →
    8 ≤ length old → IsAround at end first old → IsAround at end first new
around-switch at end first old new s low past long x =
    let is : at ≡ 8 + (at - 8) = omega arith in
    record {
      front = (ap (λ c. take 7 c) s.held
          ∙ take-spliced 7 (min 7 (length old)) s.part old (omega arith) (omega arith)) ∙ x.front;
      gap = x.gap;
      middle = (ap (λ k. drop 8 (take k new)) is
          ∙ (drop-take 8 (at - 8) new
          ∙ (ap (λ c. take (at - 8) c) (kept-above 8 7 1 old new s (omega arith))
          ∙ (sym (drop-take 8 (at - 8) old)
          ∙ ap (λ k. drop 8 (take k old)) (sym is))))) ∙ x.middle;
      behind = kept-above end 7 1 old new s past ∙ x.behind;
    }

-- ---- a sync

around-synced : (at end : ℕ) (bytes : List ℕ) (c : Cells) → IsAround at end (firm bytes) c →
    IsAround at end (firm bytes) (synced c)
around-synced at end bytes c x = record {
  front = take-settled 7 c
      ∙ (ap settled x.front
      ∙ (sym (take-settled 7 (firm bytes)) ∙ ap (λ (c : Cells). take 7 c) (settled-firm bytes)));
  gap = settled x.gap;
  middle = ap (λ (c : Cells). drop 8 c) (take-settled at c)
      ∙ (drop-settled 8 (take at c)
      ∙ (ap settled x.middle
      ∙ (settled-append (drop 8 (take at (firm bytes))) x.gap
      ∙ ap (λ (d : Cells). d ++ settled x.gap)
      (sym (drop-settled 8 (take at (firm bytes)))
      ∙ (ap (λ (d : Cells). drop 8 d) (sym (take-settled at (firm bytes)))
      ∙ ap (λ (d : Cells). drop 8 (take at d)) (settled-firm bytes))))));
  behind = drop-settled end c
      ∙ (ap settled x.behind
      ∙ (sym (drop-settled end (firm bytes)) ∙ ap (λ (d : Cells). drop end d) (settled-firm bytes)));
}

length-synced : (c : Cells) → length (synced c) ≡ length c
length-synced c = length-map (reads c) (λ b. (b, false)) ∙ length-map c (λ c. c.0)

firm-synced : (c : Cells) → synced c ≡ firm (reads (synced c))
firm-synced c = sym (ap firm (reads-firm (reads c)))

-- ---- the cells behind so many moves

-- with zeros in a gap
pub record HasZeros (at end : ℕ) (bytes : List ℕ) (c : Cells) : Type 0 where
  pub around : IsAround at end (firm bytes) c
  pub zeros : All (λ b. b ≡ 0) (reads around.gap)

-- from firm bytes on, by how many moves of a pack were made
abbrev pub OnCells : ℕ → ℕ → ℕ → List ℕ → Cells → Type 0
OnCells zero at end bytes c = (c ≡ firm bytes) × (8 ≤ length c)
OnCells (suc zero) at end bytes c = HasZeros at end bytes c × (8 ≤ length c)
OnCells (suc (suc zero)) at end bytes c = HasZeros at end bytes c × (8 ≤ length c) × (c ≡ firm (reads c))
OnCells (suc (suc (suc zero))) at end bytes c = HasZeros at end bytes c
OnCells (suc (suc (suc (suc n)))) at end bytes c = HasZeros at end bytes c × (c ≡ firm (reads c))

zeros-synced : (at end : ℕ) (bytes : List ℕ) (c : Cells) → HasZeros at end bytes c →
    HasZeros at end bytes (synced c)
unfolding around-synced
zeros-synced at end bytes c z = record {
  around = around-synced at end bytes c z.around;
  zeros = subst (λ (l : List ℕ). All (λ b. b ≡ 0) l) (sym (reads-firm (reads z.around.gap))) z.zeros;
}

-- nothing was written yet
pub none-written : (at end : ℕ) (bytes : List ℕ) (c : Cells) → c ≡ firm bytes → HasZeros at end bytes c
none-written at end bytes c is = record {
  around = record {
    front = ap (λ (d : Cells). take 7 d) is;
    gap = [];
    middle = ap (λ (d : Cells). drop 8 (take at d)) is ∙ sym (append-nil (drop 8 (take at (firm bytes))));
    behind = ap (λ (d : Cells). drop end d) is;
  };
  zeros = λ k d less. absurd (omega (arith, less));
}

-- so they are after one move more
pub steps-cells : (n at : ℕ) (text : List ℕ) (switch : ℕ) (bytes : List ℕ) (c : Cells) → n < 4 → 8 ≤ at →
    OnCells n at (at + length text) bytes c →
    OnCells (suc n) at (at + length text) bytes (moved_on n at text 7 switch c)
unfolding around-text around-switch
steps-cells zero at text switch bytes c few low (is, long) =
    let s = writes at text c in (
      subst (λ (d : Cells). HasZeros at (at + length text) bytes (written at text d)) (sym is) (record {
        around = around-text at (length text) (firm bytes) (written at text (firm bytes))
            (writes at text (firm bytes)) low (subst (λ (d : Cells). 8 ≤ length d) is long);
        zeros = added-zeros at text (firm bytes);
      }),
      still-long at (length text) c (written at text c) s low long,
    )
steps-cells (suc zero) at text switch bytes c few low (z, long) = (
  zeros-synced at (at + length text) bytes c z,
  (let e = length-synced c in omega (arith, e, long)),
  firm-synced c,
)
steps-cells (suc (suc zero)) at text switch bytes c few low (z, long, is) = record {
  around = around-switch at (at + length text) (firm bytes) c _ (writes 7 (switch ∷ []) c) low
      (omega (arith, low)) long z.around;
  zeros = z.zeros;
}
steps-cells (suc (suc (suc zero))) at text switch bytes c few low z =
    (zeros-synced at (at + length text) bytes c z, firm-synced c)
steps-cells (suc (suc (suc (suc n)))) at text switch bytes c few low h = absurd (omega (arith, few))

-- and where a move failed
pub torn-cells : (n at size : ℕ) (bytes : List ℕ) (c new : Cells) → 8 ≤ at → OnCells n at (at + size) bytes c →
    MayBeTorn n at size 7 c new → IsAround at (at + size) (firm bytes) new
torn-cells zero at size bytes c new low (is, long) torn = around-text at size (firm bytes) new
    (splice-torn at size (firm bytes) new (rw is at torn)) low (rw is at long)
torn-cells (suc zero) at size bytes c new low (z, long) same = (rw (← same) at z.around)
torn-cells (suc (suc zero)) at size bytes c new low (z, long, is) torn = around-switch at (at + size)
    (firm bytes) c new (splice-torn 7 1 c new torn) low (omega arith) long z.around
torn-cells (suc (suc (suc zero))) at size bytes c new low z same = (rw (← same) at z.around)
torn-cells (suc (suc (suc (suc n)))) at size bytes c new low (z, is) same = rw (← same) at z.around

-- ---- what each image has

module _ (area : Area) (records : List Record) (bytes : List ℕ) (c : Cells)
    (x : IsAround (base_of area) (end_in area records) (firm bytes) c) (image : List ℕ) (is : IsImage c image) where
  front-image : take 7 image ≡ take 7 bytes
  front-image = image-firm (take 7 bytes) (take 7 image) (subst (λ (d : Cells). IsImage d (take 7 image))
      (x.front ∙ take-map (λ b. (b, false)) 7 bytes) (IsImage-take 7 c image is))

  behind-image : drop (end_in area records) image ≡ drop (end_in area records) bytes
  behind-image = image-firm (drop (end_in area records) bytes) (drop (end_in area records) image)
      (rw (x.behind ∙ drop-map (λ b. (b, false)) (end_in area records) bytes) at
      (IsImage-drop (end_in area records) c image is))

  middle-firm : drop 8 (take (base_of area) (firm bytes)) ≡ firm (drop 8 (take (base_of area) bytes))
  middle-firm = ap (λ (d : Cells). drop 8 d) (take-map (λ b. (b, false)) (base_of area) bytes)
      ∙ drop-map (λ b. (b, false)) 8 (take (base_of area) bytes)

  -- where a move failed, any bytes may fill a gap
  pub stays-torn : StaysAround area records (λ gap. Unit {0}) bytes image
  stays-torn =
      let m = IsImage-firm (drop 8 (take (base_of area) bytes)) x.gap (drop 8 (take (base_of area) image))
      (rw (x.middle ∙ ap (λ (d : Cells). d ++ x.gap) middle-firm) at (IsImage-drop 8 (take (base_of area) c)
      (take (base_of area) image)
      (IsImage-take (base_of area) c image is))) in
      record { front = front-image; gap = m.0; fills = tt; middle = m.1; behind = behind-image }

  -- where none of it is loose, what was added is
  pub stays-firm : c ≡ firm (reads c) → StaysAround area records (λ gap. gap ≡ reads x.gap) bytes image
  stays-firm all =
      let image_is : image ≡ reads c = image-firm (reads c) image (subst (λ (d : Cells). IsImage d image) all is) in
      record {
        front = front-image;
        gap = reads x.gap;
        fills = refl;
        middle = ap (λ (l : List ℕ). drop 8 (take (base_of area) l)) image_is
            ∙ (ap (λ (l : List ℕ). drop 8 l) (take-map (λ c. c.0) (base_of area) c)
            ∙ (drop-map (λ c. c.0) 8 (take (base_of area) c)
            ∙ (ap reads (x.middle ∙ ap (λ (d : Cells). d ++ x.gap) middle-firm)
            ∙ (map-append (λ c. c.0) (firm (drop 8 (take (base_of area) bytes))) x.gap
            ∙ ap (λ (l : List ℕ). l ++ reads x.gap) (reads-firm (drop 8 (take (base_of area) bytes)))))));
        behind = behind-image;
      }
