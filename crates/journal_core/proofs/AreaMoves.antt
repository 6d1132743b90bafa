-- An append in an area: its moves, and what the images of a disk stand for in its course.
use Rattle.journal_core.proofs.Words.{◌≢◌, ◌⊎◌, inl, inr, ◌+◌, ◌-◌, ◌≤◌, ◌<◌, min, Bool, true, ◌++◌, length, take, drop, replicate, Option, Some, None, Result, Ok, Err, refl, sym, ap, ◌∙◌, subst, arith, length-append, length-take, length-drop, IsTrue, IfSome, IsErrOf, OnErr, option_map, list_all, drop-append-le, drop-take, drop-drop, WriteFault, Cells, firm, loose, spliced, written, Torn, IsImage, Goes, is_in_grammar, spelling, Area, base_of, entries, HoldsIn, StandsActive, IsClosed, IsAfterMoves, IsGivenUp, IsWrite, cells_after, MayTear, IsNamed, StandsFirm, IsAfterMovesIn, IsGivenUpIn, AllStandIn, MayStandWith}
use Rattle.std.proofs.Common.{◌≡◌, ℕ, zero, suc, false, List, [], ◌∷◌}
use Rattle.stream_model.specs.declared.fault.WriteFault.TheVariants as write_fault
use Rattle.record_defs.specs.Records.{Record}
use Rattle.journal_core.proofs.CellLemmas.{settled}
use Rattle.journal_core.proofs.MoveLemmas.{IfSome-mapped, IfSome-goes, IfSome-same, body_written, gate_written, body_torn, gate_torn, synced}
use Rattle.journal_core.proofs.ImageLemmas.{ended-text, old-text, given-text, either-after, either-given}
use Rattle.journal_core.proofs.AreaStands.{firm-image}
use Rattle.journal_core.proofs.Splices.{splice-written, splice-torn, drop-settled}
use Rattle.record_defs.proofs.Standing.{base-least}
use Rattle.journal_core.proofs.Texts.{named-below, named-settled, named-image}

-- ---- writes from where an area begins

spliced-drop : (base m : ℕ) (new cells : Cells) → base + m ≤ length cells →
    drop base (spliced (base + m) new cells) ≡ spliced m new (drop base cells)
spliced-drop base m new cells within =
    let behind_it : Cells = new ++ drop (base + m + length new) cells in
    let same : base + m + length new ≡ base + (m + length new) = omega arith in
    drop-append-le base (take (base + m) cells) behind_it
    (omega (arith, length-take (base + m) cells, within))
    ∙ ap (λ (c : Cells). c ++ behind_it) (drop-take base m cells)
    ∙ ap (λ (c : Cells). take m (drop base cells) ++ (new ++ c))
    (ap (λ (k : ℕ). drop k cells) same ∙ sym (drop-drop (m + length new) base cells))

-- a write behind a base is one from the base on
written-drop : (base k : ℕ) (bytes : List ℕ) (cells : Cells) → base ≤ length cells →
    drop base (written (base + k) bytes cells) ≡ written k bytes (drop base cells)
written-drop base k bytes cells within =
    let size = length-drop base cells in
    let gap : base + k - length cells ≡ k - length (drop base cells) = omega (arith, size, within) in
    let start : min (base + k) (length cells) ≡ base + min k (length (drop base cells)) =
    omega (arith, size, within) in
    ap (λ (g : ℕ). drop base (spliced (min (base + k) (length cells)) (loose (replicate g 0 ++ bytes)) cells)) gap
    ∙ ap (λ (s : ℕ). drop base
    (spliced s (loose (replicate (k - length (drop base cells)) 0 ++ bytes)) cells)) start
    ∙ spliced-drop base (min k (length (drop base cells)))
    (loose (replicate (k - length (drop base cells)) 0 ++ bytes)) cells (omega (arith, size, within))

-- so is one that failed
torn-drop : (base k n : ℕ) (old new : Cells) → base ≤ length old → Torn (base + k) n old new →
    Torn k n (drop base old) (drop base new)
torn-drop base k n old new within torn =
    let size = length-drop base old in
    let start : min (base + k) (length old) ≡ base + min k (length (drop base old)) =
    omega (arith, size, within) in
    let most = torn.no_longer in
    let least = torn.no_shorter in
    record {
      bytes = torn.bytes;
      held = ap (λ (c : Cells). drop base c) torn.held
          ∙ ap (λ (s : ℕ). drop base (spliced s (loose torn.bytes) old)) start
          ∙ spliced-drop base (min k (length (drop base old))) (loose torn.bytes) old
          (omega (arith, size, within));
      no_longer = omega (arith, size, within, most);
      no_shorter = omega (arith, size, within, least);
    }

-- cells with a gate are some
some-cells : (front rest cells : Cells) (c : ℕ × Bool) → cells ≡ front ++ (c ∷ rest) → 1 ≤ length cells
some-cells front rest cells c is = omega (arith, ap length is, length-append front (c ∷ rest))

-- in the course of an append its gate is there
longer : (n : ℕ) (front body : List ℕ) (cells : Cells) → IsAfterMoves n front body cells → 1 ≤ length cells
longer zero front body cells h = some-cells (firm front) h.1 cells (h.0, false) h.3
longer (suc zero) front body cells h = some-cells (firm front) (loose body ++ h.1) cells (h.0, false) h.3
longer (suc (suc zero)) front body cells h = some-cells (firm front) (firm body ++ h.1) cells (h.0, false) h.3
longer (suc (suc (suc zero))) front body cells h =
    some-cells (firm front) (firm body ++ h.0) cells (1, true) h.1
longer (suc (suc (suc (suc n)))) front body cells h =
    some-cells (firm front) (firm body ++ h.0) cells (1, false) h.1

module _ (area : Area) (rs : List Record) where
  abbrev base : ℕ
  base = base_of area

  abbrev front : List ℕ
  front = entries rs

  -- an append begins where the text is firm
  pub begins-in : (body : List ℕ) (cells : Cells) → StandsFirm area rs cells → IsAfterMovesIn 0 area rs body cells
  begins-in body cells f =
      record { named = f.named; text = (f.text.gate, f.text.rest, f.text.closed, f.text.cells_are) }

  module _ (body : List ℕ) (gate : ℕ) (gate_is : gate ≡ base + length front) where
    within : (n : ℕ) (cells : Cells) → IsAfterMovesIn n area rs body cells → base ≤ length cells
    within n cells h = omega (arith, longer n front body (drop base cells) h.text, length-drop base cells)

    behind-front : (k : ℕ) → 8 ≤ base + k
    behind-front k = (let l = base-least area in omega (arith, l))

    body-at : gate + 1 ≡ base + (length front + 1)
    body-at = omega (arith, gate_is)

    in-first : (cells : Cells) → IsAfterMovesIn 0 area rs body cells →
        IsAfterMovesIn 1 area rs body (written (gate + 1) body cells)
    in-first cells h = subst (λ (k : ℕ). IsAfterMovesIn 1 area rs body (written k body cells)) (sym body-at)
        (record {
          named = named-below area (base + (length front + 1)) (length body) cells
              (written (base + (length front + 1)) body cells)
              (splice-written (base + (length front + 1)) body cells) (behind-front (length front + 1)) h.named;
          text = subst (IsAfterMoves 1 front body)
              (sym (written-drop base (length front + 1) body cells (within 0 cells h)))
              (body_written front body (drop base cells) h.text);
        })

    in-sync : (n : ℕ) → n ≢ 0 → n ≢ 2 → n < 4 → (cells : Cells) → IsAfterMovesIn n area rs body cells →
        IsAfterMovesIn (n + 1) area rs body (settled cells)
    in-sync n not_first not_third few cells h = record {
      named = named-settled area cells h.named;
      text = subst (IsAfterMoves (n + 1) front body) (sym (drop-settled base cells))
          (synced front body n not_first not_third few (Some (drop base cells))
          (Some (settled (drop base cells))) refl h.text);
    }

    in-third : (cells : Cells) → IsAfterMovesIn 2 area rs body cells →
        IsAfterMovesIn 3 area rs body (written gate (1 ∷ []) cells)
    in-third cells h = subst (λ (k : ℕ). IsAfterMovesIn 3 area rs body (written k (1 ∷ []) cells)) (sym gate_is)
        (record {
          named = named-below area (base + length front) 1 cells (written (base + length front) (1 ∷ []) cells)
              (splice-written (base + length front) (1 ∷ []) cells) (behind-front (length front)) h.named;
          text = subst (IsAfterMoves 3 front body)
              (sym (written-drop base (length front) (1 ∷ []) cells (within 2 cells h)))
              (gate_written front body (drop base cells) h.text);
        })

    first-torn : (old new : Cells) → IsAfterMovesIn 0 area rs body old → Torn (gate + 1) (length body) old new →
        IsGivenUpIn 0 area rs body new
    first-torn old new h torn =
        let here = subst (λ (k : ℕ). Torn k (length body) old new) body-at torn in
        record {
          named = named-below area (base + (length front + 1)) (length body) old new
              (splice-torn (base + (length front + 1)) (length body) old new here)
              (behind-front (length front + 1)) h.named;
          text = body_torn front body (length body) (drop base old) (drop base new) h.text
              (torn-drop base (length front + 1) (length body) old new (within 0 old h) here);
        }

    third-torn : (old new : Cells) → IsAfterMovesIn 2 area rs body old → Torn gate 1 old new →
        IsGivenUpIn 2 area rs body new
    third-torn old new h torn =
        let here = subst (λ (k : ℕ). Torn k 1 old new) gate_is torn in
        record {
          named = named-below area (base + length front) 1 old new
              (splice-torn (base + length front) 1 old new here) (behind-front (length front)) h.named;
          text = inr (gate_torn front body (drop base old) (drop base new) h.text
              (torn-drop base (length front) 1 old new (within 2 old h) here));
        }

    -- a move is made
    made-in : (m : ℕ) → m < 4 → (cells : Cells) → IsAfterMovesIn m area rs body cells →
        IsAfterMovesIn (m + 1) area rs body (cells_after m gate body cells)
    made-in zero few cells h = in-first cells h
    made-in (suc zero) few cells h =
        in-sync 1 (λ e. omega (arith, e)) (λ e. omega (arith, e)) (omega arith) cells h
    made-in (suc (suc zero)) few cells h = in-third cells h
    made-in (suc (suc (suc zero))) few cells h =
        in-sync 3 (λ e. omega (arith, e)) (λ e. omega (arith, e)) (omega arith) cells h
    made-in (suc (suc (suc (suc n)))) few cells h = absurd (omega (arith, few))

    -- a move failed
    torn-in : (m : ℕ) → m < 4 → (old new : Cells) → IsAfterMovesIn m area rs body old →
        MayTear m gate body old new → IsGivenUpIn m area rs body new
    torn-in zero few old new h torn = first-torn old new h torn
    torn-in (suc zero) few old new h same = subst (IsGivenUpIn 1 area rs body) (sym same)
        (record { named = h.named; text = (h.text.0, loose body ++ h.text.1, h.text.2, h.text.3) })
    torn-in (suc (suc zero)) few old new h torn = third-torn old new h torn
    torn-in (suc (suc (suc zero))) few old new h same = subst (IsGivenUpIn 3 area rs body) (sym same)
        (record { named = h.named; text = inr (1, h.text.0, h.text.1) })
    torn-in (suc (suc (suc (suc n)))) few old new h torn = absurd (omega (arith, few))

    -- in front of a write the gate is closed
    closed-in : (m : ℕ) → IsWrite m → (cells : Cells) → IsAfterMovesIn m area rs body cells →
        IsClosed front (drop base cells)
    closed-in zero w cells h = h.text
    closed-in (suc zero) w cells h = absurd (elim w [ inl e ↦ omega (arith, e) | inr e ↦ omega (arith, e) ])
    closed-in (suc (suc zero)) w cells h = (h.text.0, firm body ++ h.text.1, h.text.2, h.text.3)
    closed-in (suc (suc (suc n))) w cells h =
        absurd (elim w [ inl e ↦ omega (arith, e) | inr e ↦ omega (arith, e) ])

    closed-given : (m : ℕ) (cells : Cells) → IsClosed front cells → IsGivenUp m front body cells
    closed-given zero cells shut = shut
    closed-given (suc zero) cells shut = shut
    closed-given (suc (suc n)) cells shut = inl shut

    -- ---- where the disk tells its cells

    pub moved-in : (m : ℕ) → m < 4 → (old new : Option Cells) → new ≡ option_map (cells_after m gate body) old →
        IfSome old (IsAfterMovesIn m area rs body) → IfSome new (IsAfterMovesIn (m + 1) area rs body)
    moved-in m few = IfSome-mapped (IsAfterMovesIn m area rs body) (IsAfterMovesIn (m + 1) area rs body)
        (cells_after m gate body) (made-in m few)

    -- want of memory leaves the text before the record firm
    pub kept-in : IsTrue (list_all is_in_grammar rs) → (m : ℕ) → IsWrite m → (old new : Option Cells) →
        new ≡ old → IfSome old (IsAfterMovesIn m area rs body) → IfSome new (StandsFirm area rs)
    kept-in all m w = IfSome-same (IsAfterMovesIn m area rs body) (StandsFirm area rs)
        (λ cells h. (let shut = closed-in m w cells h in record {
          named = h.named;
          text = record { in_grammar = all; gate = shut.0; rest = shut.1; closed = shut.2; cells_are = shut.3 };
        }))

    -- a fault of a move
    pub given-up-in : {T : Type 0} (r : Result T WriteFault) (m : ℕ) → m < 4 → (old new : Option Cells) →
        (IsErrOf r write_fault.Failed → Goes (MayTear m gate body) old new) →
        (IsErrOf r write_fault.Memory → new ≡ old) → (IsErrOf r write_fault.Memory → IsWrite m) →
        IfSome old (IsAfterMovesIn m area rs body) → OnErr r (IfSome new (IsGivenUpIn m area rs body))
    given-up-in (Ok x) m few old new torn memory writes held = tt
    given-up-in (Err write_fault.Failed) m few old new torn memory writes held =
        IfSome-goes (IsAfterMovesIn m area rs body) (IsGivenUpIn m area rs body) (MayTear m gate body)
        (torn-in m few) old new (torn refl) held
    given-up-in (Err write_fault.Memory) m few old new torn memory writes held =
        IfSome-same (IsAfterMovesIn m area rs body) (IsGivenUpIn m area rs body) (λ cells h. record {
          named = h.named;
          text = closed-given m (drop base cells) (closed-in m (writes refl) cells h);
        }) old new (memory refl) held

-- ---- images

module _ (area : Area) (rs : List Record) (r : Record) (all : IsTrue (list_all is_in_grammar rs))
    (one : IsTrue (is_in_grammar r)) (body : List ℕ) (body_is : body ≡ spelling r ++ 0 ∷ []) where
  -- what is written is the record and a closed gate
  spelt : (n : ℕ) (cells : Cells) → IsAfterMovesIn n area rs body cells →
      IsAfterMoves n (entries rs) (spelling r ++ 0 ∷ []) (drop (base_of area) cells)
  spelt n cells h =
      subst (λ (b : List ℕ). IsAfterMoves n (entries rs) b (drop (base_of area) cells)) body_is h.text

  spelt-given : (n : ℕ) (cells : Cells) → IsGivenUpIn n area rs body cells →
      IsGivenUp n (entries rs) (spelling r ++ 0 ∷ []) (drop (base_of area) cells)
  spelt-given n cells h =
      subst (λ (b : List ℕ). IsGivenUp n (entries rs) b (drop (base_of area) cells)) body_is h.text

  either-in : (cells : Cells) (image : List ℕ) → IsNamed cells area → IsImage cells image →
      HoldsIn image area rs ⊎ HoldsIn image area (r ∷ rs) →
      StandsActive image area rs ⊎ StandsActive image area (r ∷ rs)
  either-in cells image named of (inl h) =
      inl (record { active = named-image area cells image named of; holds = h })
  either-in cells image named of (inr h) =
      inr (record { active = named-image area cells image named of; holds = h })

  module _ (n : ℕ) where
    -- up to the third move each image stands for the records before it
    pub before-in : (told : Option Cells) → n < 3 → IfSome told (IsAfterMovesIn n area rs body) →
        AllStandIn area rs told
    before-in None few h = tt
    before-in (Some cells) few h = λ image of. firm-image area rs cells image
        (record { named = h.named; text = old-text area rs r all one n cells few (spelt n cells h) }) of

    -- all through an append each image stands for the records before it, or for these with its own
    pub between-in : (told : Option Cells) → IfSome told (IsAfterMovesIn n area rs body) →
        MayStandWith area rs r told
    between-in None h = tt
    between-in (Some cells) h = λ image of. either-in cells image h.named of
        (either-after area rs r all one n cells (spelt n cells h) image of)

    -- an append given up before its gate leaves the records before it
    pub before-given-in : (told : Option Cells) → n < 2 → IfSome told (IsGivenUpIn n area rs body) →
        AllStandIn area rs told
    before-given-in None few h = tt
    before-given-in (Some cells) few h = λ image of. firm-image area rs cells image
        (record { named = h.named; text = given-text area rs r all one n cells few (spelt-given n cells h) }) of

    -- an append given up leaves the records before it, or these with its own
    pub between-given-in : (told : Option Cells) → IfSome told (IsGivenUpIn n area rs body) →
        MayStandWith area rs r told
    between-given-in None h = tt
    between-given-in (Some cells) h = λ image of. either-in cells image h.named of
        (either-given area rs r all one n cells (spelt-given n cells h) image of)

    -- once an append is done the text with its record is firm
    pub ready-in : (told : Option Cells) → n ≡ 4 → IfSome told (IsAfterMovesIn n area rs body) →
        IfSome told (StandsFirm area (r ∷ rs))
    ready-in None four h = tt
    ready-in (Some cells) four h = record {
      named = h.named;
      text = ended-text area rs r all one cells
          (subst (λ (k : ℕ). IsAfterMoves k (entries rs) (spelling r ++ 0 ∷ []) (drop (base_of area) cells)) four
          (spelt n cells h));
    }
