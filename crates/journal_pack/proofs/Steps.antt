-- The moves of a pack, one after the other.
use Rattle.journal_pack.proofs.Words.{◌≡◌, inl, inr, ℕ, zero, suc, ◌+◌, ◌≤◌, ◌<◌, List, [], ◌∷◌, ◌++◌, length, Option, Result, Ok, Err, refl, sym, subst, arith, IsTrue, IfSome, IsErrOf, OnErr, option_map, list_all, WriteFault, Cells, Goes, is_in_grammar, Area, A, B, other_area, base_of, switch_of, entries, IsWrite, moved_on, MayBeTorn, StandsFirm, IsApart, switch_to, IsAfterPack, IsBetween, IsPackGivenUp, text-above, text-apart, named-below, text-written, switch-written, switch-torn, text-settled, loose-settled, named-settled, switching-settled}
use Rattle.stream_model.specs.declared.fault.WriteFault.TheVariants as write_fault
use Rattle.device_defs.specs.Disks.{written, Torn}
use Rattle.record_defs.specs.Records.{Record}
use Rattle.journal_core.proofs.CellLemmas.{settled}
use Rattle.journal_core.proofs.MoveLemmas.{IfSome-mapped, IfSome-goes, IfSome-same}
use Rattle.journal_core.proofs.Splices.{IsSplice, splice-written, splice-torn}
use Rattle.record_defs.proofs.Standing.{base-least}

-- the switch byte that is written names the area that is written to
pub switch-is : (area : Area) → switch_to (base_of area) ≡ switch_of area
switch-is A = refl
switch-is B = refl

module _ (area : Area) (rs qs : List Record) (good : IsTrue (list_all is_in_grammar qs))
    (apart : IsApart area rs) (short : length (entries qs ++ 0 ∷ []) + 8 ≤ base_of B) where
  abbrev text : List ℕ
  text = entries qs ++ 0 ∷ []

  abbrev to : ℕ
  to = base_of (other_area area)

  abbrev switch : ℕ
  switch = switch_of (other_area area)

  -- what stands firm stays under a write into the other area
  firm-apart : (old new : Cells) → IsSplice to (length text) old new → StandsFirm area rs old →
      StandsFirm area rs new
  firm-apart old new s f = record {
    named = named-below area to (length text) old new s (base-least (other_area area)) f.named;
    text = text-apart area rs (length text) old new s apart short f.text;
  }

  first : (cells : Cells) → IsAfterPack 0 area rs qs cells → IsAfterPack 1 area rs qs (written to text cells)
  first cells f = (
    firm-apart cells (written to text cells) (splice-written to text cells) f,
    text-written (other_area area) qs cells good,
  )

  first-torn : (old new : Cells) → IsAfterPack 0 area rs qs old → Torn to (length text) old new →
      IsPackGivenUp 0 area rs qs new
  first-torn old new f torn = firm-apart old new (splice-torn to (length text) old new torn) f

  second : (cells : Cells) → IsAfterPack 1 area rs qs cells → IsAfterPack 2 area rs qs (settled cells)
  second cells held = (
    record {
      named = named-settled area cells held.0.named;
      text = text-settled area rs cells held.0.text;
    },
    loose-settled (other_area area) qs cells held.1,
  )

  third : (cells : Cells) → IsAfterPack 2 area rs qs cells →
      IsAfterPack 3 area rs qs (written 7 (switch ∷ []) cells)
  third cells held =
      let s = splice-written 7 (switch ∷ []) cells in (
        switch-written area switch cells held.0.named,
        text-above area rs 7 1 cells (written 7 (switch ∷ []) cells) s (base-least area) held.0.text,
        text-above (other_area area) qs 7 1 cells (written 7 (switch ∷ []) cells) s
            (base-least (other_area area)) held.1,
      )

  third-torn : (old new : Cells) → IsAfterPack 2 area rs qs old → Torn 7 1 old new →
      IsPackGivenUp 2 area rs qs new
  third-torn old new held torn =
      let s = splice-torn 7 1 old new torn in
      record {
        front = inr (switch-torn area old new held.0.named torn);
        old = text-above area rs 7 1 old new s (base-least area) held.0.text;
        new = text-above (other_area area) qs 7 1 old new s (base-least (other_area area)) held.1;
      }

  fourth : (cells : Cells) → IsAfterPack 3 area rs qs cells → IsAfterPack 4 area rs qs (settled cells)
  fourth cells held = record {
    named = switching-settled (other_area area) cells held.0;
    text = text-settled (other_area area) qs cells held.2;
  }

  -- a move is made
  made : (m : ℕ) → m < 4 → (cells : Cells) → IsAfterPack m area rs qs cells →
      IsAfterPack (m + 1) area rs qs (moved_on m to text 7 switch cells)
  made zero few cells held = first cells held
  made (suc zero) few cells held = second cells held
  made (suc (suc zero)) few cells held = third cells held
  made (suc (suc (suc zero))) few cells held = fourth cells held
  made (suc (suc (suc (suc n)))) few cells held = absurd (omega (arith, few))

  -- a move failed
  torn-up : (m : ℕ) → m < 4 → (old new : Cells) → IsAfterPack m area rs qs old →
      MayBeTorn m to (length text) 7 old new → IsPackGivenUp m area rs qs new
  torn-up zero few old new held torn = first-torn old new held torn
  torn-up (suc zero) few old new held same = subst (StandsFirm area rs) (sym same) held.0
  torn-up (suc (suc zero)) few old new held torn = third-torn old new held torn
  torn-up (suc (suc (suc zero))) few old new held same = subst (IsBetween area rs qs) (sym same)
      (record { front = inr (switch, held.0); old = held.1; new = held.2 })
  torn-up (suc (suc (suc (suc n)))) few old new held torn = absurd (omega (arith, few))

  -- a write found no memory
  firm-at : (m : ℕ) → IsWrite m → (cells : Cells) → IsAfterPack m area rs qs cells → StandsFirm area rs cells
  firm-at zero w cells held = held
  firm-at (suc zero) w cells held = held.0
  firm-at (suc (suc zero)) w cells held = held.0
  firm-at (suc (suc (suc n))) w cells held =
      absurd (elim w [ inl e ↦ omega (arith, e) | inr e ↦ omega (arith, e) ])

  still-up : (m : ℕ) → IsWrite m → (cells : Cells) → IsAfterPack m area rs qs cells →
      IsPackGivenUp m area rs qs cells
  still-up zero w cells held = held
  still-up (suc zero) w cells held = held.0
  still-up (suc (suc zero)) w cells held = record { front = inl held.0.named; old = held.0.text; new = held.1 }
  still-up (suc (suc (suc n))) w cells held =
      absurd (elim w [ inl e ↦ omega (arith, e) | inr e ↦ omega (arith, e) ])

  -- ---- where the disk tells its cells

  pub moved : (m : ℕ) → m < 4 → (old new : Option Cells) →
      new ≡ option_map (moved_on m to text 7 switch) old → IfSome old (IsAfterPack m area rs qs) →
      IfSome new (IsAfterPack (m + 1) area rs qs)
  moved m few = IfSome-mapped (IsAfterPack m area rs qs) (IsAfterPack (m + 1) area rs qs)
      (moved_on m to text 7 switch) (made m few)

  pub kept-up : (m : ℕ) → IsWrite m → (old new : Option Cells) → new ≡ old →
      IfSome old (IsAfterPack m area rs qs) → IfSome new (StandsFirm area rs)
  kept-up m w = IfSome-same (IsAfterPack m area rs qs) (StandsFirm area rs) (firm-at m w)

  -- a fault of a move
  pub given-up : {T : Type 0} (r : Result T WriteFault) (m : ℕ) → m < 4 → (old new : Option Cells) →
      (IsErrOf r write_fault.Failed → Goes (MayBeTorn m to (length text) 7) old new) →
      (IsErrOf r write_fault.Memory → new ≡ old) → (IsErrOf r write_fault.Memory → IsWrite m) →
      IfSome old (IsAfterPack m area rs qs) → OnErr r (IfSome new (IsPackGivenUp m area rs qs))
  given-up (Ok x) m few old new torn memory writes held = tt
  given-up (Err write_fault.Failed) m few old new torn memory writes held =
      IfSome-goes (IsAfterPack m area rs qs) (IsPackGivenUp m area rs qs) (MayBeTorn m to (length text) 7)
      (torn-up m few) old new (torn refl) held
  given-up (Err write_fault.Memory) m few old new torn memory writes held =
      IfSome-same (IsAfterPack m area rs qs) (IsPackGivenUp m area rs qs) (still-up m (writes refl)) old new
      (memory refl) held
