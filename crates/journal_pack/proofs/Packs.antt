-- A pack and the disk go on by a turn: what it leaves of the records that the pack goes from and to.
use Rattle.journal_pack.proofs.Words.{◌≡◌, ◌≢◌, ℕ, ◌+◌, ◌≤◌, ◌<◌, List, [], ◌∷◌, ◌++◌, length, Option, Result, sym, ap, ◌∙◌, subst, arith, length-append, IfSome, IsTrue, OnErr, on_ok_weaker, on_err_weaker, list_all, option_map, WriteFault, Cells, Goes, is_in_grammar, Area, A, B, other_area, base_of, switch_of, entries, text_length, end_in, moved_on, MayBeTorn, StandsFirm, switch_to, IsAfterPack, IsPackGivenUp, to_of, text_of, moves_of, WritesText, Packs, TurnsPack, PacksDisk, KeepsJournal, length-entries}
use Rattle.std.specs.Prelude.{Bool, OnOk}
use Rattle.journal_core.proofs.Turning.{both_ok, either_way}
use Rattle.record_defs.specs.Records.{Record}
use Rattle.journal_pack.specs.declared.pack.Pack.{Pack}
use Rattle.journal_pack.proofs.Stands.{before-after, between-after, before-given_up, between-given_up, ready-after, all-stand}
use Rattle.journal_pack.proofs.Steps.{switch-is, moved, kept-up, given-up}

module _ (area : Area) (rs qs : List Record) (p q : Pack) (result : Result Bool WriteFault)
    (old new : Option Cells) (is : Packs area rs qs p old) (few : moves_of p < 4) (t : TurnsPack p result q)
    (d : PacksDisk p result old new) where
  fits : length (entries qs ++ 0 ∷ []) + 8 ≤ base_of B
  fits = subst (λ (l : List ℕ). length l + 8 ≤ base_of B) is.writes.text p.short

  named : switch_to (to_of p) ≡ switch_of (other_area area)
  named = ap switch_to is.writes.to ∙ switch-is (other_area area)

  -- a pack goes on by a move
  on : OnOk result (Packs area rs qs q new)
  on = both_ok result (λ next does. record {
    writes = record { to = t.to ∙ is.writes.to; text = t.text ∙ is.writes.text };
    in_grammar = is.in_grammar;
    apart = is.apart;
    disk = subst (λ (m : ℕ). IfSome new (IsAfterPack m area rs qs)) (sym next)
        (moved area rs qs is.in_grammar is.apart fits (moves_of p) few old new
        (does ∙ (λ i. option_map (moved_on (moves_of p) (is.writes.to i) (is.writes.text i) 7 (named i)) old))
        is.disk);
  }) t.count.next d.does

  -- a fault of a move gives it up
  off : OnErr result (IfSome new (IsPackGivenUp (moves_of p) area rs qs))
  off = given-up area rs qs is.in_grammar is.apart fits result (moves_of p) few old new
      (λ e. subst (λ (l : List ℕ). Goes (MayBeTorn (moves_of p) (base_of (other_area area)) (length l) 7) old new)
      is.writes.text
      (subst (λ (k : ℕ). Goes (MayBeTorn (moves_of p) k (length (text_of p)) 7) old new) is.writes.to (d.torn e)))
      d.memory d.writes is.disk

  ready : OnOk result (moves_of q ≡ 4 → IfSome new (StandsFirm (other_area area) qs))
  ready = on_ok_weaker result (λ packs four. ready-after area rs qs (moves_of q) new four packs.disk) on

  -- each turn of a pack is atomic
  pub keeps-journal : KeepsJournal area rs qs p result q new
  keeps-journal = record {
    moved = on;
    given_up = off;
    before = λ less. either_way result
        (both_ok result (λ next packs. before-after area rs qs (moves_of q) new (omega (arith, next, less)) packs.disk)
        t.count.next on)
        (on_err_weaker result (λ held. before-given_up area rs qs (moves_of p) new less held) off);
    between = either_way result
        (on_ok_weaker result (λ packs. between-after area rs qs (moves_of q) new packs.disk) on)
        (on_err_weaker result (λ held. between-given_up area rs qs (moves_of p) new held) off);
    after = on_ok_weaker result (λ firm four. all-stand area rs qs new (firm four)) ready;
    ready = ready;
    kept = λ memory. kept-up area rs qs is.in_grammar is.apart fits (moves_of p) (d.writes memory) old new
        (d.memory memory) is.disk;
  }

-- ---- the length of the new text

-- in the first area it counts from the start of the disk
pub size-first : (area : Area) (qs : List Record) (p : Pack) → IsTrue (list_all is_in_grammar qs) →
    WritesText area qs p → to_of p ≡ 8 → 8 + length (text_of p) ≡ text_length area qs
size-first A qs p spelled w here = omega (
  arith,
  ap length w.text,
  length-append (entries qs) (0 ∷ []),
  length-entries qs spelled,
)
size-first B qs p spelled w here = absurd (let to = w.to in omega (arith, to, here))

-- in the second from where the area begins
pub size-second : (area : Area) (qs : List Record) (p : Pack) → IsTrue (list_all is_in_grammar qs) →
    WritesText area qs p → to_of p ≢ 8 → length (text_of p) ≡ text_length area qs
size-second A qs p spelled w other = absurd (other w.to)
size-second B qs p spelled w other = omega (
  arith,
  ap length w.text,
  length-append (entries qs) (0 ∷ []),
  length-entries qs spelled,
)

-- where it ends
pub end-is : (area : Area) (qs : List Record) (p : Pack) → IsTrue (list_all is_in_grammar qs) →
    WritesText area qs p → to_of p + length (text_of p) ≡ end_in area qs
end-is area qs p spelled w =
    let to = w.to in
    omega (arith, to, ap length w.text, length-append (entries qs) (0 ∷ []), length-entries qs spelled)
