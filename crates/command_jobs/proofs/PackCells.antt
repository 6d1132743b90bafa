-- What a pack leaves of a disk that was synced before, told by its steps.
use Rattle.command_jobs.proofs.Words.{◌≡◌, ◌⊎◌, ℕ, zero, suc, ◌+◌, ◌<◌, ◌≤◌, List, [], ◌∷◌, ◌++◌, length, Option, Some, None, refl, sym, ap, subst, ◌∙◌, inl, inr, arith, add-one, IfSome, IsTrue, All, list_all, option_map, length-append, Cells, reads, firm, synced, Goes, reads-firm, Record, is_in_grammar, Area, A, B, other_area, base_of, end_in, entries, magic_front, packed, moved_on, MayBeTorn, IsWrite, to_of, text_of, moves_of, WritesText, setup_in_effect, nobody, devices, packed_on, EndsPackCells, PackAnswer, PackJob, Vault, IsFreshOver, FillsGap, KeepsAround, length-replicate, replicate}
use Rattle.record_defs.proofs.Sizes.{length-entries}
use Rattle.journal_core.specs.Texts.{StandsFirm}
use Rattle.journal_pack.specs.declared.pack.Pack.{Pack}
use Rattle.journal_pack.specs.Moves.{switch_to, IsAfterPack}
use Rattle.vault.specs.declared.packing.PackAnswer.TheVariants as answer
use Rattle.command_jobs.proofs.Alone.{opened-one}
use Rattle.command_jobs.proofs.Around.{IsAround, HasZeros, OnCells, none-written, steps-cells, torn-cells, stays-torn, stays-firm}
use Rattle.command_jobs.proofs.Fresh.{ThereIsOne}
use Rattle.command_jobs.proofs.Packing.{PacksAs}

-- the cells of a disk behind so many moves, beside what it read before it was synced
abbrev pub OnDisk : ℕ → ℕ → ℕ → Cells → Cells → Type 0
OnDisk n at end cells here = OnCells n at end (reads cells) here

-- ---- before the first move

pub starts-cells : (n at end : ℕ) (told holds : Option Cells) → n ≡ 0 → holds ≡ option_map synced told →
    IfSome holds (λ cells. 8 ≤ length cells) → Goes (OnDisk n at end) told holds
starts-cells n at end None holds none is long = subst (λ o. Goes (OnDisk n at end) None o) (sym is) tt
starts-cells n at end (Some cells) holds none is long = subst (λ o. Goes (OnDisk n at end) (Some cells) o)
    (sym is) (subst (λ k. OnCells k at end (reads cells) (synced cells)) (sym none)
    (refl, subst (λ o. IfSome o (λ c. 8 ≤ length c)) is long))

-- ---- a move

pub goes-cells : (n at : ℕ) (text : List ℕ) (switch : ℕ) (told old new : Option Cells) → n < 4 → 8 ≤ at →
    Goes (OnDisk n at (at + length text)) told old → new ≡ option_map (moved_on n at text 7 switch) old →
    Goes (OnDisk (n + 1) at (at + length text)) told new
goes-cells n at text switch None None new few low on is =
    subst (λ o. Goes (OnDisk (n + 1) at (at + length text)) None o) (sym is) tt
goes-cells n at text switch (Some cells) (Some old) new few low on is =
    subst (λ o. Goes (OnDisk (n + 1) at (at + length text)) (Some cells) o) (sym is)
    (subst (λ k. OnCells k at (at + length text) (reads cells) (moved_on n at text 7 switch old))
    (sym (add-one n)) (steps-cells n at text switch (reads cells) old few low on))
goes-cells n at text switch None (Some old) new few low on is = absurd on
goes-cells n at text switch (Some cells) None new few low on is = absurd on

-- the same of a pack, where the next one writes the same text to the same place
pub pack-cells : (p : Pack) (n at : ℕ) (text : List ℕ) (told old new : Option Cells) → to_of p ≡ at →
    text_of p ≡ text → moves_of p < 4 → n ≡ moves_of p + 1 → 8 ≤ at →
    Goes (OnDisk (moves_of p) at (at + length text)) told old → new ≡ option_map (packed_on p) old →
    Goes (OnDisk n at (at + length text)) told new
pack-cells p n at text told old new to is_text few next low on is =
    subst (λ (k : ℕ). Goes (OnDisk k at (at + length text)) told new) (sym next)
    (goes-cells (moves_of p) at text (switch_to at) told old new few low on
    (is ∙ (λ i. option_map (moved_on (moves_of p) (to i) (is_text i) 7 (switch_to (to i))) old)))

-- ---- the end

-- behind a sync, or before the first move, nothing is loose
firm-cells : (n at end : ℕ) (bytes : List ℕ) (c : Cells) → IsWrite n ⊎ (n ≡ 4) → OnCells n at end bytes c →
    HasZeros at end bytes c × (c ≡ firm (reads c))
firm-cells zero at end bytes c ends (is, long) =
    (none-written at end bytes c is, is ∙ sym (ap firm (ap reads is ∙ reads-firm bytes)))
firm-cells (suc zero) at end bytes c (inl (inl e)) on = absurd (omega (arith, e))
firm-cells (suc zero) at end bytes c (inl (inr e)) on = absurd (omega (arith, e))
firm-cells (suc zero) at end bytes c (inr e) on = absurd (omega (arith, e))
firm-cells (suc (suc zero)) at end bytes c ends (z, long, is) = (z, is)
firm-cells (suc (suc (suc zero))) at end bytes c (inl (inl e)) on = absurd (omega (arith, e))
firm-cells (suc (suc (suc zero))) at end bytes c (inl (inr e)) on = absurd (omega (arith, e))
firm-cells (suc (suc (suc zero))) at end bytes c (inr e) on = absurd (omega (arith, e))
firm-cells (suc (suc (suc (suc n)))) at end bytes c ends on = on

-- what a pack of these records into this area starts with
pub record PackStarts (area : Area) (qs : List Record) (p : Pack) (holds : Option Cells) : Type 0 where
  pub writes : WritesText area qs p
  pub in_grammar : IsTrue (list_all is_in_grammar qs)
  pub long : IfSome holds (λ cells. 8 ≤ length cells)

low-base : (area : Area) → 8 ≤ base_of area
low-base A = omega arith
low-base B = omega arith

-- it writes behind the switch byte
pub starts-low : (area : Area) (qs : List Record) (p : Pack) → WritesText area qs p → 8 ≤ to_of p
starts-low area qs p w = (let l = low-base area in let e = w.to in omega (arith, l, e))

module _ (area : Area) (qs : List Record) (first p : Pack) (holds : Option Cells)
    (S : PackStarts area qs first holds) (to : to_of p ≡ to_of first) (text : text_of p ≡ text_of first) where
  abbrev size : ℕ
  size = length (text_of first)

  end-is : to_of first + size ≡ end_in area qs
  end-is =
      let a = ap (λ (l : List ℕ). length l) S.writes.text in
      let b = length-append (entries qs) (0 ∷ []) in
      let c = length-entries qs S.in_grammar in
      let d = S.writes.to in
      omega (arith, a, b, c, d)

  -- cells that stay around the text stay around that of the area
  around-area : (bytes : List ℕ) (c : Cells) → IsAround (to_of first) (to_of first + size) (firm bytes) c →
      IsAround (base_of area) (end_in area qs) (firm bytes) c
  around-area bytes c x = subst (λ (k : ℕ). IsAround k (end_in area qs) (firm bytes) c) S.writes.to
      (subst (λ (k : ℕ). IsAround (to_of first) k (firm bytes) c) end-is x)

  -- where a move failed
  torn-ends : (cells old new : Cells) → OnDisk (moves_of p) (to_of first) (to_of first + size) cells old →
      MayBeTorn (moves_of p) (to_of p) (length (text_of p)) 7 old new →
      KeepsAround area qs (λ gap. Unit {0}) cells new
  torn-ends cells old new on torn =
      let x = around-area (reads cells) new
      (torn-cells (moves_of p) (to_of first) size (reads cells) old new (starts-low area qs first S.writes) on
      (rw (ap (λ (l : List ℕ). length l) text) at (subst (λ (k : ℕ). MayBeTorn (moves_of p) k
      (length (text_of p)) 7 old new) to torn))) in
      λ image is. stays-torn area qs (reads cells) new x image is

  -- and else
  firm-ends : (cells old : Cells) → IsWrite (moves_of p) ⊎ (moves_of p ≡ 4) →
      OnDisk (moves_of p) (to_of first) (to_of first + size) cells old →
      KeepsAround area qs (λ gap. All (λ byte. byte ≡ 0) gap) cells old
  firm-ends cells old ends on =
      let f = firm-cells (moves_of p) (to_of first) (to_of first + size) (reads cells) old ends on in
      let z = rw S.writes.to at (subst (λ (k : ℕ). HasZeros (to_of first) k (reads cells) old) end-is f.0) in
      λ image is. (let s = stays-firm area qs (reads cells) old z.around image is f.1 in record {
        front = s.front;
        gap = s.gap;
        fills = rw (← s.fills) at z.zeros;
        middle = s.middle;
        behind = s.behind;
      })

  still-ends : (told old new : Option Cells) → IsWrite (moves_of p) ⊎ (moves_of p ≡ 4) →
      Goes (OnDisk (moves_of p) (to_of first) (to_of first + size)) told old → new ≡ old →
      Goes (KeepsAround area qs (λ gap. All (λ byte. byte ≡ 0) gap)) told new
  still-ends None None new ends on same =
      subst (λ o. Goes (KeepsAround area qs (λ gap. All (λ byte. byte ≡ 0) gap)) None o) (sym same) tt
  still-ends (Some cells) (Some old) new ends on same =
      subst (λ o. Goes (KeepsAround area qs (λ gap. All (λ byte. byte ≡ 0) gap)) (Some cells) o)
      (sym same) (firm-ends cells old ends on)
  still-ends _ _ new ends on same = absurd on

  -- so a pack that ended leaves the disk around its text as it was
  pub ends-cells : (how : PackAnswer) (told old new : Option Cells) →
      Goes (OnDisk (moves_of p) (to_of first) (to_of first + size)) told old → EndsPackCells p how old new →
      Goes (KeepsAround area qs (FillsGap how)) told new
  ends-cells answer.DiskFault None None None on torn = tt
  ends-cells answer.DiskFault (Some cells) (Some old) (Some new) on torn = torn-ends cells old new on torn
  ends-cells answer.DiskFault (Some cells) (Some old) None on torn = absurd torn
  ends-cells answer.DiskFault None None (Some new) on torn = absurd torn
  ends-cells answer.DiskFault None (Some old) new on torn = absurd on
  ends-cells answer.DiskFault (Some cells) None new on torn = absurd on
  ends-cells answer.Memory told old new on (write, same) = still-ends told old new (inl write) on same
  ends-cells (answer.Packed before after) told old new on (four, same) =
      still-ends told old new (inr four) on same

-- ---- over a vault that was just opened

named-long : (area : Area) (rs : List Record) (cells : Cells) → StandsFirm area rs cells → 8 ≤ length cells
named-long area rs cells s =
    let a = ap (λ (c : Cells). length c) s.named.cells_are in
    let b = length-append (firm (magic_front ++ s.named.switch ∷ [])) s.named.rest in
    omega (arith, a, b)

first-long : (area : Area) (rs qs : List Record) (n : ℕ) (holds : Option Cells) → n ≡ 0 →
    IfSome holds (IsAfterPack n area rs qs) → IfSome holds (λ cells. 8 ≤ length cells)
first-long area rs qs n None none is = tt
first-long area rs qs n (Some cells) none is = named-long area rs cells (rw none at is)

pub pack-starts : ThereIsOne → (v : Vault) (area : Area) (records : List Record) (holds : Option Cells)
    (faults : ℕ) → IsFreshOver v area records holds faults → (next : Vault) (job : PackJob) →
    PacksAs v job next → moves_of job.pack ≡ 0 →
    PackStarts (other_area area) (packed records) job.pack holds
pack-starts there v area records holds faults F next job begins none =
    let ps = replicate (setup_in_effect records).n nobody in
    let x = opened-one there v area records holds faults F ps (let e = length-replicate
    (setup_in_effect records).n nobody in omega (arith, e)) in
    let on = (begins x.0 (devices holds faults ps) x.1.stands).2.on_way (omega arith) in
    record {
      writes = subst (λ a. WritesText (other_area a) (packed records) job.pack) x.1.over.area_is
          (rw x.1.over.journal at on.writes);
      in_grammar = rw x.1.over.journal at on.in_grammar;
      long = first-long x.0.area x.0.journal (packed x.0.journal) (moves_of job.pack) holds none on.disk;
    }
