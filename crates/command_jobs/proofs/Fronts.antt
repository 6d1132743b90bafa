-- What a disk reads in front of the active area stays, whatever a job's append does.
use Rattle.command_jobs.proofs.Words.{◌≡◌, ℕ, Bool, ◌+◌, ◌-◌, ◌≤◌, min, zero, suc, true, false, List, [], ◌∷◌, ◌++◌, length, take, drop, replicate, Option, Some, None, refl, ap, sym, subst, ◌∙◌, inl, inr, arith, IfSome, option_map, cases_Bool, false≢true, length-append, length-drop, length-take-le, take-append-drop, take-append-le, take-map, Cells, reads, firm, loose, spliced, written, Torn, Goes, reads-firm, Record, Area, base_of, entries, IsAfterMoves, cells_after, MayTear, Action, WriteBody, SyncBody, WriteGate, SyncGate, State, CoreIs, ComesNext, Coming, is_move, calls_disk, next_in, entry_in, CoreView, wants_in, moves_before_next, EndsCells, MovesCells, closed_gate_of, coming_of, vault_entry, Stands, wants_of, Turn, Vault, Devices, SameUpTo}
use Rattle.record_defs.specs.Spellings.{spelling}
use Rattle.machine_defs.specs.States as states
use Rattle.vault_core.specs.Coming.{Acts}
use Rattle.vault_core.specs.declared.action.Action.TheVariants as act
use Rattle.vault_core.specs.declared.action.Next.TheVariants as next
use Rattle.vault_core.proofs.Standing.{entry_machine, next_machine}
use Rattle.vault.specs.Desks.{IsFlight}
use Rattle.vault.specs.declared.flight.Flight.{Flight}
use Rattle.vault.specs.declared.turn.Answer.{Answer}
use Rattle.vault.specs.declared.turn.Answer.TheVariants as answer
use Rattle.vault.specs.declared.turn.Turn.TheVariants as turn

-- ---- what one call of a disk leaves in front of a place

take-spliced : {X : Type 0} (k at : ℕ) (new old : List X) → k ≤ at → at ≤ length old →
    take k (spliced at new old) ≡ take k old
take-spliced k at new old low le =
    let size : length (take at old) ≡ at = length-take-le at old le in
    take-append-le k (take at old) (new ++ drop (at + length new) old) (omega (arith, low, size))
    ∙ (sym (take-append-le k (take at old) (drop at old) (omega (arith, low, size)))
    ∙ ap (take k) (take-append-drop at old))

-- cells that are the same up to an offset read the same there
same-cells : (k : ℕ) (old new : Cells) → take k new ≡ take k old → SameUpTo k old new
same-cells k old new is = take-map (λ c. c.0) k new ∙ (ap reads is ∙ sym (take-map (λ c. c.0) k old))

front-written : (k at : ℕ) (bytes : List ℕ) (old : Cells) → k ≤ at → k ≤ length old →
    SameUpTo k old (written at bytes old)
front-written k at bytes old low long = same-cells k old _ (take-spliced k (min at (length old))
    (loose (replicate (at - length old) 0 ++ bytes)) old (omega (arith, low, long)) (omega arith))

front-torn : (k at n : ℕ) (old new : Cells) → k ≤ at → k ≤ length old → Torn at n old new → SameUpTo k old new
front-torn k at n old new low long torn = same-cells k old new (ap (λ (c : Cells). take k c) torn.held
    ∙ take-spliced k (min at (length old)) (loose torn.bytes) old (omega (arith, low, long)) (omega arith))

-- ---- what a move of an append leaves

front-moved : (k n gate : ℕ) (body : List ℕ) (old : Cells) → k ≤ gate → k ≤ length old →
    SameUpTo k old (cells_after n gate body old)
front-moved k zero gate body old low long = front-written k (gate + 1) body old (omega arith) long
front-moved k (suc (suc zero)) gate body old low long = front-written k gate (1 ∷ []) old low long
front-moved k (suc _) gate body old low long = ap (λ l. take k l) (reads-firm (reads old))

front-tears : (k n gate : ℕ) (body : List ℕ) (old new : Cells) → k ≤ gate → k ≤ length old →
    MayTear n gate body old new → SameUpTo k old new
front-tears k zero gate body old new low long torn =
    front-torn k (gate + 1) (length body) old new (omega arith) long torn
front-tears k (suc (suc zero)) gate body old new low long torn = front-torn k gate 1 old new low long torn
front-tears k (suc _) gate body old new low long same = ap (λ c. take k (reads c)) same

-- a disk that did not change reads as before
pub front-still : (k : ℕ) (old new : Option Cells) → new ≡ old → Goes (SameUpTo k) old new
front-still k None new e = subst (λ (o : Option Cells). Goes (SameUpTo k) None o) (sym e) tt
front-still k (Some cells) new e = subst (λ (o : Option Cells). Goes (SameUpTo k) (Some cells) o) (sym e) refl

module _ (k n gate : ℕ) (body : List ℕ) (low : k ≤ gate) where
  front-more : (old new : Option Cells) → IfSome old (λ cells. k ≤ length cells) →
      new ≡ option_map (cells_after n gate body) old → Goes (SameUpTo k) old new
  front-more None new long e = subst (λ (o : Option Cells). Goes (SameUpTo k) None o) (sym e) tt
  front-more (Some cells) new long e = subst (λ (o : Option Cells). Goes (SameUpTo k) (Some cells) o) (sym e)
      (front-moved k n gate body cells low long)

  front-failed : (old new : Option Cells) → IfSome old (λ cells. k ≤ length cells) →
      Goes (MayTear n gate body) old new → Goes (SameUpTo k) old new
  front-failed None None long g = tt
  front-failed (Some old) (Some new) long g = front-tears k n gate body old new low long g
  front-failed _ _ long g = absurd g

  front-ends : (a : Answer) (old new : Option Cells) → IfSome old (λ cells. k ≤ length cells) →
      EndsCells n gate body a old new → Goes (SameUpTo k) old new
  front-ends answer.DiskFault old new long ends = front-failed old new long ends
  front-ends a old new long ends = front-still k old new ends

  -- so a step that calls the disk leaves what it reads in front of the gate
  front-steps : (t : Turn) (old new : Option Cells) → IfSome old (λ cells. k ≤ length cells) →
      MovesCells n gate body t old new → Goes (SameUpTo k) old new
  front-steps turn.More old new long moves = front-more old new long moves
  front-steps (turn.Done ended) old new long moves = front-ends ended.answer old new long moves
  front-steps t old new long moves = front-still k old new moves

-- ---- the disk of a vault reaches into the active area

behind-more : (k : ℕ) (cells : Cells) (front : List ℕ) (c : ℕ × Bool) (rest : Cells) →
    drop k cells ≡ firm front ++ c ∷ rest → k ≤ length cells
behind-more k cells front c rest e =
    omega (arith, length-drop k cells, ap (λ (x : Cells). length x) e, length-append (firm front) (c ∷ rest))

moved-more : (n k : ℕ) (cells : Cells) (front body : List ℕ) → IsAfterMoves n front body (drop k cells) →
    k ≤ length cells
moved-more zero k cells front body (gate, rest, closed, e) = behind-more k cells front (gate, false) rest e
moved-more (suc zero) k cells front body (gate, rest, closed, e) =
    behind-more k cells front (gate, false) (loose body ++ rest) e
moved-more (suc (suc zero)) k cells front body (gate, rest, closed, e) =
    behind-more k cells front (gate, false) (firm body ++ rest) e
moved-more (suc (suc (suc zero))) k cells front body (rest, e) =
    behind-more k cells front (1, true) (firm body ++ rest) e
moved-more (suc (suc (suc (suc n)))) k cells front body (rest, e) =
    behind-more k cells front (1, false) (firm body ++ rest) e

flight-long : (f : Option Flight) (a : Option states.Append) (area : Area) (rs : List Record)
    (told : Option Cells) → IsFlight f a area rs told → IfSome told (λ cells. base_of area ≤ length cells)
flight-long None None area rs None is = tt
flight-long None None area rs (Some cells) is =
    behind-more (base_of area) cells (entries rs) (is.text.gate, false) is.text.rest is.text.cells_are
flight-long (Some f) (Some a) area rs None is = tt
flight-long (Some f) (Some a) area rs (Some cells) is =
    moved-more _ (base_of area) cells (entries rs) _ is.1.disk.text
flight-long None (Some a) area rs told is = absurd is
flight-long (Some f) None area rs told is = absurd is

-- ---- a step of a vault

-- what comes next for a job of a core that calls the disk, comes next in the machine
move-next : (c : CoreView) (w : State) (k : ℕ) → CoreIs c w → wants_in c k ≡ None → (o : Coming) →
    next_in c k ≡ o → calls_disk o ≡ true → (a : Action) × (ComesNext w k a None × (is_move (Some a) ≡ true))
move-next c w k is free (Acts WriteBody) e calls =
    (WriteBody, (next_machine c w k (next.Act act.WriteBody) is free (sym e), calls))
move-next c w k is free (Acts SyncBody) e calls =
    (SyncBody, (next_machine c w k (next.Act act.SyncBody) is free (sym e), calls))
move-next c w k is free (Acts WriteGate) e calls =
    (WriteGate, (next_machine c w k (next.Act act.WriteGate) is free (sym e), calls))
move-next c w k is free (Acts SyncGate) e calls =
    (SyncGate, (next_machine c w k (next.Act act.SyncGate) is free (sym e), calls))
move-next c w k is free o e calls = cc

-- a job of a core that calls the disk next appends a record
entry-there : (c : CoreView) (w : State) (k : ℕ) → CoreIs c w → wants_in c k ≡ None →
    calls_disk (next_in c k) ≡ true → (entry : Record) × (entry_in c k ≡ Some entry)
entry-there c w k is free calls = by (entry_in c k) refl
  where
    by : (o : Option Record) → entry_in c k ≡ o → (entry : Record) × (entry_in c k ≡ Some entry)
    by (Some entry) e = (entry, e)
    by None e = (let m = move-next c w k is free (next_in c k) refl calls in
        let n = entry_machine c w k None is free (sym e) m.1.0.job m.1.0.runs in
        absurd (false≢true (sym n ∙ (ap is_move m.1.0.comes ∙ m.1.1))))

-- a step leaves what the disk reads in front of the active area
pub step-front : (v : Vault) (d : Devices) (new : Option Cells) (w : State) (number : ℕ) (t : Turn) →
    Stands v d w → wants_of v number ≡ None → (calls_disk (coming_of v number) ≡ false → new ≡ d.holds) →
    ((entry : Record) → vault_entry v number ≡ Some entry → calls_disk (coming_of v number) ≡ true →
    MovesCells (moves_before_next (coming_of v number)) (closed_gate_of v) (spelling entry ++ 0 ∷ []) t
    d.holds new) → Goes (SameUpTo (base_of w.area)) d.holds new
step-front v d new w number t stands free still moves = elim (cases_Bool (calls_disk (coming_of v number))) [
  | inl calls ↦ (let core = stands.desk.core in
      let there = entry-there v.desk.core w number core free calls in
      front-steps (base_of w.area) (moves_before_next (coming_of v number)) (closed_gate_of v)
      (spelling there.0 ++ 0 ∷ []) (omega (arith, core.end)) t d.holds new
      (flight-long v.desk.flight w.append w.area w.journal d.holds (stands.desk.flight
      (move-next v.desk.core w number core free (coming_of v number) refl calls).1.0.unbarred))
      (moves there.0 there.1 calls))
  | inr none ↦ front-still (base_of w.area) d.holds new (still none)
]
