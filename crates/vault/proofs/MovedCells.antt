-- What a move does to the cells of the disk, by what the core tells of its append.
use Rattle.vault.proofs.Words.{◌≡◌, ℕ, ◌-◌, List, [], ◌∷◌, ◌++◌, Option, Some, sym, ap, subst, ◌∙◌, arith, option_map, Cells, Provider, Goes, spelling, length-entries, State, gate_of, body_of, cells_after, MayTear, entry_in, next_in, Reply, Flight, Answer, Turn, Desk, EndsCells, MovesCells, moves_before_next, devices, IsStopped, IsMover, DeskStands, Comes}
use Rattle.record_defs.specs.Records.{Record}
use Rattle.machine_defs.specs.Actions.{Action}
use Rattle.journal_core.specs.declared.append.Append.{Append}
use Rattle.journal_core.specs.Appends.{moves_of}

-- an append at the closed gate with this record, so many moves of which are made
pub record IsAppendOf (v : Desk) (n : ℕ) (entry : Record) (a : Append) : Type 0 where
  pub moves : moves_of a ≡ n
  pub gate : gate_of a ≡ v.core.end - 1
  pub body : body_of a ≡ spelling entry ++ 0 ∷ []

-- a move of an append makes of the cells what the core tells of it
pub cells_on : (v : Desk) (n : ℕ) (entry : Record) (a : Append) (old new : Option Cells) →
    IsAppendOf v n entry a → new ≡ option_map (cells_after (moves_of a) (gate_of a) (body_of a)) old
    → new ≡ option_map (cells_after n (v.core.end - 1) (spelling entry ++ 0 ∷ [])) old
cells_on v n entry a old new of is =
    is ∙ (λ i. option_map (cells_after (of.moves i) (of.gate i) (of.body i)) old)

-- a move that failed leaves of the cells what the core tells of it
pub cells_torn : (v : Desk) (n : ℕ) (entry : Record) (a : Append) (old new : Option Cells) →
    IsAppendOf v n entry a → Goes (MayTear (moves_of a) (gate_of a) (body_of a)) old new
    → Goes (MayTear n (v.core.end - 1) (spelling entry ++ 0 ∷ [])) old new
cells_torn v n entry a old new of is =
    rw of.moves at (subst (λ (g : ℕ). Goes (MayTear (moves_of a) g (spelling entry ++ 0 ∷ [])) old new) of.gate
    (subst (λ (b : List ℕ). Goes (MayTear (moves_of a) (gate_of a) b) old new) of.body is))

-- where a job was ended
pub cells_stopped : (v1 v2 : Desk) (job n gate : ℕ) (body : List ℕ) (reply : Reply) (answer : Answer)
    (t : Turn) (old new : Option Cells) → IsStopped v1 job reply answer t v2 →
    EndsCells n gate body answer old new
    → MovesCells n gate body t old new
cells_stopped v1 v2 job n gate body reply answer t old new stopped ends =
    subst (λ (x : Turn). MovesCells n gate body x old new) (sym stopped.turn_is) ends

-- the append at a move of a job
pub append_of : (v : Desk) (w : State) (holds : Option Cells) (faults number : ℕ) (ps : List Provider) →
    DeskStands v (devices holds faults ps) w → (action : Action) → Comes v.core number action → (f : Flight) →
    IsMover v w holds number action f → (entry : Record) → entry_in v.core number ≡ Some entry →
    IsAppendOf v (moves_before_next (next_in v.core number)) entry f.append
append_of v w holds faults number ps stands action comes f m entry given =
    let gate = m.appends.gate in
    record {
      moves = m.moves ∙ sym (ap moves_before_next comes.value);
      gate = omega (arith, length-entries w.journal m.appends.records, stands.core.end, gate);
      body = m.appends.body ∙ ap (λ r. spelling r ++ 0 ∷ []) (let e : Some m.entry ≡ Some entry = sym m.given
          ∙ given in cc);
    }
