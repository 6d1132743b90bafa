-- An append and the disk go on by a turn: what it leaves of the records that the append goes behind.
use Rattle.journal_core.proofs.Words.{◌+◌, ◌<◌, length, drop, reads, Bool, Option, Result, Ok, Err, refl, sym, ap, ◌∙◌, subst, arith, IfSome, IsErrOf, OnOk, OnErr, WriteFault, Cells, Goes, Area, gate_of, body_of, moves_of, Appends, TurnsAppend, AppendsDisk, KeepsRecords, SameFrom, cells_after, MayTear, IsAfterMovesIn, IsGivenUpIn}
use Rattle.std.proofs.lemmas.Result.{on_ok_weaker, on_err_weaker}
use Rattle.std.proofs.Common.{ℕ, zero, suc, List, [], ◌∷◌}
use Rattle.stream_model.specs.declared.fault.WriteFault.TheVariants as write_fault
use Rattle.record_defs.specs.Records.{Record}
use Rattle.journal_core.specs.declared.append.Append.{Append}
use Rattle.journal_core.proofs.BeyondLemmas.{written_same, torn_same, settled_same, goes_mapped, goes_on, goes_still}
use Rattle.journal_core.proofs.AreaMoves.{moved-in, given-up-in, before-in, between-in, before-given-in, between-given-in, kept-in, ready-in}

-- what follows from two facts of a call that was done
pub both_ok : {T E P Q R : Type 0} (r : Result T E) → (P → Q → R) → OnOk r P → OnOk r Q → OnOk r R
both_ok (Ok x) step p q = step p q
both_ok (Err e) step p q = tt

-- what holds whether a call was done or not
pub either_way : {T E P : Type 0} (r : Result T E) → OnOk r P → OnErr r P → P
either_way (Ok x) p q = p
either_way (Err e) p q = q

-- what holds whether a call was done, failed, or found no memory
pub each_way : {T P : Type 0} (r : Result T WriteFault) → OnOk r P → (IsErrOf r write_fault.Failed → P) →
    (IsErrOf r write_fault.Memory → P) → P
each_way (Ok x) p failed memory = p
each_way (Err write_fault.Failed) p failed memory = failed refl
each_way (Err write_fault.Memory) p failed memory = memory refl

module _ (gate : ℕ) (body : List ℕ) where
  abbrev end : ℕ
  end = gate + 1 + length body

  -- what is read past the body stays by a move
  past-move : (m : ℕ) (cells : Cells) → SameFrom end cells (cells_after m gate body cells)
  past-move zero cells = written_same end (gate + 1) body cells (omega arith)
  past-move (suc zero) cells = settled_same end cells
  past-move (suc (suc zero)) cells = written_same end gate (1 ∷ []) cells (omega arith)
  past-move (suc (suc (suc n))) cells = settled_same end cells

  -- and by a fault
  past-torn : (m : ℕ) (old new : Cells) → MayTear m gate body old new → SameFrom end old new
  past-torn zero old new torn = torn_same end (gate + 1) (length body) old new (omega arith) torn
  past-torn (suc zero) old new same = ap (λ (c : Cells). drop end (reads c)) same
  past-torn (suc (suc zero)) old new torn = torn_same end gate 1 old new (omega arith) torn
  past-torn (suc (suc (suc n))) old new same = ap (λ (c : Cells). drop end (reads c)) same

-- and by a turn
pub beyond-turn : (a : Append) (result : Result Bool WriteFault) (old new : Option Cells) →
    AppendsDisk a result old new → Goes (SameFrom (gate_of a + 1 + length (body_of a))) old new
beyond-turn a result old new d =
    let m = moves_of a in
    let past = SameFrom (end (gate_of a) (body_of a)) in
    each_way result
    (on_ok_weaker result (λ does. goes_mapped past (cells_after m (gate_of a) (body_of a))
    (past-move (gate_of a) (body_of a) m) old new does) d.does)
    (λ failed. goes_on (MayTear m (gate_of a) (body_of a)) past (past-torn (gate_of a) (body_of a) m) old new
    (d.torn failed))
    (λ memory. goes_still (end (gate_of a) (body_of a)) old new (d.memory memory))

module _ (area : Area) (rs : List Record) (r : Record) (a b : Append) (result : Result Bool WriteFault)
    (old new : Option Cells) (is : Appends area rs r a old) (few : moves_of a < 4) (t : TurnsAppend a result b)
    (d : AppendsDisk a result old new) where
  -- an append goes on by a move
  moved : OnOk result (Appends area rs r b new)
  moved = both_ok result (λ next does. record {
    records = is.records;
    entry = is.entry;
    gate = t.gate ∙ is.gate;
    body = t.body ∙ is.body;
    disk = subst (λ (m : ℕ). IfSome new (IsAfterMovesIn m area rs (body_of b))) (sym next)
        (subst (λ (l : List ℕ). IfSome new (IsAfterMovesIn (moves_of a + 1) area rs l)) (sym t.body)
        (moved-in area rs (body_of a) (gate_of a) is.gate (moves_of a) few old new does is.disk));
  }) t.count.next d.does

  -- a fault gives it up
  given_up : OnErr result (IfSome new (IsGivenUpIn (moves_of a) area rs (body_of a)))
  given_up = given-up-in area rs (body_of a) (gate_of a) is.gate result (moves_of a) few old new d.torn d.memory
      d.writes is.disk

  -- each turn of an append is atomic
  pub keeps-records : KeepsRecords area rs r a result b new
  keeps-records = record {
    moved = moved;
    given_up = given_up;
    before = λ less. either_way result (both_ok result (λ next on. before-in area rs r on.records on.entry
        (body_of b) on.body (moves_of b) new (omega (arith, next, less)) on.disk) t.count.next moved)
        (on_err_weaker result (λ held. before-given-in area rs r is.records is.entry (body_of a) is.body
        (moves_of a) new less held) given_up);
    between = either_way result (on_ok_weaker result (λ on. between-in area rs r on.records on.entry
        (body_of b) on.body (moves_of b) new on.disk) moved) (on_err_weaker result
        (λ held. between-given-in area rs r is.records is.entry (body_of a) is.body (moves_of a) new held)
        given_up);
    ready = on_ok_weaker result (λ on four. ready-in area rs r on.records on.entry (body_of b) on.body
        (moves_of b) new four on.disk) moved;
    kept = λ memory. kept-in area rs (body_of a) (gate_of a) is.gate is.records (moves_of a) (d.writes memory) old
        new (d.memory memory) is.disk;
  }
