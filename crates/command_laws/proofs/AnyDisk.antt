-- How a get, a list and a repair end over any devices, also those that tell nothing.
use Rattle.command_laws.proofs.Words.{◌≡◌, ℕ, ◌⊎◌, List, refl, inl, inr, None, Rose, Record, Area, GetJob, RepairJob, Answer, GetOf, ListAll, RepairAll, Seen, Ending, provider_at, setup_in_effect, text_of, GetLeaves, RepairGives, LeftAlone, EndsByAnswer, AnswersAlone, AnswersList, EndsInOrder, LosesFile, LosesRepair}
use Rattle.machine_defs.specs.Answers as answer
use Rattle.command_laws.proofs.Known.{written-well}
use Rattle.command_laws.proofs.GetEnds.{ran_left}
use Rattle.command_laws.proofs.JobEnds.{calm-disk, in-order, zero-or-memory}
use Rattle.command_laws.proofs.Failed.{get-loses, repair-loses}
use Rattle.command_laws.proofs.Early.{alone-order}

-- done, no memory, or a row lost
abbrev Comes : Ending → Type 0
Comes end = ((end.status ≡ 0) ⊎ (end.status ≡ 70)) ⊎ (end.status ≡ 4)

get-comes : {area : Area} (name : List ℕ) (records : List Record) (old new : Seen) (end : Ending)
    (how : Answer) (left : LeftAlone area records (GetJob name) None how old new end.heard) →
    GetLeaves (ran_left records (GetJob name) how old new end.heard left) name how →
    (Rose old.sink_faults new.sink_faults → ⊥) →
    EndsByAnswer (text_of (setup_in_effect records).tolerance (GetJob name) how) how old new end → Comes end
get-comes name records old new end (answer.Got bytes) left L sink by =
    inl (zero-or-memory _ old new end (written-well _ old new end by.written sink))
get-comes name records old new end (answer.Lost stripe row) left L sink by = inr by.status_is
get-comes name records old new end how left L sink by = absurd L.gives

-- a get with no fault of disk or sink ends in order, or found a row lost
pub get-order : (name : List ℕ) (old new : Seen) (end : Ending) → AnswersAlone (GetJob name) old new end →
    (Rose old.disk_faults new.disk_faults → ⊥) → (Rose old.sink_faults new.sink_faults → ⊥) →
    EndsInOrder (GetOf name) old new end ⊎ LosesFile name old new end
get-order name old new end A disk sink = alone-order (GetOf name) refl refl (λ o. inl o)
    (λ records opened how none left by.
    elim (get-comes name records old new end how left left.leaves.by_kind sink by) [
      | inl well ↦ inl (in-order (GetOf name) old new end well)
      | inr four ↦ inr (get-loses name old new end A four)
    ]) A

-- a list with no fault of the sink ends in order
pub list-order : (old new : Seen) (end : Ending) → AnswersList old new end →
    (Rose old.sink_faults new.sink_faults → ⊥) → EndsInOrder ListAll old new end
list-order old new end (AnswersList.unstarted u) sink = EndsInOrder.unstarted u
list-order old new end (AnswersList.no_memory r) sink = EndsInOrder.no_memory r.status_is
list-order old new end (AnswersList.listed records opened L) sink =
    in-order ListAll old new end (zero-or-memory _ old new end (written-well _ old new end L.written sink))

module _ (records : List Record) (old new : Seen) (end : Ending)
    (disk : Rose old.disk_faults new.disk_faults → ⊥)
    (stores : (j : ℕ) → Rose (provider_at old.providers j).store_faults
    (provider_at new.providers j).store_faults → ⊥)
    (sink : Rose old.sink_faults new.sink_faults → ⊥) where
  repair-comes : {area : Area} (how : Answer)
      (left : LeftAlone area records RepairJob None how old new end.heard) →
      RepairGives (ran_left records RepairJob how old new end.heard left) left.leaves.by_kind.0.due how →
      EndsByAnswer (text_of (setup_in_effect records).tolerance RepairJob how) how old new end → Comes end
  repair-comes (answer.Repaired number) left L by =
      inl (zero-or-memory _ old new end (written-well _ old new end by.written sink))
  repair-comes (answer.Lost stripe row) left L by = inr by.status_is
  repair-comes (answer.ProviderFault j) left L by = absurd (stores j L.2)
  repair-comes answer.DiskFault left L by =
      absurd (calm-disk records RepairJob answer.DiskFault old new end.heard left disk L.0)
  repair-comes answer.Memory left L by = inl (inr by.status_is)
  repair-comes how left L by = absurd L

-- a repair with no fault of disk, sink or a store ends in order, or found a row lost
pub repair-order : (old new : Seen) (end : Ending) → AnswersAlone RepairJob old new end →
    (Rose old.disk_faults new.disk_faults → ⊥) →
    ((j : ℕ) → Rose (provider_at old.providers j).store_faults (provider_at new.providers j).store_faults →
    ⊥) → (Rose old.sink_faults new.sink_faults → ⊥) →
    EndsInOrder RepairAll old new end ⊎ LosesRepair old new end
repair-order old new end A disk stores sink = alone-order RepairAll refl refl (λ o. inl o)
    (λ records opened how none left by.
    elim (repair-comes records old new end disk stores sink how left left.leaves.by_kind.0.gives by) [
      | inl well ↦ inl (in-order RepairAll old new end well)
      | inr four ↦ inr (repair-loses old new end A four)
    ]) A
