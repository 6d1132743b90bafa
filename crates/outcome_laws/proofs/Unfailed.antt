-- A repair in a run that is calm by a mark, where no count rose since its begin.
use Rattle.outcome_laws.proofs.Words.{◌≡◌, ℕ, ◌≤◌, ◌⊎◌, List, [], ◌∷◌, ◌++◌, Some, refl, ap, inl, inr, arith, Due, due_of, RepairJob, Answer, Begin, Step, Begun, Ended, Mark, NoneBegan, run_back, IsMarkedRun, run_onward, rose_since, NoneRose, EndsRepair}
use Rattle.machine_defs.specs.Answers as answer
use Rattle.machine_defs.specs.States.{State}
use Rattle.machine_defs.specs.Runs.{Moment, now, IsRun}
use Rattle.outcome_laws.proofs.Repairs.{repairs_end}

-- counts never fall
disk_on : (limit : ℕ) (start : State) (later ms : List Moment) → IsRun limit start (later ++ ms) →
    (now start ms).disk_faults ≤ (now start (later ++ ms)).disk_faults
disk_on limit start [] ms run = omega arith
disk_on limit start (m ∷ later) ms run = (let a = disk_on limit start later ms run.2 in
    let b = (run_onward limit start m (later ++ ms) run).disk in omega (arith, a, b))

stores_on : (limit : ℕ) (start : State) (j : ℕ) (later ms : List Moment) → IsRun limit start (later ++ ms) →
    ((now start ms).providers j).store_faults ≤ ((now start (later ++ ms)).providers j).store_faults
stores_on limit start j [] ms run = omega arith
stores_on limit start j (m ∷ later) ms run = (let a = stores_on limit start j later ms run.2 in
    let b = ((run_onward limit start m (later ++ ms) run).provider j).stores in omega (arith, a, b))

abbrev IsDone : State → Answer → Type 0
IsDone begun how = ((due : Due) × (due_of begun.records ≡ Some due) × (how ≡ answer.Repaired due.number)) ⊎
    (how ≡ answer.Memory)

-- such a repair says its number, or found no memory
pub unfailed : (limit : ℕ) (mark : Mark) (start : State) (between older : List Moment) (m b : Moment)
    (number : ℕ) (how : Answer) → IsMarkedRun limit mark start (m ∷ (between ++ b ∷ older)) →
    b.event ≡ Begin RepairJob → b.outcome ≡ Begun number → NoneBegan number between →
    m.event ≡ Step number → m.outcome ≡ Ended how → NoneRose (now start older) m.state →
    ((due : Due) × (due_of (now start older).records ≡ Some due) × (how ≡ answer.Repaired due.number))
    ⊎ (how ≡ answer.Memory)
unfailed limit mark start between older m b number how h on begun none event outcome still =
    by_answer how (repairs_end limit mark start between older m b number how h on begun none event outcome)
  where
    early_disk : (now start older).disk_faults ≤ (now start (between ++ b ∷ older)).disk_faults
    early_disk = (let a = disk_on limit start between (b ∷ older) h.run.2 in
        let c = (run_onward limit start b older (run_back limit start between (b ∷ older) h.run.2)).disk in
        omega (arith, a, c))

    early_stores : (j : ℕ) → ((now start older).providers j).store_faults
        ≤ ((now start (between ++ b ∷ older)).providers j).store_faults
    early_stores j = (let a = stores_on limit start j between (b ∷ older) h.run.2 in
        let c = ((run_onward limit start b older
        (run_back limit start between (b ∷ older) h.run.2)).provider j).stores in
        omega (arith, a, c))

    by_answer : (a : Answer) → EndsRepair (now start older) (now start (between ++ b ∷ older)) m.state a →
        IsDone (now start older) a
    by_answer (answer.Repaired n) e = inl (e.0, e.1, ap answer.Repaired e.2)
    by_answer answer.Memory e = inr refl
    by_answer (answer.Lost s row) e = absurd (still.others e.0 e.2)
    by_answer (answer.ProviderFault j) e = absurd (still.stores j
        (rose_since _ _ _ (early_stores j) e
        ((run_onward limit start m (between ++ b ∷ older) h.run).provider j).stores))
    by_answer answer.DiskFault e = absurd (still.disk
        (rose_since _ _ _ early_disk e (run_onward limit start m (between ++ b ∷ older) h.run).disk))
    by_answer a e = absurd e
