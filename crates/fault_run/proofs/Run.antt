-- The run, computed from its instructions.
use Rattle.std.proofs.Common.{List, [], ◌∷◌, Some, refl, inl, inr, arith}
use Rattle.machine_defs.specs.Refusals as refusal
use Rattle.machine_defs.specs.States.{given_up, continued}
use Rattle.damage_run.specs.Words.{AuditDone, PutJob, GetJob, DropJob, AuditJob, actions_of, Got, Dropped, Audited, Begin, Step, Reopen, Continue, Refused, Closed, Continued, State, setup_in, Moment, IsRun, set_up, Goes, Works, Notes, Came, Heard, NoneCame, Gives, LosesOne, StoreFails, Cut, Instruction, Turns, Fails, Begins, Reopens, Stops, Comes, run_of, AreFit, faulted}
use Rattle.damage_run.specs.Points.{name, byte, counts}
use Rattle.damage_run.proofs.Values.{right, same_first, sums, judged}
use Rattle.damage_run.proofs.Run.{put, ◌and◌, few, sizes, are-run, block, symbols, byte_back, own_work}
use Rattle.damage_run.proofs.LostGet.{loses_row}
use Rattle.fault_run.specs.Faults.{other}

-- nothing changes
abbrev same : State → State
same w = w

-- a reopening cannot read the disk
abbrev unread : State → State
unread w = faulted (given_up w)

-- a put; a get that is lost; a put whose first store fails; one that is cut off at its last move
abbrev cut_off : List Instruction
cut_off = Turns 4 (Cut ∷ Goes 7 ∷ []) ∷ Begins (Begin (PutJob other []))
    ∷ Turns 3 (StoreFails 0 ∷ Goes 4 ∷ []) ∷ Begins (Begin (PutJob other byte))
    ∷ Turns 2 (LosesOne 0 0 ∷ Came (Some (block 3)) ∷ Came (Some (block 2)) ∷ NoneCame ∷ NoneCame ∷ [])
    ∷ Begins (Begin (GetJob name)) ∷ put

-- refusals, a stop, reopenings, and a get
abbrev opened_again : List Instruction
opened_again = Turns 5 (Gives (Got byte) ∷ Works symbols ∷ Came (Some (block 3)) ∷ Came (Some (block 2)) ∷
    Came (Some (block 1)) ∷ Came (Some (block 0)) ∷ []) ∷ Begins (Begin (GetJob name)) ∷ Comes
    (Begin (GetJob name)) (Refused refusal.Memory) same ∷ Reopens ∷ Comes Reopen (Refused refusal.DiskFault)
    unread ∷ Stops [] ∷ Comes (Begin (GetJob name)) (Refused refusal.MustReopen) same ∷ cut_off

-- an audit, one of whose asks fails
abbrev audited : List Instruction
audited = Turns 6 (Gives (Audited 1 0 counts) ∷ Goes 3 ∷ Notes (AuditDone 1 0 counts) ∷ Heard (right 3) ∷ [])
    ∷ Fails 6 ∷ Turns 6 (Heard (right 1) ∷ Heard (right 0) ∷ Goes 4 ∷ []) ∷ Begins (Begin AuditJob)
    ∷ opened_again

-- a drop, one of whose removals fails, and a later call of the program
abbrev instructions : List Instruction
instructions = Comes (Step 1) Closed same ∷ Comes Continue Continued continued
    ∷ Turns 7 (Gives Dropped ∷ []) ∷ Fails 7 ∷ Turns 7 (Goes 7 ∷ []) ∷ Begins (Begin (DropJob name))
    ∷ Comes (Begin AuditJob) (Refused refusal.RepairDue) same ∷ audited

-- all can be carried out
fit_cut : AreFit 8 set_up cut_off
unfolding setup_in actions_of
fit_cut = assumption few and (assumption) and assumption few and (assumption) and
    (omega arith, ((refl, (refl, (refl, loses_row))), assumption sizes)) and (assumption) and assumption few

fit_again : AreFit 8 set_up opened_again
unfolding setup_in actions_of
fit_again = assumption (few, sizes, byte_back, own_work) and (assumption) and (refl, (refl, inr refl, refl))
    and (assumption) and (tt, (2, omega arith, λ low. omega arith, refl)) and (assumption)
    and (refl, (refl, inl refl, refl)) and fit_cut

fit_audited : AreFit 8 set_up audited
unfolding setup_in actions_of
fit_audited = (omega arith and (refl, (refl, (refl, (sums, (sums, judged, refl), (sums, refl, refl))))) and
    refl and (refl, (refl, (sums, (sums, (sums, judged, refl), (sums, refl, refl)), refl))) and
    (refl, (refl, same_first _ _ refl)) and tt) and assumption few and
    (omega arith and (refl, (refl, same_first _ _ refl)) and (refl, (refl, same_first _ _ refl)) and refl and
    tt) and (assumption) and fit_again

fit : AreFit 8 set_up instructions
unfolding setup_in actions_of
fit = assumption few and (assumption) and assumption few and assumption few and assumption few
    and (assumption) and (tt, (refl, inl refl, refl)) and fit_audited

-- the run
abbrev pub moments : List Moment
moments = run_of set_up instructions

-- the moments are a run, at limit 8
pub is_run : IsRun 8 set_up moments
is_run = are-run 8 set_up instructions fit
