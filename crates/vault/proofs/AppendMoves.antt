-- The moves of an append are steps of the machine.
use Rattle.vault.proofs.Words.{◌≡◌, ℕ, ◌+◌, ◌<◌, ◌≤◌, true, false, List, ◌∷◌, Option, Some, None, refl, sym, ap, subst, ◌∙◌, inl, inr, arith, none-some, IfSome, is_some, Cells, HasCause, Rose, Provider, Goes, Area, end_in, setup_of, refused, length-entries, WriteBody, SyncBody, WriteGate, SyncGate, Moves, Writes, subject_drawn, begun_append, taken_out, moved, doubted, barred, unappended, done_append, IsAt, More, Ended, Outcome, Job, job_of, advanced, without_job, setup_or_none, StandsForState, State, Doubt, setup_in, going_on, ended, number_of, same_value, moves_before, IsGatedDoubt, IsDoubtOf, setup-more, Appends, gate_of, body_of, SameFrom, StandsFirm, IsAfterMovesIn, goes_still, ComesNext, IsEntryOf, entry_in, is_move, CoreView, Reply, Flight, Turn, Desk, devices, records_in_flight, IsSamePast, HasFailed, MakesMove, KeepsAll, IsFed, IsStopped, IsUnbegun, IsMover, DeskStands, Comes, IsFlight, DeskMakesStep, shown-again, firm-shown, setup_same, handed_same}
use Rattle.std.proofs.Common.{◌==◌, length}
use Rattle.record_defs.specs.Records.{Record}
use Rattle.machine_defs.specs.Actions.{Action}
use Rattle.machine_defs.specs.Answers as answers
use Rattle.machine_defs.specs.States.{Append}
use Rattle.machine_defs.specs.Steps.{Acts}
use Rattle.state_laws.proofs.Given.{mover}
use Rattle.std.specs.Prelude.{Bool, Result, Ok, Err}
use Rattle.stream_model.specs.declared.fault.WriteFault.{WriteFault}
use Rattle.stream_model.specs.declared.fault.WriteFault.TheVariants as write_fault
use Rattle.journal_core.specs.Appends.{KeepsRecords, moves_of}
use Rattle.journal_core.specs.declared.append.Append.{Append as Appending}
use Rattle.journal_core.proofs.Turning.{keeps-records}
use Rattle.vault_core.specs.declared.reply.Reply.TheVariants as reply
use Rattle.vault.specs.declared.flight.Moved.TheVariants as moves
use Rattle.vault.specs.declared.turn.Answer.TheVariants as answer
use Rattle.vault.specs.declared.turn.Turn.TheVariants as turn
use Rattle.vault.specs.Flights.{IsTurn}
use Rattle.vault_core.proofs.Standing.{entry_machine}
use Rattle.vault_core.proofs.Steps.{none_flies}
use Rattle.vault.proofs.Moving.{IsMove}
use Rattle.vault.proofs.MoveStep.{moves_on, moves_end, beyond_of, all_images, doubted_images, subject_kept}
use Rattle.vault.proofs.Ways.{entry_kept}

true_false : true ≡ false → ⊥
true_false e = cc

false_true : false ≡ true → ⊥
false_true e = cc

one_of : (a b : Append) → Some a ≡ Some b → a ≡ b
one_of a b e = cc

-- the record of the last move is in doubt
in_doubt : (a : Append) (doubt : Option Doubt) → a.moves ≡ 3 → IsDoubtOf (Some a) doubt →
    (d : Doubt) × (doubt ≡ Some d) × (d.entry ≡ a.entry)
in_doubt a doubt is gated = subst (λ (n : ℕ). IsGatedDoubt a (n == 3) doubt) is gated

-- a setup stays the setup
setup_kept : (w new : State) (a : Append) → is_some (setup_of w.records) ≡ true →
    refused w.records a.entry ≡ None → new.records ≡ a.entry ∷ w.records → setup_in new ≡ setup_in w
unfolding setup_in
setup_kept w new a up accepted is = ap (λ (rs : List Record). setup_or_none (setup_of rs)) is
    ∙ ap setup_or_none (setup-more a.entry w.records up accepted)

-- ---- what the append is at

-- a flight is none where the machine has no append in flight, and some where it has
no_flight : (o : Option Flight) (a : Append) (area : Area) (rs : List Record) (told : Option Cells) →
    o ≡ None → IsFlight o (Some a) area rs told → ⊥
no_flight None a area rs told is flight = flight
no_flight (Some f) a area rs told is flight = none-some f (sym is)

-- the disk has the area's text, with a closed gate, where none is in flight
pub closed_of : (f : Option Flight) (area : Area) (rs : List Record) (told : Option Cells) →
    IsFlight f None area rs told → IfSome told (StandsFirm area rs)
closed_of None area rs told is = is
closed_of (Some f) area rs told is = absurd is

-- it is as before the first move of an append
unmoved : (area : Area) (rs : List Record) (body : List ℕ) (told : Option Cells) →
    IfSome told (StandsFirm area rs) → IfSome told (IsAfterMovesIn 0 area rs body)
unmoved area rs body None firm = tt
unmoved area rs body (Some cells) firm = record {
  named = firm.named;
  text = (firm.text.gate, firm.text.rest, firm.text.closed, firm.text.cells_are);
}

module _ (v : Desk) (w : State) (holds : Option Cells) (faults number : ℕ) (ps : List Provider)
    (stands : DeskStands v (devices holds faults ps) w) where
  -- a later move of a job finds its append in flight
  module _ (action : Action) (comes : Comes v.core number action) (later : 0 < moves_before action) where
    next : ComesNext w number action None
    next = comes.machine w stands.core

    held : (a : Append) × (w.append ≡ Some a) × IsAt a next.job (moves_before action)
    held = mover 8 w stands.core.sound number next.job action next.runs next.comes later

    own : held.0.job ≡ number
    own = held.2.0 ∙ number_of w.jobs number next.job next.runs

    in_flight : IsFlight v.flight (Some held.0) w.area w.journal holds
    in_flight = rw held.1 at (stands.flight next.unbarred)

    not_none : v.flight ≡ None → ⊥
    not_none is = no_flight v.flight held.0 w.area w.journal holds is in_flight

    goes_on : is_move (Some action) ≡ true → (f : Flight) → v.flight ≡ Some f →
        IsMover v w holds number action f
    goes_on moves f is =
        let sound = stands.core.sound.append held.0 held.1 in
        let mine : (moves_of f.append ≡ held.0.moves)
        × Appends w.area w.journal held.0.entry f.append holds =
        subst (λ (o : Option Flight). IsFlight o (Some held.0) w.area w.journal holds) is in_flight in
        let same : sound.job ≡ next.job = same_value (job_of w.jobs number) sound.job next.job
        (subst (λ n. job_of w.jobs n ≡ Some sound.job) own sound.runs) next.runs in
        record {
          entry = held.0.entry;
          given = entry_kept v.core w number stands.core held.0 held.1 own;
          writing = record {
            job = next.job;
            runs = next.runs;
            moves = ap is_move next.comes ∙ moves;
            writes = subst (λ (j : Job). Writes w j j.kind held.0.entry) same sound.writes;
          };
          in_flight = λ x is. ap (λ (y : Append). y.entry) (one_of x held.0 (sym is ∙ held.1));
          appends = mine.1;
          moves = mine.0 ∙ held.2.1;
        }

  -- a first move of a job finds none in flight
  module _ (comes : Comes v.core number WriteBody) where
    alone : w.append ≡ None
    alone = none_flies w.append (comes.machine w stands.core).holder

    lies_still : IsFlight v.flight None w.area w.journal holds
    lies_still = rw alone at (stands.flight (comes.machine w stands.core).unbarred)

    not_some : (f : Flight) → v.flight ≡ Some f → ⊥
    not_some f is = subst (λ (o : Option Flight). IsFlight o None w.area w.journal holds) is lies_still

    begins : (f : Flight) → IsUnbegun v.core number f → IsMover v w holds number WriteBody f
    begins f first =
        let next = comes.machine w stands.core in
        let entry_now : IsEntryOf w number (Some first.entry) =
        subst (λ (o : Option Record). IsEntryOf w number o) first.given
        (entry_machine v.core w number (entry_in v.core number) stands.core comes.wants refl) in
        record {
          entry = first.entry;
          given = first.given;
          writing = entry_now;
          in_flight = λ a is. absurd (none-some a (sym alone ∙ is));
          appends = record {
            records = stands.core.sound.journal.spelled;
            entry = first.spelled;
            gate = (let size = length-entries w.journal stands.core.sound.journal.spelled in
                let end = stands.core.end in let g = first.gate in omega (arith, size, end, g));
            body = first.body;
            disk = subst (λ (n : ℕ). IfSome holds (IsAfterMovesIn n w.area w.journal (body_of f.append)))
                (sym first.moves) (unmoved w.area w.journal (body_of f.append) holds
                (closed_of v.flight w.area w.journal holds lies_still));
          };
          moves = first.moves;
        }

  -- the append that a vault has in flight is at the move that comes next
  pub flight_moves : (action : Action) → Comes v.core number action → is_move (Some action) ≡ true → (f : Flight)
      → v.flight ≡ Some f → IsMover v w holds number action f
  flight_moves WriteBody comes moves f is = absurd (not_some comes f is)
  flight_moves SyncBody comes moves f is = goes_on SyncBody comes (omega arith) moves f is
  flight_moves WriteGate comes moves f is = goes_on WriteGate comes (omega arith) moves f is
  flight_moves SyncGate comes moves f is = goes_on SyncGate comes (omega arith) moves f is
  flight_moves _ comes moves f is = absurd (false_true moves)

  -- where it has none, the job's append begins
  pub flight_begins : (action : Action) → Comes v.core number action → is_move (Some action) ≡ true
      → v.flight ≡ None → (f : Flight) → IsUnbegun v.core number f → IsMover v w holds number action f
  flight_begins WriteBody comes moves is f first = begins comes f first
  flight_begins SyncBody comes moves is f first = absurd (not_none SyncBody comes (omega arith) is)
  flight_begins WriteGate comes moves is f first = absurd (not_none WriteGate comes (omega arith) is)
  flight_begins SyncGate comes moves is f first = absurd (not_none SyncGate comes (omega arith) is)
  flight_begins _ comes moves is f first = absurd (false_true moves)

-- a vault that gave its flight away is else the same
pub gave_away : (v v0 : Desk) → v0 ≡ record v { flight = None } → KeepsAll v v0
gave_away v v0 rest =
    record {
      setup = ap (λ (x : Desk). x.setup) rest;
      master = ap (λ (x : Desk). x.master) rest;
      shape = ap (λ (x : Desk). x.shape) rest;
      base = ap (λ (x : Desk). x.base) rest;
    }

-- its core is fed as that of the vault was
pub fed_away : (v v0 : Desk) (number : ℕ) (r : Reply) (core : CoreView) → v0 ≡ record v { flight = None } →
    IsFed v0.core number r core → IsFed v.core number r core
fed_away v v0 number r core rest = subst (λ (x : Desk). IsFed x.core number r core) rest

-- ---- what comes of a move

module _ (v : Desk) (w : State) (holds holds' : Option Cells) (faults faults' moment number : ℕ)
    (ps : List Provider) (stands : DeskStands v (devices holds faults ps) w) (f : Flight) where
  -- the state counts the faults of the disk
  falls_not : faults ≤ faults' → w.disk_faults ≤ faults'
  falls_not = subst (λ (n : ℕ). n ≤ faults') (sym stands.devices.faults)

  rises : Rose faults faults' → Rose w.disk_faults faults'
  rises = subst (λ (n : ℕ). Rose n faults') (sym stands.devices.faults)

  -- the append in flight of a later move has the mover's record
  flies : (action : Action) (comes : Comes v.core number action) (later : 0 < moves_before action)
      (m : IsMover v w holds number action f)
      → (a : Append) × (w.append ≡ Some a) × IsAt a (comes.machine w stands.core).job (moves_before action) ×
      (entry_in v.core number ≡ Some a.entry) × Appends w.area w.journal a.entry f.append holds ×
      ((outcome : Outcome) (new : State) → Moves w (comes.machine w stands.core).job action (Some a) outcome new →
      Moves w (comes.machine w stands.core).job action w.append outcome new)
  unfolding next
  flies action comes later m =
      let h = held v w holds faults number ps stands action comes later in
      let same : h.0.entry ≡ m.entry = m.in_flight h.0 h.1 in (
        h.0,
        h.1,
        h.2,
        m.given ∙ ap (λ (r : Record). Some r) (sym same),
        subst (λ (r : Record). Appends w.area w.journal r f.append holds) (sym same) m.appends,
        λ outcome new. subst (λ o. Moves w (comes.machine w stands.core).job action o outcome new) (sym h.1),
      )

  -- past the text with the record of the append the disk reads as before
  still_past : (action : Action) (m : IsMover v w holds number action f) →
      Goes (SameFrom (gate_of f.append + 1 + length (body_of f.append))) holds holds' →
      IsSamePast w number (devices holds faults ps) (devices holds' faults' ps)
  still_past action m beyond =
      record {
        entry = m.entry;
        writing = m.writing;
        in_flight = m.in_flight;
        same = beyond_of w.area w.journal m.entry f.append holds holds' m.appends beyond;
      }

  -- a turn keeps the records
  kept : (result : Result Bool WriteFault) (b : Appending) → IsTurn f.append holds result b holds' → (entry : Record)
      → Appends w.area w.journal entry f.append holds
      → KeepsRecords w.area w.journal entry f.append result b holds'
  kept result b t entry appends =
      keeps-records w.area w.journal entry f.append b result holds holds' appends f.undone t.turns t.disk

  -- behind three moves one makes the last
  third : MakesMove f.append holds moves.Done holds' → moves_of f.append ≡ 3
  third (b, t) = let four = t.turns.count.last.0 refl in let n = t.turns.count.next in omega (arith, four, n)

  -- the job ends by a failed move, which leaves this doubt
  abbrev failed_with : Job → Option Doubt → State
  failed_with job doubt = record (barred (ended w job)) { disk_faults = faults'; doubt = doubt }

  fails_with : (action : Action) (comes : Comes v.core number action) (m : IsMover v w holds number action f)
      (v1 v2 : Desk) (result : Turn)
      → Goes (SameFrom (gate_of f.append + 1 + length (body_of f.append))) holds holds'
      → v1.core ≡ v.core → v1.jobs.items ≡ v.jobs.items → KeepsAll v v1 →
      IsStopped v1 number reply.Failed answer.DiskFault result v2 → (doubt : Option Doubt)
      → Acts w (comes.machine w stands.core).job action (Ended answers.DiskFault)
      (failed_with (comes.machine w stands.core).job doubt)
      → StandsForState holds' (failed_with (comes.machine w stands.core).job doubt)
      → DeskMakesStep w moment number result v2 (devices holds faults ps) (devices holds' faults' ps)
  fails_with action comes m v1 v2 result beyond core jobs keeps stopped doubt acts images =
      let next = comes.machine w stands.core in
      let new = failed_with next.job doubt in
      moves_end v v1 v2 w new holds holds' faults faults' moment number ps action reply.Failed
      answer.DiskFault result stands next acts
      (ap (without_job w.jobs) (number_of w.jobs number next.job next.runs))
      core jobs keeps stopped tt
      (record {
        setup = setup_same w new refl;
        area = refl;
        handed = handed_same ps w new stands.devices.providers refl (λ j. refl);
        faults = refl;
        images = images;
        flight = λ free. absurd (true_false free);
      })
      refl (λ on. absurd (on refl)) (λ e. still_past action m beyond)

  -- the disk failed
  pub append_failed : (action : Action) (comes : Comes v.core number action) → is_move (Some action) ≡ true →
      (m : IsMover v w holds number action f) (v1 v2 : Desk) (result : Turn) →
      MakesMove f.append holds moves.Failed holds' →
      Goes (SameFrom (gate_of f.append + 1 + length (body_of f.append))) holds holds' →
      HasCause faults faults' (HasFailed moves.Failed) → v1.core ≡ v.core → v1.jobs.items ≡ v.jobs.items →
      KeepsAll v v1 → IsStopped v1 number reply.Failed answer.DiskFault result v2 →
      DeskMakesStep w moment number result v2 (devices holds faults ps) (devices holds' faults' ps)
  append_failed WriteBody comes move m v1 v2 result made beyond cause core jobs keeps stopped =
      let up = kept (Err write_fault.Failed) made.0 made.1 m.entry m.appends in
      fails_with WriteBody comes m v1 v2 result beyond core jobs keeps stopped w.doubt
      (faults', falls_not cause.never_falls, rises (cause.rose tt), refl)
      (all_images holds' (failed_with (comes.machine w stands.core).job w.doubt)
      (up.before (let k = m.moves in omega (arith, k))))
  append_failed SyncBody comes move m v1 v2 result made beyond cause core jobs keeps stopped =
      let a = flies SyncBody comes (omega arith) m in
      let up = kept (Err write_fault.Failed) made.0 made.1 m.entry m.appends in
      let new = failed_with (comes.machine w stands.core).job w.doubt in
      fails_with SyncBody comes m v1 v2 result beyond core jobs keeps stopped w.doubt
      (a.5 (Ended answers.DiskFault) new (a.2, (faults', falls_not cause.never_falls, rises (cause.rose tt), refl)))
      (all_images holds' new (up.before (let k = m.moves in omega (arith, k))))
  append_failed WriteGate comes move m v1 v2 result made beyond cause core jobs keeps stopped =
      let job = (comes.machine w stands.core).job in
      let a = flies WriteGate comes (omega arith) m in
      let up = kept (Err write_fault.Failed) made.0 made.1 a.0.entry a.4 in
      let new = failed_with job (doubted w a.0 job).doubt in
      fails_with WriteGate comes m v1 v2 result beyond core jobs keeps stopped (doubted w a.0 job).doubt
      (a.5 (Ended answers.DiskFault) new (a.2, (faults', falls_not cause.never_falls, rises (cause.rose tt), refl)))
      (doubted_images holds' new a.0.entry _ refl refl up.between)
  append_failed SyncGate comes move m v1 v2 result made beyond cause core jobs keeps stopped =
      let next = comes.machine w stands.core in
      let a = flies SyncGate comes (omega arith) m in
      let up = kept (Err write_fault.Failed) made.0 made.1 a.0.entry a.4 in
      let new = failed_with next.job w.doubt in
      let doubt = in_doubt a.0 w.doubt a.2.1
      (subst (λ (o : Option Append). IsDoubtOf o w.doubt) a.1
      (stands.core.sound.undoubted stands.core.is_open next.unbarred)) in
      fails_with SyncGate comes m v1 v2 result beyond core jobs keeps stopped w.doubt
      (a.5 (Ended answers.DiskFault) new (a.2, (faults', falls_not cause.never_falls, rises (cause.rose tt), refl)))
      (doubted_images holds' new a.0.entry doubt.0 doubt.1 doubt.2 up.between)
  append_failed _ comes move m v1 v2 result made beyond cause core jobs keeps stopped = absurd (false_true move)

  -- the job goes on by a later move, which leaves this doubt
  abbrev goes_with : Job → Append → Option Doubt → State
  goes_with job a doubt = record (moved (going_on w (advanced job)) a) { disk_faults = faults'; doubt = doubt }

  goes_later : (action : Action) (comes : Comes v.core number action) (later : 0 < moves_before action)
      (m : IsMover v w holds number action f) (v' : Desk) (g : Flight)
      → MakesMove f.append holds (moves.On g) holds' →
      Goes (SameFrom (gate_of f.append + 1 + length (body_of f.append))) holds holds'
      → v'.flight ≡ Some g → v'.jobs.items ≡ v.jobs.items → KeepsAll v v' →
      IsFed v.core number reply.Done v'.core → IsMove action → (doubt : Option Doubt)
      → Acts w (comes.machine w stands.core).job action More
      (goes_with (comes.machine w stands.core).job (flies action comes later m).0 doubt)
      → StandsForState holds' (goes_with (comes.machine w stands.core).job (flies action comes later m).0 doubt)
      → DeskMakesStep w moment number turn.More v' (devices holds faults ps) (devices holds' faults' ps)
  goes_later action comes later m v' g made beyond flight jobs keeps fed move doubt acts images =
      let next = comes.machine w stands.core in
      let a = flies action comes later m in
      let new = goes_with next.job a.0 doubt in
      moves_on v v' w new holds holds' faults faults' moment number ps action next.job.subject next.job.older
      stands next move (λ many. refl) acts refl jobs
      (record {
        setup = setup_same w new refl;
        area = refl;
        handed = handed_same ps w new stands.devices.providers refl (λ j. refl);
        faults = refl;
        images = images;
        flight = λ free. subst (λ (x : Option Flight). IsFlight x new.append new.area new.journal holds')
            (sym flight) (
              (let n = made.turns.count.next in let k = m.moves in let l = a.2.1 in omega (arith, n, k, l)),
              (kept (Ok false) g.append made a.0.entry a.4).moved,
            );
      })
      (λ x is mine. a.3 ∙ ap (λ (y : Append). Some y.entry)
      (one_of (record a.0 { moves = a.0.moves + 1 }) x is))
      (beyond_of w.area w.journal a.0.entry f.append holds holds' a.4 beyond)
      keeps fed comes.wants

  -- a move is made behind which others are left
  pub append_goes_on : (action : Action) (comes : Comes v.core number action) → is_move (Some action) ≡ true →
      (m : IsMover v w holds number action f) (v' : Desk) (g : Flight) →
      MakesMove f.append holds (moves.On g) holds' →
      Goes (SameFrom (gate_of f.append + 1 + length (body_of f.append))) holds holds' →
      HasCause faults faults' (HasFailed (moves.On g)) → v'.flight ≡ Some g → v'.jobs.items ≡ v.jobs.items →
      KeepsAll v v' → IsFed v.core number reply.Done v'.core →
      DeskMakesStep w moment number turn.More v' (devices holds faults ps) (devices holds' faults' ps)
  append_goes_on WriteBody comes move m v' g made beyond cause flight jobs keeps fed =
      let next = comes.machine w stands.core in
      let job = next.job in
      let on = kept (Ok false) g.append made m.entry m.appends in
      let writes : Writes w job job.kind m.entry =
      (let same : m.writing.job ≡ job = cc (sym m.writing.runs ∙ next.runs) in
      subst (λ (j : Job). Writes w j j.kind m.entry) same m.writing.writes) in
      let new : State = record (begun_append w job m.entry) { disk_faults = faults' } in
      moves_on v v' w new holds holds' faults faults' moment number ps WriteBody
      (subject_drawn w job job.kind) job.older stands next tt (subject_kept w job job.kind)
      (m.entry, writes, (faults', falls_not cause.never_falls, refl))
      refl jobs
      (record {
        setup = setup_same w new refl;
        area = refl;
        handed = handed_same ps w new stands.devices.providers refl (λ j. refl);
        faults = refl;
        images = all_images holds' new (on.before (let k = m.moves in omega (arith, k)));
        flight = λ free. subst (λ (x : Option Flight). IsFlight x new.append new.area new.journal holds')
            (sym flight)
            ((let k = m.moves in let n = made.turns.count.next in omega (arith, k, n)), on.moved);
      })
      (λ a is mine. m.given
      ∙ ap (λ (x : Append). Some x.entry)
      (one_of (record { job = job.number; entry = m.entry; moves = 1 }) a is))
      (beyond_of w.area w.journal m.entry f.append holds holds' m.appends beyond)
      keeps fed comes.wants
  append_goes_on SyncBody comes move m v' g made beyond cause flight jobs keeps fed =
      let a = flies SyncBody comes (omega arith) m in
      let new = goes_with (comes.machine w stands.core).job a.0 w.doubt in
      goes_later SyncBody comes (omega arith) m v' g made beyond flight jobs keeps fed tt w.doubt
      (a.5 More new (a.2, (faults', falls_not cause.never_falls, refl)))
      (all_images holds' new ((kept (Ok false) g.append made a.0.entry a.4).before
      (let k = m.moves in omega (arith, k))))
  append_goes_on WriteGate comes move m v' g made beyond cause flight jobs keeps fed =
      let job = (comes.machine w stands.core).job in
      let a = flies WriteGate comes (omega arith) m in
      let new = goes_with job a.0 (doubted w a.0 job).doubt in
      goes_later WriteGate comes (omega arith) m v' g made beyond flight jobs keeps fed tt (doubted w a.0 job).doubt
      (a.5 More new (a.2, (faults', falls_not cause.never_falls, refl)))
      (doubted_images holds' new a.0.entry _ refl refl (kept (Ok false) g.append made a.0.entry a.4).between)
  append_goes_on SyncGate comes move m v' g made beyond cause flight jobs keeps fed =
      absurd (let k = m.moves in let d = made.turns.count.next in let u = g.undone in omega (arith, k, d, u))
  append_goes_on _ comes move m v' g made beyond cause flight jobs keeps fed = absurd (false_true move)

  -- the last move is made
  pub append_done : (action : Action) (comes : Comes v.core number action) → is_move (Some action) ≡ true →
      (m : IsMover v w holds number action f) (v' : Desk) → MakesMove f.append holds moves.Done holds' →
      Goes (SameFrom (gate_of f.append + 1 + length (body_of f.append))) holds holds' →
      HasCause faults faults' (HasFailed moves.Done) → v'.flight ≡ None → v'.jobs.items ≡ v.jobs.items →
      KeepsAll v v' → IsFed v.core number reply.Done v'.core →
      DeskMakesStep w moment number turn.More v' (devices holds faults ps) (devices holds' faults' ps)
  append_done SyncGate comes move m v' made beyond cause flight jobs keeps fed =
      let next = comes.machine w stands.core in
      let a = flies SyncGate comes (omega arith) m in
      let job = next.job in
      let ready = (kept (Ok true) made.0 made.1 a.0.entry a.4).ready (made.1.turns.count.last.0 refl) in
      let new : State = record (done_append w job a.0) { disk_faults = faults' } in
      moves_on v v' w new holds holds' faults faults' moment number ps SyncGate job.subject
      (taken_out w job job.kind) stands next tt (λ many. refl)
      (a.5 More new (a.2, (faults', falls_not cause.never_falls, refl))) refl jobs
      (record {
        setup = setup_kept w new a.0 (stands.core.sound.set_up stands.core.is_open)
            (stands.core.sound.append a.0 a.1).follows.accepted refl;
        area = refl;
        handed = handed_same ps w new stands.devices.providers refl (λ j. refl);
        faults = refl;
        images = firm-shown holds' new new.area new.journal refl refl ready;
        flight = λ free. subst (λ (x : Option Flight). IsFlight x None new.area new.journal holds')
            (sym flight) ready;
      })
      (λ x so mine. absurd (none-some x so))
      (beyond_of w.area w.journal a.0.entry f.append holds holds' a.4 beyond)
      keeps fed comes.wants
  append_done WriteBody comes move m v' made beyond cause flight jobs keeps fed =
      absurd (let k = m.moves in let d = third made in omega (arith, k, d))
  append_done SyncBody comes move m v' made beyond cause flight jobs keeps fed =
      absurd (let k = m.moves in let d = third made in omega (arith, k, d))
  append_done WriteGate comes move m v' made beyond cause flight jobs keeps fed =
      absurd (let k = m.moves in let d = third made in omega (arith, k, d))
  append_done _ comes move m v' made beyond cause flight jobs keeps fed = absurd (false_true move)

  -- a job whose write found no memory ends, with no append in flight
  unwritten : (action : Action) (comes : Comes v.core number action) (m : IsMover v w holds number action f)
      (v1 v2 : Desk) (result : Turn)
      → MakesMove f.append holds moves.Memory holds' → v1.core ≡ v.core → v1.jobs.items ≡ v.jobs.items
      → v1.flight ≡ None → KeepsAll v v1 → IsStopped v1 number reply.Memory answer.Memory result v2
      → Acts w (comes.machine w stands.core).job action (Ended answers.Memory)
      (record (unappended (ended w (comes.machine w stands.core).job)) { disk_faults = faults' })
      → DeskMakesStep w moment number result v2 (devices holds faults ps) (devices holds' faults' ps)
  unwritten action comes m v1 v2 result made core jobs flight keeps stopped acts =
      let next = comes.machine w stands.core in
      let new : State = record (unappended (ended w next.job)) { disk_faults = faults' } in
      moves_end v v1 v2 w new holds holds' faults faults' moment number ps action reply.Memory
      answer.Memory result stands next acts
      (ap (without_job w.jobs) (number_of w.jobs number next.job next.runs))
      core jobs keeps stopped tt
      (record {
        setup = setup_same w new refl;
        area = refl;
        handed = handed_same ps w new stands.devices.providers refl (λ j. refl);
        faults = refl;
        images = subst (λ (t : Option Cells). StandsForState t new) (sym (made.1.disk.memory refl))
            (shown-again holds w new refl refl refl refl stands.devices.images);
        flight = λ free. subst (λ (x : Option Flight). IsFlight x None w.area w.journal holds') (sym flight)
            ((kept (Err write_fault.Memory) made.0 made.1 m.entry m.appends).kept refl);
      })
      refl (λ on. goes_still (end_in new.area (records_in_flight new.journal new.append)) holds holds' (made.1.disk.memory refl))
      (λ e. cc)

  -- a write found no memory
  pub append_unwritten : (action : Action) (comes : Comes v.core number action) →
      is_move (Some action) ≡ true → (m : IsMover v w holds number action f) (v1 v2 : Desk) (result : Turn)
      → MakesMove f.append holds moves.Memory holds' → faults' ≡ faults
      → v1.core ≡ v.core → v1.jobs.items ≡ v.jobs.items → v1.flight ≡ None → KeepsAll v v1 →
      IsStopped v1 number reply.Memory answer.Memory result v2
      → DeskMakesStep w moment number result v2 (devices holds faults ps) (devices holds' faults' ps)
  append_unwritten WriteBody comes move m v1 v2 result made same core jobs flight keeps stopped =
      let none = alone v w holds faults number ps stands comes in
      unwritten WriteBody comes m v1 v2 result made core jobs flight keeps stopped
      (λ i. record (ended w (comes.machine w stands.core).job)
      { disk_faults = (same ∙ sym stands.devices.faults) i; append = (sym none) i })
  append_unwritten WriteGate comes move m v1 v2 result made same core jobs flight keeps stopped =
      let job = (comes.machine w stands.core).job in
      let a = flies WriteGate comes (omega arith) m in
      let ended_so = λ (n : ℕ). record (unappended (ended w job)) { disk_faults = n } in
      unwritten WriteGate comes m v1 v2 result made core jobs flight keeps stopped
      (a.5 (Ended answers.Memory) (ended_so faults') (a.2, ap ended_so (same ∙ sym stands.devices.faults)))
  append_unwritten SyncBody comes move m v1 v2 result made same core jobs flight keeps stopped =
      absurd (elim (made.1.disk.writes refl) [
        | inl d ↦ (let k = m.moves in omega (arith, k, d))
        | inr d ↦ (let k = m.moves in omega (arith, k, d))
      ])
  append_unwritten SyncGate comes move m v1 v2 result made same core jobs flight keeps stopped =
      absurd (elim (made.1.disk.writes refl) [
        | inl d ↦ (let k = m.moves in omega (arith, k, d))
        | inr d ↦ (let k = m.moves in omega (arith, k, d))
      ])
  append_unwritten _ comes move m v1 v2 result made same core jobs flight keeps stopped =
      absurd (false_true move)
