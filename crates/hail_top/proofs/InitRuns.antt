-- An `init` goes on with the run that left its devices.
use Rattle.hail_top.proofs.Words.{◌≡◌, ◌⊎◌, ℕ, List, [], ◌∷◌, length, Result, Ok, Err, refl, sym, subst, inl, inr, arith, SetupData, now, IsRun, State, continued, Numbers, RowOf, InitWith, PutUnder, PutAt, GetOf, DropOf, ListAll, AuditAll, RepairAll, UpgradeJournal, ScrubAll, PackJournal, IsKeyForm, longest_key, Seen, Ending, ReadsUpTo, Sinking, WritesLine, Read, command_of, with_master, InitFault, Devices, AreDevices, devices_of_seen, ending_with, TellsInit, InitGoesOn, InitsDevices, InitsOn, untouched, made, IsSetupFor, init_ending}
use Rattle.machine_defs.specs.Events.{Init, IsSpelled}
use Rattle.state_laws.proofs.Events.{run-sound}
use Rattle.command_defs.specs.Forms.{Command}
use Rattle.record_codec.specs.declared.setup.Setup.{Setup}
use Rattle.vault_open.specs.Inits.{MayInit, MakesInit, init_outcome}
use Rattle.hail_replay.specs.Starts.{call_from, called_behind}
use Rattle.hail_replay.proofs.Loops.{continued-devices}

-- an init that is an event of the machine goes on with each run that has left the devices
pub init-on : (s : SetupData) (d e : Devices) (end : Ending) (result : Result Unit InitFault) →
    IsSpelled (Init s) → ((w : State) (moment : ℕ) → MayInit w d.holds → AreDevices d w →
    MakesInit w moment s result e) → TellsInit result end → InitGoesOn s d e end
init-on s d e end result spelled makes told start ms tells L = (let w : State = now start ms in
    let called : IsRun 8 start (called_behind start ms) = (tt, refl, L.run) in
    let M = makes (continued w) (length (called_behind start ms)) (record {
      sound = run-sound 8 start (called_behind start ms) (omega arith, omega arith) L.starts called;
      closed = refl;
      told_is = tells;
    }) (continued-devices d w L.devices) in (
      record { event = Init s; outcome = init_outcome result; state = M.state } ∷ call_from w ∷ [],
      record { result = result; last = M.state; moments = refl; told = told },
      record { starts = L.starts; run = (spelled, M.happens, called); devices = M.devices },
    ))

-- a line that is written ends so
line-ends : (line : List ℕ) (status : ℕ) (sink : Sinking) → WritesLine line status sink →
    (status ≡ 0) ⊎ ((status ≡ 15) ⊎ (status ≡ 70))
line-ends line status sink (inl w) = inl w.0
line-ends line status sink (inr (inl w)) = inr (inl w.1)
line-ends line status sink (inr (inr w)) = inr (inr w.0)

-- the end of one that is done
pub ready-tells : (result : Result Unit InitFault) (end : Ending) (status : ℕ) (line : List ℕ)
    (sink : Sinking) (done : Unit {0}) → result ≡ Ok done → end ≡ ending_with status 0 →
    WritesLine line status sink → TellsInit result end
ready-tells result end status line sink done is ended writes = subst (λ r. TellsInit r end) (sym is)
    (subst (λ e. TellsInit (Ok done) e) (sym ended) (line-ends line status sink writes))

-- and of one that is refused
pub refused-tells : (result : Result Unit InitFault) (why : InitFault) (end : Ending) → result ≡ Err why →
    end ≡ init_ending why → TellsInit result end
refused-tells result why end is ended = subst (λ r. TellsInit r end) (sym is) ended

-- the source gave a key
pub keyed-on : (setup : Setup) (numbers : Numbers) (old new : Seen) (end : Ending) (bytes key : List ℕ)
    (handed : ℕ) → IsSetupFor setup numbers handed → ReadsUpTo longest_key old.source new.source bytes →
    IsKeyForm bytes key → InitGoesOn (with_master setup key) (devices_of_seen old) (devices_of_seen new) end →
    InitsDevices numbers old new end
keyed-on setup numbers old new end bytes key handed for reads is goes =
    made bytes key reads is (subst (λ (s : SetupData). InitGoesOn s (devices_of_seen old) (devices_of_seen new) end)
    (for.same key) goes)

-- it is this command
pub inits-as : (command other : Read) (old new : Seen) (end : Ending) → command ≡ other →
    InitsOn (command_of other) old new end → InitsOn (command_of command) old new end
inits-as command other old new end is inits =
    subst (λ (c : Read). InitsOn (command_of c) old new end) (sym is) inits

-- a command that touched no device
pub inits-same : (command : Command) (same : Seen) (end : Ending) → InitsOn command same same end
inits-same (InitWith numbers) same end = untouched refl refl refl
inits-same (RowOf n l b symbols) same end = tt
inits-same (PutUnder name) same end = tt
inits-same (PutAt name profile) same end = tt
inits-same (GetOf name) same end = tt
inits-same (DropOf name) same end = tt
inits-same ListAll same end = tt
inits-same AuditAll same end = tt
inits-same RepairAll same end = tt
inits-same UpgradeJournal same end = tt
inits-same ScrubAll same end = tt
inits-same PackJournal same end = tt
