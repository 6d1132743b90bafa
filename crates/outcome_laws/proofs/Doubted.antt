-- A journal with the record in doubt on top.
use Rattle.std.proofs.Common.{◌≡◌, ℕ, List, ◌∷◌, Some, refl}
use Rattle.machine_defs.specs.Runs.{Moment, IsRun, now}
use Rattle.machine_defs.specs.States.{State, Doubt, IsStart}
use Rattle.state_laws.specs.Sound.{IsLimit, IsSoundJournal}
use Rattle.state_laws.proofs.Events.{run-sound}
use Rattle.state_laws.proofs.Packs.{journal-brought}

-- the state in which the record in doubt came into effect
abbrev pub settled : State → Doubt → State
settled w doubt = record w { journal = doubt.entry ∷ w.journal; records = doubt.entry ∷ w.records }

-- its journal is sound
pub sound_with : (limit : ℕ) (start : State) (ms : List Moment) (doubt : Doubt) → IsLimit limit →
    IsStart start → IsRun limit start ms → (now start ms).doubt ≡ Some doubt →
    IsSoundJournal (settled (now start ms) doubt)
sound_with limit start ms doubt limited starts run is =
    (let sound = run-sound limit start ms limited starts run in
    let follows = sound.doubt doubt is in
    journal-brought (now start ms) (settled (now start ms) doubt) doubt.entry refl refl follows.spelled
    follows.in_journal sound.journal)
