-- The actions that a job has not yet made, read off where it is, for n providers.
--
--   numbers a b                    == the numbers from a on, below b
--   call_of wish object turn j     == what a job calls provider j for at a stripe or a round: a store, a
--                                     fetch or an ask
--   calls_from j ..                == the calls from provider j on
--   rewrite_of .. j                == the store of a repair on provider j, if it is flagged
--   rewrites_from j ..             == the stores of a repair on the flagged providers from j on
--   work_of ..                     == the work on a stripe that was fetched, and the stores of a repair
--   turn_of ..                     == all actions at one stripe or round of an object
--   turns_from turn ..             == those at the stripes or rounds of an object from this one on
--   tasks_of ..                    == those at all stripes or rounds of these objects
--   closing_of wish                == the actions behind those on files: the last append, and the end
--   moves_from at                  == the moves of an append from this one on
--   actions_after at               == the moves of an append behind this one
--   move_actions at                == those from this one on, or none where there is no such move
--   tasks_from ..                  == the actions from the first of these tasks on
--   behind_spot ..                 == the actions behind those at a stripe or round
--   rest_from ..                   == the actions from a cursor on
--   tasks_on n job tasks           == the actions of a job from the first of these tasks on
--   beyond n job spot              == the actions of a job behind those at a stripe or round
--   rest_at n job cursor           == the actions of a job from a cursor on
--   rest_of n job                  == the actions that a job has not yet made
use Rattle.std.specs.Prelude.{ℕ, ◌+◌, ◌-◌, Bool, List, [], ◌∷◌, ◌++◌, drop, map, Option, None, Some, if◌then◌else◌}
use Rattle.std.specs.List.{flat_map, range_with_len}
use Rattle.machine_defs.specs.Actions.{Action, SyncBody, WriteGate, SyncGate, Store, Fetch, Ask, Work, Remove, End, append_actions}
use Rattle.vault_core.specs.declared.wish.Wish.{Wish}
use Rattle.vault_core.specs.declared.wish.Wish.TheVariants as wish
use Rattle.vault_core.specs.declared.cursor.Move.{Move}
use Rattle.vault_core.specs.declared.cursor.Move.TheVariants as move
use Rattle.vault_core.specs.declared.cursor.Spot.{Spot}
use Rattle.vault_core.specs.declared.cursor.Cursor.{Cursor}
use Rattle.vault_core.specs.declared.cursor.Cursor.TheVariants as at
use Rattle.vault_core.specs.declared.job.Task.{Task}
use Rattle.vault_core.specs.declared.job.Job.{Job}
use Rattle.vault_core.specs.View.{flag_at}

-- the numbers from a on, below b
abbrev pub numbers : ℕ → ℕ → List ℕ
numbers a b = range_with_len a (b - a)

-- what a job calls a provider for at a stripe or a round
abbrev pub call_of : Wish → ℕ → ℕ → ℕ → Action
call_of (wish.Put name length own) object turn j = Store j object turn
call_of wish.Audit object turn j = Ask j object turn
call_of w object turn j = Fetch j object turn

-- the calls from a provider on
abbrev pub calls_from : ℕ → ℕ → Wish → ℕ → ℕ → List Action
calls_from j n w object turn = map (call_of w object turn) (numbers j n)

-- the store of a repair on a provider, if it is flagged
abbrev pub rewrite_of : List Bool → ℕ → ℕ → ℕ → List Action
rewrite_of flagged object turn j = if flag_at flagged j then Store j object turn ∷ [] else []

-- the stores of a repair from a provider on
abbrev pub rewrites_from : ℕ → ℕ → List Bool → ℕ → ℕ → List Action
rewrites_from j n flagged object turn = flat_map (rewrite_of flagged object turn) (numbers j n)

-- the work on a stripe that was fetched, and the stores of a repair
abbrev pub work_of : ℕ → Wish → List Bool → ℕ → ℕ → List Action
work_of n (wish.Get name) flagged object turn = Work object turn ∷ []
work_of n wish.Repair flagged object turn = Work object turn ∷ rewrites_from 0 n flagged object turn
work_of n w flagged object turn = []

-- all actions at one stripe or round of an object
abbrev pub turn_of : ℕ → Wish → List Bool → ℕ → ℕ → List Action
turn_of n w flagged object turn = calls_from 0 n w object turn ++ work_of n w flagged object turn

-- all actions at the stripes or rounds of an object from one on
abbrev pub turns_from : ℕ → ℕ → Wish → List Bool → ℕ → ℕ → List Action
turns_from turn n w flagged object turns = flat_map (turn_of n w flagged object) (numbers turn turns)

-- all actions at all stripes or rounds of these objects
abbrev pub tasks_of : ℕ → Wish → List Bool → List Task → List Action
tasks_of n w flagged tasks = flat_map (λ (t : Task). turns_from 0 n w flagged t.object t.turns) tasks

-- the actions behind those on files
abbrev pub closing_of : Wish → List Action
closing_of (wish.Get name) = End ∷ []
closing_of (wish.Drop name) = End ∷ []
closing_of w = append_actions ++ End ∷ []

-- the moves of an append from one on
abbrev pub moves_from : Move → List Action
moves_from move.Body = append_actions
moves_from move.BodySync = SyncBody ∷ WriteGate ∷ SyncGate ∷ []
moves_from move.Gate = WriteGate ∷ SyncGate ∷ []
moves_from move.GateSync = SyncGate ∷ []

-- the moves of an append behind this one
abbrev pub actions_after : Move → List Action
actions_after move.Body = SyncBody ∷ WriteGate ∷ SyncGate ∷ []
actions_after move.BodySync = WriteGate ∷ SyncGate ∷ []
actions_after move.Gate = SyncGate ∷ []
actions_after move.GateSync = []

-- the moves of an append from one on, if there is one
abbrev pub move_actions : Option Move → List Action
move_actions None = []
move_actions (Some m) = moves_from m

-- the actions from the first of these tasks on
abbrev pub tasks_from : ℕ → Wish → List Bool → List Task → List Action
tasks_from n w flagged tasks = tasks_of n w flagged tasks ++ closing_of w

-- the actions behind those at a stripe or round
abbrev pub behind_spot : ℕ → Wish → List Bool → List Task → Spot → List Action
behind_spot n w flagged tasks spot =
    turns_from (spot.turn + 1) n w flagged spot.object spot.turns
    ++ tasks_from n w flagged (drop spot.behind tasks)

-- the actions from a cursor on
abbrev pub rest_from : ℕ → Wish → List Bool → List Task → Cursor → List Action
rest_from n w flagged tasks (at.Opening m) = moves_from m ++ tasks_from n w flagged tasks
rest_from n w flagged tasks (at.Calling spot j) =
    calls_from j n w spot.object spot.turn
    ++ (work_of n w flagged spot.object spot.turn ++ behind_spot n w flagged tasks spot)
rest_from n w flagged tasks (at.Working spot) =
    work_of n w flagged spot.object spot.turn ++ behind_spot n w flagged tasks spot
rest_from n w flagged tasks (at.Rewriting spot j) =
    rewrites_from j n flagged spot.object spot.turn ++ behind_spot n w flagged tasks spot
rest_from n w flagged tasks (at.Closing m) = moves_from m ++ End ∷ []
rest_from n w flagged tasks (at.Removing object j) = map (λ k. Remove k object) (numbers j n) ++ End ∷ []
rest_from n w flagged tasks at.Ending = End ∷ []

-- the actions of a job from the first of these tasks on
abbrev pub tasks_on : ℕ → Job → List Task → List Action
tasks_on n job tasks = tasks_from n job.wish job.flagged tasks

-- the actions behind those at a stripe or round of a job
abbrev pub beyond : ℕ → Job → Spot → List Action
beyond n job spot = behind_spot n job.wish job.flagged job.tasks.items spot

-- the actions of a job from a cursor on
abbrev pub rest_at : ℕ → Job → Cursor → List Action
rest_at n job cursor = rest_from n job.wish job.flagged job.tasks.items cursor

-- the actions that a job has not yet made
unfoldable pub rest_of : ℕ → Job → List Action
rest_of n job = rest_at n job job.cursor
