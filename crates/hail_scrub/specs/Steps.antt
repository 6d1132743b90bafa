-- A step of a scrub, by what is seen of it and of the providers.
--
--   CallsAt j ps qs call                      == of these providers the one at a place was called, and the
--                                                others are as before
--   IsOne objects o x                         == an object of this number is one of these
--   off_in x t seen rows j                    == at how many places the block that a provider gave is not its
--                                                own
--   GoesPast o t rows at                      == after an action on a stripe: it is still in work, and its
--                                                symbols are at hand; or another is begun; or none is in work
--   FetchesOne, OpensOne, LosesOne, StoresOne == a fetch, an opening, an opening that lost a row, a store
--   ComesTo old action rest ps turn new qs    == what an action came to, with these behind it
--   MakesNext old ps turn new qs              == a step, of the next action
use Rattle.std.specs.Prelude.{◌≡◌, ℕ, ◌+◌, ◌==◌, ◌<◌, List, [], ◌∷◌, ◌++◌, length, Some, slice_get, slice_set, slice_index, IfSome, if◌then◌else◌}
use Rattle.std.specs.List.{flat_map}
use Rattle.code_defs.specs.Points.{upto}
use Rattle.column_defs.specs.Objects.{Object}
use Rattle.column_defs.specs.Columns.{column_of_symbols}
use Rattle.column_defs.specs.Opened.{SeenBlock, block_at, GivesSymbols, LosesRow}
use Rattle.device_defs.specs.Providers.{Provider}
use Rattle.device_defs.specs.ProviderCalls.{Stores, FailsToStore, FindsNoMemory, Fetches, IsBlock}
use Rattle.machine_defs.specs.Actions.{Action, Store, Fetch, Work, End}
use Rattle.machine_defs.specs.Alone.{differs}
use Rattle.hail_scrub.specs.declared.turn.ScrubAnswer.TheVariants as answer
use Rattle.hail_scrub.specs.declared.turn.ScrubTurn.{ScrubTurn}
use Rattle.hail_scrub.specs.declared.turn.ScrubTurn.TheVariants as turn
use Rattle.hail_scrub.specs.Views.{Stage, Between, Fetched, Opened, ScrubView}

-- of these providers the one at a place was called
pub record CallsAt (j : ℕ) (ps qs : List Provider) (call : Provider → Provider → Type 0) : Type 0 where
  pub before : Provider
  pub after : Provider
  pub there : slice_get ps j ≡ Some before
  pub others : qs ≡ slice_set ps j after
  pub called : call before after

-- an object of this number is one of these
pub record IsOne (objects : List Object) (o : ℕ) (x : Object) : Type 0 where
  pub place : ℕ
  pub there : slice_get objects place ≡ Some x
  pub id_is : x.id ≡ o

-- at how many places the block that a provider gave of a stripe with these symbols is not its own
abbrev pub off_in : Object → ℕ → List SeenBlock → List ℕ → ℕ → ℕ
off_in x t seen rows j = differs (block_at seen j) (column_of_symbols x rows j t)

-- the stores of the blocks that are not their providers' own
abbrev pub stores_in : ℕ → Object → ℕ → List SeenBlock → List ℕ → List Action
stores_in n x t seen rows =
    flat_map (λ j. if off_in x t seen rows j == 0 then [] else Store j x.id t ∷ []) (upto n)

-- where a scrub is after an action on a stripe with these symbols
abbrev pub GoesPast : ℕ → ℕ → List ℕ → Stage → Type 0
GoesPast o t rows Between = Unit {0}
GoesPast o t rows (Fetched p q seen) = seen ≡ []
GoesPast o t rows (Opened p q others) = (p ≡ o) × (q ≡ t) × (others ≡ rows)

-- a fetch
pub record FetchesOne (old : ScrubView) (j o t : ℕ) (rest : List Action) (ps : List Provider)
    (new : ScrubView) (qs : List Provider) : Type 0 where
  pub x : Object
  pub one : IsOne old.objects o x
  pub seen : List SeenBlock
  pub at_is : old.at ≡ Fetched o t seen
  pub count : length seen ≡ j
  pub block : SeenBlock
  pub block_is : IfSome block (IsBlock x.profile.size)
  pub calls : CallsAt j ps qs (λ p q. Fetches x.profile.size o t p block q)
  pub new_is : new ≡ record old { todo = rest; at = Fetched o t (seen ++ block ∷ []) }

-- an opening
pub record OpensOne (old : ScrubView) (o t : ℕ) (rest : List Action) (new : ScrubView) : Type 0 where
  pub x : Object
  pub one : IsOne old.objects o x
  pub providers_are : x.shape.n ≡ old.providers
  pub seen : List SeenBlock
  pub at_is : old.at ≡ Fetched o t seen
  pub count : length seen ≡ old.providers
  pub rows : List ℕ
  pub gives : GivesSymbols x t seen rows
  pub todo_is : new.todo ≡ stores_in old.providers x t seen rows ++ rest
  pub providers_stay : new.providers ≡ old.providers
  pub objects_stay : new.objects ≡ old.objects
  pub behind : GoesPast o t rows new.at
  pub stripes_are : new.stripes ≡ old.stripes + 1
  pub symbols_are : (j : ℕ) → j < old.providers
      → slice_index new.symbols j ≡ slice_index old.symbols j + off_in x t seen rows j
  pub blocks_are : (j : ℕ) → j < old.providers → slice_index new.blocks j
      ≡ slice_index old.blocks j + (if off_in x t seen rows j == 0 then 0 else 1)
  pub long_symbols : length new.symbols ≡ 16
  pub long_blocks : length new.blocks ≡ 16

-- an opening that lost a row
pub record LosesOne (old : ScrubView) (o t row : ℕ) : Type 0 where
  pub x : Object
  pub one : IsOne old.objects o x
  pub providers_are : x.shape.n ≡ old.providers
  pub seen : List SeenBlock
  pub at_is : old.at ≡ Fetched o t seen
  pub count : length seen ≡ old.providers
  pub lost : LosesRow x t seen row

-- a store
pub record StoresOne (old : ScrubView) (j o t : ℕ) (rest : List Action) (ps : List Provider)
    (new : ScrubView) (qs : List Provider) : Type 0 where
  pub x : Object
  pub one : IsOne old.objects o x
  pub rows : List ℕ
  pub at_is : old.at ≡ Opened o t rows
  pub calls : CallsAt j ps qs (Stores o t (column_of_symbols x rows j t))
  pub new_is : new ≡ record old { todo = rest; at = new.at }
  pub behind : GoesPast o t rows new.at

-- what an action came to
abbrev pub ComesTo : ScrubView → Action → List Action → List Provider → ScrubTurn → ScrubView →
    List Provider → Type 0
ComesTo old (Fetch j o t) rest ps turn.More new qs = FetchesOne old j o t rest ps new qs
ComesTo old (Work o t) rest ps turn.More new qs = OpensOne old o t rest new × (qs ≡ ps)
ComesTo old (Work o t) rest ps (turn.Done (answer.Lost s row)) new qs =
    (s ≡ t) × LosesOne old o t row × (qs ≡ ps)
ComesTo old (Store j o t) rest ps turn.More new qs = StoresOne old j o t rest ps new qs
ComesTo old (Store j o t) rest ps (turn.Done (answer.ProviderFault k)) new qs =
    (k ≡ j) × CallsAt j ps qs FailsToStore
ComesTo old (Store j o t) rest ps (turn.Done answer.Memory) new qs = CallsAt j ps qs FindsNoMemory
ComesTo old End rest ps (turn.Done (answer.Scrubbed stripes symbols blocks)) new qs =
    (stripes ≡ old.stripes) × (symbols ≡ old.symbols) × (blocks ≡ old.blocks) × (qs ≡ ps)
ComesTo old action rest ps t new qs = ⊥

-- where a scrub ended
abbrev pub IfDone : ScrubTurn → Type 0 → Type 0
IfDone turn.More P = Unit {0}
IfDone (turn.Done a) P = P

-- a step makes the next action
pub record MakesNext (old : ScrubView) (ps : List Provider) (t : ScrubTurn) (new : ScrubView)
    (qs : List Provider) : Type 0 where
  pub action : Action
  pub rest : List Action
  pub todo_is : old.todo ≡ action ∷ rest
  pub acts : ComesTo old action rest ps t new qs
  pub over : IfDone t (new.todo ≡ [])
