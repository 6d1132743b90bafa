-- What the calls of a provider do, as relations of what is seen of it before and after.
--
--   Stores object stripe block           == a store that is done
--   FailsToStore, FindsNoMemory          == a store that failed, or found no memory
--   Fetches size object stripe old g new == a fetch into room for size symbols, which gives the block g or
--                                          none
--   Asks honest object old g new         == an ask, which gives the answer g or none; honest is the honest
--                                          answer to the challenge, as a function of the object's blocks by
--                                          stripe
--   Removes object                       == a removal, done or failed
--   Replaces IsThere change answer       == an alteration or a loss that gave this answer
use Rattle.std.specs.Prelude.{◌≡◌, ℕ, ◌<◌, ◌≤◌, ◌^◌, ◌⊎◌, ◌↔◌, Bool, List, length, All, Option, None, Some, IsTrue, IfSome, if◌then◌else◌}
use Rattle.std.specs.Option.{option_map}
use Rattle.device_defs.specs.Faults.{Rose, one_more}
use Rattle.device_defs.specs.Told.{Goes}
use Rattle.device_defs.specs.Providers.{Held, Provider, with_block, without_object, LosesPart, sized}

-- the counts after a store: that of failed stores may rise, and no other
pub record StoreCounts (old new : Provider) : Type 0 where
  pub store_faults : old.store_faults ≤ new.store_faults
  pub other_faults : new.other_faults ≡ old.other_faults
  pub fetches : new.fetches ≡ old.fetches

-- the counts after a call that is neither store nor fetch: that of other failed calls may rise, and no other
pub record OtherCounts (old new : Provider) : Type 0 where
  pub store_faults : new.store_faults ≡ old.store_faults
  pub other_faults : old.other_faults ≤ new.other_faults
  pub fetches : new.fetches ≡ old.fetches

-- the counts after a fetch: there is one fetch more, and that of other failed calls may rise
pub record FetchCounts (old new : Provider) : Type 0 where
  pub store_faults : new.store_faults ≡ old.store_faults
  pub other_faults : old.other_faults ≤ new.other_faults
  pub fetches : new.fetches ≡ one_more old.fetches

-- a store that is done
pub record Stores (object stripe : ℕ) (block : List ℕ) (old new : Provider) : Type 0 where
  pub held : new.held ≡ option_map (with_block object stripe block) old.held
  pub counts : StoreCounts old new

-- a store that found no memory, which is no fault
pub record FindsNoMemory (old new : Provider) : Type 0 where
  pub held : new.held ≡ old.held
  pub counts : StoreCounts old new
  pub no_fault : new.store_faults ≡ old.store_faults

-- a store that failed
pub record FailsToStore (old new : Provider) : Type 0 where
  pub held : new.held ≡ old.held
  pub counts : StoreCounts old new
  pub cause : Rose old.store_faults new.store_faults

-- a list of so many symbols
pub record IsBlock (size : ℕ) (block : List ℕ) : Type 0 where
  pub size_is : length block ≡ size
  pub symbols : All (λ symbol. symbol < 2 ^ 128) block

-- what a fetch gives: the held block of the size, or, where nothing is told, any block of the size or none
abbrev pub FetchGives : ℕ → ℕ → ℕ → Option Held → Option (List ℕ) → Type 0
FetchGives size object stripe (Some held) given = given ≡ sized size (held object stripe)
FetchGives size object stripe None given = IfSome given (IsBlock size)

-- a call that gave nothing because it failed
abbrev pub FailsToGive : {G : Type 0} → Provider → Option G → Provider → Type 0
FailsToGive old given new = (given ≡ None) × Rose old.other_faults new.other_faults

-- a fetch: it gives a block or none, and none where it fails
pub record Fetches (size object stripe : ℕ) (old : Provider) (given : Option (List ℕ))
    (new : Provider) : Type 0 where
  pub held : new.held ≡ old.held
  pub counts : FetchCounts old new
  pub gives : FetchGives size object stripe old.held given ⊎ FailsToGive old given new

-- what an ask gives: the honest answer, or, where nothing is told, any symbol or none
abbrev pub AskGives : ((ℕ → Option (List ℕ)) → Option ℕ) → ℕ → Option Held → Option ℕ → Type 0
AskGives honest object (Some held) given = given ≡ honest (held object)
AskGives honest object None given = IfSome given (λ symbol. symbol < 2 ^ 128)

-- an ask: it gives an answer or none, and none where it fails
pub record Asks (honest : (ℕ → Option (List ℕ)) → Option ℕ) (object : ℕ) (old : Provider) (given : Option ℕ)
    (new : Provider) : Type 0 where
  pub held : new.held ≡ old.held
  pub counts : OtherCounts old new
  pub gives : AskGives honest object old.held given ⊎ FailsToGive old given new

-- a removal that is done
pub record RemovesAll (object : ℕ) (old new : Provider) : Type 0 where
  pub held : new.held ≡ option_map (without_object object) old.held
  pub counts : OtherCounts old new

-- a removal that failed, and took away any part of the object's blocks
pub record FailsToRemove (object : ℕ) (old new : Provider) : Type 0 where
  pub held : Goes (LosesPart object) old.held new.held
  pub counts : OtherCounts old new
  pub cause : Rose old.other_faults new.other_faults

-- a removal of an object
abbrev pub Removes : ℕ → Provider → Provider → Type 0
Removes object old new = RemovesAll object old new ⊎ FailsToRemove object old new

-- An alteration or a loss. A provider that tells answers true exactly where the block is there, changes it
-- so, and keeps its counts. Of one that tells nothing no more is known than that it still tells nothing,
-- and its counts.
abbrev pub Replaces : (Held → Type 0) → (Held → Held) → Bool → Provider → Provider → Type 0
Replaces IsThere change answer old new = by_told old.held
  where
    by_told : Option Held → Type 0
    by_told (Some held) =
        (IsTrue answer ↔ IsThere held)
        × (new ≡ (record old { held = Some (if answer then change held else held) }))
    by_told None = (new.held ≡ None) × OtherCounts old new
