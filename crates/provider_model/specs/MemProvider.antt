-- The provider in memory, of whose calls those fail that are listed.
use Rattle.std.specs.Prelude.{ℕ}
use Rattle.device_defs.specs.Calls.{CallCount}
use Rattle.device_defs.specs.Providers.{Held}
use Rattle.provider_model.specs.HeldBlocks.{blocks_of}
use Rattle.provider_model.specs.declared.memory.MemProvider.{MemProvider}

-- the blocks that it holds
abbrev pub held_of : MemProvider → Held
held_of provider = blocks_of provider.blocks

-- its calls, without alterations and losses
abbrev pub calls_of : MemProvider → CallCount
calls_of provider = provider.calls

-- how many stores failed
abbrev pub store_faults_of : MemProvider → ℕ
store_faults_of provider = provider.store_faults

-- how many other calls failed
abbrev pub other_faults_of : MemProvider → ℕ
other_faults_of provider = provider.other_faults

-- how often it was fetched from
abbrev pub fetches_of : MemProvider → ℕ
fetches_of provider = provider.fetches
