-- The provider in memory that never fails.
use Rattle.std.specs.Prelude.{ℕ}
use Rattle.device_defs.specs.Providers.{Held}
use Rattle.provider_model.specs.HeldBlocks.{blocks_of}
use Rattle.provider_model.specs.declared.sure.SureProvider.{SureProvider}

-- the blocks that it holds
abbrev pub held_of : SureProvider → Held
held_of provider = blocks_of provider.blocks

-- how often it was fetched from
abbrev pub fetches_of : SureProvider → ℕ
fetches_of provider = provider.fetches

-- how often it was called
abbrev pub calls_made : SureProvider → ℕ
calls_made provider = provider.calls
