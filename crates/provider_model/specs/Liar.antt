-- The provider in memory that lies.
use Rattle.std.specs.Prelude.{ℕ}
use Rattle.device_defs.specs.Providers.{Held}
use Rattle.provider_model.specs.HeldBlocks.{blocks_of}
use Rattle.provider_model.specs.declared.liar.Liar.{Liar}

-- the blocks that it keeps, as they were stored
abbrev pub held_of : Liar → Held
held_of liar = blocks_of liar.blocks

-- the symbol that it adds
abbrev pub added_symbol : Liar → ℕ
added_symbol liar = liar.symbol

-- how often it was fetched from
abbrev pub fetches_of : Liar → ℕ
fetches_of liar = liar.fetches

-- how often it was called
abbrev pub calls_made : Liar → ℕ
calls_made liar = liar.calls
