-- What the providers in memory hold.
use Rattle.std.specs.Prelude.{ℕ}
use Rattle.std.specs.Option.{option_map}
use Rattle.std.specs.Ordering.{nat_cmp, ordering_then}
use Rattle.std.specs.declared.cmp.Ordering.{Ordering}
use Rattle.std.specs.BTreeMap.{get}
use Rattle.provider_model.specs.declared.held.HeldBlocks.{HeldBlocks}
use Rattle.device_defs.specs.Providers.{Held}

-- the order of the keys: by object, and then by stripe
abbrev pub place_cmp : ℕ × ℕ → ℕ × ℕ → Ordering
place_cmp x y = ordering_then (nat_cmp x.0 y.0) (nat_cmp x.1 y.1)

-- the block of an object and a stripe
abbrev pub blocks_of : HeldBlocks → Held
blocks_of held object stripe = option_map (λ block. block.items) (get place_cmp held.blocks (object, stripe))
