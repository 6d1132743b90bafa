-- Streams in memory, as contracts see them.
use Rattle.std.specs.Prelude.{ℕ, List}
use Rattle.device_defs.specs.Calls.{CallCount}

-- a sink: the bytes written so far, and its calls
pub record SinkInMemory : Type 0 where
  pub written : List ℕ
  pub calls : CallCount

-- a source: the bytes that are left, and its calls
pub record SourceInMemory : Type 0 where
  pub left : List ℕ
  pub calls : CallCount
