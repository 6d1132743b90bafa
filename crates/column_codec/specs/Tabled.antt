-- Keys with tables of the weights, by which rows take a tenth of the time.
--
--   has_tables keys  == there are tables
use Rattle.std.specs.Prelude.{Bool, is_some}
use Rattle.column_codec.specs.declared.keys.ObjectKeys.{ObjectKeys}

-- there are tables
abbrev pub has_tables : ObjectKeys → Bool
has_tables keys = is_some keys.tables
