-- Benches: what the stripes of an object are made and opened with.
--
--   bench_object bench                == the object of a bench
--   turned bench object               == the object of a bench that was turned to another number
--   OpensAs o stripe seen result rows == seen blocks opened to these rows, or lost one
use Rattle.std.specs.Prelude.{ℕ, List, Result, Ok, Err}
use Rattle.column_defs.specs.Objects.{Object}
use Rattle.column_defs.specs.Opened.{SeenBlock, GivesSymbols, LosesRow}
use Rattle.file_layout.specs.Files.{shaped_object}
use Rattle.column_codec.specs.declared.opening.RowLost.{RowLost}
use Rattle.column_codec.specs.declared.bench.Bench.{Bench}

-- the object of a bench
abbrev pub bench_object : Bench → Object
bench_object bench = shaped_object bench.keys.master.0 bench.keys.file

-- the object of a bench that was turned to another number
abbrev pub turned : Bench → ℕ → Object
turned bench object = record (bench_object bench) { id = object }

-- seen blocks of a stripe opened to rows, or lost one
abbrev pub OpensAs : Object → ℕ → List SeenBlock → Result Unit RowLost → List ℕ → Type 0
OpensAs o stripe seen (Ok done) rows = GivesSymbols o stripe seen rows
OpensAs o stripe seen (Err lost) rows = LosesRow o stripe seen lost.row
