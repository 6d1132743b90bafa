use Rattle.column_codec.proofs.Words.{arith, shaped_object, opened_of}
use Rattle.std.proofs.Common.{take, length}
use Rattle.column_codec.proofs.OpenLemmas.{all-points, Apart-all, row-is, accepts-row, accepts-no_row}
use Rattle.column_codec.proofs.keys.ObjectKeys.open_place.Goals as goal

pub open_row-requires-clause-apart : goal.open_row-requires-clause-apart
open_row-requires-clause-apart c =
    let keys = c.args.self.now in
    Apart-all (shaped_object keys.master.0 keys.file) keys.points
    (length c.args.blocks.now) keys.points_are c.requires.blocks
    (omega (arith, keys.file.shape.fits.1)) (omega (arith, keys.file.shape.fits.1))

pub returns-in-Some-clause-yes : goal.returns-in-Some-clause-yes
returns-in-Some-clause-yes c =
    let keys = c.args.self.now in
    let o = shaped_object keys.master.0 keys.file in
    let n = length c.args.blocks.now in
    accepts-row o (opened_of c.args.marks.now c.args.blocks.now keys.file.shape.n) c.args.place
    (take n keys.points) c.seen_row.new.out c.open_row.new.work.rest
    (all-points o keys.points n keys.points_are c.requires.blocks (omega (arith, keys.file.shape.fits.1)))
    (row-is c.args.place keys.file.shape.n n c.args.marks.now c.args.blocks.now c.seen_row.new.out _
    c.requires.blocks (omega (arith, c.requires.blocks, keys.file.shape.fits.1)) c.seen_row.ensures)
    c.in-Some.ensures.accepted

pub returns-in-None-clause-no : goal.returns-in-None-clause-no
returns-in-None-clause-no c =
    let keys = c.args.self.now in
    let o = shaped_object keys.master.0 keys.file in
    let n = length c.args.blocks.now in
    accepts-no_row o (opened_of c.args.marks.now c.args.blocks.now keys.file.shape.n) c.args.place
    (take n keys.points) c.seen_row.new.out
    (all-points o keys.points n keys.points_are c.requires.blocks (omega (arith, keys.file.shape.fits.1)))
    (row-is c.args.place keys.file.shape.n n c.args.marks.now c.args.blocks.now c.seen_row.new.out _
    c.requires.blocks (omega (arith, c.requires.blocks, keys.file.shape.fits.1)) c.seen_row.ensures)
    c.in-None.ensures.none
