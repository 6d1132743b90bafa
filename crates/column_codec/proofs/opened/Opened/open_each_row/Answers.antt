use Rattle.column_codec.proofs.Words.{◌∙◌, arith, shaped_object, opened_of}
use Rattle.column_codec.proofs.OpenLemmas.{rows_more}
use Rattle.column_codec.proofs.opened.Opened.open_each_row.Goals as goal

pub returns-then-not-open_place-clause-err : goal.returns-then-not-open_place-clause-err
returns-then-not-open_place-clause-err c = record {
  place = c.loop-place.place;
  kept = omega arith;
  number = cc (c.from.ensures, c.from-then-not-open_place.ensures);
  lost = c.if-not-open_place.ensures.no;
  lowest = λ before below. let h = c.loop-place.invariant.has before below in (h.row, h.accepted);
}

pub loop-place-preserved : goal.loop-place-preserved
loop-place-preserved c =
    let keys = c.args.self.now.keys.now in
    record {
      has = rows_more (shaped_object keys.master.0 keys.file)
          (opened_of c.args.self.now.marks.now c.args.self.now.blocks.now keys.file.shape.n) c.loop-place.rows c.put_row.new.out
          c.open_place.new.work.rest c.loop-place.place
          (omega arith) c.if-not-open_place.ensures.yes
          (λ j below. c.put_row.ensures.here j (omega (arith, below, c.from-l.ensures)))
          c.put_row.ensures.others c.loop-place.invariant.has;
      room = c.open_place.ensures.room ∙ c.loop-place.invariant.room;
    }
