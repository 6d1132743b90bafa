use Rattle.std.proofs.Common.{◌∙◌, ℕ, arith}
use Rattle.code_defs.specs.Polynomials.{value}
use Rattle.column_codec.proofs.Places.{index_within}
use Rattle.column_codec.proofs.OpenLemmas.{put_here, put_others}
use Rattle.column_codec.proofs.opening.put_row.Goals as goal

pub loop-j-preserved : goal.loop-j-preserved
loop-j-preserved c = record {
  here = put_here c.loop-j.out (λ (i : ℕ). value c.args.work.now.rest i) c.args.keep c.args.place c.loop-j.j
      c.value.result c.requires.place (omega (
        arith,
        index_within c.args.l c.args.keep c.loop-j.j c.args.place _ c.requires.fits
            (omega arith) c.requires.place,
      )) c.value.ensures c.loop-j.invariant.here;
  others = λ i other. put_others c.loop-j.out c.args.keep c.args.place c.loop-j.j c.value.result i
      c.requires.place other ∙ c.loop-j.invariant.others i other;
}
