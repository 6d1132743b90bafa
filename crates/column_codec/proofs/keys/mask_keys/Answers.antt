use Rattle.column_codec.proofs.Words.{ap, ◌∙◌, arith, length-set, file_key}
use Rattle.std.proofs.Common.{ℕ, []}
use Rattle.column_codec.proofs.Places.{each_more}
use Rattle.column_codec.proofs.keys.mask_keys.Goals as goal

pub loop-j-preserved : goal.loop-j-preserved
loop-j-preserved c =
    let id = c.args.file.now.id in
    let master = c.args.master.now.0 in
    record {
      are = each_more c.loop-j.keys (λ (j : ℕ). file_key master 77 id j) c.loop-j.j c.from-in-loop-j.result
          c.file_key.result [] c.loop-j.invariant.are c.from-in-loop-j.ensures (omega arith)
          (c.file_key.ensures ∙ ap (λ (j : ℕ). file_key master 77 id j) c.from.ensures);
      many = length-set c.loop-j.keys _ _ ∙ c.loop-j.invariant.many;
    }
