use Rattle.hail_scrub.proofs.Words.{◌<◌, ◌++◌, ◌∷◌, ◌∙◌, ℕ, [], List, length, take, map, ap, sym, subst, refl, arith, take_more, slice_get_read, FileShape, bench_kind, file_providers, AreItems}
use Rattle.hail_scrub.proofs.begin.take_all.Goals as goal

pub loop-file-preserved : goal.loop-file-preserved
loop-file-preserved c =
    let files = c.args.files.now in
    let master = c.args.master.now.0 in
    let i = c.loop-file.file-index in
    let file = c.file-item.result in
    let below : i < length files = omega arith in
    let there = slice_get_read files _ i file refl below c.file-item.is in
    let n = c.requires i file there in
    let before = subst (λ (k : ℕ). AreItems k master (map bench_kind c.loop-file.benches.items) (take i files)
    files c.loop-file.items.items) (sym n) c.loop-file.invariant.items in
    let after = c.in_ok-take_in.ensures.items i (take i files) files there before in
    record {
      items = subst (λ (l : List FileShape). AreItems (file_providers files) master
          (map bench_kind c.take_in.new.benches.items) l files c.take_in.new.items.items)
          (ap (λ (x : FileShape). take i files ++ x ∷ []) c.file-item.is ∙ sym (take_more files i file below))
          (subst (λ (k : ℕ). AreItems k master (map bench_kind c.take_in.new.benches.items)
          (take i files ++ file ∷ []) files c.take_in.new.items.items) n after);
      few = (let f = c.in_ok-take_in.ensures.few in let g = c.loop-file.invariant.few in omega (arith, f, g));
    }
