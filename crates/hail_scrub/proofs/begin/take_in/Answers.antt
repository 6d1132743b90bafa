use Rattle.hail_scrub.proofs.Words.{◌∷◌, ◌++◌, List, [], map, ◌∙◌, sym, refl, subst, arith, bench_kind, Item, AreItems}
use Rattle.hail_scrub.proofs.Begins.{taken_none, taken_one}
use Rattle.hail_scrub.proofs.begin.take_in.Goals as goal

pub returns-then-stripes-eq0-clause-items : goal.returns-then-stripes-eq0-clause-items
returns-then-stripes-eq0-clause-items c = λ k before all there are.
    taken_none c.args.file.now.shape.n c.args.master.now.0 _ before all c.args.items.now.items c.args.file.now
    (sym (c.stripes-stripes.ensures.value c.args.master.now.0) ∙ c.if-stripes-eq0.true) are

pub returns-in-Ok-clause-items : goal.returns-in-Ok-clause-items
returns-in-Ok-clause-items c = λ k before all there are.
    let file = c.args.file.now in
    let bound = c.stripes-stripes.ensures.bound in
    let some = c.if-stripes-eq0.false in
    let shape = file.shape.fits in
    let short = file.short in
    subst (λ (items : List Item). AreItems file.shape.n c.args.master.now.0
    (map bench_kind c.bench_place.new.benches.items) (before ++ file ∷ []) all items)
    (sym c.in-Ok.ensures.items)
    (taken_one file.shape.n c.args.master.now.0 (map bench_kind c.args.benches.now.items)
    (map bench_kind c.bench_place.new.benches.items) before all c.args.items.now.items
    (record { file = file; stripes = c.stripes-stripes.result; bench = c.in_ok-bench.bench }) k
    c.bench_place.ensures.stays (c.stripes-stripes.ensures.value c.args.master.now.0) there
    (record {
      providers = refl;
      some_providers = omega (arith, shape);
      some = omega (arith, some);
      few = omega (arith, bound, short);
      bench = c.in_ok-bench.ensures.place;
    })
    are)
