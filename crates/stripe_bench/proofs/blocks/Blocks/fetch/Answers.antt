use Rattle.std.specs.Prelude.{All}
use Rattle.std.proofs.Common.{◌≡◌, ◌<◌, ◌^◌, ◌++◌, ℕ, length, take, drop, replicate, refl, ◌∙◌, subst, arith}
use Rattle.std.proofs.lemmas.List.{take_at}
use Rattle.stripe_bench.proofs.Grown.{written_behind, length-written, fetched_there}
use Rattle.stripe_bench.proofs.blocks.Blocks.fetch.Goals as goal

pub returns-clause-fetched : goal.returns-clause-fetched
returns-clause-fetched g c =
    let old = c.args.self.now.symbols.items in
    let all = c.deref_mut.result.now in
    let new = c.fetch_into-found.new.all in
    let found = c.fetch_into-found.result in
    let size = c.args.self.now.size in
    let all_is : all ≡ old ++ replicate size 0 = c.deref_mut.ensures.value ∙ c.push_zeros.ensures.zeros in
    let same : length new ≡ length all = c.fetch_into-found.auto.all in
    let start : c.len-start.result ≡ length old = omega arith in
    let whole : length new ≡ c.push_zeros.new.symbols.len = same ∙ c.deref_mut.ensures.len in
    let front : take (length old) new ≡ take (length old) all =
    subst (λ (k : ℕ). take k new ≡ take k all) start c.fetch_into-found.ensures.front in (
      found,
      drop (length old) new,
      record {
        present_is = cc;
        symbols_is = take_at new _ _ whole ∙ written_behind old all new size all_is same front;
        size_is = refl;
        fits = length-written old all new size all_is same;
        numbers = subst (λ (k : ℕ). All (λ symbol. symbol < 2 ^ 128) (drop k new)) start
            c.fetch_into-found.ensures.numbers;
        present_room = omega arith;
        symbols_room = omega arith;
      },
      fetched_there c.args.object c.args.stripe size c.len-start.result old all new found _ _ start all_is
          c.fetch_into-found.ensures.fetched,
    )
