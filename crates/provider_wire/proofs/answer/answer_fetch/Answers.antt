use Rattle.provider_wire.proofs.Words.{length, take, replicate, arith, ◌≡◌, ℕ, length-take, length-replicate, Found}
use Rattle.provider_wire.proofs.Given.{fetched_block}
use Rattle.provider_wire.proofs.answer.answer_fetch.Goals as goal

pub returns-in-Ok-true : goal.returns-in-Ok-true
returns-in-Ok-true g c =
    let out = c.fetch-found.new.out in
    let old : length (take c.args.size (replicate {A = ℕ} 128 0)) ≡ c.args.size =
    omega (arith, length-take {A = ℕ} c.args.size (replicate 128 0), length-replicate {A = ℕ} 128 0) in
    let size : length out ≡ c.args.size = omega (arith, c.fetch-found.auto.out, old) in (
      Found out,
      record {
        held = c.fetch-found.ensures.same;
        counts = record {
          store_faults = c.fetch-found.ensures.no_store_fault;
          other_faults = c.fetch-found.ensures.cause.never_falls;
          fetches = c.fetch-found.ensures.counted;
        };
        gives = fetched_block (g.P.Provider.held c.args.provider.now) _ c.args.size c.args.object
            c.args.stripe out c.in-Ok-true.field-0 old c.in-Ok-true.field-0-test c.in-Ok-true.ensures.found
            c.in-Ok-true.ensures.block size c.symbols_are_numbers.ensures;
        symbols = c.symbols_are_numbers.ensures;
      },
      c.with_symbols.ensures,
    )
