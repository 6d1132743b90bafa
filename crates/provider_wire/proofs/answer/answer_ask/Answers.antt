use Rattle.provider_wire.proofs.Words.{◌∷◌, [], honest_answer, asked, Found}
use Rattle.provider_wire.proofs.Given.{answered}
use Rattle.provider_wire.proofs.answer.answer_ask.Goals as goal

pub returns-in-Ok-Some : goal.returns-in-Ok-Some
returns-in-Ok-Some g c = (
  Found (c.in-Ok-Some.symbol ∷ []),
  record {
    held = c.ask.ensures.same;
    counts = record {
      store_faults = c.ask.ensures.no_store_fault;
      other_faults = c.ask.ensures.cause.never_falls;
      fetches = c.ask.ensures.no_fetch;
    };
    gives = answered (honest_answer (asked c.args.challenge.now)) c.args.object c.in-Ok-Some.symbol
        (g.P.Provider.held c.args.provider.now) c.in-Ok-Some.field-0 c.in-Ok-Some.field-0-is
        c.symbol_is_number.ensures c.in-Ok-Some.ensures.answer;
    symbol = c.symbol_is_number.ensures;
  },
  c.with_symbols.ensures,
)
