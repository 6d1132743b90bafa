use Rattle.std.proofs.Common.{List, ℕ, subst, ◌∙◌}
use Rattle.column_defs.specs.Columns.{column_of_symbols}
use Rattle.provider_model.specs.Seen.{StoresAs, provider_seen}
use Rattle.stripe_bench.proofs.storing.store_stripe.Goals as goal

pub returns-clause-stored : goal.returns-clause-stored
returns-clause-stored g c = subst (λ (block : List ℕ). StoresAs c.args.object c.args.stripe block
    c.store_block.result (provider_seen g.P.Provider c.args.to.now)
    (provider_seen g.P.Provider c.store_block.new.to)) (c.deref.ensures.value ∙ c.make_column.ensures.column
    ∙ (λ i. column_of_symbols (c.turn_to.ensures.object i) (c.turn_to.ensures.rows i).items c.args.provider
    c.args.stripe))
    c.store_block.ensures.stored

pub returns-clause-called : goal.returns-clause-called
returns-clause-called g c = c.store_block.ensures.called

pub returns-clause-rows : goal.returns-clause-rows
returns-clause-rows g c = c.make_column.ensures.rows ∙ c.turn_to.ensures.rows
