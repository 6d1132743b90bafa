use Rattle.std.specs.BTreeMap.{get}
use Rattle.provider_model.specs.HeldBlocks.{place_cmp}
use Rattle.provider_model.proofs.Places.{set}
use Rattle.provider_model.proofs.held.HeldBlocks.set.Goals as goal

pub returns-clause-ok : goal.returns-clause-ok
returns-clause-ok c = set (λ b. b.items) (get place_cmp c.args.self.now.blocks)
    (get place_cmp c.insert.new.self) c.args.object c.args.stripe c.in_ok-block.block c.args.block.now
    c.in_ok-insert.ensures.updates.0 (c.in_ok-block.ensures.items_if_clones_equal (λ x y e. e))
