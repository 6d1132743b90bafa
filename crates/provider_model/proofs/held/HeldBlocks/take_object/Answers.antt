use Rattle.std.proofs.Common.{not, rules}
use Rattle.std.specs.Prelude.{◌==◌}
use Rattle.std.proofs.lemmas.Map.Made.{filter_same_pairs}
use Rattle.provider_model.proofs.Places.{taken_all}
use Rattle.provider_model.proofs.held.HeldBlocks.take_object.Goals as goal

pub returns : goal.returns
returns c = taken_all (λ b. b.items) c.args.self.now.blocks.entries c.retain.new.self.entries c.args.object
    (filter_same_pairs _ (λ e. not (e.0.0 == c.args.object)) _ (λ k v b w f' t. search rules)
    c.args.self.now.blocks.entries c.retain.new.self.entries c.retain.ensures.filtered)
