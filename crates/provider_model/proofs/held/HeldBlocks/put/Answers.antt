use Rattle.std.proofs.Common.{List, ℕ, ◌∙◌, ap, refl, subst, arith}
use Rattle.std.specs.Prelude.{IsSome, slice_set, if◌then◌else◌}
use Rattle.std.specs.BTreeMap.{get}
use Rattle.std.specs.Vec.{with_items}
use Rattle.std.proofs.lemmas.List.{take_at}
use Rattle.provider_model.specs.HeldBlocks.{place_cmp}
use Rattle.provider_model.proofs.Places.{put}
use Rattle.provider_model.proofs.held.HeldBlocks.put.Goals as goal

pub returns-in-Some-clause-held : goal.returns-in-Some-clause-held
returns-in-Some-clause-held c =
    let b = c.in-Some.block.now in
    let w = with_items b c.put_symbol.new.block in
    put (λ b. b.items) (get place_cmp c.args.self.now.blocks)
    (get place_cmp (c.get_mut.follows.lender w)) c.args.object c.args.stripe b w c.in-Some.ensures.value
    (((c.get_mut.follows.holds w).3 (subst (λ o. IsSome o) c.in-Some.ensures.value refl)).0) c.args.place
    c.args.symbol c.put_symbol.result
    (take_at c.put_symbol.new.block _ b.len (omega (arith, c.put_symbol.auto.block, c.deref_mut.ensures.len))
    ∙ c.put_symbol.ensures.put
    ∙ ap (λ (l : List ℕ). if c.put_symbol.result then slice_set l c.args.place c.args.symbol else l)
    c.deref_mut.ensures.value)
