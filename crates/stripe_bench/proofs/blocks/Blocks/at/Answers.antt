use Rattle.std.proofs.Common.{◌≡◌, ◌*◌, List, ℕ, Option, Bool, true, false, None, Some, take, drop, sym, ap, ◌∙◌}
use Rattle.std.specs.Prelude.{slice_get, if◌then◌else◌}
use Rattle.std.specs.Option.{option_map}
use Rattle.stripe_bench.proofs.SeenBlocks.{slice_get-present_blocks}
use Rattle.stripe_bench.proofs.blocks.Blocks.at.Goals as goal

pub returns-in-Some-true : goal.returns-in-Some-true
returns-in-Some-true c =
    let b = c.args.self.now in
    let part = take b.size (drop (c.args.place * b.size) b.symbols.items) in
    let flag : slice_get b.present.items c.args.place ≡ Some true = cc in
    ap (λ (l : List ℕ). Some (Some l)) c.part.ensures
    ∙ sym (slice_get-present_blocks b.size b.present.items b.symbols.items c.args.place
    ∙ ap (λ (o : Option Bool). option_map (λ (f : Bool). if f then Some part else None) o) flag)

pub returns-in-Some-false : goal.returns-in-Some-false
returns-in-Some-false c =
    let b = c.args.self.now in
    let part = take b.size (drop (c.args.place * b.size) b.symbols.items) in
    let flag : slice_get b.present.items c.args.place ≡ Some false = cc in
    sym (slice_get-present_blocks b.size b.present.items b.symbols.items c.args.place
    ∙ ap (λ (o : Option Bool). option_map (λ (f : Bool). if f then Some part else None) o) flag)

pub returns-in-None : goal.returns-in-None
returns-in-None c =
    let b = c.args.self.now in
    let part = take b.size (drop (c.args.place * b.size) b.symbols.items) in
    let flag : slice_get b.present.items c.args.place ≡ None = cc in
    sym (slice_get-present_blocks b.size b.present.items b.symbols.items c.args.place
    ∙ ap (λ (o : Option Bool). option_map (λ (f : Bool). if f then Some part else None) o) flag)
