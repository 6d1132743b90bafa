use Rattle.column_codec.proofs.Words.{arith, sym, keep_below}
use Rattle.column_codec.proofs.OpenLemmas.{length-front}
use Rattle.column_codec.proofs.opened.Opened.kept_of.Goals as goal

-- no block is shorter than its kept places
pub slice_bounds-result-end : goal.slice_bounds-result-end
slice_bounds-result-end c =
    let profile = c.args.self.now.keys.now.file.profile in
    sym (length-front c.args.self.now.blocks.now c.symbols.result.now _ c.args.provider profile.size profile.keep
    c.symbols.ensures c.index-blocks-provider.is
    (omega (arith, c.requires.provider, c.args.self.now.blocks_fit)) c.args.self.now.sizes_fit
    (keep_below profile.number profile.size profile.keep profile.size_is profile.keep_is))

pub returns : goal.returns
returns c =
    let profile = c.args.self.now.keys.now.file.profile in
    length-front c.args.self.now.blocks.now c.symbols.result.now _ c.args.provider profile.size profile.keep
    c.symbols.ensures c.index-blocks-provider.is
    (omega (arith, c.requires.provider, c.args.self.now.blocks_fit)) c.args.self.now.sizes_fit
    (keep_below profile.number profile.size profile.keep profile.size_is profile.keep_is)
