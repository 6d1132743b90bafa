use Rattle.std.proofs.Common.{◌∷◌, []}
use Rattle.command_lines.proofs.Pushed.{then_slice}
use Rattle.command_lines.proofs.pieces.push_line.Goals as goal

pub returns : goal.returns
returns c = then_slice c.extend_from_slice.result c.args.text.now.items c.push_counted.new.text.items
    c.extend_from_slice.new.self.items _ (10 ∷ []) c.in_ok-push_counted.ensures
    c.extend_from_slice.ensures.items
