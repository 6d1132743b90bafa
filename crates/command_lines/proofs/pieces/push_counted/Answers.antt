use Rattle.command_lines.proofs.Pushed.{then_last}
use Rattle.command_lines.proofs.pieces.push_counted.Goals as goal

pub returns : goal.returns
returns c = then_last c.push_number.result _ _ _ _ _ c.in_ok-extend_from_slice.ensures.items
    c.push_number.ensures
