use Rattle.schedule_text.proofs.Words.{option_map, commands_of}
use Rattle.schedule_text.proofs.Texts.{HasRead, size_left}
use Rattle.schedule_text.proofs.read.read_lines.Given as goal

abbrev pub invariant-loop-left : goal.invariant-loop-left
invariant-loop-left l =
    HasRead l.text (option_map (λ behind. behind.now) l.left) l.number (commands_of l.events.items)

abbrev pub decreases-loop-left : goal.decreases-loop-left
decreases-loop-left l = size_left (option_map (λ behind. behind.now) l.left)
