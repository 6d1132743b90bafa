use Rattle.schedule_text.proofs.Words.{◌+◌, subst, option_map, words, event_command, commands_of}
use Rattle.schedule_text.proofs.Again.{line-none, skipped-line, spelled-line}
use Rattle.schedule_text.proofs.Texts.{HasRead, commands_of-push, is_bad, has_skipped, has_pushed}
use Rattle.schedule_text.proofs.read.read_lines.Goals as goal

pub returns-in-Err-Bad-clause-bad : goal.returns-in-Err-Bad-clause-bad
returns-in-Err-Bad-clause-bad c =
    let so_far = rw c.in-Some.is at c.loop-left.invariant in
    let behind = option_map (λ b. b.now) c.first_line.result.1 in
    let line = c.first_line.result.0.now in
    is_bad c.args.text.now c.in-Some.rest.now line behind c.loop-left.number
    (commands_of c.loop-left.events.items) so_far
    c.first_line.ensures.lines (line-none (words line) (rw c.in-Err-Bad.field-0-is at c.in-Err-Bad.ensures))

pub loop-left-preserved : goal.loop-left-preserved
loop-left-preserved c =
    let so_far = rw c.in-Some.is at c.loop-left.invariant in
    let behind = option_map (λ b. b.now) c.first_line.result.1 in
    let line = c.first_line.result.0.now in
    has_skipped c.args.text.now c.in-Some.rest.now line behind c.loop-left.number
    (commands_of c.loop-left.events.items) so_far
    c.first_line.ensures.lines c.first_line.ensures.shorter
    (skipped-line (words line) (rw c.in-Ok-None.field-0-is at c.in-Ok-None.ensures))

pub loop-left-preserved-in_ok-push-in-Ok-Some : goal.loop-left-preserved-in_ok-push-in-Ok-Some
loop-left-preserved-in_ok-push-in-Ok-Some c =
    let so_far = rw c.in-Some.is at c.loop-left.invariant in
    let behind = option_map (λ b. b.now) c.first_line.result.1 in
    let line = c.first_line.result.0.now in
    let event = c.in-Ok-Some.event in
    let all = commands_of-push c.loop-left.events.items c.push.new.self.items event
    c.in_ok-push-in-Ok-Some.ensures.items in
    subst (HasRead c.args.text.now behind (c.loop-left.number + 1)) all
    (has_pushed c.args.text.now c.in-Some.rest.now line behind c.loop-left.number
    (commands_of c.loop-left.events.items) (event_command event) so_far
    c.first_line.ensures.lines c.first_line.ensures.shorter
    (spelled-line (words line) (event_command event) (rw c.in-Ok-Some.field-0-is at c.in-Ok-Some.ensures)))
