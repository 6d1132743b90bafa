use Rattle.schedule_text.specs.Events.{commands_of}
use Rattle.schedule_text.proofs.Texts.{reads_as, refuses_for}
use Rattle.schedule_text.proofs.read.read_schedule.Goals as goal

pub returns : goal.returns
returns c =
    let ok = c.read_lines.ensures.ok in
    let bad = c.read_lines.ensures.bad in
    record {
      ok = ok;
      bad = bad;
      reads = λ commands is. reads_as (λ events. commands_of events.items) c.args.text.now c.read_lines.result
          ok bad commands is;
      refuses = λ number is. refuses_for (λ events. commands_of events.items) c.args.text.now
          c.read_lines.result ok bad number is;
    }
