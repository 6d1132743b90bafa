use Rattle.effect_laws.proofs.Apart.{carried_apart, carried_end, ends_read, ends_apart, outcomes_apart}
use Rattle.effect_laws.proofs.transcripts.commands_come_apart.Goals as goal

pub returns : goal.returns
returns c = record {
  carried = carried_apart;
  ends = ends_apart;
  outcomes = outcomes_apart;
  told = carried_end;
  read = ends_read;
}
