use Rattle.effect_laws.proofs.Words.{[], Touches}
use Rattle.effect_laws.proofs.Asked.{free_more, free_behind, none_leaves}
use Rattle.effect_laws.proofs.Over.{over, leaves_over}
use Rattle.effect_laws.proofs.transcripts.free_names_stay_free.Goals as goal

pub returns : goal.returns
returns c = record {
  moments = free_more;
  commands = free_behind;
  asked = none_leaves;
  over = λ name commands ms base outcomes reads is_over free. over (Touches name) commands ms base outcomes reads is_over free;
  leaves = λ name commands ms outcomes reads leaves. leaves_over name commands ms outcomes [] reads leaves;
}
