use Rattle.effect_laws.specs.Puts.{PutsUnder, Drops}
use Rattle.effect_laws.proofs.Asked.{none_on, none_for, puts_only, one_call}
use Rattle.effect_laws.proofs.Over.{damages}
use Rattle.effect_laws.proofs.transcripts.what_is_not_asked_is_not_begun.Goals as goal

pub returns : goal.returns
returns c = record {
  neither = none_on;
  puts = λ name. none_for (PutsUnder name);
  drops = λ name. none_for (Drops name);
  only = puts_only;
  damage = damages;
  call = one_call;
}
