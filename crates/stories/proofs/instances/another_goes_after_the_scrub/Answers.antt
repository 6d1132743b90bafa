use Rattle.stories.proofs.Words.{refl, arith, stays, three-tell, robbed-untouched, swept-steady, swept-untouched, later-steady, GetOf, ScrubAll, named}
use Rattle.stories.proofs.Asked.{answered}
use Rattle.stories.proofs.instances.another_goes_after_the_scrub.Goals as goal

pub returns : goal.returns
returns c = let once = c.words_spell_one_command.ensures in let e = c.commands_end.ensures in record {
  scrub = answered once ScrubAll e.swept tt assumption;
  get = answered once (GetOf named) e.later_get tt assumption;
  between = (stays refl refl, stays refl refl, robbed-untouched, swept-steady);
  tell = three-tell;
  later = (swept-untouched, later-steady, omega arith);
}
