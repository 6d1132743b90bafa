use Rattle.stories.proofs.Words.{refl, arith, stays, none-tell, robbed-untouched, PutUnder, GetOf, named}
use Rattle.command_runs.proofs.Meets.{second, put-old}
use Rattle.stories.proofs.DamagedGet.{got}
use Rattle.stories.proofs.Asked.{answered, damaged-steady}
use Rattle.stories.proofs.instances.the_next_command_gets_a_byte.Goals as goal

pub returns : goal.returns
returns c = let once = c.words_spell_one_command.ensures in record {
  put = answered once (PutUnder named) c.commands_end.ensures.put tt assumption;
  get = answered once (GetOf named) got.answers tt assumption;
  store = (put-old.known, refl, none-tell);
  between = (stays refl refl, robbed-untouched, damaged-steady second, omega arith);
}
