use Rattle.stories.proofs.Words.{◌≡◌, refl, ap, arith, damaged-file, first_of, GetOf, named}
use Rattle.command_runs.proofs.Meets.{second, damaged-sure}
use Rattle.stories.proofs.DamagedGet.{got}
use Rattle.stories.proofs.Asked.{answered, damaged-steady}
use Rattle.stories.proofs.instances.three_of_four_collude.Goals as goal

pub returns : goal.returns
returns c = record {
  get = answered c.words_spell_one_command.ensures (GetOf named) got.answers tt assumption;
  theirs = (damaged-sure.known, damaged-file);
  put = (refl, refl, (λ e. (let f : 112 ≡ 111 = ap first_of e in omega (arith, f))));
  few = (damaged-steady second, omega arith, refl);
}
