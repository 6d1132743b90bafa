use Rattle.stories.proofs.Words.{false, refl, arith, stays, GetOf, UpgradeJournal, PackJournal, named}
use Rattle.stories.proofs.Asked.{answered, packed-steady}
use Rattle.stories.proofs.instances.a_packed_byte_is_got.Goals as goal

pub returns : goal.returns
returns c = let once = c.words_spell_one_command.ensures in let e = c.packs_end.ensures in record {
  upgrade = answered once UpgradeJournal c.commands_end.ensures.upgrade tt assumption;
  pack = λ words filling spells fills.
      answered once PackJournal (e.pack filling fills) tt (assumption) words spells;
  get = λ words filling spells fills.
      answered once (GetOf named) (e.get filling fills) tt (assumption) words spells;
  there_is_one = e.there_is_one;
  between = λ filling. (
    stays refl refl,
    stays refl refl,
    stays refl refl,
    (λ j l s. refl),
    (λ j l s. refl),
    (λ j l s. refl),
    packed-steady filling (λ j. false),
    omega arith,
  );
}
