use Rattle.stories.proofs.Words.{[], refl, inl, no-form, form-words, GetOf, IsFresh, held_name, empty_devices, list_before}
use Rattle.hail_replay.specs.declared.forms.Form.TheVariants as forms
use Rattle.stories.proofs.Asked.{falls, answered, first-left}
use Rattle.stories.proofs.laws.a_list_and_a_get_go_on.Goals as goal

empty : IsFresh [] []
empty = record { firm = refl; stands = inl (refl, refl) }

pub returns : goal.returns
returns c = record {
  replay = λ words spells. form-words words forms.Replay _ _ _
      (λ command is. no-form words command forms.Replay is spells) spells
      c.a_list_is_replayed.ensures.replay (falls _ _ assumption);
  get = answered c.words_spell_one_command.ensures (GetOf held_name)
      c.there_are_answers.ensures.not_set_up tt assumption;
  left = (first-left list_before [] [] refl empty, first-left empty_devices [] [] refl empty);
}
