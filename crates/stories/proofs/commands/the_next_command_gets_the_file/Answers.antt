use Rattle.stories.specs.Words.{GetOf, put_of}
use Rattle.stories.proofs.commands.the_next_command_gets_the_file.Goals as goal

pub returns : goal.returns
returns c =
    λ put get name bytes own records spoilt a b d e first last puts is_put gets is_get known source tell done
    follows untouched steady few disk sink.
    c.put_files_are_got.ensures.again name bytes own records spoilt a b d e first last
    (puts.answers (put_of name own) is_put) (gets.answers (GetOf name) is_get) follows known source done tell
    untouched steady few disk sink
