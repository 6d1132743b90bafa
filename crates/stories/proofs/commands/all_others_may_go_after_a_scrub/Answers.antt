use Rattle.stories.specs.Words.{GetOf, ScrubAll, put_of}
use Rattle.stories.proofs.commands.all_others_may_go_after_a_scrub.Goals as goal

pub returns : goal.returns
returns c =
    λ put scrub get name bytes own records spoilt later a b d e f g first second last puts is_put scrubs
    is_scrub gets is_get.
    c.put_files_are_got.ensures.swept name bytes own records spoilt later a b d e f g first second last
    (puts.answers (put_of name own) is_put) (scrubs.answers ScrubAll is_scrub)
    (gets.answers (GetOf name) is_get)
