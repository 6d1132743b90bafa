use Rattle.stories.specs.Words.{GetOf, AuditAll, RepairAll, put_of}
use Rattle.stories.proofs.commands.others_may_go_after_a_repair.Goals as goal

pub returns : goal.returns
returns c =
    λ put audit repair get name bytes own records spoilt a b d e f g h i first second third last puts is_put
    audits is_audit repairs is_repair gets is_get.
    c.put_files_are_got.ensures.mended name bytes own records spoilt a b d e f g h i first second third last
    (puts.answers (put_of name own) is_put) (audits.answers AuditAll is_audit)
    (repairs.answers RepairAll is_repair) (gets.answers (GetOf name) is_get)
