use Rattle.second_half_laws.proofs.GetEnds.{few_give, few_not_lost}
use Rattle.second_half_laws.proofs.laws.few_wrong_blocks_give_file.Goals as goal

pub returns-clause-bytes : goal.returns-clause-bytes
returns-clause-bytes c limit start m ms job name bytes file clean run event outcome runs kind in_effect few =
    few_give limit start m ms job name clean run runs kind event file in_effect bytes outcome few

pub returns-clause-not_lost : goal.returns-clause-not_lost
returns-clause-not_lost c limit start m ms job name file stripe row clean run event outcome runs kind in_effect few =
    few_not_lost limit start m ms job name clean run runs kind event file in_effect stripe row outcome few
