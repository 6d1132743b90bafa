use Rattle.epoch_laws.proofs.Stories.{repairs}
use Rattle.epoch_laws.proofs.transcripts.repaired_files_are_got.Goals as goal

pub returns : goal.returns
returns c =
    λ limit start base ms front middle between behind us ts vs rs name bytes own p a r g number undecided counts
    ps qs how fits clean tell run.
    repairs limit start base ms front middle between behind us ts vs rs name bytes own p a r g number undecided
    counts ps qs how fits clean tell run
