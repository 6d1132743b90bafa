use Rattle.epoch_laws.proofs.Stories.{scrubs}
use Rattle.epoch_laws.proofs.transcripts.scrubbed_files_are_got.Goals as goal

pub returns : goal.returns
returns c =
    λ limit start base ms front middle behind us ts rs name bytes own p s g stripes symbols blocks ps qs how clean
    tell run.
    scrubs limit start base ms front middle behind us ts rs name bytes own p s g stripes symbols blocks ps qs how
    clean tell run
