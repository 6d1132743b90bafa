use Rattle.epoch_laws.proofs.Chains.{chain-calm, chain-marked, chain-exact}
use Rattle.epoch_laws.proofs.transcripts.scrubs_in_a_row_begin_epochs.Goals as goal

pub returns : goal.returns
returns c = record {
  calm = λ limit start base ms commands outcomes named clean run E B before few.
      chain-calm limit start base clean named commands outcomes ms run E B before few;
  marked = λ limit start base ms commands outcomes named clean tell run E B before few.
      chain-marked limit start base clean named commands outcomes ms tell run E B before few;
  exact = λ limit start base ms commands outcomes qs ps named clean tell run E B before few.
      chain-exact limit start base clean qs ps named commands outcomes ms tell run E B before few;
}
