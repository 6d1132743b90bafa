use Rattle.epoch_laws.proofs.Words.{◌∷◌, ◌++◌, Put, Begin, Begun, Ended, put_event, GetJob, scrubbed, done_by}
use Rattle.epoch_laws.proofs.Chains.{chain-marked}
use Rattle.epoch_laws.proofs.Stories.{back}
use Rattle.epoch_laws.proofs.Told.{gives}
use Rattle.epoch_laws.proofs.transcripts.files_behind_scrubs_are_got.Goals as goal

pub returns : goal.returns
returns c =
    λ limit start base ms front middle us ts name bytes own p g named how clean tell run E many leaves free asks B
    before.
    (let G = back base ms front middle us ts name bytes own p g how E many leaves free asks in (
      G,
      λ few. gives name bytes g how base ms limit (scrubbed start) start G (chain-marked limit start base clean named
          (done_by (Begin (GetJob name)) g (middle ++ done_by (put_event own name bytes) p front))
          (Ended how ∷ Begun g ∷ (ts ++ Ended Put ∷ Begun p ∷ us)) ms tell run E B before few),
    ))
