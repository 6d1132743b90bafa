-- Over all accepted records there are bytes for the files in effect.
use Rattle.hail_client.proofs.Words.{ℕ, List, replicate, ◌∙◌, length-replicate, Record, files_of, AreAccepted, AreHeld}
use Rattle.machine_defs.proofs.Given.{zeros-bytes}
use Rattle.record_defs.proofs.SizeLaws.{size_by_id, size-in_effect}

-- zeros for the bytes of each file
abbrev pub zeros : List Record → ℕ → List ℕ
zeros rs id = replicate (size_by_id (files_of rs) id) 0

-- over accepted records, zeros of their sizes are bytes for all files in effect
pub zeros-held : (rs : List Record) → AreAccepted rs → AreHeld (zeros rs) rs
zeros-held rs accepted name file is = (
  zeros-bytes (size_by_id (files_of rs) file.id),
  length-replicate (size_by_id (files_of rs) file.id) 0
      ∙ size-in_effect rs accepted name file is,
)
