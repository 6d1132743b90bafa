use Rattle.schedule_text.proofs.Keys.{key_in-read}
use Rattle.schedule_text.proofs.field.key_of.Goals as goal

pub returns : goal.returns
returns c = key_in-read (λ master. master.0) c.args.word.now c.from_hex.result c.from_hex.ensures.found
    c.from_hex.ensures.value
