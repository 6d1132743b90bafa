use Rattle.record_codec.proofs.Words.{[], Some, sym, ◌∙◌, SetUp, with_master}
use Rattle.record_codec.proofs.Keyed.{keyed_no_setup, keyed_found}
use Rattle.record_codec.proofs.reading.keyed_of.Goals as goal

pub returns-then-not-check-clause-value : goal.returns-then-not-check-clause-value
returns-then-not-check-clause-value c = keyed_no_setup (with_master c.args.setup []) c.args.bytes.now
    (sym (c.check.ensures []) ∙ c.if-not-check.true)

pub returns-clause-value : goal.returns-clause-value
returns-clause-value c = (λ i. Some (
  SetUp (with_master c.args.setup ((c.copy_from_slice.ensures.after ∙ c.split_at.ensures.front) i)),
  c.split_at.ensures.back i,
))
    ∙ keyed_found (with_master c.args.setup []) c.args.bytes.now
    (sym (c.check.ensures []) ∙ c.if-not-check.false) c.if-bytes-lt32.false
