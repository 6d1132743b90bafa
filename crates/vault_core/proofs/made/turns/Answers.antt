use Rattle.record_codec.specs.Entries.{with_master}
use Rattle.vault_core.proofs.Pins.{turns_zero, turns_some, turns_other}
use Rattle.vault_core.proofs.made.turns.Goals as goal

pub returns-then-stripes-eq0 : goal.returns-then-stripes-eq0
returns-then-stripes-eq0 c = λ key. turns_zero (with_master c.args.setup.now key) c.args.file.now
    c.in-Audit.is (c.stripes-stripes.ensures key) c.if-stripes-eq0.true

pub returns-else-stripes-eq0 : goal.returns-else-stripes-eq0
returns-else-stripes-eq0 c = λ key. turns_some (with_master c.args.setup.now key) c.args.file.now
    c.in-Audit.is (c.stripes-stripes.ensures key) c.if-stripes-eq0.false

pub returns-in_default : goal.returns-in_default
returns-in_default c = λ key. turns_other (with_master c.args.setup.now key) c.args.wish.now c.args.file.now
    c.stripes-stripes.result c.in_default.not-Audit (c.stripes-stripes.ensures key)
