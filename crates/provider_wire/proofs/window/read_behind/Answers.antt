use Rattle.provider_wire.proofs.Windows.{read_behind-given}
use Rattle.provider_wire.proofs.window.read_behind.Goals as goal

pub returns-clause-given : goal.returns-clause-given
returns-clause-given g c =
    read_behind-given c.args.bytes.now c.read.new.out c.args.len c.args.end c.read.result _ _
    c.requires.within c.requires.room c.read.auto.out c.read.ensures.at_most c.read.ensures.given
