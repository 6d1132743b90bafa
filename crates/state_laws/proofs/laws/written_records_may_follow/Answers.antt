use Rattle.state_laws.proofs.Written.{written-follows}
use Rattle.state_laws.proofs.laws.written_records_may_follow.Goals as goal

pub returns : goal.returns
returns c limit number w job entry S runs next writes =
    written-follows limit w S number job runs entry next writes
