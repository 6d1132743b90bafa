use Rattle.scrub_rows.proofs.Few.{one_count, apart, few_in}
use Rattle.scrub_rows.proofs.files.begun.Goals as goal

pub new-requires-clause-one_count : goal.new-requires-clause-one_count
new-requires-clause-one_count g c = one_count c.listed.result.items c.listed.ensures.numbered

pub new-requires-clause-apart : goal.new-requires-clause-apart
new-requires-clause-apart g c = apart c.listed.result.items c.listed.ensures.numbered

pub returns : goal.returns
returns g c = few_in c.new.result c.expect.result c.listed.result.items c.expect.ensures
    c.new.ensures.providers c.listed.ensures.numbered
