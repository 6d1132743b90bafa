use Rattle.scrub_rows.proofs.Few.{none_numbered, one_numbered, three_numbered}
use Rattle.scrub_rows.proofs.files.listed.Goals as goal

pub returns-in-Nothing-clause-numbered : goal.returns-in-Nothing-clause-numbered
returns-in-Nothing-clause-numbered g c = none_numbered c.no_file.result.items c.no_file.ensures.items

pub returns-in-Notes-clause-numbered : goal.returns-in-Notes-clause-numbered
returns-in-Notes-clause-numbered g c = one_numbered c.one_file.result.items c.notes.result
    c.one_file.ensures.items c.notes.ensures.id c.notes.ensures.six

pub returns-in-All-clause-numbered : goal.returns-in-All-clause-numbered
returns-in-All-clause-numbered g c = three_numbered c.three_files.result.items c.notes-in-All.result
    c.small.result c.wide.result c.three_files.ensures.items c.notes-in-All.ensures.id
    c.notes-in-All.ensures.six c.small.ensures.id c.small.ensures.six c.wide.ensures.id c.wide.ensures.six
