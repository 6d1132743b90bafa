use Rattle.file_layout.proofs.file.FileShape.rows.Goals as goal

pub returns-clause-value : goal.returns-clause-value
returns-clause-value c master = cc (c.stripes.ensures.value master, c.from.ensures, c.from-2.ensures)
