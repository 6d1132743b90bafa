use Rattle.command_laws.proofs.JobEnds.{put-answers}
use Rattle.command_laws.proofs.Chains.{all-whole, init-put-get, put-get, drop-get, repair-get, scrub-get, put-scrub-get, put-audit-repair-get}
use Rattle.command_laws.proofs.after.put_files_are_got.Goals as goal

pub returns-clause-whole : goal.returns-clause-whole
returns-clause-whole x numbers key name bytes spoilt cells a b c d e f first second last I P G =
    all-whole numbers key name bytes spoilt cells a b c d e f first second last I P G.0

pub returns-clause-got : goal.returns-clause-got
returns-clause-got x numbers key name bytes own spoilt a b c d e f first second last I P G = init-put-get
    numbers key name bytes own spoilt a b c d e f first second last I (put-answers name own c d second P) G.0

pub returns-clause-again : goal.returns-clause-again
returns-clause-again x name bytes own records spoilt c d e f second last P G =
    put-get name bytes own records spoilt c d e f second last (put-answers name own c d second P) G.0

pub returns-clause-dropped : goal.returns-clause-dropped
returns-clause-dropped x name records c d e f second last D G =
    drop-get name records c d e f second last D.0 G.0

pub returns-clause-repaired : goal.returns-clause-repaired
returns-clause-repaired x name bytes records spoilt later due c d e f second last R G =
    repair-get name bytes records spoilt later due c d e f second last R.0 G.0

pub returns-clause-mended : goal.returns-clause-mended
returns-clause-mended x name bytes own records spoilt a b c d e f g h first second third last P A R G =
    put-audit-repair-get name bytes own records spoilt a b c d e f g h first second third last
    (put-answers name own a b first P) A R.0 G.0

pub returns-clause-scrubbed : goal.returns-clause-scrubbed
returns-clause-scrubbed x name bytes records spoilt later c d e f second last A G =
    scrub-get name bytes records spoilt later c d e f second last A.0 G.0

pub returns-clause-swept : goal.returns-clause-swept
returns-clause-swept x name bytes own records spoilt later a b c d e f first second last P A G =
    put-scrub-get name bytes own records spoilt later a b c d e f first second last
    (put-answers name own a b first P) A.0 G.0
