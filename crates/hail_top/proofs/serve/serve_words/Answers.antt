use Rattle.hail_top.proofs.ServeWords.{answered-serve}
use Rattle.hail_top.proofs.serve.serve_words.Goals as goal

pub returns-in-Some-clause-usage : goal.returns-in-Some-clause-usage
returns-in-Some-clause-usage g c = λ disk disk_faults none. absurd (none _ c.in-Some.ensures)

pub returns-in-Some-clause-serves : goal.returns-in-Some-clause-serves
returns-in-Some-clause-serves g c = λ disk disk_faults number is. answered-serve c.args.words.now _ number _ _
    _ _ c.in-Some.ensures (c.serve_at-end.ensures.answers disk disk_faults) c.served.ensures is

pub returns-in-Some-clause-counts : goal.returns-in-Some-clause-counts
returns-in-Some-clause-counts g c = c.serve_at-end.ensures.counts

pub returns-in-None-clause-serves : goal.returns-in-None-clause-serves
returns-in-None-clause-serves g c = λ disk disk_faults number is. absurd (c.in-None.ensures number is)
