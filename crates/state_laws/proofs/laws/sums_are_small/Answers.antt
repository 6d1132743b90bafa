use Rattle.std.specs.Prelude.{◌≤◌, ◌^◌}
use Rattle.state_laws.proofs.SumsLaws.{each-all}
use Rattle.state_laws.proofs.Written.{small-sums}
use Rattle.state_laws.proofs.laws.sums_are_small.Goals as goal

pub returns-clause-length : goal.returns-clause-length
returns-clause-length c limit number w job sums S runs has =
    (small-sums limit w S number job sums runs has).size

pub returns-clause-undecided : goal.returns-clause-undecided
returns-clause-undecided c limit number w job sums S runs has =
    (small-sums limit w S number job sums runs has).undecided

pub returns-clause-counts : goal.returns-clause-counts
returns-clause-counts c limit number w job sums S runs has =
    each-all (λ count. count ≤ 2 ^ 16) sums.counts (small-sums limit w S number job sums runs has).counts
