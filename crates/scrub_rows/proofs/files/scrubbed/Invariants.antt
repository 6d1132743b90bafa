use Rattle.std.proofs.Common.{◌≤◌, length}
use Rattle.hail_scrub.specs.Views.{scrub_left}
use Rattle.scrub_rows.proofs.files.scrubbed.Given as goal

abbrev pub invariant-loop-scrub : goal.invariant-loop-scrub
invariant-loop-scrub g l = (l.scrub.providers ≤ 6) × (6 ≤ length l.providers)

abbrev pub decreases-loop-scrub : goal.decreases-loop-scrub
decreases-loop-scrub g l = scrub_left l.scrub
