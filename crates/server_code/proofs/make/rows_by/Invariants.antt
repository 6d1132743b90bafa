use Rattle.code_points.specs.Profile.{plain_profile}
use Rattle.server_code.proofs.MakeSteps.{HasRows}
use Rattle.server_code.proofs.make.rows_by.Given as goal

abbrev pub invariant-loop-place : goal.invariant-loop-place
invariant-loop-place l = HasRows (plain_profile l.profile) l.place l.rows.items
