use Rattle.command_laws.proofs.EndStatuses.{row-shapeless, row-refused, row-shape, row-none, row-lost}
use Rattle.command_laws.proofs.statuses.rows_have_causes.Goals as goal

pub returns-clause-no_shape_only : goal.returns-clause-no_shape_only
returns-clause-no_shape_only c n l b seen old new end A is shape =
    row-shapeless n l b seen old new end A.0 is shape

pub returns-clause-no_shape : goal.returns-clause-no_shape
returns-clause-no_shape c n l b seen old new end A none = row-refused n l b seen old new end A.0 none

pub returns-clause-lost_only : goal.returns-clause-lost_only
returns-clause-lost_only c n l b seen old new end A is =
    (let shape = row-shape n l b seen old new end A.0 is in
    (shape, row-none n l b seen old new end A.0 shape is))

pub returns-clause-lost : goal.returns-clause-lost
returns-clause-lost c n l b seen old new end A shape none = row-lost n l b seen old new end A.0 shape none
