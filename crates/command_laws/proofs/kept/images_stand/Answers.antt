use Rattle.command_laws.proofs.Images.{keeps-same, refused-keeps, store-images, scrub-disk, scrub-images, known-images, init-images, init-kept}
use Rattle.command_laws.proofs.kept.images_stand.Goals as goal

pub returns-clause-refused : goal.returns-clause-refused
returns-clause-refused c = refused-keeps

pub returns-clause-store : goal.returns-clause-store
returns-clause-store c = store-images

pub returns-clause-row : goal.returns-clause-row
returns-clause-row c n l b seen old new end A = keeps-same old.disk new.disk A.1.disk

pub returns-clause-known : goal.returns-clause-known
returns-clause-known c = known-images

pub returns-clause-init : goal.returns-clause-init
returns-clause-init c = init-images

pub returns-clause-init_known : goal.returns-clause-init_known
returns-clause-init_known c = init-kept

pub returns-clause-scrub : goal.returns-clause-scrub
returns-clause-scrub c old new end A = (scrub-disk old new end A.0, scrub-images old new end A.0)
