use Rattle.column_defs.proofs.ForgeryLaws.{forgery-of_stripe}
use Rattle.column_defs.proofs.laws.stripe_forgery_is_forgery.Goals as goal

pub returns : goal.returns
returns c = forgery-of_stripe
