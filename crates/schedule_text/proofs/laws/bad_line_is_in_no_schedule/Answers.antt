use Rattle.schedule_text.proofs.Texts.{first_bad_excluded}
use Rattle.schedule_text.proofs.laws.bad_line_is_in_no_schedule.Goals as goal

pub returns : goal.returns
returns c = λ text number commands bad all. first_bad_excluded text number commands bad all
