use Rattle.command_runs.proofs.Words.{◌+◌, None, refl, largest_file, PutUnder, GivesUpPut, ends, named, four_records, to_put_source, put_too_long}
use Rattle.command_runs.proofs.Meets.{never}
use Rattle.command_runs.proofs.GivenUpPut.{too_long, by-words, old-sure, calm, sevens-bytes, sevens-long}
use Rattle.command_runs.proofs.given_up.long_puts_are_given_up.Goals as goal

pub returns : goal.returns
returns c = record {
  answers = too_long;
  left = λ source are more. let g = c.cut_sources_leave.ensures.too_long (PutUnder named)
      (to_put_source source) (put_too_long source) (ends 16) (too_long source are more) refl in
      by-words (λ name own. GivesUpPut name own (to_put_source source) (put_too_long source) (ends 16))
      named g.0 g.1 g.2 g.3;
  known = λ source are more. c.done_commands_leave_known_stores.ensures.long_put named None four_records
      (to_put_source source) (put_too_long source) (ends 16) (too_long source are more) refl
      (old-sure source).known;
  well = λ source are more. c.cut_sources_leave.ensures.ends_well named source None four_records
      (to_put_source source) (put_too_long source) (ends 16) (too_long source are more)
      (old-sure source).known refl more refl never (calm source) never;
  only = λ source are more. c.refusals_are_exact.ensures.too_long_only named source None four_records
      (to_put_source source) (put_too_long source) (ends 16) (too_long source are more)
      (old-sure source).known refl refl;
  there_is_one = (sevens-bytes (largest_file + 1), sevens-long largest_file);
}
