use Rattle.command_laws.proofs.Unopened.{opening-of, unset-only, bad-only, few-only, fresh-always, broken-always, lacking-always}
use Rattle.command_laws.proofs.ends.unopened_stores_are_told.Goals as goal

pub returns-clause-not_set_up_only : goal.returns-clause-not_set_up_only
returns-clause-not_set_up_only c command cells old new end A opens tells =
    unset-only cells tells (opening-of command old new end A opens)

pub returns-clause-not_set_up : goal.returns-clause-not_set_up
returns-clause-not_set_up c = fresh-always

pub returns-clause-bad_journal_only : goal.returns-clause-bad_journal_only
returns-clause-bad_journal_only c command cells old new end A opens tells =
    bad-only cells tells (opening-of command old new end A opens)

pub returns-clause-bad_journal : goal.returns-clause-bad_journal
returns-clause-bad_journal c = broken-always

pub returns-clause-too_few_only : goal.returns-clause-too_few_only
returns-clause-too_few_only c command old new end A opens = few-only (opening-of command old new end A opens)

pub returns-clause-too_few : goal.returns-clause-too_few
returns-clause-too_few c = lacking-always
