use Rattle.command_laws.proofs.InitEnds.{setup-only, setup-always, few-only, few-always, key-only, key-always, journal-only, journal-always, already-only, already-always}
use Rattle.command_laws.proofs.inits.init_refusals_are_exact.Goals as goal

pub returns-clause-bad_setup_only : goal.returns-clause-bad_setup_only
returns-clause-bad_setup_only c = setup-only

pub returns-clause-bad_setup : goal.returns-clause-bad_setup
returns-clause-bad_setup c = setup-always

pub returns-clause-too_few_only : goal.returns-clause-too_few_only
returns-clause-too_few_only c = few-only

pub returns-clause-too_few : goal.returns-clause-too_few
returns-clause-too_few c = few-always

pub returns-clause-bad_key_only : goal.returns-clause-bad_key_only
returns-clause-bad_key_only c numbers bytes key old new end A told status spells =
    key-only numbers bytes key old new end told spells A status

pub returns-clause-bad_key : goal.returns-clause-bad_key
returns-clause-bad_key c = key-always

pub returns-clause-bad_journal_only : goal.returns-clause-bad_journal_only
returns-clause-bad_journal_only c numbers cells old new end A tells status =
    journal-only numbers cells old new end tells A status

pub returns-clause-bad_journal : goal.returns-clause-bad_journal
returns-clause-bad_journal c = journal-always

pub returns-clause-already_only : goal.returns-clause-already_only
returns-clause-already_only c numbers cells old new end A tells status =
    already-only numbers cells old new end tells A status

pub returns-clause-already : goal.returns-clause-already
returns-clause-already c = already-always
