use Rattle.std.proofs.Common.{ap}
use Rattle.record_codec.specs.Entries.{entry_of}
use Rattle.vault_table.proofs.Taken.{fold-ok, fold-accepted, fold-refused}
use Rattle.vault_table.proofs.table.Table.apply.Goals as goal

pub returns-in-PutStart-clause-ok : goal.returns-in-PutStart-clause-ok
returns-in-PutStart-clause-ok c =
    fold-ok _ _ _ _ (entry_of c.args.entry.now) (ap entry_of c.in-PutStart.is) c.put_start.ensures

pub returns-in-PutDone-clause-ok : goal.returns-in-PutDone-clause-ok
returns-in-PutDone-clause-ok c =
    fold-ok _ _ _ _ (entry_of c.args.entry.now) (ap entry_of c.in-PutDone.is) c.put_done.ensures

pub returns-in-PutDone-clause-accepted : goal.returns-in-PutDone-clause-accepted
returns-in-PutDone-clause-accepted c =
    fold-accepted _ _ _ _ (entry_of c.args.entry.now) (ap entry_of c.in-PutDone.is) c.put_done.ensures

pub returns-in-PutDone-clause-refused : goal.returns-in-PutDone-clause-refused
returns-in-PutDone-clause-refused c =
    fold-refused _ _ _ _ (entry_of c.args.entry.now) (ap entry_of c.in-PutDone.is) c.put_done.ensures

pub returns-in-Drop-clause-accepted : goal.returns-in-Drop-clause-accepted
returns-in-Drop-clause-accepted c =
    fold-accepted _ _ _ _ (entry_of c.args.entry.now) (ap entry_of c.in-Drop.is) c.drop_name.ensures

pub returns-in-Drop-clause-refused : goal.returns-in-Drop-clause-refused
returns-in-Drop-clause-refused c =
    fold-refused _ _ _ _ (entry_of c.args.entry.now) (ap entry_of c.in-Drop.is) c.drop_name.ensures

pub returns-in-PutDoneIn-clause-ok : goal.returns-in-PutDoneIn-clause-ok
returns-in-PutDoneIn-clause-ok c =
    fold-ok _ _ _ _ (entry_of c.args.entry.now) (ap entry_of c.in-PutDoneIn.is) c.put_done_in.ensures

pub returns-in-PutDoneIn-clause-accepted : goal.returns-in-PutDoneIn-clause-accepted
returns-in-PutDoneIn-clause-accepted c =
    fold-accepted _ _ _ _ (entry_of c.args.entry.now) (ap entry_of c.in-PutDoneIn.is) c.put_done_in.ensures

pub returns-in-PutDoneIn-clause-refused : goal.returns-in-PutDoneIn-clause-refused
returns-in-PutDoneIn-clause-refused c =
    fold-refused _ _ _ _ (entry_of c.args.entry.now) (ap entry_of c.in-PutDoneIn.is) c.put_done_in.ensures

pub returns-in-File-clause-accepted : goal.returns-in-File-clause-accepted
returns-in-File-clause-accepted c =
    fold-accepted _ _ _ _ (entry_of c.args.entry.now) (ap entry_of c.in-File.is) c.keep_file.ensures

pub returns-in-File-clause-refused : goal.returns-in-File-clause-refused
returns-in-File-clause-refused c =
    fold-refused _ _ _ _ (entry_of c.args.entry.now) (ap entry_of c.in-File.is) c.keep_file.ensures
