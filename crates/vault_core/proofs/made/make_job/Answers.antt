use Rattle.vault_core.proofs.Words.{◌∙◌, ap, refl, arith, due_number, due_flags, with_master, cursor_first, most_at, turns_for, tasks_made, targets_of}
use Rattle.vault_core.proofs.Pins.{subject_is}
use Rattle.vault_core.proofs.Begun.{made-kept}
use Rattle.vault_core.proofs.made.make_job.Goals as goal

pub returns-clause-made : goal.returns-clause-made
returns-clause-made c = λ key. record {
  number = refl;
  wish = refl;
  profile = c.profile_for-profile.ensures key;
  pinned = c.in_ok-pinned.ensures;
  tasks = c.in_ok-tasks.ensures key
      ∙ ap (λ ps. tasks_made (turns_for (with_master c.args.setup.now key) c.args.wish)
      (targets_of c.args.wish c.profile_for-profile.result 0 ps)) c.deref.ensures.value;
  flags = λ j. c.flags-flagged.ensures.flags j
      ∙ ap (λ d. due_flags c.args.setup.now.tolerance d j) c.due-due.ensures.value;
  subject = subject_is c.args.table.now c.args.wish c.subject.result
      (λ e. c.subject.ensures.repair e ∙ ap due_number c.due-due.ensures.value) c.subject.ensures.other;
  older = refl;
  appends = c.appends.ensures;
  place = refl;
  cursor = c.first_cursor-cursor.ensures ∙ ap (cursor_first c.args.wish) c.deref-3.ensures.value;
  undecided = refl;
  counts = refl;
}

pub returns-clause-kept : goal.returns-clause-kept
returns-clause-kept c = λ key. made-kept (returns-clause-made c key) c.requires.some c.requires.few
    c.requires.named c.requires.short (c.requires.known key) c.flags-flagged.ensures.long
    (c.in-Some.ensures.most ∙ ap (most_at c.args.setup.now.n c.args.wish c.flags-flagged.result)
    c.deref-2.ensures.value) (omega arith)
