use Rattle.command_laws.proofs.JobEnds.{put-answers}
use Rattle.std.proofs.Common.{inl, inr}
use Rattle.command_laws.proofs.DoneStores.{pack-sure, scrub-sure, upgrade-sure, init-sure, put-sure, failed-put-sure, cut-put-sure, long-put-sure, failed-repair-sure, get-sure, drop-sure, list-sure, audit-sure, repair-sure}
use Rattle.command_laws.proofs.after.done_commands_leave_known_stores.Goals as goal

pub returns-clause-init : goal.returns-clause-init
returns-clause-init c = init-sure

pub returns-clause-put : goal.returns-clause-put
returns-clause-put c name bytes own records old new end A done K source =
    put-sure name bytes own records old new end (put-answers name own old new end A) done K source

pub returns-clause-get : goal.returns-clause-get
returns-clause-get c name records old new end A over K =
    get-sure name records old new end A.0 (elim over [ inl done ↦ inl done | inr lost ↦ inr (inl lost) ]) K

pub returns-clause-drop : goal.returns-clause-drop
returns-clause-drop c name records old new end A done K = drop-sure name records old new end A.0 done K

pub returns-clause-list : goal.returns-clause-list
returns-clause-list c records old new end A done K = list-sure records old new end A.0 done K

pub returns-clause-audit : goal.returns-clause-audit
returns-clause-audit c records old new end A done K = audit-sure records old new end A.0 done K

pub returns-clause-repair : goal.returns-clause-repair
returns-clause-repair c records due old new end A done K is_due =
    repair-sure records due old new end A.0 done K is_due

pub returns-clause-failed_put : goal.returns-clause-failed_put
returns-clause-failed_put c name own records old new end A failed K =
    failed-put-sure name records old new end (put-answers name own old new end A) failed K

pub returns-clause-long_put : goal.returns-clause-long_put
returns-clause-long_put c name own records old new end A long K =
    long-put-sure name own records old new end (put-answers name own old new end A) long K

pub returns-clause-cut_put : goal.returns-clause-cut_put
returns-clause-cut_put c name own records old new end A cut K =
    elim (cut-put-sure name own records old new end (put-answers name own old new end A) (inl cut) K) [
      | inl same ↦ inl same.1
      | inr sure ↦ inr sure
    ]

pub returns-clause-failed_repair : goal.returns-clause-failed_repair
returns-clause-failed_repair c records old new end A failed K =
    failed-repair-sure records old new end A.0 failed K

pub returns-clause-upgrade : goal.returns-clause-upgrade
returns-clause-upgrade c records old new end A done K = upgrade-sure records old new end A.0 done K

pub returns-clause-scrub : goal.returns-clause-scrub
returns-clause-scrub c records old new end A over K = scrub-sure records old new end A.0 over K

pub returns-clause-pack : goal.returns-clause-pack
returns-clause-pack c records old new end A done K = pack-sure records old new end A.0 done K
