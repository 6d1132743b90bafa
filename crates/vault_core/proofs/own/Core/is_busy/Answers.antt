use Rattle.vault_core.proofs.Words.{◌∙◌, ap, sym, false, length, arith, list_any, ◌==◌, nat_le, length-map, le-leb, is_put_or_check, is_check, aim_of_wish, aims_kept}
use Rattle.std.proofs.Common.{not, ◌||◌}
use Rattle.vault_core.proofs.Places.{any-map}
use Rattle.vault_core.proofs.Refusals.{upgrade_seen, busy, beside, some_jobs, none-beside, are_in_the_way}
use Rattle.vault_core.proofs.own.Core.is_busy.Goals as goal

pub returns-then-some_upgrade : goal.returns-then-some_upgrade
returns-then-some_upgrade c =
    let a = c.self.inside in
    busy a c.args.self.now c.args.wish.now _ c.self.view_is
    (sym (ap (λ b. b || (nat_le 8 (length a.jobs.items)
    || are_in_the_way (aims_kept a.jobs.items) (aim_of_wish c.args.wish.now)))
    (upgrade_seen a c.some_upgrade.ensures c.deref.ensures.value ∙ c.if-some_upgrade.true)))

pub returns-then-len-ge-MOST_JOBS : goal.returns-then-len-ge-MOST_JOBS
returns-then-len-ge-MOST_JOBS c =
    let a = c.self.inside in
    busy a c.args.self.now c.args.wish.now _ c.self.view_is
    (sym (ap (λ b. b || (nat_le 8 (length a.jobs.items)
    || are_in_the_way (aims_kept a.jobs.items) (aim_of_wish c.args.wish.now)))
    (upgrade_seen a c.some_upgrade.ensures c.deref.ensures.value ∙ c.if-some_upgrade.false) ∙ ap (λ b. b ||
    are_in_the_way (aims_kept a.jobs.items) (aim_of_wish c.args.wish.now)) (le-leb 8 (length a.jobs.items)
    (omega (arith, c.len.ensures)))))

pub returns-in-Audit : goal.returns-in-Audit
returns-in-Audit c = beside c.self.inside c.args.self.now c.args.wish.now c.some_put_or_check.result
    c.self.view_is (upgrade_seen c.self.inside c.some_upgrade.ensures c.deref.ensures.value ∙
    c.if-some_upgrade.false) (omega (arith, c.len.ensures)) (c.some_put_or_check.ensures ∙ (any-map (λ j.
    aim_of_wish j.wish) is_put_or_check c.deref-in-Audit.result.now ∙ (ap (λ js. list_any is_put_or_check
    (aims_kept js)) c.deref-in-Audit.ensures.value ∙ ap (λ w. are_in_the_way (aims_kept
    c.self.inside.jobs.items) (aim_of_wish w)) (sym c.in-Audit.is))))

pub returns-in-Repair : goal.returns-in-Repair
returns-in-Repair c = beside c.self.inside c.args.self.now c.args.wish.now c.some_check.result c.self.view_is
    (upgrade_seen c.self.inside c.some_upgrade.ensures c.deref.ensures.value ∙ c.if-some_upgrade.false) (omega
    (arith, c.len.ensures)) (c.some_check.ensures ∙ (any-map (λ j. aim_of_wish j.wish) is_check
    c.deref-in-Repair.result.now ∙ (ap (λ js. list_any is_check (aims_kept js))
    c.deref-in-Repair.ensures.value ∙ ap (λ w. are_in_the_way (aims_kept c.self.inside.jobs.items)
    (aim_of_wish w)) (sym c.in-Repair.is))))

pub returns-in-Upgrade : goal.returns-in-Upgrade
returns-in-Upgrade c =
    let a = c.self.inside in
    let m = length-map a.jobs.items (λ j. aim_of_wish j.wish) in
    let k = a.jobs.ok.0 in
    beside a c.args.self.now c.args.wish.now _ c.self.view_is
    (upgrade_seen a c.some_upgrade.ensures c.deref.ensures.value ∙ c.if-some_upgrade.false) (omega (
      arith,
      c.len.ensures,
    )) (ap not c.is_empty.ensures ∙ (ap (λ x. not (x == 0)) (omega (arith, m, k)) ∙ (some_jobs
    (length (aims_kept a.jobs.items)) ∙ ap (λ w. are_in_the_way (aims_kept a.jobs.items) (aim_of_wish w)) (sym
    c.in-Upgrade.is))))

pub returns-in_default : goal.returns-in_default
returns-in_default c = beside c.self.inside c.args.self.now c.args.wish.now false c.self.view_is
    (upgrade_seen c.self.inside c.some_upgrade.ensures c.deref.ensures.value ∙ c.if-some_upgrade.false)
    (omega (arith, c.len.ensures)) (none-beside (aims_kept c.self.inside.jobs.items) c.args.wish.now
    c.in_default.not-Audit c.in_default.not-Repair c.in_default.not-Upgrade)
