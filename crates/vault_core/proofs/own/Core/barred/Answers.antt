use Rattle.vault_core.proofs.Words.{◌∙◌, ap, sym, None, Some, length, arith, if◌then◌else◌, le-leb, lt-leb, length-map, Busy, core_job}
use Rattle.vault_core.proofs.Refusals.{upgrade_seen, refused_early, early}
use Rattle.vault_core.proofs.own.Core.barred.Goals as goal

pub returns-then-some_upgrade : goal.returns-then-some_upgrade
returns-then-some_upgrade c = λ w is.
    let a = c.self.inside in
    sym (λ i. refused_early (c.if-self.false i) ((upgrade_seen a c.some_upgrade.ensures c.deref.ensures.value
    ∙ c.if-some_upgrade.true) i) (length a.jobs.items)) ∙ early a c.args.self.now w c.self.view_is is

pub returns-then-running-ge-MOST_JOBS : goal.returns-then-running-ge-MOST_JOBS
returns-then-running-ge-MOST_JOBS c = λ w is.
    let a = c.self.inside in
    let v = c.running.ensures.value in
    let t = c.if-running-ge-MOST_JOBS.true in
    let m = length-map a.jobs.items core_job in
    let e = ap (λ x. length x.jobs) c.self.view_is in
    sym ((λ i. refused_early (c.if-self.false i) ((upgrade_seen a c.some_upgrade.ensures c.deref.ensures.value
    ∙ c.if-some_upgrade.false) i) (length a.jobs.items)) ∙ ap (λ b. if b then Some Busy else None) (le-leb 8
    (length a.jobs.items) (omega (arith, v, t, m, e)))) ∙ early a c.args.self.now w c.self.view_is is

pub returns : goal.returns
returns c = λ w is.
    let a = c.self.inside in
    let v = c.running.ensures.value in
    let t = c.if-running-ge-MOST_JOBS.false in
    let m = length-map a.jobs.items core_job in
    let e = ap (λ x. length x.jobs) c.self.view_is in
    sym ((λ i. refused_early (c.if-self.false i) ((upgrade_seen a c.some_upgrade.ensures c.deref.ensures.value
    ∙ c.if-some_upgrade.false) i) (length a.jobs.items)) ∙ ap (λ b. if b then Some Busy else None) (lt-leb 8
    (length a.jobs.items) (omega (arith, v, t, m, e)))) ∙ early a c.args.self.now w c.self.view_is is
