use Rattle.command_jobs.proofs.Words.{◌≡◌, ◌≤◌, None, map, sym, ◌∙◌, arith, length-map, provider_seen, kind_of}
use Rattle.command_jobs.proofs.Begins.{may-name}
use Rattle.command_jobs.proofs.Alone.{under-way, refused-over, ends-over}
use Rattle.command_jobs.proofs.run.run_job.Goals as goal

pub returns-in-Err-clause-refused : goal.returns-in-Err-clause-refused
returns-in-Err-clause-refused g c = λ area records fresh. refused-over c.opened_states.ensures c.args.vault
    area records (g.D.Disk.holds c.args.disk.now) (g.D.Disk.faults c.args.disk.now) fresh c.begin.new.vault
    (kind_of c.args.job) None c.in-Err.why c.in-Err.ensures.machine

pub finish-ended-requires-clause-first : goal.finish-ended-requires-clause-first
finish-ended-requires-clause-first g c =
    let r = c.requires.ready in
    let seen = provider_seen g.P.Provider in
    (under-way c.opened_states.ensures c.args.vault r.area r.records
    (g.D.Disk.holds c.args.disk.now) (g.D.Disk.faults c.args.disk.now) r.fresh
    c.begin.new.vault (kind_of c.args.job) None c.in-Ok.number
    (map seen c.args.providers.now) (may-name c.args.job) (let a = r.enough in
    let b = length-map c.args.providers.now seen in omega (arith, a, b)) c.in-Ok.ensures.machine).0

pub finish-ended-requires-clause-under_way : goal.finish-ended-requires-clause-under_way
finish-ended-requires-clause-under_way g c =
    let r = c.requires.ready in
    let seen = provider_seen g.P.Provider in
    (under-way c.opened_states.ensures c.args.vault r.area r.records
    (g.D.Disk.holds c.args.disk.now) (g.D.Disk.faults c.args.disk.now) r.fresh
    c.begin.new.vault (kind_of c.args.job) None c.in-Ok.number
    (map seen c.args.providers.now) (may-name c.args.job) (let a = r.enough in
    let b = length-map c.args.providers.now seen in omega (arith, a, b)) c.in-Ok.ensures.machine).1

pub returns-in-Ok-clause-ended : goal.returns-in-Ok-clause-ended
returns-in-Ok-clause-ended g c = λ records old new opened fresh before after.
    let seen = provider_seen g.P.Provider in
    ends-over c.opened_states.ensures c.args.vault records (g.D.Disk.holds c.args.disk.now)
    (g.D.Disk.faults c.args.disk.now) old new opened fresh
    c.begin.new.vault c.finish-ended.new.vault (kind_of c.args.job) None c.in-Ok.number
    c.finish-ended.result (may-name c.args.job)
    (map seen c.args.providers.now) (map seen c.finish-ended.new.providers)
    (g.D.Disk.holds c.finish-ended.new.disk) (g.D.Disk.faults c.finish-ended.new.disk) None
    c.in-Ok.ensures.machine
    (λ start w moment only place stands. record {
      to_end = c.finish-ended.ensures.ended start w (kind_of c.args.job) None moment only stands;
      early = tt;
    }) (length-map c.finish-ended.new.providers seen
    ∙ (c.finish-ended.auto.providers ∙ sym (length-map c.args.providers.now seen))) before after
    c.told_jobs_leave.ensures
