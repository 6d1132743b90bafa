use Rattle.vault_open.proofs.Words.{◌≡◌, true, refl, sym, ◌∙◌, ap, arith, false≢true, is_setup, with_master, InitFault, init_answer}
use Rattle.std.proofs.Common.{Result, Ok, Err}
use Rattle.vault_open.specs.declared.fault.InitFault.TheVariants as init_fault
use Rattle.opening_defs.proofs.Resyncs.{resynced-same, resynced}
use Rattle.vault_open.proofs.Answers.{err-is, err-same, ok-no-err, unjudged, disk-unjudged, disk-told, disk-writes}
use Rattle.vault_open.proofs.FirstRecord.{base-low, set-up-on}
use Rattle.vault_open.proofs.Prepared.{half-resynced, half-left, append-left}
use Rattle.vault_open.proofs.InitEvents.{bad-refused, bad-setup, prepared-event, append-event, ready-event, called-after, readied-blank}
use Rattle.vault_open.proofs.set_up.init.Goals as goal

pub returns-then-not-check-clause-set_up : goal.returns-then-not-check-clause-set_up
returns-then-not-check-clause-set_up g c =
    let s = with_master c.args.setup.now c.args.master.now.0 in
    let told = g.D.Disk.holds c.args.disk.now in
    let bad = sym (c.check.ensures c.args.master.now.0) ∙ c.if-not-check.true in
    record {
      ok = tt;
      bad_setup = (λ is. bad, λ is. refl);
      refused = bad-refused s told bad;
      looked = λ none. resynced-same told;
      left = half-left s told told (half-resynced told told (resynced-same told));
    }

pub returns-then-not-check-clause-machine : goal.returns-then-not-check-clause-machine
returns-then-not-check-clause-machine g c = λ w providers moment may are.
    let s = with_master c.args.setup.now c.args.master.now.0 in
    bad-setup s w moment providers (g.D.Disk.holds c.args.disk.now) _ may are
    (sym (c.check.ensures c.args.master.now.0) ∙ c.if-not-check.true)

pub returns-in_err-base-clause-set_up : goal.returns-in_err-base-clause-set_up
returns-in_err-base-clause-set_up g c =
    let s = with_master c.args.setup.now c.args.master.now.0 in
    let valid : is_setup s ≡ true = sym (c.check.ensures c.args.master.now.0) ∙ c.if-not-check.false in
    rw (err-is c.from_residual.result c.in_err-base.field-0.0 c.from_residual.ensures.1) (record {
      ok = tt;
      bad_setup = (
        λ is. absurd (c.in_err-base.ensures.unjudged (ap (λ (f : InitFault). Err f) (err-same _ _ is))),
        λ bad. absurd (false≢true (sym bad ∙ valid)),
      );
      refused = c.in_err-base.ensures.refused s;
      looked = λ none. resynced _ _ (c.in_err-base.ensures.looked none);
      left = half-left s _ _ c.in_err-base.ensures.left;
    })

pub returns-in_err-base-clause-machine : goal.returns-in_err-base-clause-machine
returns-in_err-base-clause-machine g c = λ w providers moment may are.
    let s = with_master c.args.setup.now c.args.master.now.0 in
    let valid : is_setup s ≡ true = sym (c.check.ensures c.args.master.now.0) ∙ c.if-not-check.false in
    rw (err-is c.from_residual.result c.in_err-base.field-0.0 c.from_residual.ensures.1)
    (prepared-event s w moment providers _ _ _ _ c.in_err-base.field-0.0 may are valid
    (c.in_err-base.ensures.refused s) c.in_err-base.ensures.looked c.in_err-base.ensures.left
    c.in_err-base.ensures.called)

pub append_setup-requires : goal.append_setup-requires
append_setup-requires g c =
    let at = c.in_ok-base.ensures.ok in
    record {
      valid = sym (c.check.ensures c.args.master.now.0) ∙ c.if-not-check.false;
      place = base-low at.0 c.in_ok-base.base at.1;
    }

pub returns-in_err-append_setup-clause-set_up : goal.returns-in_err-append_setup-clause-set_up
returns-in_err-append_setup-clause-set_up g c =
    let s = with_master c.args.setup.now c.args.master.now.0 in
    let valid : is_setup s ≡ true = sym (c.check.ensures c.args.master.now.0) ∙ c.if-not-check.false in
    let fault = c.in_err-append_setup.field-0.0 in
    let at = c.in_ok-base.ensures.ok in
    let blank = readied-blank at.0 (g.D.Disk.holds c.args.disk.now) (g.D.Disk.holds c.prepare.new.disk) at.2 in
    rw (err-is c.from_residual-in_err-append_setup.result (init_answer fault)
    c.from_residual-in_err-append_setup.ensures.1) (record {
      ok = tt;
      bad_setup = (
        λ is. absurd (disk-unjudged fault (err-same _ _ is)),
        λ bad. absurd (false≢true (sym bad ∙ valid)),
      );
      refused = disk-told s _ fault;
      looked = λ none. absurd (disk-writes fault none);
      left = append-left s at.0 _ _ _ at.2 (c.in_err-append_setup.ensures.left at.0 at.1 blank);
    })

pub returns-in_err-append_setup-clause-machine : goal.returns-in_err-append_setup-clause-machine
returns-in_err-append_setup-clause-machine g c = λ w providers moment may are.
    let s = with_master c.args.setup.now c.args.master.now.0 in
    let valid : is_setup s ≡ true = sym (c.check.ensures c.args.master.now.0) ∙ c.if-not-check.false in
    let fault = c.in_err-append_setup.field-0.0 in
    let at = c.in_ok-base.ensures.ok in
    let blank = readied-blank at.0 (g.D.Disk.holds c.args.disk.now) (g.D.Disk.holds c.prepare.new.disk) at.2 in
    rw (err-is c.from_residual-in_err-append_setup.result (init_answer fault)
    c.from_residual-in_err-append_setup.ensures.1)
    (append-event s w moment providers at.0 _ _ _ _ _ fault may are valid at.2
    (c.in_err-append_setup.ensures.left at.0 at.1 blank)
    (called-after c.in_ok-base.ensures.called (λ e. ok-no-err _ _ e) c.in_err-append_setup.ensures.called))

pub returns-clause-set_up : goal.returns-clause-set_up
returns-clause-set_up g c =
    let s = with_master c.args.setup.now c.args.master.now.0 in
    let valid : is_setup s ≡ true = sym (c.check.ensures c.args.master.now.0) ∙ c.if-not-check.false in
    let at = c.in_ok-base.ensures.ok in
    record {
      ok = set-up-on s at.0 c.in_ok-base.base _ _ _ at.1 at.2 c.in_ok-append_setup.ensures.ok;
      bad_setup = (
        λ is. absurd (let e : ◌≡◌ {A = Result Unit InitFault} (Ok tt) (Err init_fault.BadSetup) = is in cc),
        λ bad. absurd (false≢true (sym bad ∙ valid)),
      );
      refused = tt;
      looked = tt;
      left = tt;
    }

pub returns-clause-machine : goal.returns-clause-machine
returns-clause-machine g c = λ w providers moment may are.
    let s = with_master c.args.setup.now c.args.master.now.0 in
    let valid : is_setup s ≡ true = sym (c.check.ensures c.args.master.now.0) ∙ c.if-not-check.false in
    let first = c.in_ok-base.ensures.called.cause.never_falls in
    let second = c.in_ok-append_setup.ensures.called.cause.never_falls in
    let at = c.in_ok-base.ensures.ok in
    let blank = readied-blank at.0 (g.D.Disk.holds c.args.disk.now) (g.D.Disk.holds c.prepare.new.disk) at.2 in
    ready-event s w moment providers at.0 _ _ _ _ _ may are valid at.2
    (c.in_ok-append_setup.ensures.ready at.0 at.1 blank) (omega (arith, first, second))

pub returns-in_err-base-clause-unlooked : goal.returns-in_err-base-clause-unlooked
returns-in_err-base-clause-unlooked g c = λ is.
    absurd (unjudged c.from_residual.result c.in_err-base.field-0.0 c.from_residual.ensures.1
    (λ same. c.in_err-base.ensures.unjudged (ap (λ (f : InitFault). Err f) same)) is)

pub returns-in_err-append_setup-clause-unlooked : goal.returns-in_err-append_setup-clause-unlooked
returns-in_err-append_setup-clause-unlooked g c = λ is. absurd
    (unjudged c.from_residual-in_err-append_setup.result (init_answer c.in_err-append_setup.field-0.0)
    c.from_residual-in_err-append_setup.ensures.1 (disk-unjudged c.in_err-append_setup.field-0.0) is)
