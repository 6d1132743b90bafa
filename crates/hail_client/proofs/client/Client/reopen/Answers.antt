use Rattle.hail_client.proofs.Words.{ap, ◌∙◌, arith, Client, is_open, client_next_job, err-is}
use Rattle.record_codec.specs.declared.setup.Setup.{Setup}
use Rattle.vault_open.proofs.Stores.{ok-starts, err-starts}
use Rattle.hail_client.proofs.Reopening.{refused-event, few-event, opened-event}
use Rattle.hail_client.proofs.Anew.{by-told, refused-anew, few-are, enough-are, left-standing, opens-over}
use Rattle.hail_client.proofs.client.Client.reopen.Goals as goal

pub returns-in_err-vault-clause-start : goal.returns-in_err-vault-clause-start
returns-in_err-vault-clause-start g c =
    rw (err-is c.from_residual.result _ c.from_residual.ensures.1) (err-starts c.in_err-vault.ensures.start)

pub returns-in_err-vault-clause-machine : goal.returns-in_err-vault-clause-machine
returns-in_err-vault-clause-machine g c = λ w providers moment told handed stands.
    refused-event w moment c.args.self.now c.give_up.new.self c.give_up.ensures.closed
    (g.D.Disk.holds c.args.disk.now) providers c.in_err-vault.field-0.0 c.from_residual.result told
    c.from_residual.ensures.1 c.in_err-vault.ensures.start stands

pub returns-in_err-vault-clause-anew : goal.returns-in_err-vault-clause-anew
returns-in_err-vault-clause-anew g c = λ providers moment none handed.
    refused-anew c.args.self.now c.give_up.new.self c.give_up.ensures.closed providers none moment
    c.in_err-vault.field-0.0 c.from_residual.result c.from_residual.ensures.1 c.in_err-vault.ensures.start

pub returns-in_err-vault-clause-standing : goal.returns-in_err-vault-clause-standing
returns-in_err-vault-clause-standing g c = λ providers handed S. by-told (g.D.Disk.holds c.args.disk.now)
    (λ told. (let M = returns-in_err-vault-clause-machine g c S.state providers 0 told handed S.stands in
    record { state = M.state; stands = M.stands }))
    (λ none. left-standing c.args.self.now c.give_up.new.self c.give_up.ensures.closed _ _ _ providers none
    c.in_err-vault.ensures.start.disk.resynced)

pub returns-then-handed-from-clause-start : goal.returns-then-handed-from-clause-start
returns-then-handed-from-clause-start g c = ok-starts c.in_ok-vault.ensures.start

pub returns-then-handed-from-clause-machine : goal.returns-then-handed-from-clause-machine
returns-then-handed-from-clause-machine g c = λ w providers moment told handed stands.
    few-event w moment c.args.self.now c.give_up.new.self c.give_up.ensures.closed
    (g.D.Disk.holds c.args.disk.now) providers told c.in_ok-vault.ensures.start c.in_ok-vault.ensures.opened
    (let a = c.if-handed-from.true in let b = c.from.ensures in
    let n = ap (λ (s : Setup). s.n) c.setup.ensures in omega (arith, a, b, n, handed)) stands

pub returns-then-handed-from-clause-anew : goal.returns-then-handed-from-clause-anew
returns-then-handed-from-clause-anew g c = λ providers moment none handed. few-are c.args.self.now
    c.give_up.new.self c.give_up.ensures.closed providers none moment c.in_ok-vault.ensures.start
    c.in_ok-vault.ensures.opened (let a = c.if-handed-from.true in let b = c.from.ensures in
    let n = ap (λ (s : Setup). s.n) c.setup.ensures in omega (arith, a, b, n, handed))

pub returns-then-handed-from-clause-standing : goal.returns-then-handed-from-clause-standing
returns-then-handed-from-clause-standing g c = λ providers handed S. by-told (g.D.Disk.holds c.args.disk.now)
    (λ told. (let M = returns-then-handed-from-clause-machine g c S.state providers 0 told handed S.stands in
    record { state = M.state; stands = M.stands }))
    (λ none. (let M = (returns-then-handed-from-clause-anew g c providers 0 none handed).makes in
    record { state = M.state; stands = M.stands }))

pub returns-clause-start : goal.returns-clause-start
returns-clause-start g c = ok-starts c.in_ok-vault.ensures.start

pub returns-clause-machine : goal.returns-clause-machine
returns-clause-machine g c = λ w providers moment told handed stands.
    rw (c.hold.ensures.held c.in_ok-vault.ensures.opened.streams)
    (opened-event w moment c.args.self.now c.give_up.new.self c.give_up.ensures.closed
    (g.D.Disk.holds c.args.disk.now) providers told c.in_ok-vault.ensures.start c.in_ok-vault.ensures.opened
    (let a = c.if-handed-from.false in let b = c.from.ensures in
    let n = ap (λ (s : Setup). s.n) c.setup.ensures in omega (arith, a, b, n, handed))
    c.in_ok-vault.ensures.opened.streams stands)

pub returns-clause-anew : goal.returns-clause-anew
returns-clause-anew g c = λ providers moment none handed. rw
    (c.hold.ensures.held c.in_ok-vault.ensures.opened.streams) (enough-are c.args.self.now c.give_up.new.self
    c.give_up.ensures.closed providers none moment c.in_ok-vault.ensures.start c.in_ok-vault.ensures.opened
    (let a = c.if-handed-from.false in let b = c.from.ensures in
    let n = ap (λ (s : Setup). s.n) c.setup.ensures in omega (arith, a, b, n, handed))
    c.in_ok-vault.ensures.opened.streams)

pub returns-clause-standing : goal.returns-clause-standing
returns-clause-standing g c = λ providers handed S. by-told (g.D.Disk.holds c.args.disk.now)
    (λ told. (let M = returns-clause-machine g c S.state providers 0 told handed S.stands in
    record { state = M.state; stands = M.stands }))
    (λ none. (let M = (returns-clause-anew g c providers 0 none handed).makes in
    record { state = M.state; stands = M.stands }))

pub returns-clause-opened : goal.returns-clause-opened
returns-clause-opened g c = rw (c.hold.ensures.held c.in_ok-vault.ensures.opened.streams)
    (opens-over c.args.self.now c.give_up.new.self c.give_up.ensures.closed c.args.handed
    c.in_ok-vault.ensures.opened (let a = c.if-handed-from.false in let b = c.from.ensures in
    let n = ap (λ (s : Setup). s.n) c.setup.ensures in omega (arith, a, b, n)))

pub returns-clause-reopened : goal.returns-clause-reopened
returns-clause-reopened g c =
    let held = c.hold.ensures.held c.in_ok-vault.ensures.opened.streams in
    record {
      opens = ap is_open held;
      next_job = ap client_next_job held ∙ c.in_ok-vault.ensures.opened.number
          ∙ ap (λ (x : Client). x.next_job) c.give_up.ensures.closed;
    }
