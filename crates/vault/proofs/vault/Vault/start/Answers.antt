use Rattle.vault.proofs.Words.{refl, ap, arith, sym, subst, CoreView, HasNoStream, All-nil}
use Rattle.record_defs.proofs.Standing.{base-least}
use Rattle.vault_open.proofs.Stores.{ok-starts}
use Rattle.vault.proofs.Opened.{carries, stands, fresh_works}
use Rattle.vault.proofs.vault.Vault.start.Goals as goal

pub open_fresh-requires-clause-least : goal.open_fresh-requires-clause-least
open_fresh-requires-clause-least g c =
    let r = c.in_ok-store.ensures.read in
    omega (arith, r.3.end, base-least r.0)

pub invariant_of-result : goal.invariant_of-result
invariant_of-result g c =
    let r = c.in_ok-store.ensures.read in
    record {
      at_work = fresh_works _ _ r.0 r.1 c.in_ok-store.store c.args.first c.in_ok-desk.desk r.2 r.3
          c.in_ok-desk.ensures.ok;
    }

pub returns-clause-opened : goal.returns-clause-opened
returns-clause-opened g c =
    let r = c.in_ok-store.ensures.read in
    let fresh = c.in_ok-desk.ensures.ok in
    record {
      area = r.0;
      records = r.1;
      is_read = r.2;
      stands = λ w providers j. record {
        free = refl;
        desk = stands _ _ r.0 r.1 c.in_ok-store.store c.args.first c.in_ok-desk.desk r.2 r.3 fresh _ w
            providers j;
      };
      carries = carries _ _ r.0 r.1 c.in_ok-store.store c.args.first c.in_ok-desk.desk r.2 r.3 fresh;
      number = ap (λ (core : CoreView). core.next_job) fresh.core;
      streams = subst (λ (core : CoreView). HasNoStream core) (sym fresh.core) (All-nil _);
    }

pub returns-clause-start : goal.returns-clause-start
returns-clause-start g c = ok-starts c.in_ok-store.ensures.start
