use Rattle.vault_core.proofs.Words.{◌∙◌, ap, sym, ◌+◌, arith, nat_lt, are_numbers_used_up, aim_of_wish, view_of, sight_in}
use Rattle.vault_core.proofs.Refusals.{full, over, under, used-none}
use Rattle.vault_core.proofs.own.Core.is_full.Goals as goal

pub returns-then-self-room-gt-LARGEST_JOURNAL : goal.returns-then-self-room-gt-LARGEST_JOURNAL
returns-then-self-room-gt-LARGEST_JOURNAL c =
    full c.args.wish.now c.self.view_is c.in_default.not-Get c.self.invariant c.version-version.ensures
    c.deref.ensures.value c.reserved_for-room.ensures.value c.sizes.ensures.value
    (over {k = c.self.inside.end + c.reserved_for-room.result + c.sizes.result} _ (omega arith))

pub returns-in-Put : goal.returns-in-Put
returns-in-Put c = full c.args.wish.now c.self.view_is c.in_default.not-Get c.self.invariant
    c.version-version.ensures c.deref.ensures.value c.reserved_for-room.ensures.value c.sizes.ensures.value
    (under (omega arith) (ap (nat_lt 18446744073709551584) c.next_id.ensures ∙
    ap (λ w. are_numbers_used_up (sight_in (view_of c.self.inside)) (aim_of_wish w)) (sym c.in-Put.is)))

pub returns-in-Audit : goal.returns-in-Audit
returns-in-Audit c = full c.args.wish.now c.self.view_is c.in_default.not-Get c.self.invariant
    c.version-version.ensures c.deref.ensures.value c.reserved_for-room.ensures.value c.sizes.ensures.value
    (under (omega arith) (ap (nat_lt 18446744073709551584) c.next_audit.ensures ∙
    ap (λ w. are_numbers_used_up (sight_in (view_of c.self.inside)) (aim_of_wish w)) (sym c.in-Audit.is)))

pub returns-in_default-wish : goal.returns-in_default-wish
returns-in_default-wish c = full c.args.wish.now c.self.view_is c.in_default.not-Get c.self.invariant
    c.version-version.ensures c.deref.ensures.value c.reserved_for-room.ensures.value c.sizes.ensures.value
    (under (omega arith) (used-none (sight_in (view_of c.self.inside)) c.args.wish.now
    c.in_default-wish.not-Put c.in_default-wish.not-Audit))
