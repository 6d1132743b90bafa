use Rattle.server_code.proofs.Words.{◌≡◌, ℕ, List, ◌∙◌, ◌+◌, ◌-◌, ◌*◌, zero-mul, sym, ap, subst, arith, plain_profile, keep_below}
use Rattle.server_code.proofs.MakeSteps.{HasRows, row_more}
use Rattle.server_code.proofs.make.rows_by.Goals as goal

pub loop-place-init : goal.loop-place-init
loop-place-init c =
    let keep = c.args.profile.keep in
    let none : keep - keep ≡ 0 = omega arith in
    subst (λ (rows : List ℕ). HasRows (plain_profile c.args.profile) keep rows) (sym c.new-rows.ensures.items)
    (record { behind = omega arith; full = rw none (sym (zero-mul keep)); each = λ r h. absurd (omega arith) })

pub loop-place-preserved : goal.loop-place-preserved
loop-place-preserved c = subst (λ (rows : List ℕ). HasRows (plain_profile c.args.profile)
    (c.loop-place.place + 1) rows) (sym c.in_ok-push_bytes.ensures) (row_more (plain_profile c.args.profile)
    c.loop-place.place c.loop-place.rows.items c.parity_row.new.out c.loop-place.invariant
    c.parity_row.ensures.row)

pub returns : goal.returns
returns c =
    let p = c.args.profile in
    let has = c.loop-place.invariant in
    let end : c.loop-place.place ≡ p.size =
    omega (arith, keep_below p.number p.size p.keep p.size_is p.keep_is, c.loop-place.auto.place-end) in
    record {
      full = has.full ∙ ap (λ n. (n - p.keep) * p.keep) end;
      each = λ r h. has.each r (omega (arith, h, end));
    }
