use Rattle.std.proofs.Common.{◌≡◌, ℕ, ap, sym, ◌∙◌, arith, Some}
use Rattle.provider_wire.proofs.Received.{all_came}
use Rattle.provider_wire.proofs.receive.receive_answer.Goals as goal

pub returns-then-receive_all-clause-told : goal.returns-then-receive_all-clause-told
returns-then-receive_all-clause-told g c = λ b kind tail e due size none.
    let first = c.in_ok-kind.ensures.told b kind tail e due in
    let same : c.in_ok-kind.kind ≡ kind = (let h = first.0 in cc) in
    let one : kind ≡ 1 = sym same ∙ c.if-kind-ne-DONE.false in
    let came = c.receive_all.ensures.told (record b { due = tail }) first.1 (omega (arith, size one)) in
    let all = all_came tail c.receive_all.new.out came.1.0 came.1.1 (size one ∙ sym c.receive_all.auto.out) in
    (ap (λ (k : ℕ). Some k) same, came.1.2 ∙ ap (λ l. Some (record b { due = l })) all.1, λ _. all.0)

pub returns-else-receive_all-clause-told : goal.returns-else-receive_all-clause-told
returns-else-receive_all-clause-told g c = λ b kind tail e due size none.
    let first = c.in_ok-kind.ensures.told b kind tail e due in
    let one = sym (let h = first.0 in cc) ∙ c.if-kind-ne-DONE.false in
    absurd (let h = sym (c.receive_all.ensures.told (record b { due = tail }) first.1
    (omega (arith, size one))).0 ∙ c.if-receive_all.false in cc h)
