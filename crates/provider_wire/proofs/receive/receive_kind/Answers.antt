use Rattle.std.proofs.Common.{ℕ, ap, ◌∙◌, arith, Some, length}
use Rattle.provider_wire.proofs.Received.{first_byte}
use Rattle.provider_wire.proofs.receive.receive_kind.Goals as goal

pub returns-then-receive_all-clause-told : goal.returns-then-receive_all-clause-told
returns-then-receive_all-clause-told g c = λ b kind tail e due.
    let came = c.receive_all.ensures.told b e (omega (arith, ap length due)) in
    let split = first_byte b.due c.receive_all.new.out tail came.1.0 kind due came.1.1
    c.receive_all.auto.out in
    (ap (λ (k : ℕ). Some k) split.0, came.1.2 ∙ ap (λ l. Some (record b { due = l })) split.1)
