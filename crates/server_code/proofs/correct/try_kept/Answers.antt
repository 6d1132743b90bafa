use Rattle.server_code.proofs.Words.{◌≡◌, ◌≤◌, ◌∙◌, arith, differences, plain_profile}
use Rattle.server_code.proofs.Nearness.{codeword_opens, on_some}
use Rattle.server_code.proofs.correct.try_kept.Goals as goal

pub returns-clause-opened : goal.returns-clause-opened
returns-clause-opened c =
    let p = c.args.tables.now.profile in
    on_some c.take_over.result (λ count. count ≡ differences c.args.block.now c.encode.new.out)
    (λ count. count ≤ p.fix)
    (λ taken count changed near. codeword_opens (plain_profile p) c.args.block.now c.take_over.new.block
    c.args.kept.now c.requires.block c.requires.kept
    (taken ∙ c.encode.ensures) (rw taken (omega (arith, changed, near))))
    c.take_over.ensures.taken c.take_over.ensures.changed c.take_over.ensures.near
