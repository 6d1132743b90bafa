use Rattle.server_code.proofs.Words.{◌≡◌, ◌∙◌, ap, sym, arith, nim_mul, value, vanish, upto}
use Rattle.std.proofs.lemmas.Grind.{common_steps}
use Rattle.server_code.proofs.BehindSteps.{gaps_some, share_is}
use Rattle.server_code.proofs.behind.share.Goals as goal

pub unwrap-requires : goal.unwrap-requires
unwrap-requires c =
    let no : c.product_of_gaps-product.result ≡ 0 →
    ⊥ = λ e. gaps_some c.args.keep c.args.x c.requires.behind (sym c.product_of_gaps-product.ensures ∙ e) in
    grind (arith, common_steps, no, c.inv.ensures.zero)

pub returns : goal.returns
returns c = ap (λ t. nim_mul t (value (vanish (upto c.args.keep)) c.args.x)) c.mul.ensures ∙
    share_is c.args.difference (value (vanish (upto c.args.keep)) c.args.x) c.unwrap.result
    c.product_of_gaps-product.result c.product_of_gaps-product.ensures
    (rw c.unwrap.ensures at c.inv.ensures.product)
