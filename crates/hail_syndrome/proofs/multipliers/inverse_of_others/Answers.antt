use Rattle.hail_syndrome.proofs.Words.{◌≡◌, sym, ◌∙◌, arith, common_steps, others_product-not_zero}
use Rattle.hail_syndrome.proofs.multipliers.inverse_of_others.Goals as goal

pub unwrap-requires : goal.unwrap-requires
unwrap-requires c =
    let no : c.others_product.result ≡ 0 →
    ⊥ = λ e. others_product-not_zero c.args.x c.args.points.now (sym c.others_product.ensures ∙ e) in
    grind (arith, common_steps, no, c.inv.ensures.zero)
