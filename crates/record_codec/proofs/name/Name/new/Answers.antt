use Rattle.record_codec.proofs.Words.{◌≡◌, true, refl, rules, is_name}
use Rattle.record_defs.proofs.Sizes.{is_name-short}
use Rattle.record_codec.proofs.NameLemmas.{IsKept-made}
use Rattle.record_codec.proofs.name.Name.new.Goals as goal

pub invariant_of-result : goal.invariant_of-result
invariant_of-result c =
    let good : is_name c.args.bytes.now ≡ true = search rules in
    IsKept-made c.args.bytes.now _ _ c.copy_front.ensures refl (is_name-short c.args.bytes.now good) good
