use Rattle.std.proofs.Common.{rules, refl}
use Rattle.hail_poly.proofs.Decoding.{loaded}
use Rattle.code_rows.proofs.poly.run_euclid.Goals as goal

pub euclid-requires : goal.euclid-requires
euclid-requires c = loaded _ _ refl (search rules) c.load.new.self _ c.load.ensures
