use Rattle.std.proofs.Common.{[], refl, inl, inr}
use Rattle.record_defs.specs.Areas.{B}
use Rattle.journal_core.proofs.laws.named_area_is_bad.Goals as goal

pub returns : goal.returns
returns c = inr (record {
  area = B;
  active = record { switch = 50; front = refl; names = refl };
  fails = inl (record { records = []; in_grammar = refl; bytes_are = refl; place = refl });
})
