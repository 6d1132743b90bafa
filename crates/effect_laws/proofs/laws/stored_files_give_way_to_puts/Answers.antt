use Rattle.std.proofs.Common.{inl, inr}
use Rattle.effect_laws.proofs.Since.{whose, there, put_only}
use Rattle.effect_laws.proofs.laws.stored_files_give_way_to_puts.Goals as goal

pub returns : goal.returns
returns c = record {
  whose = λ limit start later ms name bytes file fits clean run stored stands.
      whose limit start later ms name bytes fits clean run stored file stands;
  only = λ limit start later ms name bytes new file fits clean run stored only stands.
      elim (whose limit start later ms name bytes fits clean run stored file stands)
      [ inl old ↦ inl old | inr put ↦ inr (put_only name new _ later only put) ];
  there = there;
}
