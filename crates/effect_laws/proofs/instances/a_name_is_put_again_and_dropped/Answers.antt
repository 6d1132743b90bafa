use Rattle.effect_laws.proofs.Words.{refl, inl, inr, arith, set_up, name, byte}
use Rattle.effect_laws.proofs.PutAgain.{starts, run, lines, none-calls, all-told, reads, is-again, is-dropped, none-other}
use Rattle.effect_laws.proofs.instances.a_name_is_put_again_and_dropped.Goals as goal

pub returns : goal.returns
returns c = record {
  run = (starts, run);
  lines = (none-calls, lines, all-told);
  reads = reads;
  over = (
    inr (inl (
      (λ on. on),
      inr (inr (
        3,
        inl refl,
        refl,
        inr (inl ((λ on. on), inr (inr (2, inl refl, refl, inr (inr (1, inl refl, refl, inl tt)))))),
      )),
    )),
    refl,
  );
  again = (let F = (c.stored_files_give_way_to_puts.ensures.there 8 set_up is-again.later is-again.older name
      byte (omega arith, omega arith) starts is-again.run is-again.stored is-again.drops).in_effect in
      (is-again, F.0, inl F.1));
  tested = (refl, refl, refl, refl);
  dropped = (is-dropped, none-other);
}
