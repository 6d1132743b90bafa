use Rattle.command_runs.proofs.Words.{[], ◌∷◌, subst, append-nil, IsRun, now, IsStore, byte_upgraded_records, upgraded_kept, got_packed, pack_call, get_packed}
use Rattle.command_runs.proofs.Alone.{chained}
use Rattle.command_runs.proofs.Stores.{upgraded_kept-sure}
use Rattle.command_runs.proofs.packs.commands_go_on_after_a_pack.Goals as goal

pub returns : goal.returns
returns c filling fills =
    (let w = c.commands_are_runs.ensures.known upgraded_kept byte_upgraded_records upgraded_kept-sure in
    let g = c.commands_are_runs.ensures.chain w.0 [] upgraded_kept
    (get_packed filling ∷ pack_call filling ∷ []) tt w.1 (chained filling fills) in (
      w.0,
      g.0,
      g.1,
      subst (λ ms. IsRun 8 w.0 ms) (append-nil g.0) g.2,
      subst (λ ms. IsStore (now w.0 ms) (got_packed filling)) (append-nil g.0) g.3,
    ))
