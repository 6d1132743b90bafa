use Rattle.journal_pack.proofs.Words.{ℕ, List, length, ◌∙◌, subst, option_map, on_ok_weaker, Goes, moved_on, MayBeTorn, to_of, moves_of}
use Rattle.journal_pack.proofs.pack.Pack.turn.Goals as goal

pub returns-clause-disk : goal.returns-clause-disk
returns-clause-disk g c =
    let p = c.args.self.now in
    let was = g.D.Disk.holds c.args.disk.now in
    let d = c.make_move.ensures.disk in
    record {
      does = on_ok_weaker c.make_move.result
          (λ is. is ∙ (λ i. option_map
          (moved_on (moves_of p) (to_of p) (c.as_slice-text.ensures.value i) 7 (c.switch_to-switch.ensures i)) was))
          d.does;
      torn = λ failed. subst (λ (l : List ℕ). Goes (MayBeTorn (moves_of p) (to_of p) (length l) 7) was
          (g.D.Disk.holds c.make_move.new.disk)) c.as_slice-text.ensures.value (d.torn failed);
      memory = d.memory;
      writes = d.writes;
    }
