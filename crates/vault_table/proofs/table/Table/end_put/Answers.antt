use Rattle.vault_table.proofs.Words.{arith, ap, sym, ◌∙◌, Kept, file_of_entry, started_at, Starts}
use Rattle.std.proofs.Common.{◌-◌, None, length, map}
use Rattle.std.proofs.lemmas.List.{length-set}
use Rattle.vault_table.proofs.Taken.{put-in_order}
use Rattle.vault_table.proofs.Fold.{at-kept}
use Rattle.vault_table.proofs.table.Table.end_put.Goals as goal

pub end-requires : goal.end-requires
end-requires c =
    let found = ap (λ (t : Kept). started_at t c.args.id) c.self.view_is
    ∙ (sym c.started_name.ensures ∙ c.in-Some.is) in
    (at-kept c.self.inside.passed c.self.inside.started.names c.args.id c.in-Some.name found).1

pub invariant_of-self-in-Some : goal.invariant_of-self-in-Some
invariant_of-self-in-Some c =
    let size = ap (λ (s : Starts). length s.names) c.end.ensures
    ∙ length-set c.self.inside.started.names (c.args.id - c.self.inside.passed - 1) None in
    record {
      ordered = put-in_order (map file_of_entry c.self.inside.files.items) _
          (record { name = c.in-Some.name; id = c.args.id; size = c.args.size; profile = c.args.profile })
          c.put_file.result c.self.invariant.ordered c.put_file.ensures.files;
      room = c.put_file.ensures.room;
      below = omega (arith, size, c.self.invariant.below);
      padded = c.self.invariant.padded;
    }
