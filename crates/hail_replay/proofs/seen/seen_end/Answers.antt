use Rattle.std.proofs.Common.{List, ℕ, refl, ap, ◌∙◌}
use Rattle.std.specs.Str.{bytes_eq}
use Rattle.hail_replay.proofs.seen.seen_end.Goals as goal

pub flagged_of-requires : goal.flagged_of-requires
flagged_of-requires c = c.counts_in_use.ensures.most

pub returns-in-Got : goal.returns-in-Got
returns-in-Got c =
    let flags = c.nothing-nothing.ensures.flags in
    rw c.in-Got.is (record {
      got = refl;
      right = c.eq-right.ensures
          ∙ ap (λ (bytes : List ℕ). bytes_eq bytes c.args.expected.now) c.as_slice.ensures;
      audited = flags.2;
      flagged = c.nothing-nothing.ensures.flagged;
      repaired = flags.3;
      stopped = flags.4;
    })
