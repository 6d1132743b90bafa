use Rattle.vault.proofs.Words.{◌≡◌, ◌-◌, suc, ap, subst, ◌∙◌, ◌∷◌, drop, arith, Kept, file_of_entry, AreServed}
use Rattle.vault.proofs.Kits.{all_served_more, one_served_more}
use Rattle.vault.proofs.desk.Desk.others_for.Goals as goal

pub loop-place-preserved : goal.loop-place-preserved
loop-place-preserved c =
    let files = c.args.self.now.core.table.files in
    let at = c.loop-place.place - 1 in
    let old = c.args.own.now ∷ c.loop-place.others.items in
    let new = c.args.own.now ∷ c.serve.new.others.items in
    let next : c.loop-place.place ≡ suc (c.loop-place.place - 1) = omega arith in
    record {
      within = omega arith;
      of_desk = c.in_ok-serve-in-Some.ensures.of_desk c.loop-place.invariant.of_desk;
      served = one_served_more files at (file_of_entry c.in-Some.file) new
          (c.in-Some.ensures ∙ ap (λ (t : Kept). Rattle.std.specs.Prelude.slice_get t.files at)
          c.table-in-loop-place.ensures) c.in_ok-serve-in-Some.ensures.served
          (all_served_more (drop (suc at) files) old new (λ p h. c.in_ok-serve-in-Some.ensures.stay p h)
          (subst (λ k. AreServed (drop k files) old) next c.loop-place.invariant.served));
    }
