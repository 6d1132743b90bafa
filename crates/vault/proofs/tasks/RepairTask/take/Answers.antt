use Rattle.vault.proofs.Words.{inl, inr, refl, sym, ap, ◌∙◌, List, Some, arith, position, slice_set, slice_get-get_or, Bench, is_sized}
use Rattle.vault.proofs.Kits.{one_placed, size_of, none_own}
use Rattle.vault.proofs.tasks.RepairTask.take.Goals as goal

pub index_mut-requires : goal.index_mut-requires
index_mut-requires c = omega (
  arith,
  (one_placed (is_sized c.args.size) c.args.self.now.others.items c.in-Some.place c.args.self.now.bench
      (sym (c.in-Some.ensures
      ∙ ap (λ (l : List Bench). position (is_sized c.args.size) l) c.deref.ensures.value))).0,
)

pub returns-in-Some-clause-taken : goal.returns-in-Some-clause-taken
returns-in-Some-clause-taken c =
    let others = c.args.self.now.others.items in
    let taken = c.index_mut.result.now in
    let at = sym (c.in-Some.ensures
    ∙ ap (λ l. position (is_sized c.args.size) l) c.deref.ensures.value) in
    record {
      swapped = inr (record {
        place = c.in-Some.place;
        there = slice_get-get_or others c.in-Some.place taken
            (one_placed (is_sized c.args.size) others c.in-Some.place taken at).0
            ∙ ap Some (sym c.index_mut.ensures.value)
            ∙ ap Some (sym c.swap.ensures.x_after);
        left_is = ap (λ b. slice_set others c.in-Some.place b) c.swap.ensures.y_after;
      });
      served = λ h. ap (λ b. b.keys.file.profile.size) (c.swap.ensures.x_after ∙ c.index_mut.ensures.value)
          ∙ size_of c.args.size others c.in-Some.place taken at;
    }

pub returns-in-None-clause-taken : goal.returns-in-None-clause-taken
returns-in-None-clause-taken c =
    record {
      swapped = inl (refl, refl);
      served = λ h. none_own c.args.size c.args.self.now.bench c.args.self.now.others.items
          (sym (c.in-None.ensures
          ∙ ap (λ (l : List Bench). position (is_sized c.args.size) l) c.deref.ensures.value)) h;
    }
