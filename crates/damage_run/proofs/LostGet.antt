-- After the run a second block is lost, and a get over what is left is lost: two of four blocks are absent,
-- where one may be wrong.
use Rattle.std.proofs.Common.{ℕ, ◌≤◌, List, [], ◌∷◌, Option, Some, None, refl, arith}
use Rattle.algebra_laws.specs.Poly.{agree as agree_over, is_seen as is_seen_over}
use Rattle.damage_run.specs.Words.{LosesRow, GetJob, actions_of, Begin, Lose, Replaced, setup_in, set_up, Came, LosesOne, Instruction, Turns, Begins, Comes, AreFit, agree}
use Rattle.damage_run.specs.Schedule.{name}
use Rattle.damage_run.proofs.Values.{thing, shown, all_open}
use Rattle.damage_run.proofs.Run.{◌and◌, sizes, lose, got_again, fit, block}

-- two places of four agree at most
module _ (p : List ℕ) (a b c d : ℕ) (s t : Option ℕ) where
  -- of four places of which the first two are absent a polynomial agrees with at most two
  pub at_most_two : agree p (a ∷ b ∷ c ∷ d ∷ []) (None ∷ None ∷ s ∷ t ∷ []) ≤ 2
  unfolding agree_over is_seen_over
  at_most_two = grind arith

-- with the first two blocks absent row 0 is lost
pub loses_row : LosesRow thing 0 (None ∷ None ∷ Some (block 2) ∷ Some (block 3) ∷ []) 0
loses_row = record {
  opened = None ∷ None ∷ shown 2 ∷ shown 3 ∷ [];
  opens = assumption all_open;
  place = 0;
  kept = omega arith;
  number = refl;
  lost = λ p h. omega (arith, at_most_two, h.agrees);
  lowest = λ before l. absurd (omega (arith, l));
}

-- the run, a second loss, and a get
abbrev pub lost : List Instruction
lost = Turns 6 (LosesOne 0 0 ∷ Came (Some (block 3)) ∷ Came (Some (block 2)) ∷ Came None ∷ Came None ∷ [])
    ∷ Begins (Begin (GetJob name)) ∷ Comes (Lose 1 1 0) Replaced (lose 1) ∷ got_again

pub fit_lost : AreFit 8 set_up lost
unfolding setup_in actions_of
fit_lost = (omega arith, ((refl, (refl, (refl, loses_row))), assumption sizes)) and (assumption)
    and (omega arith, (_, ((λ x. refl, λ x. refl), refl), refl)) and fit
