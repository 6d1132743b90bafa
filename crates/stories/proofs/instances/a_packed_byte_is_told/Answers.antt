use Rattle.stories.proofs.Words.{◌≡◌, ℕ, List, [], ◌∷◌, String, None, Global, refl, inl, arith, digits, filling-of, named, byte, IsFilling, IsReplayForm, opening, before_text, first_state, IsToldReplay, packed_text, packed_commands, packed_outcomes, behind_packed, packed_end, four_given}
use Rattle.stories.specs.Words.{Got, Opened}
use Rattle.stories.proofs.PackedReplay.{spelled, packed-replayed}
use Rattle.stories.proofs.ToldBy.{tells, told-by}
use Rattle.stories.proofs.instances.a_packed_byte_is_told.Goals as goal

told : (words : List (String Global)) (filling : List ℕ) → IsReplayForm words → IsFilling filling →
    IsToldReplay words packed_text packed_commands packed_outcomes first_state [] (before_text packed_text)
    (behind_packed filling) packed_end
unfolding digits
told words filling form fills = told-by packed_text packed_commands packed_outcomes (behind_packed filling) (four_given 4)
    (packed-replayed filling fills) (assumption) spelled refl refl refl
    (tt, (omega arith, (omega arith, (omega arith, (tt, (omega arith, (tt, (omega arith, (tt, tt))))))))) words form

pub returns : goal.returns
returns c = record {
  told = told;
  whole = λ words filling form fills.
      (let K = c.packed_files_are_got.ensures words packed_text opening [] [] [] (Opened ∷ []) [] [] [] named byte None 1
      2 3 4 80 81 [] (Got byte) first_state [] (before_text packed_text) (behind_packed filling) packed_end
      (told words filling form fills) refl refl refl tt (inl tt) tt tt tt tells tt tt tt (tt, (tt, tt)) in
      (K.0, K.1 (omega arith, tt)));
  there_is_one = filling-of _;
}
