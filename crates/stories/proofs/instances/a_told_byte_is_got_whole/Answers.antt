use Rattle.stories.proofs.Words.{◌≡◌, List, [], ◌∷◌, String, None, Global, refl, inl, inr, arith, false≢true, digits, named, byte, byte_heard, IsReplayForm, opening, byte_text, byte_commands, byte_outcomes, before_byte, behind_byte, byte_end, first_state, IsToldReplay}
use Rattle.stories.specs.Words.{Got, Opened}
use Rattle.stories.proofs.ByteReplay.{spelled, byte-replayed}
use Rattle.stories.proofs.ToldBy.{told-by}
use Rattle.stories.proofs.instances.a_told_byte_is_got_whole.Goals as goal

-- the text in the source and the lines behind it tell the replay
told : (words : List (String Global)) → IsReplayForm words →
    IsToldReplay words byte_text byte_commands byte_outcomes first_state [] before_byte behind_byte byte_end
unfolding digits
told = told-by byte_text byte_commands byte_outcomes behind_byte byte_heard byte-replayed (assumption) spelled refl refl
    refl (tt, (omega arith, (tt, (omega arith, (tt, tt)))))

-- nothing else is asked for on the name, and nobody is named for damage
pub returns : goal.returns
returns c = (let B = c.a_byte_is_put_and_got.ensures in record {
  told = told;
  over = (inr (inr (2, inl refl, refl, inr (inl ((λ on. false≢true on), inl tt)))), inl tt);
  whole = λ words form.
      (let K = c.kept_files_are_got.ensures words byte_text opening [] (Opened ∷ []) [] named byte None 1 2 []
      (Got byte) first_state [] before_byte behind_byte byte_end (told words form) refl tt (inl tt) B.asks.1 B.calm.0 tt B.calm.2 in
      (K.0, K.1 (omega arith, tt)));
  every = λ words form. c.every_get_ends_well.ensures words byte_text _ [] [] _ [] [] named 2 [] (Got byte)
      first_state [] before_byte behind_byte byte_end (told words form) refl
      refl tt tt B.calm.0 tt (tt, B.calm.2);
})
