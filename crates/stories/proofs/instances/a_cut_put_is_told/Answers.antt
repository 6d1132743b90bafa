use Rattle.stories.proofs.Words.{ℕ, List, [], ◌∷◌, ◌++◌, None, refl, inl, inr, Dropped, Listed, Names, DropJob, Touches, AreOverFor, done_by, ByScrubs, Ended, Once, named, byte, opening, before_text, first_state, other_byte, third, second_file, put_cut, put_cut_outcomes, got_cut, got_cut_outcomes, dropped_behind, dropped_outcomes, listed_text, listed_commands, listed_outcomes, behind_listed, listed_end}
use Rattle.stories.specs.Words.{Got, Opened, Put, Begin, Begun}
use Rattle.stories.specs.Files.{put_of}
use Rattle.stories.specs.Replays.{second}
use Rattle.stories.proofs.ListedReplay.{told, only-other, not-second, not-named, no-third}
use Rattle.stories.proofs.ToldBy.{tells}
use Rattle.stories.proofs.instances.a_cut_put_is_told.Goals as goal

-- the first get is over, and before it the store was opened again
over : (name ran : List ℕ) → AreOverFor (Touches name) ran got_cut got_cut_outcomes
over name ran = inr (inl ((λ on. on), inl tt))

pub returns : goal.returns
returns c = (let L = c.lists_tell_what_stands.ensures in record {
  told = told;
  asks = (only-other, over named [], over second [], no-third);
  gave = λ words form. c.gets_give_old_or_new.ensures words listed_text opening [] put_cut []
      (Once Names ∷ done_by (Begin (DropJob named)) 5 (put_of [] second other_byte None 4)) (Opened ∷ []) []
      put_cut_outcomes [] (Listed (second_file ∷ []) ∷ Ended Dropped ∷ Begun 5 ∷ Ended Put ∷ Begun 4 ∷ []) named byte
      other_byte None 1 3 [] (Got byte) first_state [] (before_text listed_text) behind_listed listed_end
      (told words form) refl refl refl refl tt tt tt (inl tt) tt only-other tells tt
      (tt, (tt, (tt, (tt, (tt, (tt, (tt, (tt, (tt, (tt, tt))))))))));
  epochs = ByScrubs.first [] listed_commands listed_outcomes (tt, (tt, (tt, (tt, (tt, (tt, (tt, (tt, (tt, (tt, tt))))))))));
  listed = λ words form. (
    L.every words listed_text dropped_behind [] dropped_outcomes [] (second_file ∷ []) first_state []
        (before_text listed_text) behind_listed listed_end (told words form) refl,
    L.put words listed_text got_cut (done_by (Begin (DropJob named)) 5 []) [] got_cut_outcomes
        (Ended Dropped ∷ Begun 5 ∷ []) [] (second_file ∷ []) second other_byte None 4 first_state [] (before_text listed_text)
        behind_listed listed_end (told words form) refl refl (over second []) (not-second, tt),
    L.drop words listed_text (put_of got_cut second other_byte None 4) [] [] (Ended Put ∷ Begun 4 ∷ got_cut_outcomes) [] []
        (second_file ∷ []) named 5 first_state [] (before_text listed_text) behind_listed listed_end
        (told words form) refl refl (inr (inl (not-named, over named (4 ∷ [])))) tt,
    L.none words listed_text dropped_behind [] dropped_outcomes [] (second_file ∷ []) third first_state []
        (before_text listed_text) behind_listed listed_end (told words form) refl no-third tt,
  );
})
