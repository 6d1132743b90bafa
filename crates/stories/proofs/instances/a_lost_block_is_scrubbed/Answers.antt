use Rattle.stories.proofs.Words.{◌≡◌, List, [], ◌∷◌, ◌++◌, String, None, Global, refl, inl, arith, digits, Scrubbed, done_by, ByScrubs, Ended, Once, RunJob, named, byte, IsReplayForm, opening, before_text, first_state, IsToldReplay, damaged2, damaged0, lost2, lost0, put_lost, put_lost_outcomes, symbols_off, blocks_off, swept_text, swept_commands, swept_outcomes, behind_swept, swept_end, three_given}
use Rattle.machine_defs.specs.Events.{BeginScrub, Replaced}
use Rattle.stories.specs.Words.{Got, Opened, Begin, Begun, GetJob}
use Rattle.stories.proofs.SweptReplay.{spelled, swept-replayed}
use Rattle.stories.proofs.ToldBy.{tells, told-by, ones-few}
use Rattle.stories.proofs.instances.a_lost_block_is_scrubbed.Goals as goal

told : (words : List (String Global)) → IsReplayForm words →
    IsToldReplay words swept_text swept_commands swept_outcomes first_state [] (before_text swept_text) behind_swept
    swept_end
unfolding digits
told = told-by swept_text swept_commands swept_outcomes behind_swept (three_given 3) swept-replayed (assumption) spelled
    refl refl refl
    (tt, (omega arith, (tt, (omega arith, (omega arith, (tt, (tt, (omega arith, (tt, tt)))))))))

epochs : ByScrubs (damaged0 ∷ damaged2 ∷ []) swept_commands swept_outcomes
epochs = ByScrubs.swept damaged0 (damaged2 ∷ []) (RunJob 3 ∷ Once (Begin (GetJob named)) ∷ lost0) put_lost
    (Ended (Got byte) ∷ Begun 3 ∷ Replaced ∷ []) put_lost_outcomes 2 1 symbols_off blocks_off refl
    (tt, (inl refl, tt)) (ByScrubs.first damaged2 put_lost put_lost_outcomes (inl refl, (tt, (tt, tt))))

pub returns : goal.returns
returns c = record {
  told = told;
  asks = (((λ on. on), tt), ((λ on. on), tt), (inl refl, (tt, (tt, tt))), (inl refl, tt));
  epochs = epochs;
  whole = λ words form.
      (let K = c.scrubbed_files_are_got.ensures words swept_text opening lost2 lost0 (Opened ∷ []) (Replaced ∷ [])
      (Replaced ∷ []) named byte None 1 2 3 1 symbols_off blocks_off damaged2 damaged0 (Got byte) first_state []
      (before_text swept_text) behind_swept swept_end (told words form) refl refl tt (inl tt) ((λ on. on), tt)
      ((λ on. on), tt) tells tt (inl refl, (tt, (tt, tt))) (inl refl, tt) in
      let W = K.1 (ones-few 2 0 K.0.ms K.0.left.run) in (K.0, W.0, W.1));
  row = λ words form. c.files_behind_scrubs_are_got.ensures words swept_text opening
      (lost0 ++ done_by BeginScrub 2 lost2) (Opened ∷ [])
      (Replaced ∷ Ended (Scrubbed 1 symbols_off blocks_off) ∷ Begun 2 ∷ Replaced ∷ []) named byte None 1 3
      (damaged0 ∷ damaged2 ∷ []) (Got byte) first_state [] (before_text swept_text) behind_swept swept_end
      (told words form) refl tt (inl tt) ((λ on. on), ((λ on. on), ((λ on. on), tt))) tells tt epochs;
  every = λ words form. c.every_get_behind_scrubs_ends_well.ensures words swept_text
      (lost0 ++ done_by BeginScrub 2 put_lost) [] [] (Replaced ∷ Ended (Scrubbed 1 symbols_off blocks_off) ∷ Begun 2
      ∷ put_lost_outcomes) [] [] named 3 (damaged0 ∷ damaged2 ∷ []) (Got byte) first_state [] (before_text swept_text)
      behind_swept swept_end (told words form) refl refl tt tt tells tt epochs;
}
