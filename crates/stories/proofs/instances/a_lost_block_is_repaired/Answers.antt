use Rattle.stories.proofs.Words.{◌≡◌, true, [], ◌∷◌, None, refl, sym, subst, inl, inr, false≢true, is_flagged, counts, named, byte, opening, before_text, first_state, damaged2, damaged0, lost2, lost0, mended_text, behind_mended, mended_end}
use Rattle.record_defs.specs.Records.{Setup}
use Rattle.machine_defs.specs.Events.{Replaced}
use Rattle.stories.specs.Words.{Got, Opened}
use Rattle.stories.proofs.MendedReplay.{told, flags}
use Rattle.stories.proofs.ToldBy.{tells, same-setup, ones-few}
use Rattle.stories.proofs.instances.a_lost_block_is_repaired.Goals as goal

pub returns : goal.returns
returns c = record {
  told = told;
  asks = (
    ((λ on. on), tt),
    ((λ on. on), tt),
    (tt, (inl refl, (tt, (tt, tt)))),
    inr (inl ((λ on. false≢true on), inr (inl ((λ on. on), inr (inl ((λ on. false≢true on), inl tt)))))),
  );
  whole = λ words form. (let K = c.repaired_files_are_got.ensures words mended_text opening lost2 [] lost0
      (Opened ∷ []) (Replaced ∷ []) [] (Replaced ∷ []) named byte None 1 2 3 4 1 0 counts damaged2 damaged0
      (Got byte) first_state [] (before_text mended_text) behind_mended mended_end (told words form) refl refl
      refl tt (inl tt) ((λ on. on), tt) tt ((λ on. on), tt) tt ((λ on. on), tt) ((λ on. on), tt) tt
      (inr (inl ((λ on. false≢true on), inr (inl ((λ on. on), inr (inl ((λ on. false≢true on), inl tt)))))))
      tells tt (tt, (inl refl, (tt, (tt, tt)))) tt (inl refl, tt) in
      let W = K.1 (ones-few 2 0 K.0.ms K.0.left.run)
      (λ j among. subst (λ (s : Setup). is_flagged s.tolerance counts j ≡ true)
      (sym (same-setup K.0.ms K.0.left.run)) (flags j among)) in
      (K.0, W.0, W.1));
}
