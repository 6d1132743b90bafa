use Rattle.command_runs.proofs.Words.{None, refl, ap, false, inl, inr, is_some, unwrap_or, option_map, true≢false, PutUnder, IsRefused, provider_at, GivesUpPut, ends, named, four_records, long, to_put_source, put_given_up}
use Rattle.command_runs.proofs.GivenUpPut.{by-words, old-sure}
use Rattle.command_runs.proofs.given_up.a_given_up_put_leaves_a_known_store.Goals as goal

-- it was not refused: its first provider holds the first block of the put
unrefused : IsRefused 14 0 (to_put_source long) put_given_up (ends 14) → ⊥
unrefused r = true≢false (ap (λ ps. unwrap_or (option_map (λ held. is_some (held 1 0))
    (provider_at ps 0).held) false) r.providers)

pub returns : goal.returns
returns c = let answers = c.a_put_is_given_up.ensures.answers in record {
  left = elim (c.cut_sources_leave.ensures.source_fault (PutUnder named) (to_put_source long) put_given_up
      (ends 14) answers refl) [
        | inl r ↦ absurd (unrefused r)
        | inr (name, own, is, g) ↦ by-words (λ name own. GivesUpPut name own (to_put_source long) put_given_up
            (ends 14)) named name own is g
      ];
  known = elim (c.done_commands_leave_known_stores.ensures.cut_put named None four_records
      (to_put_source long) put_given_up (ends 14) answers refl (old-sure long).known) [
        | inl r ↦ absurd (unrefused r)
        | inr s ↦ s
      ];
  cause = c.faults_have_causes.ensures.store (PutUnder named) (to_put_source long) put_given_up (ends 14)
      answers refl;
}
