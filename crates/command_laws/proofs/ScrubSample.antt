-- A scrub of the store with one empty file, from every state that was just opened: its end alone.
use Rattle.command_laws.proofs.Words.{refl, inl, A, unalone, Answer, Scrubbed, setup_in, Answers, ScrubAll, ScrubsAlone, AnswersScrub, store, held_records, no_counts, scrubbed_store, ends, scrubs-so, []}
use Rattle.scrub_laws.proofs.Telling.{scrubbed-alone}
use Rattle.command_laws.proofs.JobSamples.{no_bytes, no_bytes-is}
use Rattle.command_laws.proofs.SureStores.{stands_for}
use Rattle.command_laws.proofs.Samples.{held-fit, held-sure, same-disk}

-- nothing differs
abbrev none_off : Answer
none_off = Scrubbed 0 no_counts no_counts

scrubs-alone : ScrubsAlone A held_records none_off (store held_records) scrubbed_store
unfolding setup_in
scrubs-alone = scrubs-so A held_records no_bytes none_off (store held_records) scrubbed_store [] unalone refl
    refl (λ w V. no_bytes-is w V) (stands_for held-fit) (λ w n. (tt, (refl, refl, refl, refl), refl))

-- a scrub of the store with the file is done, and nothing differs
pub scrub : Answers ScrubAll (store held_records) scrubbed_store (ends 0)
scrub = (
  AnswersScrub.ended held_records none_off held-sure.known.opened (same-disk held_records) refl scrubs-alone
      (scrubbed-alone held_records none_off (store held_records) scrubbed_store held-sure.known.opened refl
      scrubs-alone) (record { written = inl (refl, refl); place = refl }),
  (refl, refl),
)
