-- How a scrub ends over a vault just opened.
use Rattle.hail_top.proofs.Words.{◌≡◌, ℕ, List, [], sym, subst, ◌∙◌, Record, Answer, Put, Got, Dropped, Audited, Repaired, Upgraded, Scrubbed, Packed, Lost, ProviderFault, DiskFault, Memory, scrub_text, setup_in_effect, IsOpened, EndsByAnswer, Seen, Ending, IsSynced, sinking, Devices, IsSeenBefore, ending_with, ScrubsOver, TellsScrub, resynced}
use Rattle.std.proofs.Common.{Option}
use Rattle.command_defs.specs.Scrubs as scrubs
use Rattle.hail_scrub.specs.declared.turn.ScrubAnswer.{ScrubAnswer}
use Rattle.hail_scrub.specs.Stands.{scrub_answer}
use Rattle.command_jobs.specs.Scrubs.{ScrubEndsOver}
use Rattle.hail_top.proofs.AnswerTexts.{fault-ends}
use Rattle.hail_top.proofs.JobEnds.{untouched}
use Rattle.hail_top.proofs.Refused.{refused-told}

-- how the command ends whose scrub's answer was told
scrub-ends : (answer : Answer) (old new : Seen) (end : Ending) →
    TellsScrub answer end.status end.at (sinking old new) →
    EndsByAnswer (scrub_text answer) answer old new end
scrub-ends (Scrubbed stripes symbols blocks) old new end told = record { written = told.0; place = told.1 }
scrub-ends Put old new end told = fault-ends Put (scrub_text Put) old new end told.0 told.1
scrub-ends (Got bytes) old new end told =
    fault-ends (Got bytes) (scrub_text (Got bytes)) old new end told.0 told.1
scrub-ends Dropped old new end told = fault-ends Dropped (scrub_text Dropped) old new end told.0 told.1
scrub-ends (Audited number undecided counts) old new end told = fault-ends (Audited number undecided counts)
    (scrub_text (Audited number undecided counts)) old new end told.0 told.1
scrub-ends (Repaired number) old new end told =
    fault-ends (Repaired number) (scrub_text (Repaired number)) old new end told.0 told.1
scrub-ends Upgraded old new end told = fault-ends Upgraded (scrub_text Upgraded) old new end told.0 told.1
scrub-ends (Packed before after) old new end told =
    fault-ends (Packed before after) (scrub_text (Packed before after)) old new end told.0 told.1
scrub-ends (Lost stripe row) old new end told =
    fault-ends (Lost stripe row) (scrub_text (Lost stripe row)) old new end told.0 told.1
scrub-ends (ProviderFault j) old new end told =
    fault-ends (ProviderFault j) (scrub_text (ProviderFault j)) old new end told.0 told.1
scrub-ends DiskFault old new end told = fault-ends DiskFault (scrub_text DiskFault) old new end told.0 told.1
scrub-ends Memory old new end told = fault-ends Memory (scrub_text Memory) old new end told.0 told.1

-- the scrub ran to its end, and that was told
pub scrub-told : (records : List Record) (old new : Seen) (end : Ending) (answer : ScrubAnswer) (n : ℕ)
    (written : Option (List ℕ)) (count : ℕ) → (opened : IsOpened old records) → IsSynced old new →
    old.sink ≡ written → old.sink_faults ≡ count → n ≡ (setup_in_effect records).n →
    ScrubEndsOver opened.area records answer old new →
    TellsScrub (scrub_answer n answer) end.status end.at
    (record { old = written; new = new.sink; before = count; now = new.sink_faults }) →
    end.heard ≡ [] → ScrubsOver old new end
scrub-told records old new end answer n written count opened synced_here is_written is_count as_many over told silent =
    record {
      answers = scrubs.ended records (scrub_answer (setup_in_effect records).n answer) opened synced_here silent
          over.runs over.left
          (scrub-ends (scrub_answer (setup_in_effect records).n answer) old new end told_here);
      counts = over.counts;
    }
  where
    told_here : TellsScrub (scrub_answer (setup_in_effect records).n answer) end.status end.at (sinking old new)
    told_here = subst (λ (k : ℕ). TellsScrub (scrub_answer k answer) end.status end.at (sinking old new))
        as_many (subst (λ (k : ℕ). TellsScrub (scrub_answer n answer) end.status end.at
        (record { old = old.sink; new = new.sink; before = k; now = new.sink_faults })) (sym is_count)
        (subst (λ (w : Option (List ℕ)). TellsScrub (scrub_answer n answer) end.status end.at
        (record { old = w; new = new.sink; before = count; now = new.sink_faults })) (sym is_written) told))

-- there was no memory for a scrub
pub no-scrub : (records : List Record) (old new : Seen) (d : Devices) (end : Ending) → IsOpened old records →
    IsSeenBefore old d → IsSynced old new → end ≡ ending_with 70 0 → new.disk_faults ≡ d.faults →
    new.providers ≡ d.providers → new.sink ≡ old.sink → ScrubsOver old new end
no-scrub records old new d end opened before synced_here is faults providers silent = record {
  answers = scrubs.no_memory records opened synced_here
      (refused-told 70 0 old new end is (resynced old.disk new.disk synced_here)
      (providers ∙ sym before.providers) silent (λ e. faults ∙ before.faults));
  counts = untouched old new d before faults providers;
}
