-- How a pack ends over a vault just opened.
use Rattle.hail_top.proofs.Words.{◌≡◌, ℕ, List, [], ap, sym, inl, inr, subst, ◌∙◌, option_map, synced, Record, Answer, Put, Got, Dropped, Audited, Repaired, Upgraded, Scrubbed, Packed, Lost, ProviderFault, DiskFault, Memory, pack_text, IsOpened, EndsByAnswer, status_of, Seen, Ending, KeepsDisk, IsSynced, sinking, PackAnswer, pack_answer, BeginFault, refusal_of, Devices, IsSeenBefore, PackEndsOver, IsPackRefused, ending_with, PacksOver, TellsPack, resynced}
use Rattle.std.proofs.Common.{Option}
use Rattle.command_defs.specs.Packs as packs
use Rattle.command_defs.specs.Packs.{AnswersPack}
use Rattle.hail_top.proofs.AnswerTexts.{fault-ends}
use Rattle.hail_top.proofs.JobEnds.{untouched}
use Rattle.hail_top.proofs.Refused.{refused-told}

-- how the command ends whose pack's answer was told
pack-ends : (answer : Answer) (old new : Seen) (end : Ending) →
    TellsPack answer end.status end.at (sinking old new) → EndsByAnswer (pack_text answer) answer old new end
pack-ends (Packed before after) old new end told = record { written = told.0; place = told.1 }
pack-ends Put old new end told = fault-ends Put (pack_text Put) old new end told.0 told.1
pack-ends (Got bytes) old new end told =
    fault-ends (Got bytes) (pack_text (Got bytes)) old new end told.0 told.1
pack-ends Dropped old new end told = fault-ends Dropped (pack_text Dropped) old new end told.0 told.1
pack-ends (Audited number undecided counts) old new end told = fault-ends (Audited number undecided counts)
    (pack_text (Audited number undecided counts)) old new end told.0 told.1
pack-ends (Repaired number) old new end told =
    fault-ends (Repaired number) (pack_text (Repaired number)) old new end told.0 told.1
pack-ends Upgraded old new end told = fault-ends Upgraded (pack_text Upgraded) old new end told.0 told.1
pack-ends (Scrubbed stripes symbols blocks) old new end told = fault-ends (Scrubbed stripes symbols blocks)
    (pack_text (Scrubbed stripes symbols blocks)) old new end told.0 told.1
pack-ends (Lost stripe row) old new end told =
    fault-ends (Lost stripe row) (pack_text (Lost stripe row)) old new end told.0 told.1
pack-ends (ProviderFault j) old new end told =
    fault-ends (ProviderFault j) (pack_text (ProviderFault j)) old new end told.0 told.1
pack-ends DiskFault old new end told = fault-ends DiskFault (pack_text DiskFault) old new end told.0 told.1
pack-ends Memory old new end told = fault-ends Memory (pack_text Memory) old new end told.0 told.1

-- the pack ran to its end, and that was told
pub pack-told : (records : List Record) (old new : Seen) (end : Ending) (answer : PackAnswer)
    (written : Option (List ℕ)) (count : ℕ) → (opened : IsOpened old records) → old.sink ≡ written →
    old.sink_faults ≡ count → PackEndsOver opened.area records answer old new →
    TellsPack (pack_answer answer) end.status end.at
    (record { old = written; new = new.sink; before = count; now = new.sink_faults }) →
    end.heard ≡ [] → PacksOver old new end
pack-told records old new end answer written count opened is_written is_count over told silent = record {
  answers = packs.ended records (pack_answer answer) opened over.unrefused silent over.runs over.left
      (pack-ends (pack_answer answer) old new end (subst (λ (k : ℕ). TellsPack (pack_answer answer) end.status
      end.at (record { old = old.sink; new = new.sink; before = k; now = new.sink_faults })) (sym is_count)
      (subst (λ (w : Option (List ℕ)). TellsPack (pack_answer answer) end.status end.at
      (record { old = w; new = new.sink; before = count; now = new.sink_faults })) (sym is_written) told)));
  counts = over.counts;
}

-- the pack was refused, and that was told
pub refused-pack : (records : List Record) (old new : Seen) (d : Devices) (end : Ending) (why : BeginFault) →
    (opened : IsOpened old records) → IsSeenBefore old d → d.holds ≡ option_map synced old.disk →
    IsPackRefused opened.area records why → end ≡ ending_with (status_of (refusal_of why)) 0 →
    new.disk ≡ d.holds → new.disk_faults ≡ d.faults → new.providers ≡ d.providers → new.sink ≡ old.sink →
    PacksOver old new end
refused-pack records old new d end why opened before was_synced over is disk faults providers silent = record {
  answers = by_cause over;
  counts = untouched old new d before faults providers;
}
  where
    synced_here : IsSynced old new
    synced_here = disk ∙ was_synced

    kept : KeepsDisk old new
    kept = resynced old.disk new.disk synced_here

    same_providers : new.providers ≡ old.providers
    same_providers = providers ∙ sym before.providers

    by_cause : IsPackRefused opened.area records why → AnswersPack old new end
    by_cause (inl memory) = packs.no_memory records opened synced_here
        (refused-told 70 0 old new end
        (is ∙ ap (λ (w : BeginFault). ending_with (status_of (refusal_of w)) 0) memory) kept
        same_providers silent (λ e. faults ∙ before.faults))
    by_cause (inr some) = packs.refused records (refusal_of why) opened some synced_here
        (refused-told (status_of (refusal_of why)) 0 old new end is kept same_providers silent (λ e. faults ∙ before.faults))
