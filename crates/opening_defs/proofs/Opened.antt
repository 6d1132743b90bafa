-- Over each list of accepted records, in either area, there is a state whose vault was just opened.
use Rattle.std.proofs.Common.{◌≡◌, ◌≢◌, ℕ, ◌<◌, ◌≤◌, true, false, List, [], length, replicate, None, Some, ap, refl, sym, inl, inr, ◌∙◌}
use Rattle.std.specs.Prelude.{is_some, slice_get, IsTrue}
use Rattle.std.specs.List.{list_all}
use Rattle.std.proofs.lemmas.Bool.{cases_Bool, false≢true}
use Rattle.std.proofs.lemmas.List.{length-replicate}
use Rattle.device_defs.specs.Providers.{Provider}
use Rattle.record_defs.specs.Records.{Record, is_in_grammar, largest_journal}
use Rattle.record_defs.specs.Table.{setup_of, files_of}
use Rattle.record_defs.specs.Acceptance.{AreAccepted}
use Rattle.record_defs.specs.Areas.{Area, end_in}
use Rattle.record_defs.proofs.SizeLaws.{size_by_id, size-in_effect}
use Rattle.machine_defs.specs.Setups.{setup_or_none}
use Rattle.machine_defs.specs.States.{State, setup_in}
use Rattle.machine_defs.proofs.Given.{zeros-bytes}
use Rattle.state_laws.proofs.Records.{none-set_up}
use Rattle.state_laws.proofs.Packs.{journal-whole}
use Rattle.opening_defs.specs.Opened.{IsJustOpened}

-- records that a start accepts begin with a setup
pub has-setup : (records : List Record) → AreAccepted records → records ≢ [] →
    is_some (setup_of records) ≡ true
has-setup records accepted some = elim (cases_Bool (is_some (setup_of records))) [
  | inl t ↦ t
  | inr f ↦ absurd (some (none-set_up records accepted f))
]

-- the state whose history and journal are these records, in this area, with zeros for the bytes of its files,
-- and so many providers, told by their places
abbrev pub state_with : Area → List Record → ℕ → (ℕ → Provider) → ℕ → State
state_with area records faults providers handed = record {
  records = records;
  journal = records;
  area = area;
  is_switching = false;
  bytes = λ id. replicate (size_by_id (files_of records) id) 0;
  audits = λ number. 0;
  jobs = [];
  next_job = 1;
  alone = None;
  append = None;
  doubt = None;
  providers = providers;
  handed = handed;
  disk_faults = faults;
  is_open = true;
  is_barred = false;
}

-- it is one whose vault was just opened over them
pub opened-with : (area : Area) (records : List Record) (faults : ℕ) (providers : List Provider)
    (at : ℕ → Provider) → AreAccepted records → IsTrue (list_all is_in_grammar records) →
    end_in area records ≤ largest_journal → is_some (setup_of records) ≡ true →
    (setup_or_none (setup_of records)).n ≤ length providers →
    ((j : ℕ) → j < length providers → slice_get providers j ≡ Some (at j)) →
    IsJustOpened (state_with area records faults at (length providers)) area records 1 faults providers
unfolding setup_in
opened-with area records faults providers at accepted spelled room up enough each = record {
  at_rest = record {
    rest = record {
      idle = (refl, refl, refl, refl);
      undoubted = refl;
      unswitched = refl;
      journal = journal-whole (state_with area records faults at (length providers)) refl
          (λ e. absurd (false≢true (sym (ap (λ rs. is_some (setup_of rs)) e) ∙ up))) accepted spelled;
      accepted = accepted;
      in_grammar = spelled;
      room = room;
      files = λ name file h. (
        zeros-bytes (size_by_id (files_of records) file.id),
        length-replicate (size_by_id (files_of records) file.id) 0
            ∙ size-in_effect records accepted name file h,
      );
      set_up = λ e. up;
      handed = λ e. enough;
    };
    opened = refl;
    next = refl;
  };
  journal = refl;
  area_is = refl;
  faults_are = refl;
  handed = record { count = refl; each = each };
}
