-- A command over a store whose disk tells any bytes ends by what they are.
use Rattle.std.proofs.Common.{◌≡◌, ◌≢◌, ℕ, zero, suc, ◌<◌, true, List, [], ◌∷◌, length, take, Some, refl, sym, subst, inl, inr, arith, length-take}
use Rattle.std.specs.Prelude.{IfSome}
use Rattle.std.specs.List.{list_all}
use Rattle.std.proofs.lemmas.Bool.{cases_lt}
use Rattle.device_defs.specs.Cells.{Cells, reads}
use Rattle.device_defs.specs.Faults.{Rose}
use Rattle.record_defs.specs.Records.{Record, is_byte, largest_journal}
use Rattle.record_defs.specs.Journal.{StandsFor}
use Rattle.record_defs.specs.Areas.{Area, StandsActive}
use Rattle.record_defs.specs.Acceptance.{AreAccepted}
use Rattle.record_defs.proofs.Standing.{active-end}
use Rattle.machine_defs.specs.Events.{AreBytes}
use Rattle.command_defs.specs.Forms.{Command}
use Rattle.opening_defs.specs.Journals.{journal_read, IsRead}
use Rattle.command_defs.specs.Opens.{setup_in_effect}
use Rattle.command_defs.specs.Seen.{Seen, Ending}
use Rattle.command_defs.specs.Commands.{Answers}
use Rattle.command_laws.specs.Ends.{opens_store}
use Rattle.command_laws.proofs.Unopened.{fresh-always, broken-always, lacking-always}
use Rattle.answer_laws.specs.Judged.{Judged, AnsweredFor}
use Rattle.answer_laws.proofs.Judging.{bytes-judged}

-- the first of some bytes are bytes
take-all : (n : ℕ) (bytes : List ℕ) → list_all is_byte bytes ≡ true → list_all is_byte (take n bytes) ≡ true
take-all zero bytes all = refl
take-all (suc n) [] all = refl
take-all (suc n) (b ∷ bytes) all = grind (arith, all, take-all n bytes (rest-all b bytes all))
  where
    rest-all : (b : ℕ) (bytes : List ℕ) → list_all is_byte (b ∷ bytes) ≡ true → list_all is_byte bytes ≡ true
    rest-all b bytes all = grind (arith, all)

is-read : (cells : Cells) (old : Seen) (rs : List Record) → old.disk ≡ Some cells → rs ≢ [] → AreAccepted rs →
    9 < length (journal_read cells) → (is : StandsFor (journal_read cells) rs) → IsRead old.disk is.0 rs
is-read cells old rs told some accepted many is = record {
  some = some;
  in_grammar = is.1.holds.in_grammar;
  accepted = accepted;
  room = omega (
    arith,
    active-end (journal_read cells) is.0 rs is.1,
    length-take largest_journal (reads cells),
  );
  reads_are = subst (λ d. IfSome d (λ c. (9 < length (reads c)) × StandsActive (journal_read c) is.0 rs))
      (sym told) (longer, is.1);
}
  where
    longer : 9 < length (reads cells)
    longer = omega (arith, many, length-take largest_journal (reads cells))

module _ (command : Command) (cells : Cells) (old new : Seen) (end : Ending) (answers : Answers command old new end)
    (opens : opens_store command ≡ true) (told : old.disk ≡ Some cells)
    (calm : Rose old.disk_faults new.disk_faults → ⊥) where
  over-read : (area : Area) (rs : List Record) → IsRead old.disk area rs → AnsweredFor cells old end
  over-read area rs read = elim (cases_lt (length old.providers) (setup_in_effect rs).n) [
    | inl few ↦ elim (lacking-always command cells old new end area rs answers opens told read few calm) [
      | inl is ↦ AnsweredFor.too_few_providers area rs read few is
      | inr none ↦ AnsweredFor.no_memory none
    ]
    | inr enough ↦ AnsweredFor.opened rs (record { area = area; read = read; enough = enough })
  ]

  by-judged : Judged (journal_read cells) → AnsweredFor cells old end
  by-judged (Judged.fresh is) = elim (fresh-always command cells old new end answers opens told is calm) [
    | inl nine ↦ AnsweredFor.not_set_up is nine
    | inr none ↦ AnsweredFor.no_memory none
  ]
  by-judged (Judged.broken at many bad) =
      elim (broken-always command cells old new end at answers opens told many bad calm) [
        | inl eight ↦ AnsweredFor.bad_journal at bad eight.0 eight.1
        | inr none ↦ AnsweredFor.no_memory none
      ]
  by-judged (Judged.set_up rs some accepted many is) =
      over-read is.0 rs (is-read cells old rs told some accepted many is)

-- a command over a store ends by what the bytes of its disk come to, or finds no memory
pub disk-answered : (command : Command) (cells : Cells) (old new : Seen) (end : Ending) →
    Answers command old new end → opens_store command ≡ true → old.disk ≡ Some cells →
    AreBytes (reads cells) → (Rose old.disk_faults new.disk_faults → ⊥) → AnsweredFor cells old end
disk-answered command cells old new end answers opens told all calm = by-judged command cells old new end
    answers opens told calm (bytes-judged (journal_read cells) (take-all largest_journal (reads cells) all))
