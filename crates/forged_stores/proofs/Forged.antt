-- A store of the rows is known by its journal, so that a get that ended well and wrote other bytes than its
-- file's heard a forgery.
use Rattle.std.proofs.Common.{◌≡◌, ◌≢◌, ◌⊎◌, ℕ, ◌≤◌, List, [], length, Some, refl, sym, subst, ◌∙◌, ap, inl, inr, arith}
use Rattle.std.specs.Prelude.{IsTrue}
use Rattle.std.specs.List.{list_all}
use Rattle.device_defs.specs.Cells.{Cells, reads}
use Rattle.device_defs.specs.Told.{told_then}
use Rattle.record_defs.specs.Records.{Record, is_in_grammar, largest_journal}
use Rattle.record_defs.specs.Journal.{text}
use Rattle.record_defs.specs.Areas.{A, end_in, StandsActive}
use Rattle.record_defs.specs.Acceptance.{AreAccepted}
use Rattle.record_defs.specs.Table.{File, file_of}
use Rattle.record_defs.proofs.AreaLaws.{text-active}
use Rattle.machine_defs.specs.Events.{AreBytes}
use Rattle.machine_defs.specs.Heard.{HoldsForgery}
use Rattle.machine_defs.specs.Setups.{object_of}
use Rattle.command_defs.specs.Forms.{GetOf}
use Rattle.command_defs.specs.Seen.{Seen, Ending}
use Rattle.command_defs.specs.Opens.{object_in_effect}
use Rattle.command_defs.specs.Commands.{Answers}
use Rattle.command_laws.specs.Ends.{IsKnown}
use Rattle.command_laws.proofs.Knowing.{known-good}
use Rattle.forged_stores.specs.declared.stored.Stored.{Stored}
use Rattle.forged_stores.specs.declared.stored.Stored.TheVariants as stored
use Rattle.forged_stores.specs.Stored.{setup_numbers, stored_bytes, name_of_file, records_of}

-- ---- the two stores

in-grammar : (s : Stored) → IsTrue (list_all is_in_grammar (records_of s))
in-grammar stored.FourZeros = refl
in-grammar stored.SixLetters = refl

are-accepted : (s : Stored) → AreAccepted (records_of s)
are-accepted stored.FourZeros = (refl, (refl, (refl, tt)))
are-accepted stored.SixLetters = (refl, (refl, (refl, tt)))

has-room : (s : Stored) → end_in A (records_of s) ≤ largest_journal
has-room stored.FourZeros = (let e : end_in A (records_of stored.FourZeros) ≡ 77 = refl in omega (arith, e))
has-room stored.SixLetters = (let e : end_in A (records_of stored.SixLetters) ≡ 77 = refl in omega (arith, e))

are-bytes : (s : Stored) → AreBytes (stored_bytes s)
are-bytes stored.FourZeros = refl
are-bytes stored.SixLetters = refl

-- the file of a store
the-file : Stored → File
the-file s = record {
  name = name_of_file;
  id = 1;
  size = length (stored_bytes s);
  profile = (setup_numbers s).profile;
}

in-effect : (s : Stored) → file_of (records_of s) name_of_file ≡ Some (the-file s)
unfolding the-file
in-effect s = refl

stands : (s : Stored) (image : List ℕ) → image ≡ text (records_of s) → StandsActive image A (records_of s)
stands s image is = subst (λ l. StandsActive l A (records_of s)) (sym is)
    (text-active (records_of s) (in-grammar s))

known : (s : Stored) (old : Seen) (cells : Cells) → old.disk ≡ Some cells →
    reads cells ≡ text (records_of s) → (setup_numbers s).n ≤ length old.providers →
    IsKnown old (records_of s)
known s old cells is reads_are enough = known-good (setup_numbers s) old cells A (records_of s) is (record {
  some = λ e. cc;
  accepted = are-accepted s;
  room = has-room s;
  setup = refl;
  stands = stands s (reads cells) reads_are;
}) enough

-- ---- the forgery

-- what is known of every get that ended well, of a store that is known
abbrev pub WritesOrForged : Type 0
WritesOrForged = (name bytes : List ℕ) (records : List Record) (file : File) (old new : Seen) (end : Ending) →
    Answers (GetOf name) old new end → IsKnown old records → file_of records name ≡ Some file →
    AreBytes bytes → length bytes ≡ file.size → end.status ≡ 0 → (new.sink ≡ told_then old.sink bytes) ⊎
    HoldsForgery (object_in_effect records file) bytes 1 end.heard

-- a get of one of the stores that ends well with other bytes has heard a forgery
pub other-forged : (s : Stored) (old new : Seen) (end : Ending) (cells : Cells) (written : List ℕ) →
    WritesOrForged → Answers (GetOf name_of_file) old new end → old.disk ≡ Some cells →
    reads cells ≡ text (records_of s) → (setup_numbers s).n ≤ length old.providers → old.sink ≡ Some [] →
    new.sink ≡ Some written → end.status ≡ 0 → written ≢ stored_bytes s →
    HoldsForgery (object_of (setup_numbers s) 1) (stored_bytes s) 1 end.heard
unfolding the-file
other-forged s old new end cells written law answers is reads_are enough empty wrote ended other =
    elim (law name_of_file (stored_bytes s) (records_of s) (the-file s) old new end answers
    (known s old cells is reads_are enough) (in-effect s) (are-bytes s) refl ended) [
      | inl same ↦ absurd (other
          (written-is (sym wrote ∙ same ∙ ap (λ told. told_then told (stored_bytes s)) empty)))
      | inr forged ↦ forged
    ]
  where
    written-is : Some written ≡ told_then (Some []) (stored_bytes s) → written ≡ stored_bytes s
    written-is e = cc
