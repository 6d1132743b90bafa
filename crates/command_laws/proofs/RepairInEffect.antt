-- However a repair ended: where the next command finds its end in effect, each flagged provider that tells is
-- right for a file that stood.
use Rattle.command_laws.proofs.Words.{◌≡◌, ℕ, ◌<◌, ◌≤◌, Bool, true, false, not, List, [], ◌∷◌, ◌++◌, length, reverse, None, Some, ap, subst, inl, inr, arith, length-append, is_some, IfSome, cases_Bool, is_flagged, reads, EachImage, Record, RepairDone, largest_journal, Area, StandsActive, StandsFor, Due, due_of, RepairJob, Answer, Seen, Ending, IsRefused, provider_at, journal_read, setup_in_effect, object_in_effect, Ran, flags, RewritesAll, RepairGives, LeftAlone, AnswersAlone, bad_seen, IsKnown, after_repair, is_wrong_or_untold, IsSure, Follows, HasRightFile, IsSteady, spoilt_below, each_image-mono, active-front, one_list, same_value}
use Rattle.std.proofs.Common.{◌&&◌}
use Rattle.machine_defs.specs.Answers as answer
use Rattle.command_laws.proofs.Known.{known-both}
use Rattle.command_laws.proofs.GetEnds.{shape-at, ran_left}
use Rattle.command_laws.proofs.JobEnds.{images-have}
use Rattle.command_laws.proofs.Anew.{holds-right}
use Rattle.command_laws.proofs.Afterwards.{sure-refused}
use Rattle.command_laws.proofs.DoneStores.{next-image}
use Rattle.command_laws.proofs.FilesStay.{bad-few}
use Rattle.command_laws.proofs.FilesKept.{wrong-same, flag-off, goes-tells, columns-right, and-off}
use Rattle.command_laws.proofs.PutInEffect.{tells-back}
use Rattle.command_laws.proofs.Early.{alone-cases}

module _ (name bytes : List ℕ) (records : List Record) (due : Due) (spoilt : ℕ → Bool) (old new next : Seen)
    (end : Ending) (S : IsSure old records) (is_due : due_of records ≡ Some due) (N : Follows new next)
    (F : IsKnown next (after_repair records due)) (H : HasRightFile old records name bytes spoilt)
    (steady : IsSteady (setup_in_effect records).n spoilt old new)
    (few : spoilt_below (setup_in_effect records).n spoilt ≤ (setup_in_effect records).b)
    (tells : (j : ℕ) → j < (setup_in_effect records).n →
    is_flagged (setup_in_effect records).tolerance due.counts j ≡ true →
    is_some (provider_at old.providers j).held ≡ true) where
  -- the file, right also on each flagged provider
  abbrev Mended : Type 0
  Mended = HasRightFile new (after_repair records due) name bytes
      (λ j. spoilt j && not (is_flagged (setup_in_effect records).tolerance due.counts j))

  -- an image stands for the records before
  abbrev Before : List ℕ → Type 0
  Before image = StandsFor image records

  not-before : EachImage new.disk Before → ⊥
  not-before h = (let c = next-image new next (tells-back new next N F.tells) N in
      let same = one_list (reads c.0) records (after_repair records due) (c.2 Before h) (
        F.opened.area,
        active-front largest_journal (reads c.0) F.opened.area (after_repair records due)
            (subst (λ d. IfSome d (λ cells. (9 < length (reads cells)) × StandsActive (journal_read cells)
            F.opened.area (after_repair records due))) c.1 F.opened.read.reads_are).1,
      ) in
      omega (arith, ap length same))

  refused-not : (status at : ℕ) → IsRefused status at old new end → ⊥
  refused-not status at r = (let T = sure-refused status at records old new end r S in
      not-before (each_image-mono new.disk _ Before (λ image s. (T.known.opened.area, s)) T.images))

  module _ (area : Area) (how : Answer)
      (left : LeftAlone area records RepairJob None how old new end.heard) where
    abbrev x : Ran
    x = ran_left records RepairJob how old new end.heard left

    none-more : x.after ≡ records → x.doubt ≡ None → ⊥
    none-more is sure = not-before (each_image-mono new.disk _ Before (λ image s. (area, s))
        (images-have area new.disk x.after x.doubt records is sure left.images))

    -- where the flagged providers are rewritten
    whole : RewritesAll x (flags x due) → Mended
    whole W = record {
      file = H.file;
      in_effect = H.in_effect;
      are_bytes = H.are_bytes;
      size = H.size;
      right = right;
    }
      where
        fewer : bad_seen records old new H.file bytes ≤ (setup_in_effect records).b
        fewer = omega (arith, bad-few name bytes records spoilt old new H steady, few)

        right : (j : ℕ) → j < (setup_in_effect records).n →
            (spoilt j && not (is_flagged (setup_in_effect records).tolerance due.counts j)) ≡ false →
            is_wrong_or_untold (object_in_effect records H.file) bytes j (provider_at new.providers j).held
            ≡ false
        right j below clean =
            elim (cases_Bool (is_flagged (setup_in_effect records).tolerance due.counts j)) [
              | inl flagged ↦ columns-right (setup_in_effect records) H.file bytes j
                  (provider_at new.providers j).held H.size (goes-tells _ (provider_at old.providers j).held
                  (provider_at new.providers j).held (tells j below flagged) (W.held j below))
                  (λ stripe within. holds-right x (shape-at old records S.known.opened) (flags x due) W name
                  H.file bytes H.in_effect H.size fewer S.known.opened.read.accepted stripe within j below
                  flagged)
              | inr free ↦ wrong-same (object_in_effect records H.file) bytes j
                  (provider_at old.providers j).held (provider_at new.providers j).held
                  (flag-off H.file.id (is_flagged (setup_in_effect records).tolerance due.counts j) _
                  (provider_at old.providers j).held (provider_at new.providers j).held free (W.held j below))
                  (H.right j below (and-off (spoilt j)
                  (is_flagged (setup_in_effect records).tolerance due.counts j) clean free))
            ]

    none-done : (done : List Record) (entry : Record) (rest : List Record) →
        RepairDone due.number ∷ [] ≡ done ++ entry ∷ rest → x.after ≡ reverse done ++ records →
        x.after ≡ records
    none-done [] entry rest parts after = after
    none-done (r ∷ done) entry rest parts after =
        absurd (omega (arith, ap length parts, length-append done (entry ∷ rest)))

    by-answer : (h : Answer) → RepairGives x due h → Mended
    by-answer (answer.Repaired number) L = whole L.2
    by-answer (answer.Lost stripe row) L = absurd (none-more L.0.after L.0.sure)
    by-answer (answer.ProviderFault k) L = absurd (none-more L.3.after L.3.sure)
    by-answer answer.DiskFault L = whole L.2
    by-answer answer.Memory L =
        absurd (let C = L.0 in none-more (none-done C.done C.next C.rest C.parts C.after) C.sure)
    by-answer h L = absurd L

  -- a repair that the next command finds in effect left a right file right on flagged providers too
  pub repair-in-effect : AnswersAlone RepairJob old new end → Mended
  repair-in-effect = alone-cases (λ E. absurd (refused-not E.status E.at E.refused)) (λ rs opened how none left by.
      let here = known-both old records rs S.known opened
      (λ a l. LeftAlone a l RepairJob None how old new end.heard) left in
      let L = here.leaves.by_kind.0 in by-answer S.known.opened.area how here how
      (rw (same_value (due_of records) L.due due L.is_due is_due) at L.gives))
