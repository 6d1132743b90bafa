-- Stores whose disk reads given records are known, in each image of the disk.
use Rattle.command_laws.proofs.Words.{◌≡◌, ◌≢◌, ℕ, ◌≤◌, List, [], ◌∷◌, length, Some, refl, sym, subst, list_all, firm, IsImage, EachImage, Record, is_in_grammar, largest_journal, text, AreAccepted, Area, A, end_in, StandsActive, setup_in_effect, Seen, IsSure, reads-firm, image-firm}
use Rattle.std.proofs.Common.{IsTrue}
use Rattle.record_defs.proofs.AreaLaws.{text-active}
use Rattle.command_laws.proofs.Knowing.{known-good}

-- records that the journal in an area may hold and the fold accepts
pub record AreFitIn (area : Area) (rs : List Record) : Type 0 where
  pub some : rs ≢ []
  pub all : IsTrue (list_all is_in_grammar rs)
  pub accepted : AreAccepted rs
  pub room : end_in area rs ≤ largest_journal

-- so it is of such records where there are some
pub fits : {area : Area} {r : Record} {rs : List Record} → IsTrue (list_all is_in_grammar (r ∷ rs)) →
    AreAccepted (r ∷ rs) → end_in area (r ∷ rs) ≤ largest_journal → AreFitIn area (r ∷ rs)
fits all accepted room = record { some = λ e. cc; all = all; accepted = accepted; room = room }

-- each image of a disk of bytes that stand for them stands for them too
pub stands : {area : Area} {rs : List Record} (bytes : List ℕ) → StandsActive bytes area rs →
    (image : List ℕ) → IsImage (firm bytes) image → StandsActive image area rs
stands {area} {rs} bytes active image is = rw (← (image-firm bytes image is)) at active

-- so it is of their text in the first area
pub stands_for : {rs : List Record} → AreFitIn A rs → (image : List ℕ) → IsImage (firm (text rs)) image →
    StandsActive image A rs
stands_for {rs} fit = stands (text rs) (text-active rs fit.all)

-- devices with a disk of bytes that stand for them are known
abbrev pub sure_in : (s : Seen) (area : Area) (rs : List Record) (bytes : List ℕ) → AreFitIn area rs →
    s.disk ≡ Some (firm bytes) → StandsActive bytes area rs →
    (setup_in_effect rs).n ≤ length s.providers → IsSure s rs
sure_in s area rs bytes fit is active few = record {
  known = known-good (setup_in_effect rs) s (firm bytes) area rs is (record {
    some = fit.some;
    accepted = fit.accepted;
    room = fit.room;
    setup = refl;
    stands = subst (λ l. StandsActive l area rs) (sym (reads-firm bytes)) active;
  }) few;
  images = subst (λ told. EachImage told (λ image. StandsActive image area rs)) (sym is)
      (stands bytes active);
}

-- so are those whose disk has their text in the first area
abbrev pub sure : (s : Seen) (rs : List Record) → AreFitIn A rs → s.disk ≡ Some (firm (text rs)) →
    (setup_in_effect rs).n ≤ length s.providers → IsSure s rs
sure s rs fit is few = sure_in s A rs (text rs) fit is (text-active rs fit.all) few
