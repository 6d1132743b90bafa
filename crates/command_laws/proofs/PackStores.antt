-- The images that a pack leaves are good: each stands for records that a start accepts.
use Rattle.command_laws.proofs.Words.{◌≡◌, ℕ, List, None, refl, ap, ◌∙◌, inl, inr, is_some, each_image-mono, Record, other_area, StandsActive, AreAlike, packed, Answer, setup_or_none, IsOpened, setup_in_effect, PackLeaves, PackedAlone, pack_refusal_over, Seen, switched-room, second-set_up}
use Rattle.machine_defs.specs.Answers as answer
use Rattle.command_laws.proofs.Knowing.{MayBeGood, AreGood, LeavesGood, none-up}
use Rattle.command_laws.proofs.PackEnds.{pack-second, pack-alike}

module _ (records : List Record) (old new : Seen) (opened : IsOpened old records)
    (none : pack_refusal_over opened.area records ≡ None) where
  alike : AreAlike (packed records) records
  alike = (pack-alike opened.area records opened.read.accepted none).1

  -- an image of the records before is good
  good-before : (image : List ℕ) → StandsActive image opened.area records →
      MayBeGood (setup_in_effect records) image
  good-before image stands = (
    opened.area,
    records,
    record {
      some = opened.read.some;
      accepted = opened.read.accepted;
      room = opened.read.room;
      setup = refl;
      stands = stands;
    },
  )

  -- so is one of the packed records
  good-packed : (image : List ℕ) → StandsActive image (other_area opened.area) (packed records) →
      MayBeGood (setup_in_effect records) image
  good-packed image stands = ((
    other_area opened.area,
    packed records,
    record {
      some = none-up (packed records) (ap is_some alike.setup ∙ (second-set_up records opened.read.accepted
          (pack-second opened.area records none)));
      accepted = (pack-alike opened.area records opened.read.accepted none).0;
      room = switched-room records opened.area opened.read.accepted opened.read.in_grammar;
      setup = ap setup_or_none alike.setup;
      stands = stands;
    },
  ))

  good-by : (how : Answer) → PackLeaves opened.area records how old new →
      AreGood (setup_in_effect records) new.disk
  good-by (answer.Packed before after) L = each_image-mono new.disk _ _ good-packed L.2
  good-by answer.DiskFault L = each_image-mono new.disk _ (MayBeGood (setup_in_effect records))
      (λ image h. elim h [ inl s ↦ good-before image s | inr s ↦ good-packed image s ]) L.1
  good-by answer.Memory L = each_image-mono new.disk _ _ good-before L
  good-by how L = absurd L

  -- a pack that ran alone leaves only good images, and as many providers
  pub pack-good : (how : Answer) → PackedAlone opened.area records how old new → LeavesGood records old new
  pack-good how P = (good-by how P.leaves, (rw (← P.providers) at opened.enough))
