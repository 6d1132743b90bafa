-- The records of a store that is given its second version and packed.
use Rattle.stories.proofs.Words.{List, refl, sym, ◌≡◌, ℕ, [], ◌∷◌, Option, ap, ◌∙◌, inl, inr, packed, AreAlike, put-setup, Version, setup_of, version_of, setup_or_none, UpgradeJournal, PackJournal, setup_in_effect, Seen, IsThen, after_put, after_upgrade}
use Rattle.record_defs.specs.Acceptance.{AreAccepted}
use Rattle.record_defs.proofs.PackLaws.{packed_are}
use Rattle.state_laws.proofs.Records.{is_some-at, second-set_up}
use Rattle.stories.specs.Words.{Record, UpgradeJob}

-- the records of the second version are packed to such as a start makes the same table of
packed-alike : (records : List Record) → AreAccepted records → version_of records ≡ 2 →
    AreAlike (packed records) records
packed-alike records accepted second =
    (let s = is_some-at (setup_of records) (second-set_up records accepted second) in
    (packed_are records accepted s.0 s.1 second).1)

-- the records after an upgrade
pub upgraded-then : (records : List Record) (old new : Seen) →
    IsThen UpgradeJournal records old new (after_upgrade records)
upgraded-then records old new = inr (inl (record {
  kind = UpgradeJob;
  of_command = refl;
  own = Version ∷ [];
  are_own = refl;
  count = 1;
  whole = λ l. tt;
  after_is = refl;
}))

-- and after a pack
pub packed-then : (records : List Record) (old new : Seen) → AreAccepted records → version_of records ≡ 2 →
    IsThen PackJournal records old new (packed records)
packed-then records old new accepted second = inr (inr (record {
  of_command = refl;
  after_is = refl;
  alike = packed-alike records accepted second;
}))

-- the setup stays
pub setup-stays : (records : List Record) (name : List ℕ) (size : ℕ) (own : Option ℕ) →
    AreAccepted (after_upgrade (after_put records name size own)) →
    setup_in_effect records ≡ setup_in_effect (packed (after_upgrade (after_put records name size own)))
setup-stays records name size own accepted = sym (put-setup records name size own)
    ∙ sym (ap setup_or_none (packed-alike (after_upgrade (after_put records name size own)) accepted
    refl).setup)
