-- Benches of a vault are those of the setup in effect.
use Rattle.vault.proofs.Words.{◌≡◌, ℕ, List, [], ◌∷◌, ap, sym, ◌∙◌, profile_of, Setup, with_master, Bench, IsBench, Desk, IsShaped, AreOfSetup, IsOfDesk, IsBenchFor, AreOfDesk}
use Rattle.code_points.proofs.Rows.{plain-own}
use Rattle.code_points.specs.Profile.{plain_profile}
use Rattle.stripe_bench.proofs.BenchIs as stripe

module _ (v : Desk) (s : Setup) (shaped : IsShaped v) (setup : s ≡ with_master v.setup v.master.0) where
  -- a bench of a desk's master key and shape, at a profile, is one of the setup in effect
  pub of-setup : (profile : ℕ) (bench : Bench) → IsOfDesk v bench
      → plain_profile bench.keys.file.profile ≡ profile_of profile → IsBench s profile bench
  of-setup profile bench is coded =
      stripe.bench-is s profile bench (ap (λ x. x.n) is.shape ∙ shaped.n ∙ sym (ap (λ x. x.n) setup))
      (ap (λ x. x.l) is.shape ∙ shaped.l ∙ sym (ap (λ x. x.l) setup))
      (ap (λ x. x.b) is.shape ∙ shaped.b ∙ sym (ap (λ x. x.b) setup)) coded
      (ap (λ x. x.0) is.master ∙ sym (ap (λ x. x.master) setup))

  -- benches of a desk are of the setup in effect, each at its own profile
  pub all-of-setup : (benches : List Bench) → AreOfDesk v benches → AreOfSetup s benches
  all-of-setup [] are = tt
  all-of-setup (b ∷ bs) are = (
    (b.keys.file.profile.number, of-setup b.keys.file.profile.number b are.0 (plain-own b.keys.file.profile)),
    all-of-setup bs are.1,
  )

-- a bench for a file of a vault is one of the setup in effect
pub bench-is : (v : Desk) (s : Setup) (id size profile : ℕ) (bench : Bench) → IsShaped v →
    s ≡ with_master v.setup v.master.0 → IsBenchFor v id size profile bench → IsBench s profile bench
bench-is v s id size profile bench shaped setup is =
    of-setup v s shaped setup profile bench is.of_desk is.profile
