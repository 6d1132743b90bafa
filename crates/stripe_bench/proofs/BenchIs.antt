-- A bench with what a setup says is one of its objects.
use Rattle.std.proofs.Common.{◌≡◌, ℕ}
use Rattle.code_points.specs.Profile.{plain_profile}
use Rattle.code_defs.specs.Profiles.{profile_of}
use Rattle.record_defs.specs.Records.{Setup}
use Rattle.column_codec.specs.declared.bench.Bench.{Bench}
use Rattle.stripe_bench.specs.Bench.{IsBench}

-- a bench with the shape and the master key of a setup, and with a profile, is that of an object of them
pub bench-is : (s : Setup) (profile : ℕ) (bench : Bench) → bench.keys.file.shape.n ≡ s.n
    → bench.keys.file.shape.l ≡ s.l → bench.keys.file.shape.b ≡ s.b
    → plain_profile bench.keys.file.profile ≡ profile_of profile → bench.keys.master.0 ≡ s.master
    → IsBench s profile bench
bench-is s profile bench n l b coded master = (λ i. record {
  shape = record { n = n i; l = l i; b = b i };
  profile = coded i;
  master = master i;
  id = bench.keys.file.id;
})
