-- The limits of a setup's numbers, in two parts.
use Rattle.std.specs.Prelude.{◌+◌, ◌*◌, Bool, ◌&&◌, nat_le}
use Rattle.record_codec.specs.declared.setup.Setup.{Setup}

-- 4 to 16 providers, at least one primary and one that may be bad, and l + 2b below n
abbrev pub are_providers : Setup → Bool
are_providers s =
    nat_le 4 s.n && nat_le s.n 16 && nat_le 1 s.l && nat_le 1 s.b && nat_le (s.l + 2 * s.b + 1) s.n

-- 1 to 64 rounds and picks, and a tolerance of at most 4,096
abbrev pub is_audit : Setup → Bool
is_audit s =
    nat_le 1 s.rounds && nat_le s.rounds 64 && nat_le 1 s.picks && nat_le s.picks 64
    && nat_le s.tolerance 4096
