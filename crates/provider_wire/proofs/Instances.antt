-- A removal of the object 1, and a byte 9 behind it.
use Rattle.provider_wire.proofs.Words.{[], ◌∷◌, refl, arith, inl, Held, without_object, Remove, AreFrames, request_bytes, Done, Serves, provider_behind, BadAt, HasServed}
use Rattle.std.proofs.Common.{Some}
use Rattle.provider_wire.specs.Loops.{idle}

-- nine bytes that are the one request to remove object 1
pub removal-frames : AreFrames (4 ∷ 1 ∷ 0 ∷ 0 ∷ 0 ∷ 0 ∷ 0 ∷ 0 ∷ 0 ∷ []) (Remove 1 ∷ [])
unfolding request_bytes
removal-frames = record { are_requests = refl; bytes_are = refl }

removal-answered : (held : Held) →
    Serves (Remove 1 ∷ []) (provider_behind (idle 0 0 0 held)) (Done ∷ [])
    (provider_behind (idle 0 0 0 (without_object 1 held)))
removal-answered held = (
  provider_behind (idle 0 0 0 held),
  refl,
  record {
    held = refl;
    counts = record { store_faults = refl; other_faults = omega arith; fetches = refl };
  },
)

-- a server that is given a removal and then a bad byte serves the removal and ends at that byte
pub removal-served : (held : Held) →
    HasServed (BadAt 9) (Some (4 ∷ 1 ∷ 0 ∷ 0 ∷ 0 ∷ 0 ∷ 0 ∷ 0 ∷ 0 ∷ 9 ∷ [])) (Some [])
    (provider_behind (idle 0 0 0 held)) (provider_behind (idle 0 0 0 (without_object 1 held))) (Some [])
    (Some (1 ∷ []))
unfolding request_bytes
removal-served held = record {
  requests = Remove 1 ∷ [];
  replies = Done ∷ [];
  read = 4 ∷ 1 ∷ 0 ∷ 0 ∷ 0 ∷ 0 ∷ 0 ∷ 0 ∷ 0 ∷ 9 ∷ [];
  front = 4 ∷ 1 ∷ 0 ∷ 0 ∷ 0 ∷ 0 ∷ 0 ∷ 0 ∷ 0 ∷ [];
  rest = 9 ∷ [];
  taken = refl;
  few = omega arith;
  parts = refl;
  frames = removal-frames;
  served = removal-answered held;
  written = refl;
  ends = record { place = refl; cause = inl refl };
}
