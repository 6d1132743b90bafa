use Rattle.std.proofs.Common.{ℕ, ◌<◌, IfSome, slice_get}
use Rattle.stripe_bench.specs.Bench.{Serves}
use Rattle.stripe_bench.proofs.benches.place_of.Given as goal

-- no bench so far serves the file
abbrev pub invariant-loop-place : goal.invariant-loop-place
invariant-loop-place l =
    (p : ℕ) → p < l.place → IfSome (slice_get l.benches p) (λ bench. Serves l.master.0 l.file bench → ⊥)
