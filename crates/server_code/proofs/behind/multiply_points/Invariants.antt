use Rattle.server_code.proofs.Words.{◌≡◌, ◌-◌, ◌+◌, ℕ, length, take, range_with_len, nim_mul, value, vanish}
use Rattle.server_code.proofs.behind.multiply_points.Given as goal

abbrev pub invariant-loop-place : goal.invariant-loop-place
invariant-loop-place l = record {
  long : length l.items ≡ length l.initial.items;
  product : (x : ℕ) → value (take (l.count + (l.keep - l.place)) l.items) x ≡
      nim_mul (value (take l.count l.initial.items) x)
      (value (vanish (range_with_len l.place (l.keep - l.place))) x);
}
