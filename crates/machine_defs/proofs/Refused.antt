-- What follows from a begin that is not refused.
use Rattle.machine_defs.proofs.Words.{◌≡◌, false, Bool, refl, sym, inl, inr, is_some, list_any, cases_Bool, false≢true, Kind, aim_of, State, Alone, refusal_of_begin, sight_of, aims_of, is_busy, are_jobs_in_the_way, is_shut, is_upgrade}
use Rattle.std.proofs.Common.{ℕ, true, ◌||◌, Option, Some, None}
use Rattle.machine_defs.specs.Refusals as refusal

-- a begin that is not refused finds nothing in its way
pub not_busy : (limit : ℕ) (w : State) (kind : Kind) (profile : Option ℕ) →
    refusal_of_begin limit w kind profile ≡ None → is_busy limit (sight_of w) (aim_of kind) ≡ false
not_busy limit w kind profile h = elim (cases_Bool w.is_barred) [
  | inl t ↦ absurd (let e = rw t at h in let f : Some refusal.MustReopen ≡ None = e in cc)
  | inr o ↦ elim (cases_Bool (is_busy limit (sight_of w) (aim_of kind))) [
    | inl b ↦ absurd (let e = rw (o, b) at h in let f : Some refusal.Busy ≡ None = e in cc)
    | inr f ↦ f
  ]
]

-- where neither of two tests holds, the second does not
pub right_false : (a b : Bool) → (a || b) ≡ false → b ≡ false
right_false true b h = absurd (false≢true (sym h))
right_false false b h = h

-- where neither of two tests holds, the first does not
pub left_false : (a b : Bool) → (a || b) ≡ false → a ≡ false
left_false true b h = absurd (false≢true (sym h))
left_false false b h = refl

-- nothing runs alone where no such thing is there
pub none-is : (o : Option Alone) → is_some o ≡ false → o ≡ None
none-is None h = refl
none-is (Some x) h = absurd (false≢true (sym h))

-- where a job begins nothing runs alone
pub none_lone : (limit : ℕ) (w : State) (kind : Kind) (profile : Option ℕ) →
    refusal_of_begin limit w kind profile ≡ None → w.alone ≡ None
none_lone limit w kind profile h = none-is w.alone (left_false (is_some w.alone)
    (list_any is_upgrade (aims_of w.jobs)) (left_false (is_shut (sight_of w))
    (are_jobs_in_the_way limit (aims_of w.jobs) (aim_of kind)) (not_busy limit w kind profile h)))
