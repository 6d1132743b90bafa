-- The only job of a vault that goes on, and where it is an open stream, up to where it waits.
use Rattle.command_jobs.proofs.Words.{◌≡◌, ℕ, ◌+◌, ◌*◌, ◌≤◌, length, Option, Some, None, subst, ◌∙◌, inl, inr, arith, cases_lt, IfSome, Goes, Kind, now, State, setup_in, base_of, Vault, MakesStep, wants_of, told_of, KeepsTold, Devices, SameUpTo, OnWay, IsBehind, IsEarly, EndsEarly}
use Rattle.vault.specs.declared.turn.Ended.{Ended}
use Rattle.vault.specs.declared.turn.Turn.TheVariants as turn
use Rattle.command_jobs.proofs.Goings.{one-more, one-further, at-end, end-steps}
use Rattle.command_jobs.proofs.Told.{told-kept, goes-on}

-- on its way, and if it was before, behind the stores of the stripes that were given
pub record StillBehind (start : State) (kind : Kind) (own : Option ℕ) (w : State) (moment : ℕ)
    (told : Option ℕ) (before : ℕ) (v : Vault) (d e : Devices) : Type 0 where
  pub way : OnWay start kind own w moment v d e
  pub behind : IsBehind start told before → IsBehind start told way.only.job.place

module _ (start : State) (kind : Kind) (own : Option ℕ) (w : State) (moment number : ℕ) (first : number ≡ 1)
    (told : Option ℕ) (before : ℕ) (v next : Vault) (d e f : Devices)
    (here : StillBehind start kind own w moment told before v d e) (told_is : told_of v number ≡ told)
    (none : wants_of v number ≡ None) where
  told-one : told_of v 1 ≡ told
  told-one = subst (λ n. told_of v n ≡ told) first told_is

  -- it does not wait, so it is not yet there
  early : (told : Option ℕ) → told_of v 1 ≡ told → IsBehind start told here.way.only.job.place →
      IfSome told (λ stripes. here.way.only.job.place + 1 ≤ 4 + stripes * (setup_in start).n)
  early None is h = tt
  early (Some stripes) is h = less here.way.only.job.place (4 + stripes * (setup_in start).n) h
      (goes-on start kind own (now w here.way.steps) v e here.way.only here.way.stands stripes is
      (rw first at none))
    where
      less : (a b : ℕ) → a ≤ b → (a ≡ b → ⊥) → a + 1 ≤ b
      less a b l n = elim (cases_lt a b) [
        | inl s ↦ (omega (arith, s))
        | inr s ↦ absurd (n (omega (arith, l, s)))
      ]

  its-early : IsBehind start told before →
      IfSome told (λ stripes. here.way.only.job.place + 1 ≤ 4 + stripes * (setup_in start).n)
  its-early b = early told told-one (here.behind b)

  -- a step that goes on
  module _ (front : Goes (SameUpTo (base_of (now w here.way.steps).area)) e.holds f.holds)
      (M : MakesStep (now w here.way.steps) (moment + length here.way.steps) number turn.More next e f) where
    abbrev way : OnWay start kind own w moment next d f
    way = one-more start kind own w moment number first v next d e f here.way front M

    pub still-behind : StillBehind start kind own w moment told before next d f
    still-behind = record { way = way; behind = λ b. by told (its-early b) }
      where
        by : (told : Option ℕ) →
            IfSome told (λ stripes. here.way.only.job.place + 1 ≤ 4 + stripes * (setup_in start).n) →
            IsBehind start told way.only.job.place
        by None h = tt
        by (Some stripes) h = (let p = one-further start kind own w moment number first v next d e f here.way front M in
            omega (arith, p, h))

    pub still-told : KeepsTold v next number → told_of next number ≡ told
    still-told keeps = rw (← first) at (told-kept start kind own (now w way.steps) next f way.only way.stands v
        (subst (λ n. KeepsTold v next n) first keeps) ∙ told-one)

  -- a step that ends it
  module _ (ended : Ended) (front : Goes (SameUpTo (base_of (now w here.way.steps).area)) e.holds f.holds)
      (M : MakesStep (now w here.way.steps) (moment + length here.way.steps) number (turn.Done ended) next e f) where
    pub ends-early : IsBehind start told before → EndsEarly start kind own w moment told ended next d f
    ends-early b = record {
      to_end = at-end start kind own w moment number first v next d e f here.way ended front M;
      early = rw (← (end-steps start kind own w moment number first v next d e f here.way ended front M)) at
          (by told (its-early b));
    }
      where
        by : (told : Option ℕ) →
            IfSome told (λ stripes. here.way.only.job.place + 1 ≤ 4 + stripes * (setup_in start).n) →
            IsEarly start w (length here.way.steps) told
        by None h = tt
        by (Some stripes) h = λ begun is. (omega (arith, here.way.place begun is, h))
