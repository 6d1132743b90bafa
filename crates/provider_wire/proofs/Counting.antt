-- How a provider over a link counts its failures.
use Rattle.provider_wire.proofs.Words.{◌≡◌, ℕ, ◌+◌, ◌<◌, ◌^◌, Bool, true, refl, sym, ap, ◌∙◌, arith, not, IsSome, option_eq, eqb, nat_tests, last_count, one_more}
use Rattle.std.proofs.Common.{Option, Some, None}
use Rattle.std.specs.Prelude.{min}
use Rattle.provider_wire.specs.LinkProviders.{CountsFaults, TellsLinkFault}

-- a count goes up by one and stays at its last value, written either way
pub one_more_is : (n : ℕ) → n < 2 ^ 64 → min (n + 1) last_count ≡ one_more n
one_more_is n fits = grind (arith, nat_tests, fits)

-- the call went well
pub went : {result : Option ℕ} (k : ℕ) {was now : Bool} {F : Type 0} {before after : ℕ} →
    option_eq eqb result (Some k) ≡ true → (IsSome result → now ≡ was) → (was ≡ true → result ≡ None) →
    (F → ⊥) → after ≡ before → CountsFaults was now F before after
went {result = None} k is kept out well same = absurd cc
went {result = Some x} k is kept out well same = record {
  stays = λ e. absurd (let h = out e in cc h);
  fails = λ e. absurd (let h = out (sym (kept refl) ∙ e) in cc h);
  raised = λ f. absurd (well f);
  same = λ _. same;
}

-- the call failed
pub lost : {result : Option ℕ} {was now : Bool} {F : Type 0} {before after : ℕ} →
    now ≡ not (option_eq eqb result (Some 2)) → (was ≡ true → result ≡ None) → F
    → after ≡ min (before + 1) last_count → before < 2 ^ 64 → CountsFaults was now F before after
lost {before = before} is out failed more fits = record {
  stays = λ e. is ∙ ap (λ (o : Option ℕ). not (option_eq eqb o (Some 2))) (out e);
  fails = λ _. failed;
  raised = λ _. more ∙ one_more_is before fits;
  same = λ f. absurd (f failed);
}

-- an answer came, so no call of the link failed
pub answer_came : {result : Option ℕ} (k : ℕ) {before after : ℕ} {broken : Bool} {F : Type 0} →
    option_eq eqb result (Some k) ≡ true → (before < after → result ≡ None)
    → TellsLinkFault before after broken F
answer_came {result = None} k is none = absurd cc
answer_came {result = Some x} k is none = λ rose. absurd (let h = none rose in cc h)

-- none of the wanted answers came
pub call_failed : {result : Option ℕ} {before after : ℕ} {broken : Bool} {F : Type 0} → F →
    broken ≡ not (option_eq eqb result (Some 2)) → (before < after → result ≡ None)
    → TellsLinkFault before after broken F
call_failed failed is none = λ rose. (failed, is ∙ ap (λ o. not (option_eq eqb o (Some 2))) (none rose))
