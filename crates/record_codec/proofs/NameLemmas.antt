use Rattle.std.proofs.Common.{◌≡◌, ℕ, ◌-◌, ◌≤◌, true, List, ◌++◌, length, take, drop, replicate, sym, ap, ◌∙◌, arith, length-append}
use Rattle.std.proofs.lemmas.List.{take_at, drop_at, drop-replicate, length-replicate}
use Rattle.record_defs.specs.Records.{is_name}
use Rattle.record_codec.specs.NameParts.{IsNameKept}

-- a name and zeros behind it are kept as a name
pub IsKept-made : (name all : List ℕ) (n : ℕ) → all ≡ name ++ drop (length name) (replicate 64 0) →
    n ≡ length name → length name ≤ 64 → is_name name ≡ true → IsNameKept (record { bytes = all; len = n })
IsKept-made name all n all_is n_is short good =
    let padding : drop (length name) (replicate 64 0) ≡ replicate (64 - length name) 0 =
    drop-replicate (length name) 64 0 in
    let whole : all ≡ name ++ replicate (64 - length name) 0 = all_is
    ∙ ap (λ (l : List ℕ). name ++ l) padding in
    let front : take n all ≡ name = ap (take n) whole ∙ take_at name _ n (sym n_is) in
    record {
      room = ap length whole
          ∙ omega (
            arith,
            length-append name (replicate {A = ℕ} (64 - length name) 0),
            length-replicate {A = ℕ} (64 - length name) 0,
          );
      within = omega arith;
      is_name = ap is_name front ∙ good;
      zeros = ap (drop n) whole ∙ drop_at name _ n (sym n_is)
          ∙ ap (λ (k : ℕ). replicate (64 - k) 0) (sym n_is);
    }
