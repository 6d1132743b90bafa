-- The range in which bytes of a disk in memory may be loose.
use Rattle.disk_model.proofs.Words.{◌≡◌, ◌≢◌, ◌⊎◌, inl, inr, ℕ, zero, suc, ◌+◌, ◌-◌, ◌≤◌, ◌<◌, min, Bool, true, false, List, [], ◌∷◌, ◌++◌, take, drop, replicate, Some, refl, sym, ap, ◌∙◌, subst, arith, length-append, length-take, length-drop, length-replicate, replicate-append-replicate, zip, slice_get, Cells, firm, is_loose_at, spliced, written, Torn, IsFirmOutside, IsUnmarkedOutside}
use Rattle.std.proofs.Common.{length}
use Rattle.device_defs.proofs.WriteLaws.{loose_outside}

-- a mark stands at a loose byte
is_loose_zip : (held : List ℕ) (marks : List Bool) (k : ℕ) → length marks ≡ length held →
    slice_get marks k ≡ Some true → is_loose_at (zip held marks) k ≡ true
is_loose_zip [] [] k same there = absurd cc
is_loose_zip [] (m ∷ marks) k same there = absurd (omega (arith, same))
is_loose_zip (h ∷ held) [] k same there = absurd cc
is_loose_zip (h ∷ held) (m ∷ marks) zero same there = cc
is_loose_zip (h ∷ held) (m ∷ marks) (suc k) same there = is_loose_zip held marks k (omega (arith, same)) there

-- where bytes are firm outside of a range, no mark stands there
pub unmarked_outside : (from to : ℕ) (held : List ℕ) (marks : List Bool) → length marks ≡ length held →
    IsFirmOutside from to (zip held marks) → IsUnmarkedOutside from to marks
unmarked_outside from to held marks same is_firm = λ k out there.
    absurd (let h = sym (is_firm k out) ∙ is_loose_zip held marks k same there in cc h)

-- ---- taking marks away

no_marks : (marks : List Bool) → ((k : ℕ) → slice_get marks k ≢ Some true) →
    marks ≡ replicate (length marks) false
no_marks [] none = refl
no_marks (true ∷ marks) none = absurd (none 0 refl)
no_marks (false ∷ marks) none = ap (λ (l : List Bool). false ∷ l) (no_marks marks (λ k. none (suc k)))

in_front : (n : ℕ) (marks : List Bool) (k : ℕ) → slice_get (take n marks) k ≡ Some true →
    (k < n) × (slice_get marks k ≡ Some true)
in_front zero marks k there = absurd cc
in_front (suc n) [] k there = absurd cc
in_front (suc n) (m ∷ marks) zero there = (omega arith, there)
in_front (suc n) (m ∷ marks) (suc k) there =
    let h = in_front n marks k there in (omega (arith, h.0), h.1)

behind : (n : ℕ) (marks : List Bool) (k : ℕ) → slice_get (drop n marks) k ≡ Some true →
    slice_get marks (n + k) ≡ Some true
behind zero marks k there =
    let e : k ≡ 0 + k = omega arith in subst (λ (n : ℕ). slice_get marks n ≡ Some true) e there
behind (suc n) [] k there = absurd cc
behind (suc n) (m ∷ marks) k there =
    let e : suc (n + k) ≡ suc n + k = omega arith in
    subst (λ (j : ℕ). slice_get (m ∷ marks) j ≡ Some true) e (behind n marks k there)

within : (marks : List Bool) (k : ℕ) → slice_get marks k ≡ Some true → k < length marks
within [] k there = absurd cc
within (m ∷ marks) zero there = omega arith
within (m ∷ marks) (suc k) there = let h = within marks k there in omega (arith, h)

-- where all marks are taken away in a range that has each, none is left
pub unmarked : (from to : ℕ) (marks : List Bool) (start end : ℕ) → IsUnmarkedOutside from to marks →
    end ≡ min to (length marks) → start ≡ min from end →
    spliced start (replicate (end - start) false) marks ≡ replicate (length marks) false
unmarked from to marks start end none end_is start_is =
    let front : take start marks ≡ replicate start false =
    no_marks (take start marks) (λ k there.
    let h = in_front start marks k there in none k (inl (omega (arith, h.0, start_is))) h.1)
    ∙ ap (λ (n : ℕ). replicate n false) (omega (arith, length-take start marks, start_is, end_is)) in
    let rest : drop end marks ≡ replicate (length marks - end) false =
    no_marks (drop end marks) (λ k there.
    let h = behind end marks k there in past k h)
    ∙ ap (λ (n : ℕ). replicate n false) (length-drop end marks) in
    let over : start + length (replicate (end - start) false) ≡ end =
    omega (arith, length-replicate (end - start) false, start_is) in
    (λ i. front i ++ (replicate (end - start) false ++ drop (over i) marks))
    ∙ ap (λ (l : List Bool). replicate start false ++ (replicate (end - start) false ++ l)) rest
    ∙ ap (λ (l : List Bool). replicate start false ++ l)
    (replicate-append-replicate (end - start) (length marks - end) false)
    ∙ replicate-append-replicate start (end - start + (length marks - end)) false
    ∙ ap (λ (n : ℕ). replicate n false) (omega (arith, start_is, end_is))
  where
    past : (k : ℕ) → slice_get marks (end + k) ≢ Some true
    past k there =
        let h = within marks (end + k) there in none (end + k) (inr (omega (arith, h, end_is))) there

-- ---- what a write and a failing write leave

-- no byte of a settled disk is loose
pub none_loose : (from to : ℕ) (bytes : List ℕ) → IsFirmOutside from to (firm bytes)
none_loose from to [] k out = refl
none_loose from to (b ∷ bytes) zero out = refl
none_loose from to (b ∷ bytes) (suc k) out = none_loose 0 0 bytes k (inr (omega arith))

-- a write is as one that failed behind its last byte
pub Torn-whole : (at : ℕ) (bytes : List ℕ) (old : Cells) → Torn at (length bytes) old (written at bytes old)
Torn-whole at bytes old =
    let payload = replicate (at - length old) 0 ++ bytes in
    let long : length payload ≡ at - length old + length bytes = omega (
      arith,
      length-append (replicate {A = ℕ} (at - length old) 0) bytes,
      length-replicate {A = ℕ} (at - length old) 0,
    ) in
    record {
      bytes = payload;
      held = refl;
      no_longer = omega (arith, long);
      no_shorter = omega (arith, long);
    }

-- all that a write may make loose lies in a range that has its own
pub torn_firm : (from to now_from now_to at n : ℕ) (old new : Cells) → Torn at n old new →
    IsFirmOutside from to old → now_from ≤ from → now_from ≤ min at (length old) → to ≤ now_to →
    at + n ≤ now_to → IsFirmOutside now_from now_to new
torn_firm from to now_from now_to at n old new torn is_firm no_later from_is no_earlier to_is = λ k out.
    ap (λ (cells : Cells). is_loose_at cells k) torn.held
    ∙ loose_outside (min at (length old)) torn.bytes old (omega arith) k (beside k out)
    ∙ is_firm k (before k out)
  where
    beside : (k : ℕ) → (k < now_from) ⊎ (now_to ≤ k) →
        (k < min at (length old)) ⊎ (min at (length old) + length torn.bytes ≤ k)
    beside k (inl lt) = inl (omega arith)
    beside k (inr ge) = inr (omega (arith, torn.no_longer))

    before : (k : ℕ) → (k < now_from) ⊎ (now_to ≤ k) → (k < from) ⊎ (to ≤ k)
    before k (inl lt) = inl (omega arith)
    before k (inr ge) = inr (omega arith)
