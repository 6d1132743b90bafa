-- The cells of a disk that keeps its bytes and its marks apart.
use Rattle.disk_model.proofs.Words.{◌≡◌, ℕ, zero, suc, ◌+◌, ◌-◌, ◌≤◌, min, Bool, true, false, List, [], ◌∷◌, ◌++◌, take, drop, map, replicate, refl, sym, ap, ◌∙◌, arith, length-append, length-take, length-zip, firsts-zip, length-replicate, replicate-append-replicate, zip, firm, loose, reads, spliced, written}
use Rattle.std.proofs.Common.{length}

-- marked all the same
pub zip_marked : (v : Bool) (n : ℕ) (bytes : List ℕ) → n ≡ length bytes →
    zip bytes (replicate n v) ≡ map (λ b. (b, v)) bytes
zip_marked v zero [] e = refl
zip_marked v (suc n) [] e = absurd (omega arith)
zip_marked v zero (b ∷ bytes) e = absurd (omega arith)
zip_marked v (suc n) (b ∷ bytes) e =
    ap (λ (l : List (ℕ × Bool)). (b, v) ∷ l) (zip_marked v n bytes (omega arith))

zip-append : (hs : List ℕ) (ms : List Bool) (bs : List ℕ) (ns : List Bool) → length ms ≡ length hs →
    zip (hs ++ bs) (ms ++ ns) ≡ zip hs ms ++ zip bs ns
zip-append [] [] bs ns e = refl
zip-append [] (m ∷ ms) bs ns e = absurd (omega arith)
zip-append (a ∷ hs) [] bs ns e = absurd (omega arith)
zip-append (a ∷ hs) (m ∷ ms) bs ns e =
    ap (λ (l : List (ℕ × Bool)). (a, m) ∷ l) (zip-append hs ms bs ns (omega arith))

-- a front of pairs is the pairs of the fronts
pub zip-take : (n : ℕ) (hs : List ℕ) (ms : List Bool) → take n (zip hs ms) ≡ zip (take n hs) (take n ms)
zip-take zero hs ms = refl
zip-take (suc n) [] ms = refl
zip-take (suc n) (a ∷ hs) [] = refl
zip-take (suc n) (a ∷ hs) (m ∷ ms) = ap (λ (l : List (ℕ × Bool)). (a, m) ∷ l) (zip-take n hs ms)

abbrev no_marks : List Bool
no_marks = []

zip-nil : (hs : List ℕ) → zip hs no_marks ≡ []
zip-nil [] = refl
zip-nil (a ∷ hs) = refl

-- and so is the rest
pub zip-drop : (n : ℕ) (hs : List ℕ) (ms : List Bool) → drop n (zip hs ms) ≡ zip (drop n hs) (drop n ms)
zip-drop zero hs ms = refl
zip-drop (suc n) [] ms = refl
zip-drop (suc n) (a ∷ hs) [] = sym (zip-nil (drop n hs))
zip-drop (suc n) (a ∷ hs) (m ∷ ms) = zip-drop n hs ms

-- the two parts of a write are the write of cells
pub zip_spliced : (at : ℕ) (new : List ℕ) (held : List ℕ) (marked : List Bool) (marks : List Bool) →
    length marks ≡ length held → length marked ≡ length new → at ≤ length held
    → zip (spliced at new held) (spliced at marked marks) ≡ spliced at (zip new marked) (zip held marks)
zip_spliced at new held marked marks same sized le =
    let front : length (take at marks) ≡ length (take at held) =
    omega (arith, length-take at marks, length-take at held) in
    let size : length (zip new marked) ≡ length new = omega (arith, length-zip new marked) in
    let sames : at + length marked ≡ at + length new = omega arith in
    let rest : zip (drop (at + length new) held) (drop (at + length marked) marks)
    ≡ drop (at + length (zip new marked)) (zip held marks) =
    ap (λ (k : ℕ). zip (drop (at + length new) held) (drop k marks)) sames
    ∙ sym (zip-drop (at + length new) held marks)
    ∙ ap (λ (k : ℕ). drop (at + k) (zip held marks)) (sym size) in
    zip-append (take at held) (take at marks) (new ++ drop (at + length new) held)
    (marked ++ drop (at + length marked) marks) front
    ∙ ap (λ (l : List (ℕ × Bool)). zip (take at held) (take at marks) ++ l)
    (zip-append new marked (drop (at + length new) held) (drop (at + length marked) marks) sized)
    ∙ ap (λ (l : List (ℕ × Bool)). l ++ (zip new marked ++ zip (drop (at + length new) held)
    (drop (at + length marked) marks))) (sym (zip-take at held marks))
    ∙ ap (λ (l : List (ℕ × Bool)). take at (zip held marks) ++ (zip new marked ++ l)) rest

-- bytes and marks that are written together are the cells that a write leaves
pub zip_written : (at : ℕ) (bytes held : List ℕ) (marks : List Bool) (new_held : List ℕ)
    (new_marks : List Bool) → length marks ≡ length held
    → new_held ≡ spliced (min at (length held)) (replicate (at - length held) 0 ++ bytes) held
    → new_marks ≡ spliced (min at (length marks))
    (replicate (at - length marks) true ++ replicate (length bytes) true) marks
    → zip new_held new_marks ≡ written at bytes (zip held marks)
zip_written at bytes held marks new_held new_marks same held_is marks_is =
    let len : length (zip held marks) ≡ length held = omega (arith, length-zip held marks) in
    let payload = replicate (at - length held) 0 ++ bytes in
    let marked = replicate (at - length held) true ++ replicate (length bytes) true in
    let sized : length marked ≡ length payload = omega (
      arith,
      length-append (replicate (at - length held) true) (replicate (length bytes) true),
      length-append (replicate (at - length held) 0) bytes,
      length-replicate (at - length held) true,
      length-replicate {A = ℕ} (at - length held) 0,
      length-replicate (length bytes) true,
    ) in
    let marked_is : marked ≡ replicate (at - length held + length bytes) true =
    replicate-append-replicate (at - length held) (length bytes) true in
    let whole : zip payload marked ≡ loose payload = ap (λ (m : List Bool). zip payload m) marked_is
    ∙ zip_marked true (at - length held + length bytes) payload
    (omega (arith, ap length marked_is, length-replicate (at - length held + length bytes) true, sized)) in
    let marks_at : new_marks ≡ spliced (min at (length held)) marked marks = marks_is
    ∙ ap (λ (k : ℕ). spliced (min at k) (replicate (at - k) true ++ replicate (length bytes) true) marks)
    same in
    (λ i. zip (held_is i) (marks_at i))
    ∙ zip_spliced (min at (length held)) payload held marked marks same sized (omega arith)
    ∙ ap (λ (l : List (ℕ × Bool)). spliced (min at (length held)) l (zip held marks)) whole
    ∙ ap (λ (k : ℕ). spliced (min at k) (loose (replicate (at - k) 0 ++ bytes)) (zip held marks)) (sym len)

-- after a sync
pub zip_settled : (bytes : List ℕ) (marks after : List Bool) → length marks ≡ length bytes →
    after ≡ replicate (length marks) false → zip bytes after ≡ firm (reads (zip bytes marks))
zip_settled bytes marks after same is =
    ap (λ (m : List Bool). zip bytes m) is ∙ zip_marked false (length marks) bytes same
    ∙ ap firm (sym (firsts-zip bytes marks same))
