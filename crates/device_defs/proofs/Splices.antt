-- Lists in which a part was replaced.
use Rattle.std.proofs.Common.{◌≡◌, inl, inr, ℕ, zero, suc, ◌+◌, ◌-◌, ◌≤◌, min, List, [], ◌∷◌, ◌++◌, length, take, drop, replicate, refl, sym, ap, ◌∙◌, arith, append_assoc, length-append, length-take, length-drop}
use Rattle.std.proofs.lemmas.List.{length-replicate, drop-drop, append-nil, take_all, drop_all, take-append-le, take_at, take-replicate, take_min}
use Rattle.std.specs.List.{between}
use Rattle.std.proofs.lemmas.Bool.{cases_lt}
use Rattle.std.proofs.Math.Seq.{take-append-add}
use Rattle.std.proofs.Common.{take-append-drop}
use Rattle.device_defs.specs.Disks.{spliced}

drop_grown : {X : Type 0} (end : ℕ) (old : List X) (v : X) →
    drop end (old ++ replicate (end - length old) v) ≡ drop end old
drop_grown end old v = elim (cases_lt (length old) end) [
  | inl past ↦ drop_all end _ (omega (
    arith,
    length-append old (replicate (end - length old) v),
    length-replicate (end - length old) v,
  )) ∙ sym (drop_all end old (omega arith))
  | inr within ↦
      let none : end - length old ≡ 0 = omega arith in
      ap (λ (k : ℕ). drop end (old ++ replicate k v)) none ∙ ap (λ (l : List _). drop end l) (append-nil old)
]

take_grown : {X : Type 0} (at end : ℕ) (old : List X) (v : X) → at ≤ end →
    take at (old ++ replicate (end - length old) v)
    ≡ take (min at (length old)) old ++ replicate (at - length old) v
take_grown at end old v le = elim (cases_lt (length old) at) [
  | inl past ↦
      let m : min at (length old) ≡ length old = omega arith in
      let k : at ≡ length old + (at - length old) = omega arith in
      ap (λ (n : ℕ). take n (old ++ replicate (end - length old) v)) k
      ∙ take-append-add old (replicate (end - length old) v) (at - length old)
      ∙ ap (λ (l : List _). old ++ l) (take-replicate (at - length old) (end - length old) v (omega arith))
      ∙ ap (λ (l : List _). l ++ replicate (at - length old) v)
      (sym (ap (λ (n : ℕ). take n old) m ∙ take_all (length old) old (omega arith)))
  | inr within ↦
      let m : min at (length old) ≡ at = omega arith in
      let none : at - length old ≡ 0 = omega arith in
      take-append-le at old _ within
      ∙ ap (λ (n : ℕ). take n old) (sym m)
      ∙ sym (ap (λ (k : ℕ). take (min at (length old)) old ++ replicate k v) none ∙ append-nil _)
]

drop_past : {X : Type 0} (at n : ℕ) (old : List X) →
    drop (min at (length old) + (at - length old + n)) old ≡ drop (at + n) old
drop_past at n old = elim (cases_lt (length old) at) [
  | inl past ↦ drop_all _ old (omega arith) ∙ sym (drop_all (at + n) old (omega arith))
  | inr within ↦ let same : min at (length old) + (at - length old + n) ≡ at + n =
      omega arith in ap (λ (k : ℕ). drop k old) same
]

-- a write over a list that was made long enough
pub spliced_grown : {X : Type 0} (at : ℕ) (new old grown : List X) (v : X) →
    grown ≡ old ++ replicate (at + length new - length old) v
    → spliced at new grown ≡ spliced (min at (length old)) (replicate (at - length old) v ++ new) old
spliced_grown at new old grown v is =
    let end = at + length new in
    let zeros = replicate (at - length old) v in
    let size : min at (length old) + length (zeros ++ new)
    ≡ min at (length old) + (at - length old + length new) =
    omega (arith, length-append zeros new, length-replicate (at - length old) v) in
    let rest : drop (min at (length old) + length (zeros ++ new)) old ≡ drop end old =
    ap (λ (k : ℕ). drop k old) size ∙ drop_past at (length new) old in
    ap (λ (g : List _). take at g ++ (new ++ drop end g)) is
    ∙ ap (λ (l : List _). l ++ (new ++ drop end (old ++ replicate (end - length old) v)))
    (take_grown at end old v (omega arith))
    ∙ ap (λ (l : List _). (take (min at (length old)) old ++ zeros) ++ (new ++ l)) (drop_grown end old v)
    ∙ append_assoc (take (min at (length old)) old) zeros (new ++ drop end old)
    ∙ ap (λ (l : List _). take (min at (length old)) old ++ l) (sym (append_assoc zeros new (drop end old)))
    ∙ ap (λ (l : List _). take (min at (length old)) old ++ ((zeros ++ new) ++ l)) (sym rest)

-- the length of a list in which a part was replaced
pub length-spliced : {X : Type 0} (at : ℕ) (new old : List X) → at ≤ length old →
    length (spliced at new old) ≡ at + length new + (length old - (at + length new))
length-spliced at new old le = omega (
  arith,
  length-append (take at old) (new ++ drop (at + length new) old),
  length-append new (drop (at + length new) old),
  length-take at old,
  length-drop (at + length new) old,
)

-- what a read from a list gives
pub read_part : (bytes out part : List ℕ) (at n : ℕ) → at ≤ length bytes →
    n ≡ min (length out) (length bytes - at) → part ≡ between at (at + n) bytes
    → take n (part ++ drop n out) ≡ take (length out) (drop at bytes)
read_part bytes out part at n fits n_is is =
    let k : at + n - at ≡ n = omega arith in
    let whole : part ≡ take n (drop at bytes) = is ∙ ap (λ (m : ℕ). take m (drop at bytes)) k in
    let long : length part ≡ n = ap length whole
    ∙ omega (arith, length-take n (drop at bytes), length-drop at bytes) in
    let least : n ≡ min (length out) (length (drop at bytes)) = omega (arith, length-drop at bytes) in
    take_at part (drop n out) n long ∙ whole ∙ ap (λ (m : ℕ). take m (drop at bytes)) least
    ∙ take_min (length out) (drop at bytes)

abbrev nothing : List ℕ
nothing = []

-- what is taken from no bytes is none
pub take-nil : (n : ℕ) → nothing ≡ take n nothing
take-nil zero = refl
take-nil (suc n) = refl

-- one write over another, from the same place
drop-append : {X : Type 0} (n : ℕ) (xs ys : List X) → drop n (xs ++ ys) ≡ drop n xs ++ drop (n - length xs) ys
drop-append zero [] ys = refl
drop-append zero (x ∷ xs) ys =
    let none : 0 - suc (length xs) ≡ 0 = omega arith in ap (λ (k : ℕ). (x ∷ xs) ++ drop k ys) (sym none)
drop-append (suc n) [] ys = let all : suc n - 0 ≡ suc n = omega arith in ap (λ (k : ℕ). drop k ys) (sym all)
drop-append (suc n) (x ∷ xs) ys = let less : suc n - length (x ∷ xs) ≡ n - length xs =
    omega arith in drop-append n xs ys ∙ ap (λ (k : ℕ). drop n xs ++ drop k ys) (sym less)

-- a write over another at the same place is one write, of the new and what it left of the other
pub spliced-spliced : {X : Type 0} (at : ℕ) (new mid old : List X) → at ≤ length old →
    spliced at new (spliced at mid old) ≡ spliced at (new ++ drop (length new) mid) old
spliced-spliced at new mid old le =
    let behind = drop (at + length mid) old in
    let size : length (take at old) ≡ at = omega (arith, length-take at old) in
    let rest : drop (at + length new) (take at old ++ (mid ++ behind))
    ≡ drop (length new) mid ++ drop (length new - length mid) behind =
    drop-append (at + length new) (take at old) (mid ++ behind)
    ∙ (λ i. drop_all (at + length new) (take at old) (omega (arith, size)) i ++ drop
    ((let k : at + length new - length (take at old) ≡ length new = omega (arith, size) in k) i)
    (mid ++ behind))
    ∙ drop-append (length new) mid behind in
    let far : drop (length new - length mid) behind ≡ drop (at + length (new ++ drop (length new) mid)) old =
    drop-drop (length new - length mid) (at + length mid) old
    ∙ ap (λ (k : ℕ). drop k old)
    (omega (arith, length-append new (drop (length new) mid), length-drop (length new) mid)) in
    (λ i. take_at (take at old) (mid ++ behind) at size i ++ (new ++ rest i))
    ∙ ap (λ (l : List _). take at old ++ l)
    (sym (append_assoc new (drop (length new) mid) (drop (length new - length mid) behind)))
    ∙ ap (λ (l : List _). take at old ++ ((new ++ drop (length new) mid) ++ l)) far

-- a part in place of itself changes nothing
pub spliced_itself : {X : Type 0} (at n : ℕ) (old : List X) → at + n ≤ length old →
    spliced at (take n (drop at old)) old ≡ old
spliced_itself at n old le =
    let size : length (take n (drop at old)) ≡ n = omega
    (arith, length-take n (drop at old), length-drop at old) in
    ap (λ (k : ℕ). take at old ++ (take n (drop at old) ++ drop (at + k) old)) size
    ∙ ap (λ (l : List _). take at old ++ (take n (drop at old) ++ l)) (sym (drop-drop n at old))
    ∙ ap (λ (l : List _). take at old ++ l) (take-append-drop n (drop at old))
    ∙ take-append-drop at old
