-- What is received over a link that tells what is behind it.
use Rattle.provider_wire.proofs.Words.{◌≡◌, ℕ, ◌+◌, ◌≤◌, List, [], ◌∷◌, ◌++◌, length, take, refl, sym, ap, ◌∙◌, append_assoc, arith, length-append, get_or, append-nil, Goes, Behind, Receives, provider_behind}
use Rattle.std.proofs.Common.{Option, Some, None}

-- a provider behind a link is known by what is seen of it
pub same_behind : (old new : Behind) (rest : List ℕ) → provider_behind new ≡ provider_behind old →
    new.due ≡ rest → new ≡ record old { due = rest }
same_behind old new rest e due = λ i. record {
  held = unwrapped (ap (λ p. p.held) e) i;
  store_faults = (ap (λ p. p.store_faults) e) i;
  other_faults = (ap (λ p. p.other_faults) e) i;
  fetches = (ap (λ p. p.fetches) e) i;
  due = due i;
}
  where
    unwrapped : {X : Type 0} {x y : X} → Some x ≡ Some y → x ≡ y
    unwrapped h = cc

abbrev pub SoFar : Option Behind → Option Behind → List ℕ → ℕ → Type 0
SoFar first now out at = (b : Behind) → first ≡ Some b → length out ≤ length b.due →
    (rest : List ℕ) × (b.due ≡ take at out ++ rest) × (now ≡ Some (record b { due = rest }))

-- what a receive told, at what was told before it
pub step : (mid now : Option Behind) (n : ℕ) (part : List ℕ) → Goes (Receives n part) mid now → (x : Behind) →
    mid ≡ Some x → (new : Behind) × (now ≡ Some new) × Receives n part x new
step None now n part g x e = absurd cc
step (Some m) None n part g x e = absurd g
step (Some m) (Some k) n part g x e = (k, refl, (rw (let h : m ≡ x = cc in h) at g))

-- some bytes more came
pub advance : (first mid now : Option Behind) (out more part : List ℕ) (at n : ℕ) → SoFar first mid out at →
    Goes (Receives n part) mid now → length more ≡ length out →
    take (at + n) more ≡ take at out ++ take n part → SoFar first now more (at + n)
advance first mid now out more part at n so g same is = λ b e long.
    let s = so b e (omega (arith, long, same)) in
    let t = step mid now n part g (record b { due = s.0 }) s.2 in (
      t.0.due,
      s.1 ∙ ap (λ (l : List ℕ). take at out ++ l) t.2.given
          ∙ sym (append_assoc (take at out) (take n part) t.0.due) ∙ ap (λ (l : List ℕ). l ++ t.0.due) (sym is),
      t.1 ∙ ap (λ (x : Behind). Some x) (same_behind (record b { due = s.0 }) t.0 t.0.due t.2.provider refl),
    )

-- the first byte came
pub first_byte : (due out tail rest : List ℕ) (kind : ℕ) → due ≡ kind ∷ tail → due ≡ out ++ rest →
    length out ≡ 1 → (get_or out 0 0 ≡ kind) × (rest ≡ tail)
first_byte due (x ∷ []) tail rest kind is parts size =
    let e = sym parts ∙ is in
    (cc, cc)
first_byte due _ tail rest kind is parts size = absurd (omega (arith, size))

-- all of the bytes came
pub all_came : (due out rest : List ℕ) → due ≡ out ++ rest → length due ≡ length out →
    (out ≡ due) × (rest ≡ [])
all_came due out rest parts size =
    let empty = is_empty rest (omega (arith, ap length parts, length-append out rest, size)) in
    (sym (append-nil out) ∙ ap (λ l. out ++ l) (sym empty) ∙ sym parts, empty)
  where
    is_empty : (l : List ℕ) → length l ≡ 0 → l ≡ []
    is_empty [] e = refl
    is_empty (x ∷ l) e = absurd (omega arith)
