-- What a scrub counts of places: it stays when other places are fetched and opened.
use Rattle.scrub_laws.proofs.Words.{◌≡◌, ℕ, ◌==◌, ◌&&◌, List, [], ◌∷◌, Option, refl, ap, ◌∙◌, inl, inr, arith, sum_by, if◌then◌else◌, cases_Bool, eqb-true, and_parts, sum_by-cons, Each, Object, column_of_symbols, differs, Given, Fetched, Worked, block_given, symbols_given, cond_false, Place}

-- how many symbols of a provider's block of a place differ, as it is looked up
abbrev pub off_given : (ℕ → Object) → List Given → ℕ → Place → ℕ
off_given objects given j p = differs (block_given given p.object p.stripe j)
    (column_of_symbols (objects p.object) (symbols_given given p.object p.stripe) j p.stripe)

-- 1 where any does
abbrev pub block_off : (ℕ → Object) → List Given → ℕ → Place → ℕ
block_off objects given j p = if off_given objects given j p == 0 then 0 else 1

-- a gift of another place
abbrev pub IsElsewhere : ℕ → ℕ → Place → Type 0
IsElsewhere o s p = (o ≡ p.object) × (s ≡ p.stripe) → ⊥

module _ (objects : ℕ → Object) (given : List Given) (j : ℕ) where
  -- a fetch of another place changes nothing here
  pub off-fetched : (k o s : ℕ) (block : Option (List ℕ)) (p : Place) → IsElsewhere o s p →
      off_given objects (Fetched k o s block ∷ given) j p ≡ off_given objects given j p
  off-fetched k o s block p n = ap (λ b. differs b
      (column_of_symbols (objects p.object) (symbols_given given p.object p.stripe) j p.stripe))
      (cond_false ((k == j) && (o == p.object) && (s == p.stripe)) block
      (block_given given p.object p.stripe j)
      (elim (cases_Bool ((k == j) && (o == p.object) && (s == p.stripe))) [
        | inl t ↦ absurd (let a = and_parts ((k == j) && (o == p.object)) (s == p.stripe) t in
            let b = and_parts (k == j) (o == p.object) a.0 in
            n (eqb-true o p.object b.1, eqb-true s p.stripe a.1))
        | inr f ↦ f
      ]))

  -- nor does an opening of another place
  pub off-worked : (o s : ℕ) (symbols : List ℕ) (p : Place) → IsElsewhere o s p →
      off_given objects (Worked o s symbols ∷ given) j p ≡ off_given objects given j p
  off-worked o s symbols p n = ap (λ ss. differs (block_given given p.object p.stripe j)
      (column_of_symbols (objects p.object) ss j p.stripe)) (cond_false ((o == p.object) && (s == p.stripe))
      symbols (symbols_given given p.object p.stripe)
      (elim (cases_Bool ((o == p.object) && (s == p.stripe))) [
        | inl t ↦ absurd (let a = and_parts (o == p.object) (s == p.stripe) t in
            n (eqb-true o p.object a.0, eqb-true s p.stripe a.1))
        | inr f ↦ f
      ]))

-- sums of what is the same are the same
pub sums-same : (f g : Place → ℕ) (ps : List Place) → Each (λ p. f p ≡ g p) ps → sum_by f ps ≡ sum_by g ps
sums-same f g [] h = refl
sums-same f g (p ∷ ps) h = sum_by-cons f p ps
    ∙ (let a = h.0 in let b = sums-same f g ps h.1 in let c = sum_by-cons g p ps in omega (arith, a, b, c))
