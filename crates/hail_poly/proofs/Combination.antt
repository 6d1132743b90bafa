-- What the first short row of Euclid's algorithm is: a multiple of each of the two polynomials that it began
-- with.
use Rattle.hail_poly.proofs.Words.{◌≡◌, ◌≤◌, [], ◌∷◌, ℕ, List, length, refl, sym, ◌∙◌, ap, v, o, i, ◌⊞◌, ◌⊡◌, solve, nim, nim_add, nim_mul, nim_laws, nim_ring, value_over, FirstRow, here, next, value-trim, value-plus, value-times, value, plus, times, value-constant, IsCombination}

-- the first short row is short
pub row_below : {below : ℕ} {r0 f0 r1 f1 r f : List ℕ} → FirstRow nim below r0 f0 r1 f1 r f → length r ≤ below
row_below (here short) = short
row_below (next q r2 f2 more values less size is row) = row_below row

-- the next row at one place
next_at : (r0 f0 r1 f1 r2 f2 q p w m0 m1 : ℕ) → r0 ≡ nim_add (nim_mul q r1) r2 →
    f2 ≡ nim_add f0 (nim_mul q f1) →
    r0 ≡ nim_add (nim_mul f0 p) (nim_mul m0 w) → r1 ≡ nim_add (nim_mul f1 p) (nim_mul m1 w) →
    r2 ≡ nim_add (nim_mul f2 p) (nim_mul (nim_add m0 (nim_mul q m1)) w)
next_at r0 f0 r1 f1 r2 f2 q p w m0 m1 divides is_f2 is_r0 is_r1 =
    solve nim_ring (q ∷ r1 ∷ r2 ∷ []) (v 2) ((v 0 ⊡ v 1) ⊞ ((v 0 ⊡ v 1) ⊞ v 2)) refl ∙
    ap (λ t. nim_add (nim_mul q r1) t) (sym divides ∙ is_r0) ∙
    ap (λ t. nim_add (nim_mul q t) (nim_add (nim_mul f0 p) (nim_mul m0 w))) is_r1 ∙
    solve nim_ring (q ∷ f0 ∷ f1 ∷ p ∷ w ∷ m0 ∷ m1 ∷ [])
    ((v 0 ⊡ ((v 2 ⊡ v 3) ⊞ (v 6 ⊡ v 4))) ⊞ ((v 1 ⊡ v 3) ⊞ (v 5 ⊡ v 4)))
    (((v 1 ⊞ (v 0 ⊡ v 2)) ⊡ v 3) ⊞ ((v 5 ⊞ (v 0 ⊡ v 6)) ⊡ v 4)) refl ∙
    ap (λ t. nim_add (nim_mul t p) (nim_mul (nim_add m0 (nim_mul q m1)) w)) (sym is_f2)

-- each row is a combination of the two polynomials, if the two rows before are
pub combination : {below : ℕ} {r0 f0 r1 f1 r f : List ℕ} (p w : List ℕ) → FirstRow nim below r0 f0 r1 f1 r f →
    IsCombination r0 f0 p w → IsCombination r1 f1 p w → IsCombination r f p w
combination p w (here short) old new = new
combination {below} {r0} {f0} {r1} {f1} p w (next q r2 f2 more values less size is row) old new =
    combination p w row new (record {
      multiple = plus old.multiple (times q new.multiple);
      values = λ x. next_at (value r0 x) (value f0 x) (value r1 x) (value f1 x) (value r2 x) (value f2 x)
          (value q x) (value p x) (value w x) (value old.multiple x) (value new.multiple x) (values x)
          (ap (λ g. value g x) is ∙ value-trim nim nim_laws (plus f0 (times q f1)) x
          ∙ value-plus nim nim_laws f0 (times q f1) x ∙
          ap (nim_add (value f0 x)) (value-times nim nim_laws q f1 x)) (old.values x) (new.values x) ∙
          ap (λ t. nim_add (nim_mul (value f2 x) (value p x)) (nim_mul t (value w x)))
          (sym (value-plus nim nim_laws old.multiple (times q new.multiple) x
          ∙ ap (nim_add (value old.multiple x)) (value-times nim nim_laws q new.multiple x)));
    })

-- the value of the polynomial 0
value-nothing : (x : ℕ) → value [] x ≡ 0
unfolding value_over
value-nothing x = refl

-- the whole begins as 0 times the rest and 1 times itself
whole_begins : (p w : List ℕ) → IsCombination w [] p w
whole_begins p w =
    record {
      multiple = 1 ∷ [];
      values = λ x. solve nim_ring (value p x ∷ value w x ∷ []) (v 1) ((o ⊡ v 0) ⊞ (i ⊡ v 1)) refl ∙
          sym (ap (λ t. nim_add (nim_mul t (value p x)) (nim_mul (value (1 ∷ []) x) (value w x)))
          (value-nothing x) ∙
          ap (λ t. nim_add (nim_mul 0 (value p x)) (nim_mul t (value w x))) (value-constant 1 x));
    }

-- the rest begins as 1 times itself and 0 times the whole
rest_begins : (p w : List ℕ) → IsCombination p (1 ∷ []) p w
rest_begins p w =
    record {
      multiple = [];
      values = λ x. solve nim_ring (value p x ∷ value w x ∷ []) (v 0) ((i ⊡ v 0) ⊞ (o ⊡ v 1)) refl ∙
          sym (ap (λ t. nim_add (nim_mul t (value p x)) (nim_mul (value [] x) (value w x)))
          (value-constant 1 x) ∙
          ap (λ t. nim_add (nim_mul 1 (value p x)) (nim_mul t (value w x))) (value-nothing x));
    }

-- so the first short row is one
pub first_combination : (below : ℕ) (p w r f : List ℕ) → FirstRow nim below w [] p (1 ∷ []) r f →
    IsCombination r f p w
first_combination below p w r f row = combination p w row (whole_begins p w) (rest_begins p w)
