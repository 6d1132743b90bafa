-- The steps of the additive transform.
use Rattle.server_code.proofs.Words.{◌≡◌, ◌+◌, ◌*◌, ◌++◌, ℕ, suc, List, take, drop, ap, ap₂, sym, ◌∙◌, add-one, plus, places, twiddle, joined, parted, inverse, forward, coefficient_sum}
use Rattle.std.proofs.lemmas.List.{take-append-drop}

-- the coefficients of two values
pub inverse_pair : (h : ℕ) (v new : List ℕ) → new ≡ joined 1 (twiddle h) v → new ≡ inverse 1 h v
unfolding inverse
inverse_pair h v new is = is ∙ ap (joined 1 (twiddle h)) (sym (take-append-drop 1 v))

-- those of twice as many values
pub inverse_made : (i h : ℕ) (v l r new : List ℕ) → l ≡ inverse i (2 * h) (take (places i) v) →
    r ≡ inverse i (2 * h + 1) (drop (places i) v) →
    new ≡ joined (places i) (twiddle h) (l ++ r) → new ≡ inverse (suc i) h v
unfolding inverse
inverse_made i h v l r new is_l is_r is = is ∙ ap₂ (λ s t. joined (places i) (twiddle h) (s ++ t)) is_l is_r

-- the values of two coefficients
pub forward_pair : (h : ℕ) (v new : List ℕ) → new ≡ parted 1 (twiddle h) v → new ≡ forward 1 h v
unfolding forward
forward_pair h v new is = is ∙ sym (take-append-drop 1 (parted 1 (twiddle h) v))

-- those of twice as many coefficients
pub forward_made : (i h : ℕ) (v w l r : List ℕ) → w ≡ parted (places i) (twiddle h) v →
    l ≡ forward i (2 * h) (take (places i) w) → r ≡ forward i (2 * h + 1) (drop (places i) w) →
    l ++ r ≡ forward (suc i) h v
unfolding forward
forward_made i h v w l r is is_l is_r =
    ap₂ (λ s t. s ++ t) (is_l ∙ ap (λ x. forward i (2 * h) (take (places i) x)) is)
    (is_r ∙ ap (λ x. forward i (2 * h + 1) (drop (places i) x)) is)

-- one quarter more
pub one_quarter_more : (i h q : ℕ) (block sum new : List ℕ) → sum ≡ coefficient_sum i h q block →
    new ≡ plus sum (inverse i (h + q) (take (places i) (drop (q * places i) block))) →
    new ≡ coefficient_sum i h (q + 1) block
unfolding coefficient_sum
one_quarter_more i h q block sum new before is =
    is ∙ ap (λ t. plus t (inverse i (h + q) (take (places i) (drop (q * places i) block)))) before
    ∙ ap (λ n. coefficient_sum i h n block) (sym (add-one q))
