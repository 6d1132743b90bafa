-- What the decoder concludes of the first short row on the key equation.
use Rattle.hail_syndrome.proofs.Words.{◌≡◌, ◌≤◌, ◌<◌, ◌+◌, ◌-◌, ◌*◌, ℕ, List, [], ◌∷◌, length, map, take, reverse, Some, sym, ◌∙◌, ap, arith, length-take, length-reverse, take-take, length-map-range_with_len, Apart, nim, nim_add, nim_mul, nim_laws, nim_endless, FirstRow, Decodes, interpolate_takes, length-interpolate, TakesSymbols, power, key, sound_points, sound_values, syndrome, syndromes_of}
use Rattle.algebra_laws.proofs.Agree.{agree_same}
use Rattle.algebra_laws.proofs.Trim.{value-trim, length-trim}
use Rattle.algebra_laws.proofs.Headlines.{one_takes}
use Rattle.code_defs.specs.Polynomials.{value, vanish, interpolate, trim}
use Rattle.hail_poly.specs.Decoding.{matches, IsDecoded, NoneDecodes}
use Rattle.hail_poly.specs.Quotient.{IsCombination}
use Rattle.hail_syndrome.proofs.KeyEquation.{tail, length-tail, key_equation}
use Rattle.hail_syndrome.proofs.KeyRow.{factor_short, factor_some, takes_where}
use Rattle.hail_syndrome.proofs.SoundPlaces.{many_sound, takes_sound, length-sound_values, Apart-sound, Apart-front, Takes-front}

module _ (points values : List ℕ) (even : length points ≡ length values) (apart : Apart points) (keep fix : ℕ)
    (some : 1 ≤ keep) (enough : keep + 2 * fix ≤ length values)
    (r f : List ℕ) (row : FirstRow nim (length points - keep - fix) (power (length points - keep)) []
    (key (syndromes_of points values (length points - keep))) (1 ∷ []) r f)
    (combination : IsCombination r f (key (syndromes_of points values (length points - keep)))
    (power (length points - keep))) where
  abbrev m : ℕ
  m = length points - keep

  abbrev S : List ℕ
  S = key (syndromes_of points values (length points - keep))

  -- there are no more coefficients than syndromes
  few : length S ≤ m
  few = omega (
    arith,
    length-trim nim nim_laws (reverse (syndromes_of points values (length points - keep))),
    length-reverse (syndromes_of points values (length points - keep)),
    length-map-range_with_len (syndrome points values) 0 (length points - keep),
  )

  -- the key equation, of the polynomial as it is loaded
  equation : (x : ℕ) → nim_mul (value (power m) x) (value (interpolate points values) x) ≡
      nim_add (nim_mul (value S x) (value (vanish points) x)) (value (tail points values even apart m) x)
  equation x = key_equation points values even apart m x ∙
      ap (λ t. nim_add (nim_mul t (value (vanish points) x)) (value (tail points values even apart m) x))
      (sym (value-trim nim nim_laws (reverse (syndromes_of points values (length points - keep))) x))

  -- enough places are not suspected
  pub many : keep ≤ length (sound_points nim f points)
  many = omega (
    arith,
    some,
    enough,
    even,
    factor_short nim nim_laws nim_endless m (m - fix) S r f few (omega arith) row,
    many_sound nim nim_laws f points apart (factor_some nim nim_laws nim_endless m (m - fix) S r f few
        (omega arith) row combination.multiple combination.values),
  )

  abbrev chosen : List ℕ
  chosen = take keep (sound_points nim f points)

  abbrev taken : List ℕ
  taken = take keep (sound_values nim f points values)

  length-chosen : length chosen ≡ keep
  length-chosen = omega (arith, length-take keep (sound_points nim f points), many)

  even_chosen : length chosen ≡ length taken
  even_chosen = omega (
    arith,
    length-take keep (sound_points nim f points),
    length-take keep (sound_values nim f points values),
    length-sound_values nim nim_laws f points values even,
  )

  -- no two of the chosen points are the same
  pub apart_chosen : Apart chosen
  apart_chosen = Apart-front (sound_points nim f points) keep (Apart-sound nim nim_laws f points apart)

  -- what decodes the values takes those at the chosen places
  takes_chosen : (p : List ℕ) → Decodes nim points values keep fix p → TakesSymbols p chosen taken
  takes_chosen p is = Takes-front nim nim_laws f p (sound_points nim f points)
      (sound_values nim f points values) keep (takes_sound nim nim_laws f p points values even
      (takes_where nim nim_laws nim_endless m (m - fix) S r f few (omega arith) row combination.multiple
      combination.values points values (tail points values even apart m) even apart
      (omega (arith, length-tail points values even apart m)) equation keep fix (omega (arith, some))
      (omega (arith, enough, even)) (omega (arith, enough, even)) (omega (arith, enough, even)) p is))

  module _ (q : List ℕ) (made : q ≡ trim (interpolate chosen taken)) where
    -- so it is the polynomial through these
    is_made : (p : List ℕ) → Decodes nim points values keep fix p → q ≡ trim p
    is_made p is = made ∙ one_takes nim nim_laws chosen taken (interpolate chosen taken) p apart_chosen
        (omega (arith, length-interpolate nim nim_laws chosen taken even_chosen))
        (interpolate_takes nim nim_laws chosen taken nim_laws.one_not_zero even_chosen apart_chosen)
        (omega (arith, is.short, length-chosen)) (takes_chosen p is)

    -- where it agrees too seldom
    pub too_few : matches q points values + fix < length points → NoneDecodes points values keep fix
    too_few h = record {
      none = λ p is. omega (
        arith,
        h,
        is.near,
        agree_same nim p q points (map Some values)
            (λ x. sym (value-trim nim nim_laws p x) ∙ ap (λ u. value u x) (sym (is_made p is))),
      );
    }

    -- where it agrees often enough
    pub is_enough : length points ≤ matches q points values + fix → IsDecoded points values keep fix q
    is_enough h = record {
      decodes = record {
        short = omega (
          arith,
          ap length made,
          length-trim nim nim_laws (interpolate chosen taken),
          length-interpolate nim nim_laws chosen taken even_chosen,
          length-chosen,
        );
        near = h;
      };
      only = is_made;
    }

-- the front of a list, of which a longer front is known
pub front_is : (xs total : List ℕ) (n keep : ℕ) → take n xs ≡ total → keep ≤ length total →
    take keep xs ≡ take keep total
front_is xs total n keep is le =
    sym (take-take keep n xs (omega (arith, ap length is, length-take n xs))) ∙ ap (take keep) is

-- the polynomial through the chosen places, as it is loaded
pub made_of : (keep n k : ℕ) (points values sound seen rest : List ℕ) → take n sound ≡ points →
    take k seen ≡ values → keep ≤ length points → length values ≡ length points →
    rest ≡ trim (interpolate (take keep sound) (take keep seen)) →
    rest ≡ trim (interpolate (take keep points) (take keep values))
made_of keep n k points values sound seen rest is_sound is_seen le even made =
    made ∙ cc (front_is sound points n keep is_sound le, front_is seen values k keep is_seen (omega arith))
