-- What bytes that stand for records say of their length and of their front.
use Rattle.record_defs.proofs.Words.{◌≡◌, ◌≢◌, suc, ◌+◌, ◌≤◌, ◌<◌, List, [], ◌∷◌, length, take, drop, refl, sym, ap, ◌∙◌, arith, length-append, length-take, length-drop, take-take, drop-take, Record, spelling, StandsFor, text, Area, A, B, base_of, entries, end_in, StandsActive}
use Rattle.std.specs.Prelude.{ℕ, ◌-◌}
use Rattle.record_defs.proofs.Sizes.{length-entries}
use Rattle.record_defs.proofs.AreaLaws.{Agree, active_again}

-- each area lies behind the switch byte
pub base-least : (area : Area) → 8 ≤ base_of area
base-least A = omega arith
base-least B = omega arith

-- bytes that stand for records have the first eight bytes, and those of the text
pub active-long : (bytes : List ℕ) (area : Area) (rs : List Record) → StandsActive bytes area rs →
    base_of area + suc (length (entries rs)) ≤ length bytes
active-long bytes area rs s =
    let cut = length-drop (base_of area) bytes in
    let text = ap length s.holds.bytes_are in
    let sum = length-append (entries rs) (s.holds.gate ∷ s.holds.rest) in
    omega (arith, cut, text, sum)

-- the text of records ends within the bytes that stand for them
pub active-end : (bytes : List ℕ) (area : Area) (rs : List Record) → StandsActive bytes area rs →
    end_in area rs ≤ length bytes
active-end bytes area rs s = omega (arith, active-long bytes area rs s, length-entries rs s.holds.in_grammar)

-- bytes and their front agree on what the front reaches
agree-take : (n : ℕ) (bytes : List ℕ) (area : Area) (rs : List Record) →
    base_of area + suc (length (entries rs)) ≤ n → Agree area rs bytes (take n bytes)
agree-take n bytes area rs fits =
    let base = base_of area in
    let m : ℕ = n - base in
    let n_is : n ≡ base + m = omega (arith, fits) in
    record {
      front = sym (take-take 8 n bytes (omega (arith, fits, base-least area)));
      text = sym (take-take (suc (length (entries rs))) m (drop base bytes) (omega (arith, fits)))
          ∙ ap (take (suc (length (entries rs))))
          (sym (ap (λ (k : ℕ). drop base (take k bytes)) n_is ∙ drop-take base m bytes));
    }

-- bytes whose front stands for records in an area stand for them there
pub active-front : (n : ℕ) (bytes : List ℕ) (area : Area) (rs : List Record) →
    StandsActive (take n bytes) area rs → StandsActive bytes area rs
active-front n bytes area rs s =
    let agree = agree-take n bytes area rs
    (omega (arith, active-long (take n bytes) area rs s, length-take n bytes)) in
    active_again area rs (take n bytes) bytes (record { front = sym agree.front; text = sym agree.text }) s

-- bytes whose front stands for records stand for them
pub stands-front : (n : ℕ) (bytes : List ℕ) (rs : List Record) → StandsFor (take n bytes) rs →
    StandsFor bytes rs
stands-front n bytes rs s = (s.0, active-front n bytes s.0 rs s.1)

-- a text that fits stands at the front
pub active-take : (n : ℕ) (bytes : List ℕ) (area : Area) (rs : List Record) → StandsActive bytes area rs →
    end_in area rs ≤ n → StandsActive (take n bytes) area rs
active-take n bytes area rs s fits = active_again area rs bytes (take n bytes)
    (agree-take n bytes area rs (omega (arith, fits, length-entries rs s.holds.in_grammar))) s

-- bytes that stand for a record are longer than those of an empty disk
pub stands-long : (bytes : List ℕ) (rs : List Record) → rs ≢ [] → StandsFor bytes rs → 9 < length bytes
stands-long bytes [] some s = absurd (some refl)
stands-long bytes (r ∷ rs) some s = omega (
  arith,
  active-long bytes s.0 (r ∷ rs) s.1,
  base-least s.0,
  length-append (entries rs) (1 ∷ spelling r),
)
