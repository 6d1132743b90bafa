use Rattle.dispersal_code.proofs.Words.{◌≡◌, ◌-◌, ◌∙◌, ap, sym, List, ℕ, length, take, arith, length-take, Apart-take, Accepts, IsOnlyAccepted, Registers, Chosen, present_points, present_symbols}
use Rattle.dispersal_code.proofs.Erasures.{length-present, present-le, Apart-present, few_present, first_accepts, none_opens, some_opens}
use Rattle.dispersal_code.proofs.Unique.{same_trim}
use Rattle.dispersal_code.proofs.open.open_row.Goals as goal

pub returns-then-len-need-clause-none : goal.returns-then-len-need-clause-none
returns-then-len-need-clause-none c = few_present c.args.shape.n c.args.shape.b c.args.shape.l
    c.args.points.now c.args.seen.now (c.requires.even ∙ c.requires.whole) (omega (
      arith,
      c.if-len-need.true,
      c.len.ensures.symbols,
      ap (λ (x : Chosen). length x.symbols) c.present_of-present.ensures,
      c.from-need.ensures,
      c.args.shape.fits,
    ))

pub load-requires-clause-apart : goal.load-requires-clause-apart
load-requires-clause-apart c =
    let is_points : c.points.result.now ≡ present_points c.args.points.now c.args.seen.now = c.points.ensures
    ∙ ap (λ (x : Chosen). x.points) c.present_of-present.ensures in
    rw is_points (Apart-take c.from-keep.result (present_points c.args.points.now c.args.seen.now)
    (Apart-present c.args.points.now c.args.seen.now c.requires.apart))

pub returns-then-agreements-need-clause-accepted : goal.returns-then-agreements-need-clause-accepted
returns-then-agreements-need-clause-accepted c =
    let xs : List ℕ = take c.from-keep.result c.points.result.now in
    let ys : List ℕ = take c.from-keep.result c.symbols.result.now in
    let is_points : c.points.result.now ≡ present_points c.args.points.now c.args.seen.now = c.points.ensures
    ∙ ap (λ (x : Chosen). x.points) c.present_of-present.ensures in
    let is_symbols : c.symbols.result.now ≡ present_symbols c.args.seen.now = c.symbols.ensures
    ∙ ap (λ (x : Chosen). x.symbols) c.present_of-present.ensures in
    let all_points : c.points-2.result.now ≡ present_points c.args.points.now c.args.seen.now =
    c.points-2.ensures ∙ ap (λ (x : Chosen). x.points) c.present_of-present.ensures in
    let all_symbols : c.symbols-2.result.now ≡ present_symbols c.args.seen.now = c.symbols-2.ensures
    ∙ ap (λ (x : Chosen). x.symbols) c.present_of-present.ensures in
    first_accepts c.args.shape.l c.args.shape.b c.from-need.result c.args.points.now xs ys
    c.load.new.self.rest c.args.seen.now c.requires.even
    (omega (
      arith,
      length-take c.from-keep.result c.points.result.now,
      length-take c.from-keep.result c.symbols.result.now,
      ap length is_points,
      ap length is_symbols,
      length-present c.args.points.now c.args.seen.now c.requires.even,
    ))
    (omega (arith, length-take c.from-keep.result c.points.result.now, c.from-keep.ensures))
    (ap (λ (r : Registers). r.rest) c.load.ensures)
    (omega (arith, c.from-need.ensures, c.args.shape.fits, c.requires.even, c.requires.whole))
    (rw (c.agreements.ensures.count, c.rest.ensures.is, all_points, all_symbols) at c.if-agreements-need.true)

pub returns-then-agreements-need-clause-only : goal.returns-then-agreements-need-clause-only
returns-then-agreements-need-clause-only c q accepted = (rw c.rest.ensures.is at c.rest.ensures.trimmed) ∙
    same_trim c.args.shape.n c.args.shape.l c.args.shape.b c.args.points.now c.args.seen.now
    c.load.new.self.rest q c.args.shape.fits
    c.requires.apart c.requires.even c.requires.whole
    (returns-then-agreements-need-clause-accepted c) accepted

pub decode_syndromes-requires-clause-apart : goal.decode_syndromes-requires-clause-apart
decode_syndromes-requires-clause-apart c =
    let is_points : c.points-3.result.now ≡ present_points c.args.points.now c.args.seen.now =
    c.points-3.ensures ∙ ap (λ (x : Chosen). x.points) c.present_of-present.ensures in
    rw is_points (Apart-present c.args.points.now c.args.seen.now c.requires.apart)

pub decode_syndromes-requires-clause-enough : goal.decode_syndromes-requires-clause-enough
decode_syndromes-requires-clause-enough c = omega (
  arith,
  c.args.shape.fits,
  c.from-keep.ensures,
  c.from-need.ensures,
  c.if-len-need.false,
  c.len.ensures.symbols,
  c.len-2.ensures.symbols,
  c.len-2.ensures.points,
  ap length c.symbols-3.ensures,
  ap (λ (x : Chosen). length x.points) c.present_of-present.ensures,
  present-le c.args.points.now c.args.seen.now,
  c.requires.even,
  c.requires.whole,
)

pub returns-in_err-decode_syndromes-clause-none : goal.returns-in_err-decode_syndromes-clause-none
returns-in_err-decode_syndromes-clause-none c =
    let is_points : c.points-3.result.now ≡ present_points c.args.points.now c.args.seen.now =
    c.points-3.ensures ∙ ap (λ (x : Chosen). x.points) c.present_of-present.ensures in
    let is_symbols : c.symbols-3.result.now ≡ present_symbols c.args.seen.now = c.symbols-3.ensures
    ∙ ap (λ (x : Chosen). x.symbols) c.present_of-present.ensures in
    let long : length c.symbols-3.result.now ≡ c.len-2.result = ap length c.symbols-3.ensures
    ∙ sym c.len-2.ensures.symbols in
    let same : c.len.result ≡ c.len-2.result = c.len.ensures.symbols ∙ sym c.len-2.ensures.symbols in
    rw c.from_residual.ensures
    (none_opens c.args.shape.n c.args.shape.l c.args.shape.b c.args.points.now c.args.seen.now
    c.points-3.result.now c.symbols-3.result.now c.from-keep.result (c.len-2.result - c.from-need.result)
    c.args.shape.fits c.requires.even c.requires.whole
    (omega (arith, c.if-len-need.false, long, same, c.from-need.ensures, c.args.shape.fits)) is_points
    is_symbols
    c.from-keep.ensures (omega (arith, long, c.from-need.ensures)) c.in_err-decode_syndromes.ensures.decoded)

-- the polynomial that the decoder found
opens : (c : goal.In_ok-decode_syndromes) →
    Accepts c.args.points.now c.args.seen.now c.args.shape.l c.args.shape.b c.decode_syndromes.new.work.rest
    × IsOnlyAccepted c.args.points.now c.args.seen.now c.args.shape.l c.args.shape.b
    c.decode_syndromes.new.work.rest
opens c =
    let is_points : c.points-3.result.now ≡ present_points c.args.points.now c.args.seen.now =
    c.points-3.ensures ∙ ap (λ (x : Chosen). x.points) c.present_of-present.ensures in
    let is_symbols : c.symbols-3.result.now ≡ present_symbols c.args.seen.now = c.symbols-3.ensures
    ∙ ap (λ (x : Chosen). x.symbols) c.present_of-present.ensures in
    let long : length c.symbols-3.result.now ≡ c.len-2.result = ap length c.symbols-3.ensures
    ∙ sym c.len-2.ensures.symbols in
    let same : c.len.result ≡ c.len-2.result = c.len.ensures.symbols ∙ sym c.len-2.ensures.symbols in
    some_opens c.args.shape.n c.args.shape.l c.args.shape.b c.args.points.now c.args.seen.now
    c.points-3.result.now c.symbols-3.result.now c.decode_syndromes.new.work.rest c.from-keep.result
    (c.len-2.result - c.from-need.result)
    c.args.shape.fits c.requires.even c.requires.whole
    (omega (arith, c.if-len-need.false, long, same, c.from-need.ensures, c.args.shape.fits)) is_points
    is_symbols
    c.from-keep.ensures (omega (arith, long, c.from-need.ensures)) c.in_ok-decode_syndromes.ensures.decoded

pub returns-clause-accepted : goal.returns-clause-accepted
returns-clause-accepted c = (opens c).0

pub returns-clause-only : goal.returns-clause-only
returns-clause-only c = (opens c).1
