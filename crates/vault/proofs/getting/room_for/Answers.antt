use Rattle.vault.proofs.Words.{◌≡◌, ℕ, ◌+◌, ◌*◌, ◌^◌, ◌≤◌, refl, sym, arith, mul-le-mul, stripes_on}
use Rattle.vault.proofs.getting.room_for.Goals as goal

room : (len cap count made : ℕ) → len ≡ 0 → count ≡ made → made ≤ cap → len + count ≤ cap
room len cap count made none same fits = omega (arith, none, same, fits)

few : (stripes made length n : ℕ) → made ≡ stripes → made ≤ length → length ≤ 2 ^ 22 → n ≤ 16 →
    stripes * n ≤ 2 ^ 32
few stripes made length n same some short least =
    let all : stripes ≤ 2 ^ 22 = omega arith in
    omega (arith, mul-le-mul all least)

pub returns : goal.returns
returns c =
    let bench = c.args.bench.now in
    let file = bench.keys.file in
    let total : c.stripes-stripes.result ≡ stripes_on bench =
    c.stripes-stripes.ensures.value bench.keys.master.0 in
    let b = c.in_ok-blocks.ensures in
    let y = c.in_ok-bytes.ensures in
    record {
      job_is = refl;
      object_is = refl;
      n_is = refl;
      bench_is = refl;
      length_is = refl;
      size_is = b.size;
      present = b.present;
      symbols = b.symbols;
      bytes = y.items;
      few = few _ _ _ _ total c.stripes-stripes.ensures.bound file.short file.shape.fits.1;
      room_present = room _ _ _ _ b.no_present (λ i. sym total i * sym c.from.ensures i) b.room_present;
      room_symbols = room _ _ _ _ b.no_symbols (λ i. sym total i * sym c.from.ensures i * b.size i)
          b.room_symbols;
      room_bytes = room _ _ _ _ y.len (λ i. sym total i * (16 * (sym c.from-2.ensures i * file.profile.keep)))
          y.capacity;
    }
