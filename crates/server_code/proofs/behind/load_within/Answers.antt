use Rattle.server_code.proofs.Words.{◌≡◌, ◌∷◌, [], ◌-◌, ◌∙◌, List, ℕ, sym, ap, subst, length, arith, range_with_len, length-range_with_len, Apart-range, vanish, interpolate, trim}
use Rattle.algebra_laws.specs.Field.{Apart}
use Rattle.server_code.proofs.behind.load_within.Goals as goal

pub load-requires-clause-apart : goal.load-requires-clause-apart
load-requires-clause-apart c =
    let p = c.args.tables.now.profile in
    subst (λ (ps : List ℕ). Apart ps) (sym c.points_behind.ensures) (Apart-range p.keep (p.size - p.keep))

pub load-requires-clause-even : goal.load-requires-clause-even
load-requires-clause-even c =
    let p = c.args.tables.now.profile in
    omega (
      arith,
      ap length c.points_behind.ensures,
      length-range_with_len p.keep (p.size - p.keep),
      c.fill_shares.ensures.length,
      c.requires.shares,
    )

pub load-requires-clause-room : goal.load-requires-clause-room
load-requires-clause-room c =
    let p = c.args.tables.now.profile in
    omega (
      arith,
      ap length c.points_behind.ensures,
      length-range_with_len p.keep (p.size - p.keep),
      c.requires.room,
    )

pub returns : goal.returns
returns c =
    let p = c.args.tables.now.profile in
    let shares = c.fill_shares.new.out in
    let long : p.size - p.keep ≡ length shares = omega
    (arith, c.fill_shares.ensures.length, c.requires.shares) in
    record {
      shares = shares;
      full = omega (arith, c.fill_shares.ensures.length, c.requires.shares, c.requires.block);
      each = c.fill_shares.ensures.shares;
      loaded = subst (λ (ps : List ℕ). c.load.new.self ≡ record {
        size = c.args.work.now.size;
        whole = vanish ps;
        rest = trim (interpolate ps shares);
        factor = 1 ∷ [];
      }) (c.points_behind.ensures ∙ ap (range_with_len p.keep) long) c.load.ensures;
    }
