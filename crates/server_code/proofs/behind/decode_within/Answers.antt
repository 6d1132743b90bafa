use Rattle.server_code.proofs.Words.{◌≡◌, ◌∙◌, sym, ap, take, length, arith, plain_profile, keep_below}
use Rattle.server_code.proofs.Nearness.{front-codeword, none_near, far_none, if_none}
use Rattle.server_code.proofs.behind.decode_within.Goals as goal

pub find_quotient-requires-clause-same : goal.find_quotient-requires-clause-same
find_quotient-requires-clause-same c =
    let p = c.args.tables.now.profile in
    let le = keep_below p.number p.size p.keep p.size_is p.keep_is in
    let long : length c.copy_from_slice.new.self ≡ p.keep = c.copy_from_slice.ensures.len ∙ c.requires.kept in
    sym (ap (take p.keep) c.encode.ensures
    ∙ front-codeword (plain_profile p) c.copy_from_slice.new.self le long ∙
    c.copy_from_slice.ensures.after ∙ ap (λ n. take n c.args.block.now) c.requires.kept)

pub returns-then-not-find_quotient-clause-none : goal.returns-then-not-find_quotient-clause-none
returns-then-not-find_quotient-clause-none c =
    let p = c.args.tables.now.profile in
    let long : length c.copy_from_slice.new.self ≡ p.keep = c.copy_from_slice.ensures.len ∙ c.requires.kept in
    none_near (plain_profile p) c.args.block.now c.copy_from_slice.new.self c.encode.new.out long
    c.encode.ensures c.if-not-find_quotient.ensures.none

pub returns-clause-none : goal.returns-clause-none
returns-clause-none c =
    let p = c.args.tables.now.profile in
    let le = keep_below p.number p.size p.keep p.size_is p.keep_is in
    let long : length c.copy_from_slice.new.self ≡ p.keep = c.copy_from_slice.ensures.len ∙ c.requires.kept in
    let even : length c.add_values.new.kept ≡ p.keep = c.add_values.ensures.length ∙ long in
    if_none c.try_kept.result
    (λ far. far_none (plain_profile p) c.args.block.now c.copy_from_slice.new.self c.encode.new.out long
    c.encode.ensures c.find_quotient.new.work.rest c.add_values.new.kept le
    c.if-not-find_quotient.ensures.found even (λ k h. c.add_values.ensures.values k (omega (arith, h, long)))
    far)
    c.try_kept.ensures.far
