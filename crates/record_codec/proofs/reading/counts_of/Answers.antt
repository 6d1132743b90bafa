use Rattle.record_codec.proofs.Words.{◌≡◌, ℕ, ◌∙◌, length, take, replicate, ap, arith, rules, length-take-le, numbers_at}
use Rattle.record_codec.proofs.CountsLemmas.{counts_found, padding, padded_room}
use Rattle.record_codec.proofs.reading.counts_of.Goals as goal

pub returns-clause-value : goal.returns-clause-value
returns-clause-value c =
    let n = c.in_ok-n.n.now in
    let len : length (take n (replicate {A = ℕ} 16 0)) ≡ n =
    length-take-le n (replicate {A = ℕ} 16 0) (omega arith) in
    let room : length c.numbers_of.new.out ≡ n = omega (arith, c.numbers_of.auto.out, len) in
    counts_found n c.numbers_of.new.out c.in_ok-n.rest.now c.in_ok-rest.rest.now c.args.bytes.now
    (search rules) (omega arith) (omega arith) room
    (c.in_ok-rest.ensures ∙ ap (λ (k : ℕ). numbers_at k c.in_ok-n.rest.now) len)

pub returns-clause-padded : goal.returns-clause-padded
returns-clause-padded c =
    let n = c.in_ok-n.n.now in
    let len : length (take n (replicate {A = ℕ} 16 0)) ≡ n =
    length-take-le n (replicate {A = ℕ} 16 0) (omega arith) in
    let room : length c.numbers_of.new.out ≡ n = omega (arith, c.numbers_of.auto.out, len) in
    record {
      room = padded_room n c.numbers_of.new.out room (omega arith);
      at_most = omega arith;
      zeros = padding n c.numbers_of.new.out room;
    }
