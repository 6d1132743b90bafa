use Rattle.record_codec.proofs.Words.{◌≡◌, ◌-◌, ◌++◌, ℕ, List, length, take, ap, sym, ◌∙◌, arith, take_at, spelling, entry_of, record_at}
use Rattle.std.proofs.Common.{length-append}
use Rattle.record_codec.proofs.Takes.{record_takes, record_again}
use Rattle.record_codec.proofs.records.Record.read.Goals as goal

pub overflow_sub-result : goal.overflow_sub-result
overflow_sub-result c =
    let text = spelling (entry_of c.in-Some.entry) in
    let took = record_takes c.args.bytes.now (entry_of c.in-Some.entry, c.in-Some.rest.now)
    (λ i. omega (arith, c.type_inv.bytes i)) (sym c.in-Some.ensures.value) in
    omega (arith, ap length took.0.parts, length-append text c.in-Some.rest.now)

pub returns-in-Some-clause-found : goal.returns-in-Some-clause-found
returns-in-Some-clause-found c =
    let bytes = c.args.bytes.now in
    let rest = c.in-Some.rest.now in
    let text = spelling (entry_of c.in-Some.entry) in
    let took = record_takes bytes (entry_of c.in-Some.entry, rest) (λ i. omega (arith, c.type_inv.bytes i))
    (sym c.in-Some.ensures.value) in
    let n = length bytes - length rest in
    let len : length text ≡ n = omega (arith, ap length took.0.parts, length-append text rest) in
    record {
      in_grammar = took.1;
      bytes_are = ap (λ (l : List ℕ). take n l) took.0.parts ∙ take_at text rest n len;
    }

pub returns-in-Some-clause-in_grammar : goal.returns-in-Some-clause-in_grammar
returns-in-Some-clause-in_grammar c =
    let took = record_takes c.args.bytes.now (entry_of c.in-Some.entry, c.in-Some.rest.now)
    (λ i. omega (arith, c.type_inv.bytes i)) (sym c.in-Some.ensures.value) in
    record { spelled = took.1; padded = c.in-Some.ensures.padded }

pub returns-in-None-clause-none : goal.returns-in-None-clause-none
returns-in-None-clause-none c = λ entry front rest s e.
    let parts = e ∙ ap (λ (l : List ℕ). l ++ rest) s.bytes_are in
    let both = c.in-None.ensures.value ∙ ap record_at parts ∙ record_again entry rest s.in_grammar in cc
