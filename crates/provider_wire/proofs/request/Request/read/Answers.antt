use Rattle.provider_wire.proofs.Words.{◌≡◌, ◌-◌, ◌++◌, ℕ, List, length, take, ap, sym, ◌∙◌, arith, length-append, take_at, request_bytes, Request, SpellsRequest, request_of, request_at}
use Rattle.provider_wire.proofs.Begins.{short}
use Rattle.provider_wire.proofs.Takes.{request_takes, request_again, spelling-some}
use Rattle.provider_wire.proofs.request.Request.read.Goals as goal

pub overflow_sub-result : goal.overflow_sub-result
overflow_sub-result c =
    let text = request_bytes (request_of c.in-Some.request) in
    let took = request_takes c.args.bytes.now (request_of c.in-Some.request, c.in-Some.rest.now)
    (λ i. omega (arith, c.type_inv.bytes i)) (sym c.in-Some.ensures) in
    omega (arith, ap length took.0.parts, length-append text c.in-Some.rest.now)

pub returns-in-Some-clause-some : goal.returns-in-Some-clause-some
returns-in-Some-clause-some c = omega (
  arith,
  ap length (request_takes c.args.bytes.now (request_of c.in-Some.request, c.in-Some.rest.now)
      (λ i. omega (arith, c.type_inv.bytes i)) (sym c.in-Some.ensures)).0.parts,
  length-append (request_bytes (request_of c.in-Some.request)) c.in-Some.rest.now,
  spelling-some (request_of c.in-Some.request),
)

pub returns-in-Some-clause-found : goal.returns-in-Some-clause-found
returns-in-Some-clause-found c =
    let bytes = c.args.bytes.now in
    let rest = c.in-Some.rest.now in
    let text = request_bytes (request_of c.in-Some.request) in
    let took = request_takes bytes (request_of c.in-Some.request, rest)
    (λ i. omega (arith, c.type_inv.bytes i)) (sym c.in-Some.ensures) in
    let n = length bytes - length rest in
    record {
      is_request = took.1;
      bytes_are = ap (λ l. take n l) took.0.parts
          ∙ take_at text rest n (omega (arith, ap length took.0.parts, length-append text rest));
    }

pub returns-in-None-clause-none : goal.returns-in-None-clause-none
returns-in-None-clause-none c = λ r front rest s e.
    let both = c.in-None.ensures ∙ ap request_at (e ∙ ap (λ (l : List ℕ). l ++ rest) s.bytes_are)
    ∙ request_again r rest s.is_request in cc

pub returns-in-None-clause-short : goal.returns-in-None-clause-short
returns-in-None-clause-short c =
    let none = λ (r : Request) (front rest : List ℕ) (s : SpellsRequest front r) (e : c.args.bytes.now ≡ front ++ rest).
    let none_is : ⊥ = (let both = c.in-None.ensures
    ∙ ap request_at (e ∙ ap (λ (l : List ℕ). l ++ rest) s.bytes_are)
    ∙ request_again r rest s.is_request in cc) in none_is in
    short c.args.bytes.now (λ i. omega (arith, c.type_inv.bytes i)) none
