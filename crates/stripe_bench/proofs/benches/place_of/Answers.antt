use Rattle.std.proofs.Common.{Option, IfSome, length, slice_get, refl, sym, subst, ◌∙◌, inl, inr, arith}
use Rattle.std.proofs.lemmas.Bool.{false≢true}
use Rattle.std.proofs.lemmas.Option.{slice_get_read, slice_get_past}
use Rattle.column_codec.specs.declared.bench.Bench.{Bench}
use Rattle.stripe_bench.specs.Bench.{Serves}
use Rattle.stripe_bench.proofs.Below.{below_more, either_side}
use Rattle.stripe_bench.proofs.benches.place_of.Goals as goal

pub loop-place-init : goal.loop-place-init
loop-place-init c = λ p l. absurd (omega (arith, l))

pub loop-place-preserved : goal.loop-place-preserved
loop-place-preserved c =
    let Served : Option Bench → Type 0 =
    λ found. IfSome found (λ bench. Serves c.args.master.now.0 c.args.file.now bench → ⊥) in
    below_more (λ p. Served (slice_get c.args.benches.now p)) c.loop-place.place c.loop-place.invariant
    (subst Served (sym (slice_get_read c.args.benches.now (length c.args.benches.now) c.loop-place.place
    c.index-benches-place.result refl c.loop-place-test.true c.index-benches-place.is))
    (λ s. false≢true (sym c.if-fits.false ∙ c.fits.ensures.served s)))

pub returns-clause-none : goal.returns-clause-none
returns-clause-none c none place =
    let Served : Option Bench → Type 0 =
    λ found. IfSome found (λ bench. Serves c.args.master.now.0 c.args.file.now bench → ⊥) in
    elim (either_side place c.loop-place.place) [
      | inl l ↦ c.loop-place.invariant place l
      | inr m ↦ subst Served (sym (slice_get_past c.args.benches.now place
          (let o = c.loop-place-test.false in omega (arith, o, m)))) tt
    ]
