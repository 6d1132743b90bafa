use Rattle.hail_client.proofs.Words.{ap, ◌∙◌, arith, map, option_map, length-map, map-set, slice_get-get_or, slice_get-map, HasPlace, with_symbol, Alter, IsSpelled, provider_seen}
use Rattle.hail_client.proofs.Replaced.{not-handed, handed}
use Rattle.hail_client.proofs.client.Client.alter.Goals as goal

pub returns-then-index-providers : goal.returns-then-index-providers
returns-then-index-providers g c = record {
  machine = λ w holds faults moment stands. (let seen = provider_seen g.P.Provider in
      let spelled : IsSpelled (Alter c.args.provider c.args.object c.args.stripe c.args.place c.args.symbol) = (
        (let a = c.ranges.provider.fits in omega (arith, a)),
        (let a = c.ranges.object.fits in omega (arith, a)),
        (let a = c.ranges.stripe.fits in omega (arith, a)),
        (let a = c.ranges.place.fits in omega (arith, a)),
        c.symbol_is_number.ensures,
      ) in
      not-handed (Alter c.args.provider c.args.object c.args.stripe c.args.place c.args.symbol) w moment
      c.args.provider (λ blocks. HasPlace (blocks c.args.object c.args.stripe) c.args.place)
      (with_symbol c.args.object c.args.stripe c.args.place c.args.symbol) c.args.self.now holds faults
      (map seen c.args.providers.now) spelled (λ outcome new h. h)
      (let size = length-map c.args.providers.now seen in let beyond = c.if-index-providers.true in
      omega (arith, size, beyond)) stands);
}

pub returns : goal.returns
returns g c = record {
  machine = λ w holds faults moment stands. (let seen = provider_seen g.P.Provider in
      let spelled : IsSpelled (Alter c.args.provider c.args.object c.args.stripe c.args.place c.args.symbol) = (
        (let a = c.ranges.provider.fits in omega (arith, a)),
        (let a = c.ranges.object.fits in omega (arith, a)),
        (let a = c.ranges.stripe.fits in omega (arith, a)),
        (let a = c.ranges.place.fits in omega (arith, a)),
        c.symbol_is_number.ensures,
      ) in
      handed (Alter c.args.provider c.args.object c.args.stripe c.args.place c.args.symbol) w moment
      c.args.provider (λ blocks. HasPlace (blocks c.args.object c.args.stripe) c.args.place)
      (with_symbol c.args.object c.args.stripe c.args.place c.args.symbol) c.args.self.now holds faults
      (map seen c.args.providers.now) _ _ _ c.alter_of.result spelled (λ outcome new h. h)
      (let size = length-map c.args.providers.now seen in let within = c.if-index-providers.false in
      omega (arith, size, within))
      (slice_get-map seen c.args.providers.now c.args.provider
      ∙ ap (option_map seen)
      (slice_get-get_or c.args.providers.now c.args.provider c.index-providers-index.result
      (let within = c.if-index-providers.false in omega (arith, within))))
      (map-set seen c.args.providers.now c.args.provider c.alter_of.new.held) c.alter_of.ensures stands);
}
