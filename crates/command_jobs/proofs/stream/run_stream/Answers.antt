use Rattle.command_jobs.proofs.Words.{◌≡◌, ℕ, ◌≤◌, ◌++◌, List, Option, length, map, take, drop, refl, ap, sym, subst, ◌∙◌, arith, rules, length-map, length-take-le, take-append_seam, Record, largest_file, Area, PutJob, setup_in_effect, put_stripe, ReadsFront, ReadsWithin, Rose, rose-before, devices_seen, provider_seen, IsFreshOver, StreamsTo, IsUnbegunOver}
use Rattle.command_jobs.specs.declared.stream.Unbegun.{Unbegun}
use Rattle.command_jobs.specs.declared.stream.Unbegun.TheVariants as unbegun
use Rattle.command_jobs.proofs.Alone.{refused-over}
use Rattle.command_jobs.proofs.Beginning.{stripe-over, is-stripe, first-number, all-begun}
use Rattle.command_jobs.proofs.Readings.{told-by}
use Rattle.command_jobs.proofs.Streaming.{streams-over}
use Rattle.command_jobs.proofs.stream.run_stream.Goals as goal

pub returns-in_err-stripe-clause-refused : goal.returns-in_err-stripe-clause-refused
returns-in_err-stripe-clause-refused g c = told-by c.from_residual.result unbegun.Memory
    (λ (why : Unbegun). (area : Area) (records : List Record) → IsFreshOver c.args.vault area records
    (g.D.Disk.holds c.args.disk.now) (g.D.Disk.faults c.args.disk.now) →
    IsUnbegunOver area records c.args.name.now c.args.profile why (g.S.Source.left c.args.source.now)
    (g.S.Source.left c.args.source.now)) c.from_residual.ensures.1 (λ area records fresh. refl)

pub returns-in_err-first-clause-refused : goal.returns-in_err-first-clause-refused
returns-in_err-first-clause-refused g c = told-by c.from_residual-in_err-first.result unbegun.SourceFault
    (λ why. (area : Area) (records : List Record) → IsFreshOver c.args.vault area records
    (g.D.Disk.holds c.args.disk.now) (g.D.Disk.faults c.args.disk.now) →
    IsUnbegunOver area records c.args.name.now c.args.profile why (g.S.Source.left c.args.source.now)
    (g.S.Source.left c.read_piece.new.source)) c.from_residual-in_err-first.ensures.1 (λ area records fresh.
    let room : length c.read_piece.new.stripe ≡ c.stripe_size.result = search rules in
    subst (λ (size : ℕ). ReadsWithin 0 size (g.S.Source.left c.args.source.now)
    (g.S.Source.left c.read_piece.new.source))
    (room ∙ (c.stripe_size.ensures ∙ stripe-over c.opened_states.ensures c.args.vault area records
    (g.D.Disk.holds c.args.disk.now) (g.D.Disk.faults c.args.disk.now) fresh c.args.profile))
    c.in_err-first.ensures.short)

pub returns-in_err-number-clause-refused : goal.returns-in_err-number-clause-refused
returns-in_err-number-clause-refused g c = told-by c.from_residual-in_err-number.result
    (unbegun.Refused c.in_err-number.field-0.0) (λ (why : Unbegun). (area : Area) (records : List Record) →
    IsFreshOver c.args.vault area records (g.D.Disk.holds c.args.disk.now) (g.D.Disk.faults c.args.disk.now) →
    IsUnbegunOver area records c.args.name.now c.args.profile why (g.S.Source.left c.args.source.now)
    (g.S.Source.left c.read_piece.new.source)) c.from_residual-in_err-number.ensures.1 (λ area records fresh.
    let P = c.in_ok-first.ensures.piece in
    let room : length c.read_piece.new.stripe ≡ c.stripe_size.result = search rules in
    let size : c.stripe_size.result ≡ put_stripe records c.args.profile = c.stripe_size.ensures
    ∙ stripe-over c.opened_states.ensures c.args.vault area records (g.D.Disk.holds c.args.disk.now)
    (g.D.Disk.faults c.args.disk.now) fresh c.args.profile in
    let S = is-stripe c.opened_states.ensures c.args.vault area records
    (g.D.Disk.holds c.args.disk.now) (g.D.Disk.faults c.args.disk.now) fresh c.args.profile
    c.stripe_size.result size in
    let few : length (take c.in_ok-first.first c.read_piece.new.stripe) ≤ largest_file =
    (let a = length-take-le c.in_ok-first.first c.read_piece.new.stripe P.few in let b = P.few in
    let m = S.most in omega (arith, a, b, m, room)) in
    record {
      bytes = take c.in_ok-first.first c.read_piece.new.stripe;
      reads = P.read;
      few = few;
      one = (let a = length-take-le c.in_ok-first.first c.read_piece.new.stripe P.few in let b = P.few in
          omega (arith, a, b, room, size));
      refused = refused-over c.opened_states.ensures c.args.vault area records
          (g.D.Disk.holds c.args.disk.now) (g.D.Disk.faults c.args.disk.now) fresh c.begin_stream.new.self
          (PutJob c.args.name.now (take c.in_ok-first.first c.read_piece.new.stripe)) c.args.profile
          c.in_err-number.field-0.0 (λ w d moment stands. c.in_err-number.ensures.machine w d moment
          (take c.in_ok-first.first c.read_piece.new.stripe) stands P.read.are_bytes few);
    })

pub give_all-streamed-requires-clause-first : goal.give_all-streamed-requires-clause-first
give_all-streamed-requires-clause-first g c =
    let r = c.requires.ready in
    let seen = provider_seen g.P.Provider in
    let few : (setup_in_effect r.records).n ≤ length (map seen c.args.providers.now) =
    (let a = r.enough in let b = length-map c.args.providers.now seen in omega (arith, a, b)) in
    first-number c.opened_states.ensures c.args.vault r.area r.records
    (g.D.Disk.holds c.args.disk.now) (g.D.Disk.faults c.args.disk.now) r.fresh
    c.begin_stream.new.self c.args.name.now c.args.profile c.in_ok-number.number c.stripe_size.result
    (map seen c.args.providers.now) few
    (c.stripe_size.ensures ∙ stripe-over c.opened_states.ensures c.args.vault r.area r.records
    (g.D.Disk.holds c.args.disk.now) (g.D.Disk.faults c.args.disk.now) r.fresh
    c.args.profile)
    (λ bytes are few w d moment stands. c.in_ok-number.ensures.machine w d moment bytes stands are few)

pub give_all-streamed-requires-clause-stripe : goal.give_all-streamed-requires-clause-stripe
give_all-streamed-requires-clause-stripe g c =
    let r = c.requires.ready in
    is-stripe c.opened_states.ensures c.args.vault r.area r.records
    (g.D.Disk.holds c.args.disk.now) (g.D.Disk.faults c.args.disk.now) r.fresh c.args.profile _
    ((search rules) ∙ (c.stripe_size.ensures ∙ stripe-over c.opened_states.ensures c.args.vault r.area r.records
    (g.D.Disk.holds c.args.disk.now) (g.D.Disk.faults c.args.disk.now) r.fresh
    c.args.profile))

pub give_all-streamed-requires-clause-begun : goal.give_all-streamed-requires-clause-begun
give_all-streamed-requires-clause-begun g c = λ bytes are short.
    let r = c.requires.ready in
    let seen = provider_seen g.P.Provider in
    let few : (setup_in_effect r.records).n ≤ length (map seen c.args.providers.now) =
    omega (arith, r.enough, (length-map c.args.providers.now seen)) in
    all-begun c.opened_states.ensures c.args.vault r.area r.records
    (g.D.Disk.holds c.args.disk.now) (g.D.Disk.faults c.args.disk.now) r.fresh
    c.begin_stream.new.self c.args.name.now c.args.profile c.in_ok-number.number _
    (map seen c.args.providers.now) few
    ((search rules) ∙ (c.stripe_size.ensures ∙ stripe-over c.opened_states.ensures c.args.vault r.area r.records
    (g.D.Disk.holds c.args.disk.now) (g.D.Disk.faults c.args.disk.now) r.fresh
    c.args.profile))
    (λ bytes are few w d moment stands. c.in_ok-number.ensures.machine w d moment bytes stands are few)
    bytes are short

pub returns-clause-ended : goal.returns-clause-ended
returns-clause-ended g c = λ records old new opened fresh before after was is.
    let seen = provider_seen g.P.Provider in
    let P = c.in_ok-first.ensures.piece in
    let same = c.deref_mut-2.ensures.value
    ∙ (ap (λ n. take n (c.read_piece.new.stripe ++ drop (length c.read_piece.new.stripe)
    c.in_ok-stripe.stripe.items)) (search rules) ∙ take-append_seam c.read_piece.new.stripe _) in
    let size_is =
    (search rules) ∙ (c.stripe_size.ensures ∙ stripe-over c.opened_states.ensures c.args.vault opened.area
    records
    (g.D.Disk.holds c.args.disk.now)
    (g.D.Disk.faults c.args.disk.now) fresh c.args.profile) in
    streams-over c.opened_states.ensures c.args.vault records (g.D.Disk.holds c.args.disk.now)
    (g.D.Disk.faults c.args.disk.now) old new opened fresh c.begin_stream.new.self
    c.give_all-streamed.new.vault c.args.name.now c.args.profile c.in_ok-number.number
    (length c.deref_mut-2.result.now) (map seen c.args.providers.now)
    (map seen c.give_all-streamed.new.providers) (g.D.Disk.holds c.give_all-streamed.new.disk)
    (g.D.Disk.faults c.give_all-streamed.new.disk) size_is (is-stripe c.opened_states.ensures c.args.vault
    opened.area records
    (g.D.Disk.holds c.args.disk.now) (g.D.Disk.faults c.args.disk.now) fresh c.args.profile
    (length c.deref_mut-2.result.now) size_is).some
    (λ bytes are few w d moment stands. c.in_ok-number.ensures.machine w d moment bytes stands are few)
    (length-map c.give_all-streamed.new.providers seen
    ∙ (c.give_all-streamed.ensures.count ∙ sym (length-map c.args.providers.now seen)))
    before after (g.S.Source.left c.read_piece.new.source)
    (take c.in_ok-first.first c.deref_mut-2.result.now)
    (rw (← was.left_is) at (subst (λ xs. ReadsFront (g.S.Source.left c.args.source.now)
    (g.S.Source.left c.read_piece.new.source)
    (take c.in_ok-first.first xs)) (sym same) P.read))
    c.told_jobs_leave.ensures c.told_parts_leave.ensures c.give_all-streamed.result
    (rw (← is.left_is) at c.give_all-streamed.ensures.went)
    (λ e. let a = c.in_ok-first.ensures.cause.never_falls in
    let b = c.give_all-streamed.ensures.cause.never_falls in
    subst (λ n. Rose n new.source_faults) (sym was.faults_are)
    (rw (← is.faults_are) at (rose-before _ _ _ a b (c.give_all-streamed.ensures.cause.rose e))))
