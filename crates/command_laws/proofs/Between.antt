-- Stops and replacements between commands go on with a run, and so do commands one after the other.
use Rattle.command_laws.proofs.Words.{◌≡◌, ℕ, ◌<◌, ◌==◌, Bool, true, false, List, [], ◌∷◌, ◌++◌, length, Some, refl, ap, sym, subst, ◌∙◌, inl, inr, arith, append_assoc, is_some, nat_lt, slice_get, slice_set, IsSome, cases_Bool, false≢true, eq-eqb, eqb-true, lt-ltb, length-set, firm, Held, Provider, with_symbol, without_block, HasPlace, Record, Area, Event, Alter, Lose, Stop, Outcome, Replaced, NothingHeld, Happens, Moment, now, IsRun, StandsPlain, StandsForState, State, with_provider, IsSound, Seen, AreHanded, IsSure, IsStore, IsCall, moment, ReplacesHeld, AreReplaced, IsLater, AreBetween, Call, last_seen, IsChain, AreCalls, image-firm, each_image-mono, HasStopped, cond_true, cond_false, rest-sound, opened_state, state-over}
use Rattle.algebra_laws.proofs.Lists.{get-set_other, get-set_same}
use Rattle.device_defs.specs.ProviderCalls.{Replaces}
use Rattle.machine_defs.specs.Replacements.{ReplacesIf}
use Rattle.command_laws.proofs.Knowing.{StandsInState}
use Rattle.command_laws.proofs.Afterwards.{stopped-at}
use Rattle.command_laws.proofs.GoingOn.{now-more, run-sound, settled, SettlesOn, MaySettle, settled-by, command-on}

-- ---- lists with an element replaced

-- ---- one replacement

-- the state in which a provider is another one
abbrev replaced_in : State → ℕ → Provider → State
replaced_in w j q = record w { providers = with_provider w.providers j q }

-- what came of a replacement
abbrev outcome_for : Bool → Outcome
outcome_for true = Replaced
outcome_for false = NothingHeld

replaces-at : (w : State) (j : ℕ) (IsThere : Held → Type 0) (change : Held → Held) (b : Bool) → b ≡ true →
    (found : Bool) (q : Provider) → Replaces IsThere change found (w.providers j) q →
    ReplacesIf b w j IsThere change (outcome_for found) (replaced_in w j q)
replaces-at w j IsThere change false e found q h = absurd (false≢true e)
replaces-at w j IsThere change true e true q h = (q, h, refl)
replaces-at w j IsThere change true e false q h = (q, h, refl)

handed-set : (w : State) (ps : List Provider) (j : ℕ) (q : Provider) → AreHanded ps w → j < length ps →
    AreHanded (slice_set ps j q) (replaced_in w j q)
handed-set w ps j q H below = record { count = H.count ∙ sym (length-set ps j q); each = each }
  where
    each : (k : ℕ) → k < length (slice_set ps j q) →
        slice_get (slice_set ps j q) k ≡ Some (with_provider w.providers j q k)
    each k l = elim (cases_Bool (k == j)) [
      | inl t ↦ (ap (slice_get (slice_set ps j q)) (eqb-true k j t)
          ∙ (get-set_same ps j q below ∙ ap Some (sym (cond_true (k == j) q (w.providers k) t))))
      | inr f ↦ get-set_other ps j k q (λ e. false≢true (sym f ∙ eq-eqb k j e))
          ∙ (H.each k (omega (arith, (length-set ps j q), l))
          ∙ ap Some (sym (cond_false (k == j) q (w.providers k) f)))
    ]

given-at : (w : State) (ps : List Provider) (j : ℕ) (p : Provider) → AreHanded ps w → j < length ps →
    slice_get ps j ≡ Some p → p ≡ w.providers j
given-at w ps j p H below at = (let e = sym at ∙ H.each j below in cc)

-- an event that leaves this state but for its providers
record Goes-so (w : State) (event : Event) (ps : List Provider) : Type 0 where
  j : ℕ
  q : Provider
  outcome : Outcome
  between : AreBetween (moment event outcome (replaced_in w j q) ∷ [])
  happens : (n : ℕ) → Happens 8 n w event outcome (replaced_in w j q)
  handed : AreHanded ps (replaced_in w j q)

one-goes : (w : State) (event : Event) (ps next : List Provider) → AreHanded ps w →
    ReplacesHeld event ps next → Goes-so w event next
one-goes w (Alter j object stripe place symbol) ps next H (p, q, below, at, (found, call), is) = record {
  j = j;
  q = q;
  outcome = outcome_for found;
  between = (tt, tt);
  happens = λ n. replaces-at w j (λ held. HasPlace (held object stripe) place)
      (with_symbol object stripe place symbol) (nat_lt j w.handed)
      (lt-ltb j w.handed (let c = H.count in omega (arith, c, below))) found q
      (rw (given-at w ps j p H below at) at call);
  handed = rw (← is) at (handed-set w ps j q H below);
}
one-goes w (Lose j object stripe) ps next H (p, q, below, at, (found, call), is) = record {
  j = j;
  q = q;
  outcome = outcome_for found;
  between = (tt, tt);
  happens = λ n. replaces-at w j (λ held. IsSome (held object stripe)) (without_block object stripe)
      (nat_lt j w.handed) (lt-ltb j w.handed (let c = H.count in omega (arith, c, below))) found q
      (rw (given-at w ps j p H below at) at call);
  handed = rw (← is) at (handed-set w ps j q H below);
}
one-goes w event ps next H h = absurd h

-- ---- stops and replacements

-- moments between commands go on with a run to a store that stands for what the next one finds
abbrev GoesBetween : State → List Moment → Seen → Type 0
GoesBetween start ms next =
    (own : List Moment) × AreBetween own × IsRun 8 start (own ++ ms) × IsStore (now start (own ++ ms)) next

both-between : (own more : List Moment) → AreBetween own → AreBetween more → AreBetween (own ++ more)
both-between [] more a b = b
both-between (m ∷ own) more (here, a) b = (here, both-between own more a b)

-- one moment before them goes on with them
goes-after : (start : State) (m : Moment) (ms : List Moment) (next : Seen) → AreBetween (m ∷ []) →
    GoesBetween start (m ∷ ms) next → GoesBetween start ms next
goes-after start m ms next between more = (let same = sym (append_assoc more.0 (m ∷ []) ms) in (
  more.0 ++ m ∷ [],
  both-between more.0 (m ∷ []) more.1 between,
  (rw same at more.2),
  (rw same at more.3),
))

-- the store with other providers
store-replaced : (w : State) (s next : Seen) (j : ℕ) (q : Provider) → IsStore w s →
    IsSound 8 (replaced_in w j q) → next.disk ≡ s.disk → next.disk_faults ≡ s.disk_faults →
    AreHanded next.providers (replaced_in w j q) → IsStore (replaced_in w j q) next
store-replaced w s next j q S sound disk faults handed = record {
  sound = sound;
  tells = ap is_some disk ∙ S.tells;
  images = rw (← disk) at (each_image-mono s.disk _ _ again S.images);
  faults_are = S.faults_are ∙ sym faults;
  handed = handed;
}
  where
    again : (image : List ℕ) → StandsInState w image → StandsInState (replaced_in w j q) image
    again image (inl h) = inl h
    again image (inr (inl D)) =
        inr (inl (record { doubt = D.doubt; in_doubt = D.in_doubt; stands = D.stands }))
    again image (inr (inr X)) = inr (inr (record { switching = X.switching; stands = X.stands }))

store-same : (w : State) (s next : Seen) → IsStore w s → next.disk ≡ s.disk →
    next.disk_faults ≡ s.disk_faults → next.providers ≡ s.providers → IsStore w next
store-same w s next S disk faults providers = record {
  sound = S.sound;
  tells = ap is_some disk ∙ S.tells;
  images = rw (← disk) at S.images;
  faults_are = S.faults_are ∙ sym faults;
  handed = rw (← providers) at S.handed;
}

-- what is seen with other providers
abbrev with_providers : Seen → List Provider → Seen
with_providers s ps = record s { providers = ps }

replaced-on : (start : State) (events : List Event) (ms : List Moment) (s next : Seen) → IsRun 8 start ms →
    IsStore (now start ms) s → next.disk ≡ s.disk → next.disk_faults ≡ s.disk_faults →
    AreReplaced events s.providers next.providers → GoesBetween start ms next
replaced-on start [] ms s next R S disk faults same =
    ([], tt, R, store-same (now start ms) s next S disk faults same)
replaced-on start (event ∷ events) ms s next R S disk faults (spelled, (mid, here, rest)) =
    (let w : State = now start ms in
    let G = one-goes w event s.providers mid S.handed here in
    let v : State = replaced_in w G.j G.q in
    let m : Moment = moment event G.outcome v in
    let run : IsRun 8 start (m ∷ ms) = (spelled, G.happens (length ms), R) in
    goes-after start m ms next G.between
    (replaced-on start events (m ∷ ms) (with_providers s mid) next run
    (store-replaced w s (with_providers s mid) G.j G.q S
    (run-sound start (m ∷ []) ms S.sound run) refl refl G.handed) disk faults rest))

-- a run goes on through stops and replacements to what the next command finds
pub later-on : (start : State) (ms : List Moment) (new next : Seen) → IsRun 8 start ms →
    IsStore (now start ms) new → IsLater new next → GoesBetween start ms next
later-on start ms new next R S L = elim L.disk [
  | inl same ↦ replaced-on start L.events ms new next R S same L.faults L.replaced
  | inr stopped ↦ (let c = stopped-at new.disk next.disk (StandsInState (now start ms)) S.tells S.images stopped in
      stopped-by c.0 c.1 (settled-by (now start ms) S.sound c.0 c.2))
]
  where
    -- the disk that the stop left reads these records
    stopped-on : (image : List ℕ) → next.disk ≡ Some (firm image) → (records journal : List Record)
        (area : Area) → SettlesOn (now start ms) records journal area →
        StandsPlain (settled (now start ms) records journal area) image → GoesBetween start ms next
    stopped-on image disk records journal area settles stands = (let w : State = now start ms in
        let v : State = settled w records journal area in
        let m : Moment = moment (Stop []) HasStopped v in
        let run : IsRun 8 start (m ∷ ms) = (refl, settles w refl refl refl refl refl, R) in
        let mid : Seen = record new { disk = next.disk } in
        let stood : IsStore v mid = record {
          sound = run-sound start (m ∷ []) ms S.sound run;
          tells = ap is_some disk;
          images = subst (λ d. StandsForState d v) (sym disk)
              (λ other of. inl (subst (StandsPlain v) (sym (image-firm image other of)) stands));
          faults_are = S.faults_are;
          handed = record { count = S.handed.count; each = S.handed.each };
        } in
        goes-after start m ms next (tt, tt)
        (replaced-on start L.events (m ∷ ms) mid next run stood refl L.faults L.replaced))

    stopped-by : (image : List ℕ) → next.disk ≡ Some (firm image) → MaySettle (now start ms) image →
        GoesBetween start ms next
    stopped-by image disk (MaySettle.some records journal area F) =
        stopped-on image disk records journal area F.settles (inl F.good.stands)
    stopped-by image disk (MaySettle.none N) = stopped-on image disk (now start ms).records
        (now start ms).journal (now start ms).area N.settles N.plain

-- ---- commands one after the other

-- a run goes on through a chain of commands, with stops and replacements between them
pub chain-on : (start : State) (ms : List Moment) (first : Seen) (calls : List Call) → IsRun 8 start ms →
    IsStore (now start ms) first → IsChain first calls →
    (own : List Moment) × AreCalls (now start ms) calls own × IsRun 8 start (own ++ ms) ×
    IsStore (now start (own ++ ms)) (last_seen first calls)
chain-on start ms first [] R S C = ([], refl, R, S)
chain-on start ms first (c ∷ cs) R S (later, A, C) = (let before = chain-on start ms first cs R S C in
    let between = later-on start (before.0 ++ ms) (last_seen first cs) c.old before.2 before.3 later in
    let call = command-on start (between.0 ++ (before.0 ++ ms)) between.2 c.old between.3 c.command c.new
    c.end A.counts A.opens A.spelled A.answers in
    let inner =
    sym (append_assoc between.0 before.0 ms) in
    let all =
    ap (λ l. call.0 ++ l) inner ∙ sym (append_assoc call.0 (between.0 ++ before.0) ms) in
    let at =
    ap (now start) inner ∙ now-more start (between.0 ++ before.0) ms in (
      call.0 ++ (between.0 ++ before.0),
      (
        call.0,
        between.0,
        before.0,
        refl,
        subst (λ w. IsCall c.command c.old c.new c.end w call.0) at call.1,
        between.1,
        before.1,
      ),
      (rw all at call.2),
      (rw all at call.3),
    ))

-- ---- over each known store there is a state

-- a sound state stands for each store that is sure
pub sure-store : (s : Seen) (records : List Record) → IsSure s records → (w : State) × IsStore w s
sure-store s records K = (let w = opened_state K.known.opened.area records s.disk_faults s.providers in
    let V = state-over records s.disk_faults s K.known.opened in (
      w,
      record {
        sound = rest-sound 8 w V.at_rest.rest;
        tells = K.known.tells;
        images = each_image-mono s.disk _ _ (λ image stands. inl (inl stands)) K.images;
        faults_are = refl;
        handed = V.handed;
      },
    ))
