-- Puts up to their last append, over a store that was just set up, from every state that was just opened: the
-- bytes are stored stripe by stripe on four providers that are alike.
use Rattle.std.specs.List.{flat_map, range_with_len}
use Rattle.std.proofs.Common.{◌≡◌, ℕ, zero, suc, ◌+◌, ◌*◌, ◌<◌, ◌≤◌, ◌&&◌, true, List, [], ◌∷◌, ◌++◌, length, None, Some, refl, ap, sym, subst, ◌∙◌, arith, slice_get, replicate, option_map}
use Rattle.turn_laws.proofs.Words.{upto, columns, EachImage, Provider, Setup, Record, SetUp, PutStart, A, StandsActive, Action, Store, End, append_actions, on_each_provider, actions_of, beginning, IsSpelledKind, PutJob, Job, Moment, now, object_of, stripes_of, State, setup_in, with_provider, IsJustOpened, MayName, PartRan, PartRuns, outside, refusal_over, Seen, stored, can_go, can_step, gone, stepped, Turn, Goes, gone_by, can_go_by, job_run, AreFitTurns, with_new, each, over, spelled, after_turns, left_by, a_named, plain_setup, given_stripes}
use Rattle.job_laws.proofs.Alike.{part-alike}
use Rattle.job_laws.proofs.BeginRefusals.{refusal-alone}
use Rattle.turn_laws.proofs.Shape.{four, spelled-is}
use Rattle.turn_laws.proofs.Turned.{are-steps, stand-so, handed-four}

module _ (rounds picks : ℕ) (bytes : List ℕ) (p : Provider) where
  abbrev setup : Setup
  setup = plain_setup rounds picks

  -- the records before, and after the first append
  abbrev rs : List Record
  rs = SetUp setup ∷ []

  abbrev started : List Record
  started = PutStart 1 a_named ∷ rs

  -- its stripes
  abbrev many : ℕ
  many = stripes_of setup (length bytes)

  -- ---- where the stores stand

  -- the stores of a stripe
  abbrev stripe_stores : ℕ → List Action
  stripe_stores t = on_each_provider setup (λ j. Store j 1 t)

  -- the actions of a put of so many stripes
  abbrev put_actions : ℕ → List Action
  put_actions m = append_actions ++ (flat_map stripe_stores (upto m) ++ (append_actions ++ End ∷ []))

  listed-from : (rest : List Action) (a m t u : ℕ) → t < m → u ≡ a + t → (j : ℕ) → j < 4 →
      slice_get (flat_map stripe_stores (range_with_len a m) ++ rest) (4 * t + j) ≡ Some (Store j 1 u)
  listed-from rest a zero t u k e = absurd (omega (arith, k))
  listed-from rest a (suc m) zero u k e =
      rw (let f : u ≡ a = omega (arith, e) in f) (four _ refl refl refl refl)
  listed-from rest a (suc m) (suc t) u k e = λ j l.
      subst (λ p. slice_get (flat_map stripe_stores (range_with_len a (suc m)) ++ rest) p ≡ Some (Store j 1 u))
      (let f : suc (suc (suc (suc (4 * t + j)))) ≡ 4 * suc t + j = omega arith in f)
      (listed-from rest (a + 1) m t u (omega (arith, k)) (omega (arith, e)) j l)

  -- among them is the store of a stripe on a provider
  listed : (j m t : ℕ) → j < 4 → t < m → slice_get (put_actions m) (4 + 4 * t + j) ≡ Some (Store j 1 t)
  listed j m t l k = subst (λ p. slice_get (put_actions m) p ≡ Some (Store j 1 t))
      (let f : suc (suc (suc (suc (4 * t + j)))) ≡ 4 + 4 * t + j = omega arith in f)
      (listed-from (append_actions ++ End ∷ []) 0 m t t k (omega arith) j l)

  -- ---- the blocks

  -- the first providers are given their blocks of a stripe
  abbrev given : (ℕ → Provider) → ℕ → ℕ → ℕ → Provider
  given ps t zero = ps
  given ps t (suc j) = with_provider (given ps t j) j
      (stored 1 t (columns (object_of setup 1) bytes j t) (given ps t j j))

  -- all are given those of the first stripes
  abbrev filled : (ℕ → Provider) → ℕ → ℕ → Provider
  filled ps zero = over ps p p p p
  filled ps (suc t) = given (filled ps t) t 4

  filled-is : (ps : ℕ → Provider) (t j : ℕ) → j < 4 → filled ps t j ≡ given_stripes setup p bytes j t
  filled-is ps zero = four _ refl refl refl refl
  filled-is ps (suc t) = (let more = λ (j : ℕ) (l : j < 4).
      ap (stored 1 t (columns (object_of setup 1) bytes j t)) (filled-is ps t j l) in
      four _ (more 0 (omega arith)) (more 1 (omega arith)) (more 2 (omega arith)) (more 3 (omega arith)))

  -- four moves, and four stores for each stripe
  abbrev turns : ℕ → List Turn
  turns t = replicate (suc t) (Goes 4)

  module _ (w : State) (n : ℕ) where
    abbrev v : State
    v = spelled A rs w.bytes (each (λ j. p)) w

    abbrev begun : State
    begun = with_new v n (PutJob a_named bytes) None

    -- the job at a place
    abbrev job_at : ℕ → Job
    job_at place = record (beginning v n (PutJob a_named bytes) None) { subject = 1; place = place }

    -- the state with the job there, and with these providers
    abbrev at : ℕ → (ℕ → Provider) → State
    at place ps = record (after_turns v n (PutJob a_named bytes) None (Goes 4 ∷ [])) {
      jobs = job_at place ∷ [];
      providers = ps;
    }

    stores : (ms : List Moment) (ps : ℕ → Provider) (t j : ℕ) → t < many → j ≤ 4 →
        now begun ms ≡ at (4 + 4 * t) ps → (can_go_by begun ms 1 j ≡ true)
        × (now begun (gone_by begun ms 1 j) ≡ at (4 + 4 * t + j) (given ps t j))
    unfolding setup_in actions_of
    stores ms ps t zero k l e =
        (refl, e ∙ ap (λ place. at place ps) (let z : 4 + 4 * t ≡ 4 + 4 * t + 0 = omega arith in z))
    stores ms ps t (suc j) k l e = (let r = stores ms ps t j k (omega (arith, l)) e in
        let place = 4 + 4 * t + j in let u = at place (given ps t j) in let h = listed j many t l k in (
          ap (λ b. b && can_go_by begun ms 1 j)
              (ap (λ u. can_step u 1) r.1 ∙ ap (can_go u (job_at place)) h) ∙ r.0,
          ap (λ u. stepped u 1) r.1 ∙ (ap (gone u (job_at place)) h ∙ ap (λ q. at q (given ps t (suc j)))
              (let z : 4 + 4 * t + j + 1 ≡ 4 + 4 * t + suc j = omega arith in z)),
        ))

    stripes : (t : ℕ) → t ≤ many → AreFitTurns begun [] 1 (turns t)
        × (now begun (job_run begun [] 1 (turns t)) ≡ at (4 + 4 * t) (filled w.providers t))
        × (length (job_run begun [] 1 (turns t)) ≡ 4 + t * 4)
    unfolding setup_in actions_of
    stripes zero l = ((refl, refl, tt), refl, refl)
    stripes (suc t) l = (let r = stripes t (omega (arith, l)) in
        let s = stores (job_run begun [] 1 (turns t)) (filled w.providers t) t 4 l (omega arith) r.1 in (
          (refl, s.0, r.0),
          s.1 ∙ ap (λ place. at place (filled w.providers (suc t)))
              (let z : 4 + 4 * t + 4 ≡ 4 + 4 * suc t = omega arith in z),
          ap (λ k. suc (suc (suc (suc k)))) r.2
              ∙ (let z : suc (suc (suc (suc (4 + t * 4)))) ≡ 4 + suc t * 4 = omega arith in z),
        ))

  -- what is seen before, and after all stripes
  abbrev pub StripesSo : Seen → Seen → Type 0
  StripesSo old new = (old.disk_faults ≡ 0) × (new.disk_faults ≡ 0) × (old.providers ≡ each (λ j. p))
      × (each (λ j. given_stripes setup p bytes j many) ≡ new.providers)
      × (refusal_over A rs (PutJob a_named bytes) None ≡ None) × IsSpelledKind (PutJob a_named bytes)
      × (option_map (outside A started) new.disk ≡ option_map (outside A started) old.disk)

  -- so the put runs from every state just opened over the store
  pub part-so : (old new : Seen) → StripesSo old new →
      EachImage new.disk (λ image. StandsActive image A started) → PartRuns A rs a_named bytes None old new
  unfolding setup_in actions_of
  part-so old new so images = record {
    faults = 0;
    before = omega (arith, so.0);
    ran = λ w n V. let U : IsJustOpened w A rs 1 0 (each (λ j. p))
        = subst (λ ps. IsJustOpened w A rs 1 0 ps) so.2 V in
        let r = stripes w n many (omega arith) in let f = filled-is w.providers many in
        let last = at w n (4 + 4 * many) (filled w.providers many) in
        part-alike w V.at_rest A rs a_named bytes None old new 0 n so.5 (MayName.none refl)
        (subst (λ u. PartRan A rs a_named bytes None old new 0 u n)
        (spelled-is A rs w.bytes (each (λ j. p)) w refl U) (record {
          last = last;
          runs = record {
            begun = begun w n;
            job = 1;
            begins = (refl, refusal-alone (v w n) (PutJob a_named bytes) None ∙ so.4, refl, refl);
            steps = job_run (begun w n) [] 1 (turns many);
            are_steps = are-steps (begun w n) (n + 1) 1 (turns many) r.0;
            made = r.2;
            last = sym r.1;
          };
          images = stand-so new.disk last None (left_by last None) refl images;
          faults_are = sym so.1;
          handed = handed-four last U.handed.count ((λ i. f 0 (omega arith) i ∷ f 1 (omega arith) i ∷ f 2
              (omega arith) i ∷ f 3 (omega arith) i ∷ []) ∙ so.3);
          outside_text = so.6;
        }));
  }
