-- Scrubs and packs that are given by their steps run alone from every state that was just opened over four
-- providers: the state that is left is computed.
use Rattle.std.proofs.Common.{◌≡◌, ℕ, ◌+◌, List, [], ◌∷◌, length, None, is_some, refl, ap, sym, subst, ◌∙◌, arith}
use Rattle.turn_laws.proofs.Words.{EachImage, Record, Area, StandsActive, new_scrub, new_pack, Answer, Step, More, Ended, job_of, Happens, now, State, Scrubbing, Packing, IsJustOpened, IsOpenAtRest, Answers, PackJournal, AreSteps, GoesOnTo, EndsByAnswer, pack_text, IsOpened, RanPack, PacksAlone, AnswersPack, pack_refusal_over, RanScrub, ScrubsAlone, Seen, Ending, SameSource, provider_at, Sweep, swept_so, swept, FitsSweep, with_alone, sweep_run, each, placed, spelled, Left, left_by, seen_as}
use Rattle.job_laws.proofs.Alike.{scrub-alike}
use Rattle.job_laws.proofs.BeginRefusals.{pack-refusal-of}
use Rattle.job_laws.proofs.Packs.{packed-alone}
use Rattle.made_runs.proofs.Sweeps.{sweeps-so}
use Rattle.turn_laws.proofs.Shape.{placed-is, spelled-is}
use Rattle.turn_laws.proofs.Turned.{stand-so, handed-four}

-- the state after such steps
abbrev pub after_sweeps : State → List Sweep → State
after_sweeps w sweeps = now w (sweep_run w [] 1 sweeps)

-- it can go so, and each step answers more
abbrev pub AreGoing : State → List Sweep → Type 0
AreGoing w [] = Unit {0}
AreGoing w (sweep ∷ sweeps) =
    (swept_so sweep ≡ More) × FitsSweep (after_sweeps w sweeps) 1 sweep × AreGoing w sweeps

going : (w : State) (m : ℕ) (sweeps : List Sweep) → AreGoing w sweeps →
    AreSteps w m 1 (sweep_run w [] 1 sweeps)
going w m [] g = tt
going w m (s ∷ sweeps) g = (let k = m + length (sweep_run w [] 1 sweeps) in
    let u = after_sweeps w sweeps in (
      refl,
      g.0,
      subst (λ o. Happens 8 k u (Step 1) o (swept u s)) g.0 (sweeps-so 8 k u 1 s g.1),
      going w m sweeps g.2,
    ))

-- it goes so from a state, ends, and leaves this
abbrev pub GoesAlone : State → List Sweep → Answer → Left → State → Type 0
GoesAlone w sweeps answer left last = AreGoing w sweeps × Happens 8 0 (after_sweeps w sweeps) (Step 1)
    (Ended answer) last × (left_by last (job_of (after_sweeps w sweeps).jobs 1) ≡ left)

-- so it goes on to its end
goes-on : (w : State) (m : ℕ) (sweeps : List Sweep) {answer : Answer} {left : Left} {last : State} →
    left.heard ≡ [] → GoesAlone w sweeps answer left last → GoesOnTo w m 1 answer [] last
goes-on w m sweeps none g = record {
  steps = sweep_run w [] 1 sweeps;
  are_steps = going w m sweeps g.0;
  ends = g.1;
  heard_is = sym (ap (λ (l : Left). l.heard) g.2 ∙ none);
}

-- ---- scrubs

module _ (area : Area) (rs : List Record) (see : (ℕ → List ℕ) → ℕ → List ℕ) (answer : Answer)
    (old new : Seen) where
  -- a scrub has begun
  abbrev pub scrub_begun : State → ℕ → State
  scrub_begun w n = (let v = spelled area rs (see w.bytes) old.providers w in
      with_alone v (Scrubbing (new_scrub v n)))

  -- one that goes so from each such state runs alone
  pub scrubs-so : (sweeps : List Sweep) (last : State → State) → old.disk_faults ≡ 0 →
      old.providers ≡ each (provider_at old.providers) →
      ((w : State) → IsJustOpened w area rs 1 0 old.providers → see w.bytes ≡ w.bytes) →
      EachImage new.disk (λ image. StandsActive image area rs) →
      ((w : State) (n : ℕ) → GoesAlone (scrub_begun w n) sweeps answer (seen_as area rs new [] w.handed)
      (last (after_sweeps (scrub_begun w n) sweeps))) → ScrubsAlone area rs answer old new
  scrubs-so sweeps last none is sees images goes = record {
    faults = 0;
    before = omega (arith, none);
    ran = λ w n V. let U : IsJustOpened w area rs 1 0 (each (provider_at old.providers))
        = subst (λ ps. IsJustOpened w area rs 1 0 ps) is V in
        let end = last (after_sweeps (scrub_begun w n) sweeps) in let e = (goes w n).2 in
        scrub-alike w U.at_rest rs answer old new 0 n
        (subst (λ u. RanScrub rs answer old new 0 u n)
        (spelled-is area rs (see w.bytes) old.providers w (sees w V) U) (record {
          last = end;
          runs = record {
            begun = scrub_begun w n;
            job = 1;
            begins = (refl, refl, refl, refl);
            goes_on = goes-on (scrub_begun w n) (n + 1) sweeps refl (goes w n);
          };
          images = stand-so new.disk end (job_of (after_sweeps (scrub_begun w n) sweeps).jobs 1)
              (seen_as area rs new [] w.handed) e images;
          faults_are = ap (λ (l : Left). l.faults) e;
          handed = handed-four end (ap (λ (l : Left). l.handed) e ∙ U.handed.count)
              (ap (λ (l : Left). l.providers) e);
        }));
  }

-- ---- packs

-- a state over the store, spelled out with its own history, and with a pack begun
abbrev pub pack_begun : Area → List Record → Seen → State → State
pack_begun area rs old w = (let v = placed area rs w.bytes (provider_at old.providers 0)
    (provider_at old.providers 1) (provider_at old.providers 2) (provider_at old.providers 3) w in
    with_alone v (Packing (new_pack v)))

-- a pack runs alone over the store, and its command ends so
pub record Pack (area : Area) (rs : List Record) (answer : Answer) (old new : Seen)
    (end : Ending) : Type 0 where
  pub alone : PacksAlone area rs answer old new
  pub answers : Answers PackJournal old new end

-- it is not refused, and finds and leaves four providers, and the source; a disk that told tells on
abbrev pub PacksSo : Area → List Record → Seen → Seen → Type 0
PacksSo area rs old new = (old.disk_faults ≡ 0) × (old.providers ≡ each (provider_at old.providers))
    × (length new.providers ≡ length old.providers) × (is_some new.disk ≡ is_some old.disk)
    × (pack_refusal_over area rs ≡ None) × SameSource old new

-- a pack that goes so runs so, and leaves these records in an area
pub pack-so : {rs : List Record} {answer : Answer} {old new : Seen} {end : Ending} (opened : IsOpened old rs)
    (area : Area) (after : List Record) (sweeps : List Sweep) (last : State → State) →
    PacksSo opened.area rs old new → end.heard ≡ [] →
    EachImage new.disk (λ image. StandsActive image area after) →
    EndsByAnswer (pack_text answer) answer old new end → ((w : State) →
    GoesAlone (pack_begun opened.area rs old w) sweeps answer (seen_as area after new [] w.handed)
    (last (after_sweeps (pack_begun opened.area rs old w) sweeps))) → Pack opened.area rs answer old new end
pack-so {rs} {answer} {old} {new} {end} opened area after sweeps last packs none images ends goes = record {
  alone = alone;
  answers = (
    AnswersPack.ended rs answer opened packs.4 none alone
        (packed-alone rs answer old new opened packs.2 alone) ends,
    packs.5,
  );
}
  where
    alone : PacksAlone opened.area rs answer old new
    alone = record {
      faults = 0;
      before = omega (arith, packs.0);
      tells = packs.3;
      ran = λ w n V. let U : IsJustOpened w opened.area rs 1 0 (each (provider_at old.providers))
          = subst (λ ps. IsJustOpened w opened.area rs 1 0 ps) packs.1 V in
          let same = placed-is opened.area rs w.bytes (provider_at old.providers 0)
          (provider_at old.providers 1) (provider_at old.providers 2) (provider_at old.providers 3) w refl U in
          let rests = subst (λ s. IsOpenAtRest s 1) (sym same) V.at_rest in
          let begun = pack_begun opened.area rs old w in
          let left = last (after_sweeps begun sweeps) in let e = (goes w).2 in
          subst (λ s. RanPack rs answer old new s n) same (record {
            last = left;
            runs = record {
              begun = begun;
              job = 1;
              begins = (refl, pack-refusal-of _ rests ∙ packs.4, refl, refl);
              goes_on = goes-on begun (n + 1) sweeps refl (goes w);
            };
            images = stand-so new.disk left (job_of (after_sweeps begun sweeps).jobs 1)
                (seen_as area after new [] w.handed) e images;
            faults_are = ap (λ (l : Left). l.faults) e;
            handed = handed-four left (ap (λ (l : Left). l.handed) e ∙ U.handed.count)
                (ap (λ (l : Left). l.providers) e);
          });
    }
