-- A stream that is given what was read of its source: it is on its way for each put whose file has that.
use Rattle.command_jobs.proofs.Words.{◌≡◌, ℕ, ◌+◌, ◌*◌, Bool, true, false, List, [], ◌++◌, length, Option, Some, None, refl, ap, sym, subst, ◌∙◌, arith, is_some, Kind, PutJob, job_of, now, State, setup_in, found, Vault, Stands, wants_of, told_of, stripe_of, FitsKind, FitsPiece, Devices, IsOnly, IsUnderWay, OnWay, IsBehind, EndsEarly, AdvancesTo, IsBegun}
use Rattle.std.proofs.Common.{append_assoc, append-nil}
use Rattle.machine_defs.specs.Jobs.{Job}
use Rattle.vault.specs.declared.turn.Ended.{Ended}
use Rattle.command_jobs.proofs.Goings.{no-steps}
use Rattle.command_jobs.proofs.Told.{waits-at, stripe-is}

-- ---- the files that a stream stands for

-- these bytes have what was given, and no more where the last of it was
abbrev pub Follows : Bool → List ℕ → List ℕ → Type 0
Follows false given bytes = (rest : List ℕ) × (bytes ≡ given ++ rest)
Follows true given bytes = bytes ≡ given

-- bytes that were all given
pub follows-itself : (last : Bool) (given : List ℕ) → Follows last given given
follows-itself false given = ([], sym (append-nil given))
follows-itself true given = refl

-- a put that is on its way, and has stored no stripe that was not given
pub record OnItsWay (start : State) (name bytes : List ℕ) (own : Option ℕ) (w : State) (moment : ℕ)
    (told : Option ℕ) (v : Vault) (d e : Devices) : Type 0 where
  pub way : OnWay start (PutJob name bytes) own w moment v d e
  pub behind : IsBehind start told way.only.job.place

-- so is each put that has what was given, since it began
abbrev pub IsFed : Vault → Devices → Vault → Devices → Option ℕ → Bool → List ℕ → Type 0
IsFed old d v e told last given = (start w : State) (name bytes : List ℕ) (own : Option ℕ) (moment : ℕ) →
    Follows last given bytes → (only : IsOnly start (PutJob name bytes) own w) → only.job.place ≡ 0 →
    Stands old d w → OnItsWay start name bytes own w moment told v d e

-- ---- the begin

pub fed-first : (v : Vault) (d : Devices) (told : Option ℕ) → IsFed v d v d told false []
fed-first v d told start w name bytes own moment follows only place stands = record {
  way = no-steps start (PutJob name bytes) own w moment v d only stands;
  behind = behind-by told place;
}
  where
    behind-by : (told : Option ℕ) {place : ℕ} → place ≡ 0 → IsBehind start told place
    behind-by None zero_place = tt
    behind-by (Some k) zero_place = omega (arith, zero_place)

-- a put that has just begun waits for no stripe
pub none-waits : (v : Vault) (d : Devices) (size : ℕ) (bytes : List ℕ) → IsBegun v d size bytes →
    wants_of v 1 ≡ None
none-waits v d size bytes B = by (wants_of v 1) refl
  where
    by : (o : Option ℕ) → wants_of v 1 ≡ o → o ≡ None
    by None e = refl
    by (Some k) e = absurd (let x = waits-at B.start (PutJob B.name bytes) B.own B.state v d B.only B.stands
        (ap is_some e) in let p = x.place_is in let z = B.place in omega (arith, p, z))

module _ (old v : Vault) (d e : Devices) (size : ℕ) (given : List ℕ) (told : Option ℕ)
    (last : Bool) (fed : IsFed old d v e told last given) (begun : IsBegun old d size given) where
  its : OnItsWay begun.start begun.name given begun.own begun.state 0 told v d e
  its = fed begun.start begun.state begun.name given begun.own 0 (follows-itself last given) begun.only
      begun.place begun.stands

  -- it is under way
  pub fed-under-way : IsUnderWay v e
  fed-under-way = record {
    start = begun.start;
    kind = PutJob begun.name given;
    own = begun.own;
    state = now begun.state its.way.steps;
    only = its.way.only;
    stands = its.way.stands;
  }

  -- how many bytes its stripes have
  pub fed-size : stripe_of v 1 ≡ size
  fed-size = stripe-is begun.start (PutJob begun.name given) begun.own (now begun.state its.way.steps) v e
      its.way.only its.way.stands ∙ sym begun.size_is

  -- which stripe it waits for
  pub fed-waits : is_some (wants_of v 1) ≡ true → (k : ℕ) × (told_of v 1 ≡ Some k) × (wants_of v 1 ≡ Some k)
  fed-waits h =
      (let x = waits-at begun.start (PutJob begun.name given) begun.own (now begun.state its.way.steps) v e
      its.way.only its.way.stands h in (x.stripes, x.told_is, x.wanted_is))

-- ---- a piece is given

piece-parts : (last : Bool) (given piece bytes : List ℕ) → Follows last (given ++ piece) bytes →
    (rest : List ℕ) × (bytes ≡ given ++ (piece ++ rest)) × (last ≡ true → rest ≡ [])
piece-parts false given piece bytes (rest, is) = (rest, is ∙ append_assoc given piece rest, λ e. cc)
piece-parts true given piece bytes is = ([], is ∙ ap (λ xs. given ++ xs) (sym (append-nil piece)), λ e. refl)

module _ (old v next : Vault) (d e : Devices) (size k : ℕ) (given piece : List ℕ) (last : Bool)
    (told : Option ℕ) (after : Option ℕ)
    (fed : IsFed old d v e told false given) (length_is : length given ≡ k * size) (wants : wants_of v 1 ≡ Some k)
    (sized : stripe_of v 1 ≡ size) (told_is : (stripes : ℕ) → after ≡ Some stripes → stripes ≡ k + 1)
    (gives : (w : State) (f : Devices) → Stands v f w →
    FitsPiece (stripe_of v 1) (wants_of v 1) piece last (job_of w.jobs 1) → Stands next f w) where
  fits : (w : State) (job : Job) (name bytes : List ℕ) → job_of w.jobs 1 ≡ Some job →
      job.kind ≡ PutJob name bytes → Follows last (given ++ piece) bytes →
      FitsPiece (stripe_of v 1) (wants_of v 1) piece last (job_of w.jobs 1)
  fits w job name bytes runs kind follows = (let p = piece-parts last given piece bytes follows in
      subst (λ (o : Option Job). FitsPiece (stripe_of v 1) (wants_of v 1) piece last o) (sym runs)
      (subst (λ (kd : Kind). FitsKind (stripe_of v 1) (wants_of v 1) piece last kd) (sym kind)
      (subst (λ (o : Option ℕ). FitsKind (stripe_of v 1) o piece last (PutJob name bytes)) (sym wants)
      (subst (λ n. FitsKind n (Some k) piece last (PutJob name bytes)) (sym sized)
      (record { before = given; rest = p.0; parts = p.1; place_is = length_is; end = p.2 })))))

  behind-next : (start : State) (place : ℕ) (after : Option ℕ) →
      ((stripes : ℕ) → after ≡ Some stripes → stripes ≡ k + 1) →
      place ≡ 4 + k * (setup_in start).n → IsBehind start after place
  behind-next start place None is at = tt
  behind-next start place (Some stripes) is at = (let e = is stripes refl in
      let f = ap (λ n. n * (setup_in start).n) e in
      let g : (k + 1) * (setup_in start).n ≡ k * (setup_in start).n + (setup_in start).n = omega arith in
      omega (arith, at, f, g))

  pub fed-given : IsFed old d next e after last (given ++ piece)
  fed-given start w name bytes own moment follows only place stands =
      (let p = piece-parts last given piece bytes follows in
      let x = fed start w name bytes own moment (piece ++ p.0, p.1) only place stands in
      let at = waits-at start (PutJob name bytes) own (now w x.way.steps) v e x.way.only x.way.stands
      (ap is_some wants) in
      let same : at.stripes ≡ k =
      (let f : Some at.stripes ≡ Some k = sym at.wanted_is ∙ wants in let g : at.stripes ≡ k = cc in g) in
      record {
        way = record {
          steps = x.way.steps;
          are_steps = x.way.are_steps;
          only = x.way.only;
          place = x.way.place;
          stands = gives (now w x.way.steps) e x.way.stands (fits (now w x.way.steps) x.way.only.job name
              bytes (found start x.way.only.opened (PutJob name bytes) (now w x.way.steps) x.way.only.job
              x.way.only.walked) x.way.only.walked.kind_is follows);
          front = x.way.front;
          beyond = x.way.beyond;
        };
        behind = behind-next start x.way.only.job.place after told_is
            (at.place_is ∙ ap (λ n. 4 + n * (setup_in start).n) same);
      })

-- ---- it goes on

-- what the vault's steps say
abbrev pub Went : Vault → Devices → Option ℕ → Option Ended → Vault → Devices → Type 0
Went v e told ended next f = (start w : State) (kind : Kind) (own : Option ℕ) (moment : ℕ) (d : Devices) →
    (way : OnWay start kind own w moment v d e) → IsBehind start told way.only.job.place →
    AdvancesTo start kind own w moment told ended next d f

-- up to where it waits
pub fed-on : (old v next : Vault) (d e f : Devices) (told : Option ℕ) (last : Bool) (given : List ℕ) →
    IsFed old d v e told last given → Went v e told None next f → is_some (wants_of next 1) ≡ true → (k : ℕ) →
    told_of next 1 ≡ Some k → IsFed old d next f (Some k) last given
fed-on old v next d e f told last given fed went waits k is start w name bytes own moment follows only place stands =
    (let x = fed start w name bytes own moment follows only place stands in
    let y = went start w (PutJob name bytes) own moment d x.way x.behind in
    let at = waits-at start (PutJob name bytes) own (now w y.steps) next f y.only y.stands waits in
    record {
      way = y;
      behind = let q = ap (λ n. n * (setup_in start).n) (let e : Some at.stripes ≡ Some k = sym at.told_is ∙
          is in let g : at.stripes ≡ k = cc in g) in
          omega (arith, at.place_is, q);
    })

-- up to its end
pub fed-end : (old v next : Vault) (d e f : Devices) (told : Option ℕ) (last : Bool) (given : List ℕ)
    (ended : Ended) → IsFed old d v e told last given → Went v e told (Some ended) next f →
    (start w : State) (name bytes : List ℕ) (own : Option ℕ) (moment : ℕ) → Follows last given bytes →
    (only : IsOnly start (PutJob name bytes) own w) → only.job.place ≡ 0 → Stands old d w →
    EndsEarly start (PutJob name bytes) own w moment told ended next d f
fed-end old v next d e f told last given ended fed went start w name bytes own moment follows only place stands =
    (let x = fed start w name bytes own moment follows only place stands in
    went start w (PutJob name bytes) own moment d x.way x.behind)

-- where it waits, so many stripes were given
pub fed-waits-on : (old v next : Vault) (d e f : Devices) (size : ℕ) (told : Option ℕ) (last : Bool)
    (given : List ℕ) → IsFed old d v e told last given → Went v e told None next f → IsBegun old d size given →
    is_some (wants_of next 1) ≡ true → (k : ℕ) × (told_of next 1 ≡ Some k) × (wants_of next 1 ≡ Some k)
fed-waits-on old v next d e f size told last given fed went B waits =
    (let x = fed B.start B.state B.name given B.own 0 (follows-itself last given) B.only B.place B.stands in
    let y = went B.start B.state (PutJob B.name given) B.own 0 d x.way x.behind in
    let at = waits-at B.start (PutJob B.name given) B.own (now B.state y.steps) next f y.only y.stands waits in
    (at.stripes, at.told_is, at.wanted_is))

-- where it waits, its place is known
pub fed-place : (v : Vault) (f : Devices) (start w : State) (kind : Kind) (own : Option ℕ) →
    (only : IsOnly start kind own w) → Stands v f w → (k : ℕ) → wants_of v 1 ≡ Some k →
    only.job.place ≡ 4 + k * (setup_in start).n
fed-place v f start w kind own only stands k wants =
    (let at = waits-at start kind own w v f only stands (ap is_some wants) in
    at.place_is ∙ ap (λ n. 4 + n * (setup_in start).n) (let e : Some at.stripes ≡ Some k = sym at.wanted_is ∙
    wants in let g : at.stripes ≡ k = cc in g))
