-- A stream is given its next piece.
use Rattle.vault.proofs.Words.{◌≡◌, ◌⊎◌, ℕ, ◌+◌, ◌-◌, ◌*◌, ◌/◌, ◌<◌, ◌≤◌, Bool, true, false, cond, List, [], ◌∷◌, ◌++◌, take, Option, Some, None, refl, sym, ap, subst, ◌∙◌, inl, inr, arith, length-append, append_assoc, slice_get, slice_set, cases_Bool, cases_eq, eq-eqb, ne_eqb, list_all-append, ∥∥₁_map, div-lt_iff_lt-mul, take-append-add, append-nil, take_all, none-some, get-set_there, profile_of, stripe_symbols, symbols_in, Provider, Setup, is_byte, largest_file, actions_left, AreBytes, Kind, PutJob, aim_of, Job, job_of, with_job, State, setup_in, cond_true, cond_false, number_of, same_value, bench_object, CoreIs, stripe_size, IsGivenLength, FitsGiven, FitsAim, CoreJob, job_in, told_by, told_in, wanted_at, wanted_by, wants_in, Devices, devices, Desk, Running, StreamTask, Task, task_of, hand_of, HasLast, HasAtHand, AreAtHand, IsStreaming, piece_size, TakesPiece, DeskStands, PutEndsIn, HasEnds, IsAtWork, place_in, KeepsAll, stripe_by, IsPiece, HasPieceAt, FitsKind, FitsPiece, IsStream, IsTask, IsRunning, AreRunning, handed_same}
use Rattle.std.proofs.Common.{◌==◌, length}
use Rattle.std.specs.Prelude.{◌&&◌}
use Rattle.code_defs.proofs.Profiles.{some_kept}
use Rattle.machine_defs.specs.Actions.{Action}
use Rattle.vault.specs.declared.tasks.Task.TheVariants as task
use Rattle.vault.proofs.CoreJobs.{core_of, profile_same}
use Rattle.vault.proofs.Hands.{number_at, task_at, task_set}
use Rattle.vault.proofs.JobPlaces.{at_number, at_set, found, place_is, put_back}
use Rattle.vault.proofs.Kits.{bench_after}
use Rattle.vault.proofs.Pieces.{symbols_of_piece}
use Rattle.vault.proofs.StoredStripes.{more_times}
use Rattle.vault.proofs.Ways.{stands_on}

-- ---- the size of a stripe

-- a stripe has a byte at least
pub some_bytes : (v : Desk) (d : Devices) (w : State) (profile : ℕ) → DeskStands v d w
    → 0 < stripe_size (setup_in w) profile
some_bytes v d w profile S =
    let l : v.shape.l ≡ (setup_in w).l = S.shaped.l ∙ sym (ap (λ (s : Setup). s.l) S.setup) in
    let fits = v.shape.fits.2 in
    let kept = some_kept profile in
    let times = more_times (setup_in w).l 1 ((profile_of profile).keep) (omega (arith, l, fits)) in
    let some : 1 ≤ (setup_in w).l * (profile_of profile).keep = omega (arith, kept, times) in
    (let e : 0 < 16 * ((setup_in w).l * (profile_of profile).keep) = omega (arith, some) in e)

-- so many bytes have no more stripes
fewer_stripes : (c bytes stripe : ℕ) → 0 < c → bytes ≤ (stripe + 1) * c → (bytes + (c - 1)) / c ≤ stripe + 1
fewer_stripes c bytes stripe some few =
    let l = (div-lt_iff_lt-mul {k = c} {x = bytes + (c - 1)} {y = stripe + 2} some).1
    (omega (arith, some, few)) in
    omega (arith, l)

-- ---- the job that waits

-- what is known of a stream that waits for a stripe, in a state that its desk stands for
pub record Waiting (v : Desk) (w : State) (number stripe : ℕ) (job : Job) : Type 0 where
  pub runs : job_of w.jobs number ≡ Some job
  pub told : told_in v.core.jobs number ≡ Some stripe
  pub place : job.place ≡ 4 + stripe * (setup_in w).n
  pub size : stripe_by v.core.setup (job_in v.core.jobs number) ≡ stripe_size (setup_in w) job.profile

wanted_told : (s : Setup) (place stripe : ℕ) (told : Option ℕ) → wanted_at s place told ≡ Some stripe
    → (told ≡ Some stripe) × (place ≡ 4 + stripe * s.n)
wanted_told s place stripe None wants = absurd (none-some stripe wants)
wanted_told s place stripe (Some stripes) wants = elim (cases_eq place (4 + stripes * s.n)) [
  | inl e ↦ (
      let here = eq-eqb place (4 + stripes * s.n) e in
      let same : stripes ≡ stripe =
      (let f : Some stripes ≡ Some stripe =
      sym (cond_true (place == 4 + stripes * s.n) (Some stripes) None here) ∙ wants in cc) in
      (ap (λ (x : ℕ). Some x) same, e ∙ ap (λ (x : ℕ). 4 + x * s.n) same))
  | inr n ↦ absurd (none-some stripe (sym (cond_false (place == 4 + stripes * s.n) (Some stripes) None
      (ne_eqb place (4 + stripes * s.n) n)) ∙ wants))
]

pub waiting : (v : Desk) (d : Devices) (w : State) (number stripe : ℕ) (job : Job) → DeskStands v d w
    → job_of w.jobs number ≡ Some job → wants_in v.core number ≡ Some stripe → Waiting v w number stripe job
waiting v d w number stripe job S runs wants =
    let o = core_of v.core.setup v.core.jobs w.jobs number job S.core.jobs runs in
    let h = wanted_told v.core.setup o.job.place stripe o.job.told
    (ap (wanted_by v.core.setup) (sym o.runs) ∙ wants) in
    record {
      runs = runs;
      told = ap told_by o.runs ∙ h.0;
      place = sym o.is.place ∙ h.1 ∙ ap (λ (s : Setup). 4 + stripe * s.n) S.core.setup;
      size = ap (stripe_by v.core.setup) o.runs
          ∙ (λ i. stripe_size (S.core.setup i) (profile_same v.core.setup o.job job o.is i));
    }

-- a stream that waits runs
pub waits_runs : (v : Desk) (d : Devices) (w : State) (number stripe : ℕ) → DeskStands v d w
    → wants_in v.core number ≡ Some stripe → (job : Job) × (job_of w.jobs number ≡ Some job)
waits_runs v d w number stripe S wants = by_job (job_in v.core.jobs number) refl wants
  where
    by_job : (o : Option CoreJob) → job_in v.core.jobs number ≡ o → wanted_by v.core.setup o ≡ Some stripe
        → (job : Job) × (job_of w.jobs number ≡ Some job)
    by_job None is e = absurd (none-some stripe e)
    by_job (Some c) is e =
        let p = Rattle.vault_core.proofs.Pairs.pair_some v.core.setup v.core.jobs w.jobs number c S.core.jobs is
        in (p.job, p.runs)

-- its task is that of a stream
pub streaming : (s : Setup) (told : Option ℕ) (stripe : ℕ) (t : Task) (job : Job) → told ≡ Some stripe
    → HasAtHand s told (hand_of t) job → IsStreaming t
streaming s told stripe (task.Stream t) job is has = tt
streaming s told stripe _ job is has = absurd (none-some stripe (sym has ∙ is))

-- and its bench has stripes of the size that the core knows
pub bench_bytes : (s : Setup) (job : Job) (t : Task) → IsStreaming t → IsTask s job (actions_left s job) t
    → piece_size t ≡ stripe_size s job.profile
bench_bytes s job (task.Stream t) are is = ap (λ o. 16 * stripe_symbols o) is.bench
bench_bytes s job _ are is = absurd are

-- ---- the piece

-- where it stands in the file, and that it is a whole stripe or the last
pub record Fits (size stripe : ℕ) (piece : List ℕ) (last : Bool) (job : Job) : Type 0 where
  pub name : List ℕ
  pub bytes : List ℕ
  pub kind : job.kind ≡ PutJob name bytes
  pub at : HasPieceAt (stripe * size) piece last bytes

pub fits_job : (size stripe : ℕ) (piece : List ℕ) (last : Bool) (job : Job)
    → FitsPiece size (Some stripe) piece last (Some job) → Fits size stripe piece last job
fits_job size stripe piece last job fits = by_kind job.kind refl fits
  where
    by_kind : (kind : Kind) → job.kind ≡ kind → FitsKind size (Some stripe) piece last kind
        → Fits size stripe piece last job
    by_kind (PutJob name bytes) is at = record { name = name; bytes = bytes; kind = is; at = at }
    by_kind _ is at = absurd at

-- a piece is a whole stripe, or no more comes
whole_or_last : (size stripe : ℕ) (piece : List ℕ) (last : Bool) (bytes : List ℕ)
    → IsPiece size (Some stripe) (length piece) last → (at : HasPieceAt (stripe * size) piece last bytes)
    → (size ≤ length piece) ⊎ (at.rest ≡ [])
whole_or_last size stripe piece false bytes is at = inl (let e = is.0 in omega (arith, e))
whole_or_last size stripe piece true bytes is at = inr (at.end refl)

-- how long the file is
piece_length : (size stripe : ℕ) (piece : List ℕ) (last : Bool) (bytes : List ℕ)
    → (at : HasPieceAt (stripe * size) piece last bytes)
    → length bytes ≡ (stripe * size + length piece) + length at.rest
piece_length size stripe piece last bytes at =
    let a = ap length at.parts ∙ length-append at.before (piece ++ at.rest) in
    let b = length-append piece at.rest in
    let c = at.place_is in
    omega (arith, a, b, c)

-- it fits what the core is told
pub fits_given : (size stripe total : ℕ) (piece : List ℕ) (last : Bool) (job : Job)
    → total ≡ stripe * size + length piece → Fits size stripe piece last job → FitsGiven last total (Some job)
fits_given size stripe total piece false job is f =
    let l = piece_length size stripe piece false f.bytes f.at in
    subst (λ (kind : Kind). FitsAim false total (aim_of kind)) (sym f.kind) (omega (arith, l, is))
fits_given size stripe total piece true job is f =
    let l = piece_length size stripe piece true f.bytes f.at in
    let none = ap length (f.at.end refl) in
    subst (λ (kind : Kind). FitsAim true total (aim_of kind)) (sym f.kind)
    (let e : total ≡ length f.bytes = omega (arith, l, is, none) in e)

-- it is not too long with the piece
pub piece_bound : (size stripe count : ℕ) (last : Bool) → IsPiece size (Some stripe) count last
    → stripe * size + count ≤ largest_file
piece_bound size stripe count false is = is.1
piece_bound size stripe count true is = is.1

-- the core may be told
pub may_tell : (size stripe total : ℕ) (count : ℕ) (last : Bool) → total ≡ stripe * size + count
    → IsPiece size (Some stripe) count last → IsGivenLength size (Some stripe) total last
may_tell size stripe total count false is piece =
    let a = piece.0 in
    let b = piece.1 in
    ((omega (arith, is, a)), omega arith)
may_tell size stripe total count true is piece =
    (omega arith, omega (arith, is, piece.0), omega (arith, is, piece.1))

-- ---- what the stream works with

module _ (s : Setup) (job : Job) (stripe : ℕ) (piece : List ℕ) (last : Bool)
    (f : Fits (stripe_size s job.profile) stripe piece last job)
    (is_piece : IsPiece (stripe_size s job.profile) (Some stripe) (length piece) last) where
  stream_taken : (t u : StreamTask) → TakesPiece (task.Stream t) (task.Stream u) piece stripe → IsStream s t job
      → IsStream s u job
  stream_taken t u takes is =
      let o = bench_object t.bench in
      let size : 16 * stripe_symbols o ≡ stripe_size s job.profile =
      ap (λ x. 16 * stripe_symbols x) is.bench in
      let place : length f.at.before ≡ stripe * (16 * stripe_symbols o) =
      f.at.place_is ∙ ap (λ x. stripe * x) (sym size) in
      let whole : (16 * stripe_symbols o ≤ length piece) ⊎ (f.at.rest ≡ []) =
      rw (← size) at (whole_or_last (stripe_size s job.profile) stripe piece last f.bytes is_piece f.at) in
      record {
        name = f.name;
        bytes = f.bytes;
        kind = f.kind;
        bench = bench_after s job.profile t.bench u.bench t.bench.keys.file.id is.bench takes.2;
        rows = λ x hand.
            let same : stripe ≡ x = (let e : Some stripe ≡ Some x = sym takes.0 ∙ hand in cc) in
            takes.1
            ∙ sym (symbols_of_piece o f.at.before piece f.at.rest stripe place whole)
            ∙ ap (λ bytes. symbols_in o bytes stripe) (sym f.at.parts)
            ∙ (λ i. symbols_in (sym takes.2 i) f.bytes (same i));
      }

  task_taken : (rest : List Action) (t u : Task)
      → TakesPiece t u piece stripe → IsTask s job rest t → IsTask s job rest u
  task_taken rest (task.Stream t) (task.Stream u) takes is = stream_taken t u takes is
  task_taken rest t u takes is = absurd takes

  pub runs_taken : (r r' : Running) → r'.number ≡ r.number → TakesPiece r.task r'.task piece stripe
      → IsRunning s r job → IsRunning s r' job
  runs_taken r r' number takes is = record {
    number = number ∙ is.number;
    task = task_taken (actions_left s job) r.task r'.task takes is.task;
  }

hand_taken : (t u : Task) (piece : List ℕ) (stripe : ℕ) → TakesPiece t u piece stripe
    → hand_of u ≡ Some (Some stripe)
hand_taken (task.Stream t) (task.Stream u) piece stripe takes = ap (λ (h : Option ℕ). Some h) takes.0
hand_taken t u piece stripe takes = absurd takes

-- the stripe is at hand
has_taken : (s : Setup) (job : Job) (stripe : ℕ) (piece : List ℕ) (last : Bool) (told : Option ℕ)
    → 0 < stripe_size s job.profile → Fits (stripe_size s job.profile) stripe piece last job
    → IsPiece (stripe_size s job.profile) (Some stripe) (length piece) last → job.place ≡ 4 + stripe * s.n
    → (last ≡ false → told ≡ Some (stripe + 1)) → (last ≡ true → told ≡ None)
    → HasAtHand s told (Some (Some stripe)) job
has_taken s job stripe piece false told some f is_piece place more closed =
    subst (λ (x : Option ℕ). HasAtHand s x (Some (Some stripe)) job) (sym (more refl)) (record {
      within = omega (arith, place);
      last = λ x e. (
          let same : stripe ≡ x = omega (arith, e) in
          (ap (λ (y : ℕ). Some y) same, subst (λ (y : ℕ). 4 + y * s.n ≤ job.place) same (omega (arith, place))));
    })
has_taken s job stripe piece true told some f is_piece place more closed =
    let l = piece_length (stripe_size s job.profile) stripe piece true f.bytes f.at in
    let none = ap length (f.at.end refl) in
    let few = is_piece.0 in
    subst (λ (x : Option ℕ). HasAtHand s x (Some (Some stripe)) job) (sym (closed refl))
    (subst (HasLast s (Some stripe) job) (sym f.kind) (
      stripe,
      (refl, omega (arith, place)),
      fewer_stripes (stripe_size s job.profile) (length f.bytes) stripe some (omega (arith, l, none, few)),
    ))

-- ---- the desk

-- a job put in the place of itself
with_same : (js : List Job) (j : Job) → job_of js j.number ≡ Some j → with_job js j ≡ js
with_same [] j is = refl
with_same (x ∷ js) j is = elim (cases_Bool (x.number == j.number)) [
  | inl t ↦ cond_true (x.number == j.number) (j ∷ js) (x ∷ with_job js j) t
      ∙ ap (λ (y : Job). y ∷ js)
      (sym (same_value _ x j (cond_true (x.number == j.number) (Some x) (job_of js j.number) t) is))
  | inr f ↦ cond_false (x.number == j.number) (j ∷ js) (x ∷ with_job js j) f
      ∙ ap (λ (l : List Job). x ∷ l) (with_same js j
      (sym (cond_false (x.number == j.number) (Some x) (job_of js j.number) f) ∙ is))
]

-- what the desk did with a piece
pub record IsGiven (v v' : Desk) (number stripe : ℕ) (piece : List ℕ) (last : Bool) : Type 0 where
  pub wants : wants_in v.core number ≡ Some stripe
  pub is_piece : IsPiece (stripe_by v.core.setup (job_in v.core.jobs number)) (Some stripe) (length piece) last
  pub place : ℕ
  pub old : Running
  pub new : Running
  pub at : place_in v.jobs.items number ≡ Some place
  pub there : slice_get v.jobs.items place ≡ Some old
  pub number_is : new.number ≡ old.number
  pub takes : TakesPiece old.task new.task piece stripe
  pub jobs : v'.jobs.items ≡ slice_set v.jobs.items place new
  pub keeps : KeepsAll v v'
  pub flight : v'.flight ≡ v.flight
  pub total : ℕ
  pub total_is : total ≡ stripe * stripe_by v.core.setup (job_in v.core.jobs number) + length piece
  pub stands : (w : State) → CoreIs v.core w → FitsGiven last total (job_of w.jobs number) → CoreIs v'.core w
  pub more : last ≡ false → told_in v'.core.jobs number ≡ Some (stripe + 1)
  pub closed : last ≡ true → told_in v'.core.jobs number ≡ None
  pub others : (m : ℕ) → (m ≡ number → ⊥) → told_in v'.core.jobs m ≡ told_in v.core.jobs m

module _ (v v' : Desk) (number stripe : ℕ) (piece : List ℕ) (last : Bool)
    (g : IsGiven v v' number stripe piece last) where
  -- the desk stands for the state in whose file the piece comes next
  pub given_stands : (w : State) (d : Devices) (job : Job) → DeskStands v d w
      → job_of w.jobs number ≡ Some job
      → Fits (stripe_size (setup_in w) job.profile) stripe piece last job → DeskStands v' d w
  given_stands w d job S runs f =
      let s = setup_in w in
      let wait = waiting v d w number stripe job S runs g.wants in
      let is_piece = subst (λ (x : ℕ). IsPiece x (Some stripe) (length piece) last) wait.size g.is_piece in
      let core = g.stands w S.core (subst (FitsGiven last g.total) (sym runs)
      (fits_given (stripe_size s job.profile) stripe g.total piece last job
      (g.total_is ∙ ap (λ (x : ℕ). stripe * x + length piece) wait.size) f)) in
      let at = sym (place_is v.jobs.items number) ∙ g.at in
      let first = found s v.jobs.items w.jobs number job S.jobs runs in
      let here : first.place ≡ g.place = cc (sym first.at ∙ at) in
      let one : first.running ≡ g.old = cc (sym first.there ∙ ap (slice_get v.jobs.items) here ∙ g.there) in
      let running = runs_taken s job stripe piece last f is_piece g.old g.new g.number_is g.takes
      (subst (λ (x : Running). IsRunning s x job) one first.is) in
      let mine : job.number ≡ number = number_of w.jobs number job runs in
      let same : with_job w.jobs job ≡ w.jobs = with_same w.jobs job
      (ap (job_of w.jobs) mine ∙ runs) in
      stands_on v v' w w d.holds d.faults d.providers d.providers S
      (record { records = refl; journal = refl; area = refl; switching = refl; doubt = refl; append = refl; faults = refl; barred = refl })
      (handed_same d.providers w w S.devices.providers refl (λ j. refl)) core g.keeps g.flight
      (subst (λ (rs : List Running). AreRunning s rs w.jobs) (sym g.jobs)
      (subst (AreRunning s (slice_set v.jobs.items g.place g.new)) same
      (put_back s number g.new job running mine v.jobs.items w.jobs g.place S.jobs at)))
      (subst (λ (rs : List Running). AreAtHand s v'.core.jobs rs w.jobs) (sym g.jobs)
      (hands at is_piece wait))
    where
      hands : at_number v.jobs.items number ≡ Some g.place
          → IsPiece (stripe_size (setup_in w) job.profile) (Some stripe) (length piece) last
          → Waiting v w number stripe job
          → AreAtHand (setup_in w) v'.core.jobs (slice_set v.jobs.items g.place g.new) w.jobs
      hands at is_piece wait m t j tasks jobs = elim (cases_eq m number) [
        | inl e ↦ (
            let now = task_at (slice_set v.jobs.items g.place g.new) number g.place g.new
            (at_set v.jobs.items number g.place g.old g.new g.there g.number_is ∙ at)
            (get-set_there v.jobs.items g.place g.old g.new g.there) in
            let t_is : g.new.task ≡ t = same_value _ g.new.task t now
            (ap (task_of (slice_set v.jobs.items g.place g.new)) (sym e) ∙ tasks) in
            let j_is : job ≡ j = same_value _ job j runs (ap (job_of w.jobs) (sym e) ∙ jobs) in
            let hand : Some (Some stripe) ≡ hand_of t =
            sym (hand_taken g.old.task g.new.task piece stripe g.takes) ∙ ap hand_of t_is in
            subst (λ (x : ℕ). HasAtHand (setup_in w) (told_in v'.core.jobs x) (hand_of t) j) (sym e)
            (subst (λ (x : Job). HasAtHand (setup_in w) (told_in v'.core.jobs number) (hand_of t) x) j_is
            (subst (λ (h : Option (Option ℕ)). HasAtHand (setup_in w) (told_in v'.core.jobs number) h job) hand
            (has_taken (setup_in w) job stripe piece last (told_in v'.core.jobs number)
            (some_bytes v d w job.profile S) f is_piece wait.place g.more g.closed))))
        | inr n ↦ (
            let other : g.old.number ≡ m → ⊥ =
            (λ e. n (sym e ∙ number_at v.jobs.items number g.place g.old at g.there)) in
            subst (λ (x : Option ℕ). HasAtHand (setup_in w) x (hand_of t) j) (sym (g.others m n))
            (S.streams m t j (sym (task_set v.jobs.items g.place m g.old g.new g.there g.number_is other)
            ∙ tasks) jobs))
      ]

-- so it does where the file of its job has the piece next
pub given_fitting : (v v' : Desk) (number stripe : ℕ) (piece : List ℕ) (last : Bool)
    → IsGiven v v' number stripe piece last → (w : State) (d : Devices) → DeskStands v d w
    → FitsPiece (stripe_by v.core.setup (job_in v.core.jobs number)) (wants_in v.core number) piece last
    (job_of w.jobs number) → DeskStands v' d w
given_fitting v v' number stripe piece last g w d S fits =
    let runs = waits_runs v d w number stripe S g.wants in
    let job = runs.0 in
    let size = stripe_by v.core.setup (job_in v.core.jobs number) in
    given_stands v v' number stripe piece last g w d job S runs.1
    (subst (λ x. Fits x stripe piece last job) (waiting v d w number stripe job S runs.1 g.wants).size
    (fits_job size stripe piece last job
    (subst (FitsPiece size (Some stripe) piece last) runs.1
    (rw g.wants at fits))))

-- ---- what is given later

-- what a file still gets, with the piece before it, if others come
abbrev next_rest : List ℕ → List ℕ → Bool → List ℕ
next_rest piece rest false = piece ++ rest
next_rest piece rest true = piece

-- the piece in a file that ends so
record Split (size stripe : ℕ) (piece rest : List ℕ) (last : Bool) (kind : Kind) : Type 0 where
  name : List ℕ
  bytes : List ℕ
  kind_is : kind ≡ PutJob name bytes
  at : HasPieceAt (stripe * size) piece last bytes
  behind : last ≡ false → at.rest ≡ take (largest_file - (stripe + 1) * size) rest

split : (size stripe : ℕ) (piece rest : List ℕ) (last : Bool) (kind : Kind)
    → IsPiece size (Some stripe) (length piece) last
    → PutEndsIn (stripe * size) (next_rest piece rest last) kind → Split size stripe piece rest last kind
split size stripe piece rest false (PutJob name bytes) is (before, parts, place) =
    let most = is.1 in
    let e : largest_file - stripe * size ≡ length piece + (largest_file - (stripe + 1) * size) =
    omega (arith, is.0, most) in
    record {
      name = name;
      bytes = bytes;
      kind_is = refl;
      at = record {
        before = before;
        rest = take (largest_file - (stripe + 1) * size) rest;
        parts = parts ∙ ap (λ n. before ++ take n (piece ++ rest)) e
            ∙ ap (λ l. before ++ l)
            (take-append-add piece rest (largest_file - (stripe + 1) * size));
        place_is = place;
        end = λ e. absurd (Rattle.std.proofs.lemmas.Bool.false≢true e);
      };
      behind = λ e. refl;
    }
split size stripe piece rest true (PutJob name bytes) is (before, parts, place) =
    record {
      name = name;
      bytes = bytes;
      kind_is = refl;
      at = record {
        before = before;
        rest = [];
        parts =
            parts ∙ ap (λ l. before ++ l) (take_all (largest_file - stripe * size) piece (omega (arith, is.1))
            ∙ sym (append-nil piece));
        place_is = place;
        end = λ e. refl;
      };
      behind = λ e. absurd (Rattle.std.proofs.lemmas.Bool.false≢true (sym e));
    }
split size stripe piece rest last _ is ends = absurd ends

-- and so it ends behind the piece
ends_behind : (size stripe : ℕ) (piece rest : List ℕ) (kind : Kind)
    → IsPiece size (Some stripe) (length piece) false → Split size stripe piece rest false kind
    → PutEndsIn ((stripe + 1) * size) rest kind
ends_behind size stripe piece rest kind is x =
    let count = is.0 in
    let place = x.at.place_is in
    let long = length-append x.at.before piece in
    subst (PutEndsIn ((stripe + 1) * size) rest) (sym x.kind_is) (
      x.at.before ++ piece,
      x.at.parts ∙ ap (λ (l : List ℕ). x.at.before ++ (piece ++ l)) (x.behind refl)
          ∙ sym (append_assoc x.at.before piece (take (largest_file - (stripe + 1) * size) rest)),
      (let e : length (x.at.before ++ piece) ≡ (stripe + 1) * size = omega (arith, count, place, long) in e),
    )

-- what all streams still get, with the piece before what that of this number gets
abbrev rest_with : ℕ → List ℕ → Bool → (ℕ → List ℕ) → ℕ → List ℕ
rest_with number piece last rest m = cond (m == number) (next_rest piece (rest number) last) (rest m)

rest_here : (number : ℕ) (piece : List ℕ) (last : Bool) (rest : ℕ → List ℕ)
    → rest_with number piece last rest number ≡ next_rest piece (rest number) last
rest_here number piece last rest =
    cond_true (number == number) (next_rest piece (rest number) last) (rest number) (eq-eqb number number refl)

rest_other : (number m : ℕ) (piece : List ℕ) (last : Bool) (rest : ℕ → List ℕ) → (m ≡ number → ⊥)
    → rest_with number piece last rest m ≡ rest m
rest_other number m piece last rest other =
    cond_false (m == number) (next_rest piece (rest number) last) (rest m) (ne_eqb m number other)

rest_bytes : (number m : ℕ) (piece : List ℕ) (last : Bool) (rest : ℕ → List ℕ) → AreBytes piece
    → ((k : ℕ) → AreBytes (rest k)) → AreBytes (rest_with number piece last rest m)
rest_bytes number m piece last rest is all = elim (cases_eq m number) [
  | inl e ↦ subst (λ (k : ℕ). AreBytes (rest_with number piece last rest k)) (sym e)
      (subst AreBytes (sym (rest_here number piece last rest)) (by last))
  | inr n ↦ subst AreBytes (sym (rest_other number m piece last rest n)) (all m)
]
  where
    by : (b : Bool) → AreBytes (next_rest piece (rest number) b)
    by false = list_all-append is_byte piece (rest number) ∙ (λ i. is i && all number i)
    by true = is

module _ (v v' : Desk) (number stripe : ℕ) (piece : List ℕ) (last : Bool)
    (g : IsGiven v v' number stripe piece last) (piece_bytes : AreBytes piece) (rest : ℕ → List ℕ) where
  given_ends : (w : State) (faults : ℕ) (ps : List Provider) → DeskStands v (devices None faults ps) w
      → HasEnds v w (rest_with number piece last rest)
      → DeskStands v' (devices None faults ps) w × HasEnds v' w rest
  given_ends w faults ps S ends =
      let d = devices None faults ps in
      let runs = waits_runs v d w number stripe S g.wants in
      let job = runs.0 in
      let wait = waiting v d w number stripe job S runs.1 g.wants in
      let size = stripe_size (setup_in w) job.profile in
      let is_piece = rw wait.size at g.is_piece in
      let x = split size stripe piece (rest number) last job.kind is_piece
      (rw (rest_here number piece last rest) at (ends number stripe job wait.told runs.1)) in (
        given_stands v v' number stripe piece last g w d job S runs.1
            (record { name = x.name; bytes = x.bytes; kind = x.kind_is; at = x.at }),
        λ m stripes j told jobs. elim (cases_eq m number) [
          | inl e ↦ (
              let same = same_value _ job j runs.1 (ap (job_of w.jobs) (sym e) ∙ jobs) in
              (rw same at (subst (λ (k : ℕ). PutEndsIn (stripes * size) (rest k) job.kind) (sym e)
              (mine w job stripes last refl is_piece x (ap (told_in v'.core.jobs) (sym e) ∙ told)))))
          | inr n ↦ (rw (rest_other number m piece last rest n) at (ends m stripes j
              (sym (g.others m n) ∙ told) jobs))
        ],
      )
    where
      mine : (w : State) (job : Job) (stripes : ℕ) (b : Bool) → last ≡ b
          → IsPiece (stripe_size (setup_in w) job.profile) (Some stripe) (length piece) last
          → Split (stripe_size (setup_in w) job.profile) stripe piece (rest number) last job.kind
          → told_in v'.core.jobs number ≡ Some stripes
          → PutEndsIn (stripes * stripe_size (setup_in w) job.profile) (rest number) job.kind
      mine w job stripes false is is_piece x told =
          subst (λ k. PutEndsIn (k * stripe_size (setup_in w) job.profile) (rest number) job.kind)
          (let e : Some (stripe + 1) ≡ Some stripes = sym (g.more is) ∙ told in cc)
          (ends_behind (stripe_size (setup_in w) job.profile) stripe piece (rest number) job.kind
          (rw is at is_piece) (rw is at x))
      mine w job stripes true is is_piece x told = absurd (none-some stripes (sym (g.closed is) ∙ told))

-- so the desk is at work
pub given_works : (v v' : Desk) (number stripe : ℕ) (piece : List ℕ) (last : Bool)
    → IsGiven v v' number stripe piece last → AreBytes piece → IsAtWork v → IsAtWork v'
given_works v v' number stripe piece last g piece_bytes at = λ rest bytes. ∥∥₁_map
    (at (rest_with number piece last rest) (λ m. rest_bytes number m piece last rest piece_bytes bytes)) (λ x.
    let h = given_ends v v' number stripe piece last g piece_bytes rest x.0 x.1 x.2 x.3 x.4 in
    (x.0, x.1, x.2, h.0, h.1))
