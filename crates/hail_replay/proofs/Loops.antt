-- The loops over the events of a schedule and of a trial.
use Rattle.hail_replay.proofs.Words.{◌≡◌, ◌≢◌, ℕ, ◌+◌, ◌≤◌, false, List, [], ◌∷◌, ◌++◌, length, Option, refl, ap, sym, subst, ◌∙◌, arith, IsSome, is_some, false≢true, append-nil, reverse-reverse, Sinking, WritesLine, Entry, Moment, now, IsRun, State, continued, Instruction, headline, failures_rose, trial_bytes, trial_commands, TrialCounts, counts_of, trial_lines, Devices, AreDevices, Client, is_open, client_next_job, StandsWhereOpen, NoCountFell, KeepsStanding, CarriesOn, Replays, AreLeft, IsNewClient, called_behind, RunsTrial, RunsTo, CountsTo, HasDone, HasRun, HasCounted}
use Rattle.std.proofs.Common.{reverse}
use Rattle.state_laws.proofs.Events.{run-sound}
use Rattle.vault_open.proofs.Images.{shown-again}
use Rattle.hail_replay.proofs.Counts.{none-fell, then-fell}
use Rattle.hail_replay.proofs.Course.{come-first, carries-on, next-done}
use Rattle.hail_replay.proofs.Wrote.{sank, nothing-written, written-out, none-cut, cut-nothing}

-- what does not hang on a run: of the commands all, these are left
pub record IsOnCourse (all left : List Instruction) (c : Client) (old new : Devices) : Type 0 where
  pub standing : StandsWhereOpen c new
  pub jobs : client_next_job c + length left ≤ length all + 1
  pub tells : is_some new.holds ≡ is_some old.holds
  pub counts : NoCountFell old new

-- commands were done behind every run that left the devices, and their lines were written
abbrev pub AreDone : List Instruction → List Instruction → Client → Devices → Devices →
    (first last : Option (List ℕ)) → (b f : ℕ) → List Entry → Type 0
AreDone all left c old new first last b f heard = (start : State) (before : List Moment) → IsSome old.holds →
    AreLeft start before old → (done : List Instruction) × (all ≡ reverse done ++ left) × HasDone start
    (called_behind start before) done 0 (sank first last b f) heard c new

-- commands were done behind every run, and counted
abbrev pub AreCounted : List ℕ → List Instruction → List Instruction → Client → Devices → Devices →
    TrialCounts → List Entry → Type 0
AreCounted expected all left c old new counts heard = (start : State) (before : List Moment) →
    IsSome old.holds → AreLeft start before old → (done : List Instruction) × (all ≡ reverse done ++ left) ×
    HasCounted expected start (called_behind start before) done counts heard c new

-- ---- the course

first-course : (all : List Instruction) (c : Client) (d : Devices) → is_open c ≡ false →
    client_next_job c ≡ 1 → IsOnCourse all all c d d
first-course all c d closed first = record {
  standing = λ opened. absurd (false≢true (sym closed ∙ opened));
  jobs = omega (arith, first);
  tells = refl;
  counts = none-fell d;
}

course-on : (all left : List Instruction) (command : Instruction) (c next : Client) (old mid new : Devices) →
    IsOnCourse all (command ∷ left) c old mid → KeepsStanding c next mid new
    → IsOnCourse all left next old new
course-on all left command c next old mid new W K = record {
  standing = K.standing;
  jobs = (let a = W.jobs in let b = K.jobs in omega (arith, a, b));
  tells = K.tells ∙ W.tells;
  counts = then-fell old mid new W.counts K.counts;
}

-- ---- a schedule

-- before the first instruction none is done
pub none-done : (all : List Instruction) (c : Client) (d : Devices) (first : Option (List ℕ)) (b : ℕ) →
    IsNewClient c → AreDone all all c d d first first b b []
none-done all c d first b fresh start before told L = (
  [],
  refl,
  record {
    later = [];
    lines = [];
    come = come-first start before c d L (run-sound 8 start before (omega arith, omega arith) L.starts L.run)
        fresh.stands;
    wrote = nothing-written first b;
    stops = none-cut first b;
  },
)

-- what a call does that performs one command more
abbrev pub DoesOne : Instruction → Client → Client → Devices → Devices → (mid last : Option (List ℕ)) →
    (f g status : ℕ) → (heard after : List Entry) → Type 0
DoesOne command c next old new mid last f g status heard after =
    (start : State) (base : List Moment) (done : List Instruction) (first : Option (List ℕ)) (before : ℕ) →
    IsSome old.holds → before ≤ f → HasDone start base done 0 (sank first mid before f) heard c old →
    HasDone start base (command ∷ done) status (sank first last before g) after next new

module _ (all left : List Instruction) (command : Instruction) (c next : Client) (old mid new : Devices)
    (first told last : Option (List ℕ)) (b f g status : ℕ) (heard after : List Entry)
    (tells : is_some mid.holds ≡ is_some old.holds) (low : b ≤ f)
    (so_far : AreDone all (command ∷ left) c old mid first told b f heard)
    (one : DoesOne command c next mid new told last f g status heard after) where
  done-more : status ≡ 0 → AreDone all left next old new first last b g after
  done-more ok start before is_told L = (let D = so_far start before is_told L in (
    command ∷ D.0,
    next-done all D.0 left command D.1,
    subst (λ n. HasDone start (called_behind start before) (command ∷ D.0) n (sank first last b g) after
        next new) ok (one start (called_behind start before) D.0 first b (tells ∙ is_told) low D.2),
  ))

  done-last : status ≢ 0 → (start : State) (before : List Moment) → IsSome old.holds →
      AreLeft start before old → Replays start before all status (sank first last b g) after new
  done-last amiss start before is_told L = (let D = so_far start before is_told L in
      let H = one start (called_behind start before) D.0 first b (tells ∙ is_told) low D.2 in
      record {
        done = command ∷ D.0;
        left = left;
        order = next-done all D.0 left command D.1;
        whole = λ ok. absurd (amiss ok);
        later = H.later;
        lines = H.lines;
        carries = carries-on start before (command ∷ D.0) H.later H.lines after next old L new H.come;
        wrote = H.wrote;
        stops = H.stops;
      })

module _ (all : List Instruction) (c : Client) (old new : Devices) (first last : Option (List ℕ)) (b f : ℕ)
    (heard : List Entry) where
  all-done : AreDone all [] c old new first last b f heard → (start : State) (before : List Moment) →
      IsSome old.holds → AreLeft start before old → Replays start before all 0 (sank first last b f) heard new
  all-done so_far start before is_told L = (let D = so_far start before is_told L in
      record {
        done = D.0;
        left = [];
        order = D.1;
        whole = λ ok. refl;
        later = D.2.later;
        lines = D.2.lines;
        carries = carries-on start before D.0 D.2.later D.2.lines heard c old L new D.2.come;
        wrote = D.2.wrote;
        stops = D.2.stops;
      })

  -- where there was no memory for what was heard, the lines so far were written
  pub cut-off : (left : List Instruction) → AreDone all left c old new first last b f heard →
      (start : State) (before : List Moment) → IsSome old.holds → AreLeft start before old
      → Replays start before all 70 (sank first last b f) heard new
  cut-off left so_far start before is_told L = (let D = so_far start before is_told L in
      record {
        done = D.0;
        left = left;
        order = D.1;
        whole = λ ok. absurd (omega (arith, ok));
        later = D.2.later;
        lines = D.2.lines;
        carries = carries-on start before D.0 D.2.later D.2.lines heard c old L new D.2.come;
        wrote = written-out first last b f D.2.lines D.2.wrote;
        stops = cut-nothing D.0 D.2.later D.2.lines first last b f D.2.stops;
      })

-- ---- a trial

none-counted : (expected : List ℕ) (all : List Instruction) (c : Client) (d : Devices)
    (counts : TrialCounts) → IsNewClient c → counts ≡ counts_of expected [] []
    → AreCounted expected all all c d d counts []
none-counted expected all c d counts fresh is start before told L = (
  [],
  refl,
  record {
    later = [];
    lines = [];
    come = come-first start before c d L (run-sound 8 start before (omega arith, omega arith) L.starts L.run)
        fresh.stands;
    counts_are = is;
  },
)

-- what a call does that performs and counts one command more
abbrev pub CountsOne : List ℕ → Instruction → Client → Client → Devices → Devices → (old new : TrialCounts) →
    (heard after : List Entry) → Type 0
CountsOne expected command c next old new counts now_counts heard after = (start : State) (base : List Moment)
    (done : List Instruction) → IsSome old.holds → HasCounted expected start base done counts heard c old →
    HasCounted expected start base (command ∷ done) now_counts after next new

-- and one that performs it, and finds no memory to count it
abbrev pub RunsOne : Instruction → Client → Client → Devices → Devices → (heard after : List Entry) → Type 0
RunsOne command c next old new heard after = (start : State) (base : List Moment) (done : List Instruction) →
    IsSome old.holds → HasRun start base done heard c old → HasRun start base (command ∷ done) after next new

module _ (expected : List ℕ) (all left : List Instruction) (command : Instruction) (c next : Client)
    (old mid new : Devices) (counts : TrialCounts) (heard after : List Entry)
    (tells : is_some mid.holds ≡ is_some old.holds)
    (so_far : AreCounted expected all (command ∷ left) c old mid counts heard) where
  counted-more : (more : TrialCounts) → CountsOne expected command c next mid new counts more heard after →
      AreCounted expected all left next old new more after
  counted-more more one start before is_told L = (let D = so_far start before is_told L in (
    command ∷ D.0,
    next-done all D.0 left command D.1,
    one start (called_behind start before) D.0 (tells ∙ is_told) D.2,
  ))

  uncounted : RunsOne command c next mid new heard after → (start : State) (before : List Moment) →
      IsSome old.holds → AreLeft start before old → RunsTo start before all after new
  uncounted one start before is_told L = (let D = so_far start before is_told L in
      let H = one start (called_behind start before) D.0 (tells ∙ is_told)
      (record { later = D.2.later; lines = D.2.lines; come = D.2.come }) in
      record {
        done = command ∷ D.0;
        left = left;
        order = next-done all D.0 left command D.1;
        later = H.later;
        lines = H.lines;
        carries = carries-on start before (command ∷ D.0) H.later H.lines after next old L new H.come;
      })

module _ (expected : List ℕ) (all : List Instruction) (c : Client) (old new : Devices) (counts : TrialCounts)
    (heard : List Entry) where
  all-counted : AreCounted expected all [] c old new counts heard → (start : State) (before : List Moment) →
      IsSome old.holds → AreLeft start before old → CountsTo expected start before all counts heard new
  all-counted so_far start before is_told L = (let D = so_far start before is_told L in
      let whole : D.0 ≡ reverse all = sym (reverse-reverse D.0)
      ∙ ap reverse (sym (append-nil (reverse D.0)) ∙ sym D.1) in
      record {
        later = D.2.later;
        lines = D.2.lines;
        carries = subst (λ (cs : List Instruction). CarriesOn start before cs D.2.later D.2.lines heard new)
            whole (carries-on start before D.0 D.2.later D.2.lines heard c old L new D.2.come);
        counts_are = D.2.counts_are ∙ ap (λ (cs : List Instruction). counts_of expected cs D.2.later) whole;
      })

  left-uncounted : (left : List Instruction) → AreCounted expected all left c old new counts heard →
      (start : State) (before : List Moment) → IsSome old.holds → AreLeft start before old
      → RunsTo start before all heard new
  left-uncounted left so_far start before is_told L = (let D = so_far start before is_told L in
      record {
        done = D.0;
        left = left;
        order = D.1;
        later = D.2.later;
        lines = D.2.lines;
        carries = carries-on start before D.0 D.2.later D.2.lines heard c old L new D.2.come;
      })

-- the six lines of its counts
pub trial-told : (number : ℕ) (start : State) (before : List Moment) (commands : List Instruction)
    (expected text : List ℕ) (counts : TrialCounts) (heard : List Entry) (d : Devices) (status : ℕ)
    (sink : Sinking)
    → commands ≡ trial_commands number → expected ≡ trial_bytes number →
    CountsTo expected start before commands counts heard d → text ≡ trial_lines number counts
    → WritesLine text status sink → RunsTrial number start before status sink heard d
trial-told number start before commands expected text counts heard d status sink cs es C t W =
    (let D : CountsTo (trial_bytes number) start before (trial_commands number) counts heard d =
    subst (λ (e : List ℕ). CountsTo e start before (trial_commands number) counts heard d) es
    (subst (λ (k : List Instruction). CountsTo expected start before k counts heard d) cs C) in
    record {
      later = D.later;
      left_out = D.lines;
      carries = D.carries;
      text = text;
      tells = record {
        left_out = D.lines;
        carried_out = D.carries.carried_out;
        text_is = t
            ∙ ap (trial_lines number) D.counts_are;
      };
      wrote = W;
    })

-- the state of a later call has the same devices
pub continued-devices : (d : Devices) (w : State) → AreDevices d w → AreDevices d (continued w)
continued-devices d w A = record {
  images = shown-again d.holds w (continued w) refl refl refl refl A.images;
  faults = A.faults;
  providers = record { count = A.providers.count; each = A.providers.each };
}

-- no event was done
pub none-run : (all : List Instruction) (d : Devices) (start : State) (before : List Moment) →
    AreLeft start before d → RunsTo start before all [] d
none-run all d start before L = (let run : IsRun 8 start (called_behind start before) = (tt, refl, L.run) in
    record {
      done = [];
      left = all;
      order = refl;
      later = [];
      lines = [];
      carries = record {
        carried_out = (refl, refl);
        run = run;
        last = continued-devices d (now start before) L.devices;
        heard_is = refl;
        counted = λ count n fails. failures_rose 8 start [] (called_behind start before) count n run fails;
        headline = headline 8 start (called_behind start before) L.starts run;
      };
    })

-- ---- the loops as they stand in the code

-- a replay begins with no vault open, and nothing done
pub begin-course : (all left : List Instruction) (c : Client) (d : Devices) (first : Option (List ℕ)) (b : ℕ)
    (heard : List Entry) → left ≡ all → heard ≡ []
    → IsNewClient c → IsOnCourse all left c d d × AreDone all left c d d first first b b heard × (b ≤ b)
begin-course all left c d first b heard is none fresh = (
  subst (λ (l : List Instruction). IsOnCourse all l c d d) (sym is)
      (first-course all c d fresh.closed fresh.first),
  subst (λ (l : List Instruction). AreDone all l c d d first first b b heard) (sym is)
      (subst (λ (h : List Entry). AreDone all all c d d first first b b h) (sym none)
      (none-done all c d first b fresh)),
  omega arith,
)

-- so does a trial, with all counts 0
pub begin-count : (expected : List ℕ) (all left : List Instruction) (c : Client) (d : Devices)
    (counts : TrialCounts) (heard : List Entry) → left ≡ all → heard ≡ []
    → IsNewClient c → counts ≡ counts_of expected [] [] →
    IsOnCourse all left c d d × AreCounted expected all left c d d counts heard
begin-count expected all left c d counts heard is none fresh zero_counts = (
  subst (λ (l : List Instruction). IsOnCourse all l c d d) (sym is)
      (first-course all c d fresh.closed fresh.first),
  subst (λ (l : List Instruction). AreCounted expected all l c d d counts heard) (sym is)
      (subst (λ (h : List Entry). AreCounted expected all all c d d counts h) (sym none)
      (none-counted expected all c d counts fresh zero_counts)),
)

module _ (all left rest : List Instruction) (command : Instruction) (c next : Client) (old mid new : Devices)
    (first told last : Option (List ℕ)) (b f g status : ℕ) (heard kept after : List Entry)
    (left_is : left ≡ command ∷ rest) (kept_is : kept ≡ heard)
    (way : IsOnCourse all left c old mid × AreDone all left c old mid first told b f heard × (b ≤ f))
    (keeps : KeepsStanding c next mid new)
    (one : DoesOne command c next mid new told last f g status kept after) (never : f ≤ g) where
  course : IsOnCourse all (command ∷ rest) c old mid
  course = subst (λ (l : List Instruction). IsOnCourse all l c old mid) left_is way.0

  done : AreDone all (command ∷ rest) c old mid first told b f heard
  done = subst (λ (l : List Instruction). AreDone all l c old mid first told b f heard) left_is way.1

  does : DoesOne command c next mid new told last f g status heard after
  does = subst (λ (h : List Entry). DoesOne command c next mid new told last f g status h after) kept_is one

  -- after an instruction whose line was written the others are left
  pub go-on : status ≡ 0 → IsOnCourse all rest next old new ×
      AreDone all rest next old new first last b g after × (b ≤ g)
  go-on ok = (
    course-on all rest command c next old mid new course keeps,
    done-more all rest command c next old mid new first told last b f g status heard after way.0.tells way.2
        done does ok,
    (let l = way.2 in omega (arith, l, never)),
  )

  -- a line that could not be written ends the replay there
  pub go-wrong : status ≢ 0 → (start : State) (before : List Moment) → IsSome old.holds →
      AreLeft start before old → Replays start before all status (sank first last b g) after new
  go-wrong amiss = done-last all rest command c next old mid new first told last b f g status heard after
      way.0.tells way.2 done does amiss

-- no memory for what the next job hears
pub go-short : (all left : List Instruction) (c : Client) (old new : Devices) (first last : Option (List ℕ))
    (b f : ℕ) (heard kept : List Entry) → kept ≡ heard
    → AreDone all left c old new first last b f heard → (start : State) (before : List Moment) →
    IsSome old.holds → AreLeft start before old → Replays start before all 70 (sank first last b f) kept new
go-short all left c old new first last b f heard kept is so_far start before told L =
    subst (λ (h : List Entry). Replays start before all 70 (sank first last b f) h new) (sym is)
    (cut-off all c old new first last b f heard left so_far start before told L)

-- all are done
pub go-home : (all left : List Instruction) (c : Client) (old new : Devices) (first last : Option (List ℕ))
    (b f : ℕ) (heard : List Entry) → left ≡ []
    → AreDone all left c old new first last b f heard → (start : State) (before : List Moment) →
    IsSome old.holds → AreLeft start before old → Replays start before all 0 (sank first last b f) heard new
go-home all left c old new first last b f heard is so_far = all-done all c old new first last b f heard
    (subst (λ (l : List Instruction). AreDone all l c old new first last b f heard) is so_far)

module _ (expected : List ℕ) (all left rest : List Instruction) (command : Instruction) (c next : Client)
    (old mid new : Devices) (counts : TrialCounts) (heard kept after : List Entry)
    (left_is : left ≡ command ∷ rest) (kept_is : kept ≡ heard)
    (course : IsOnCourse all left c old mid)
    (counted : AreCounted expected all left c old mid counts heard) where
  so_far : AreCounted expected all (command ∷ rest) c old mid counts kept
  so_far = subst (λ (h : List Entry). AreCounted expected all (command ∷ rest) c old mid counts h)
      (sym kept_is)
      (subst (λ (l : List Instruction). AreCounted expected all l c old mid counts heard) left_is counted)

  -- after an instruction of a trial the others are left
  pub count-course : KeepsStanding c next mid new → IsOnCourse all rest next old new
  count-course keeps = course-on all rest command c next old mid new
      (subst (λ (l : List Instruction). IsOnCourse all l c old mid) left_is course) keeps

  -- its outcome is counted
  pub count-on : (more : TrialCounts) → CountsOne expected command c next mid new counts more kept after →
      AreCounted expected all rest next old new more after
  count-on more one = counted-more expected all rest command c next old mid new counts kept after course.tells
      so_far more one

  -- an instruction without memory ends the trial there
  pub count-wrong : RunsOne command c next mid new kept after → (start : State) (before : List Moment) →
      IsSome old.holds → AreLeft start before old → RunsTo start before all after new
  count-wrong one = uncounted expected all rest command c next old mid new counts kept after course.tells
      so_far one

-- what was heard so far is heard at the end, also where the trial was cut
pub count-short : (expected : List ℕ) (all left : List Instruction) (c : Client) (old new : Devices)
    (counts : TrialCounts) (heard kept : List Entry) → kept ≡ heard
    → AreCounted expected all left c old new counts heard → (start : State) (before : List Moment) →
    IsSome old.holds → AreLeft start before old → RunsTo start before all kept new
count-short expected all left c old new counts heard kept is so_far start before told L =
    subst (λ (h : List Entry). RunsTo start before all h new) (sym is)
    (left-uncounted expected all c old new counts heard left so_far start before told L)

-- at the end all outcomes are counted
pub count-home : (expected : List ℕ) (all left : List Instruction) (c : Client) (old new : Devices)
    (counts : TrialCounts) (heard : List Entry) → left ≡ []
    → AreCounted expected all left c old new counts heard → (start : State) (before : List Moment) →
    IsSome old.holds → AreLeft start before old → CountsTo expected start before all counts heard new
count-home expected all left c old new counts heard is so_far = all-counted expected all c old new counts
    heard (subst (λ (l : List Instruction). AreCounted expected all l c old new counts heard) is so_far)
