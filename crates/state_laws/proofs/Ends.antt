-- Sound states after a job has ended.
use Rattle.state_laws.proofs.Words.{◌≡◌, ◌==◌, Bool, true, false, ◌||◌, Option, refl, ap, sym, ◌∙◌, inl, inr, arith, is_some, cases_Bool, some-not-none, version_of, file_of, aim_of, Job, job_of, without_job, State, Append, Doubt, setup_in, ended, reserved, cond_true, cond_false, found_without, moves_made, MayFollowIn, IsDoubtOf, IsSoundAppend, starts_left, IsSound, puts_name}
use Rattle.std.proofs.Common.{ℕ, List, [], ◌∷◌, Some, None}
use Rattle.state_laws.proofs.JobLists.{sum-without, length-without, numbered-without, still-without, only-without, not-mine, other}
use Rattle.state_laws.proofs.NamesTaken.{are_put, taken-fewer}
use Rattle.state_laws.proofs.Packs.{journal-same}
use Rattle.state_laws.proofs.Going.{kept}

or-right : (a b c : Bool) → (b ≡ true → c ≡ true) → (a || b) ≡ true → (a || c) ≡ true
or-right true b c f h = refl
or-right false b c f h = f h

or-left : (a b c : Bool) → (a ≡ true → c ≡ true) → (a || b) ≡ true → (c || b) ≡ true
or-left true b c f h = ap (λ x. x || b) (f refl)
or-left false b true f h = refl
or-left false b false f h = h

put-without : (n : List ℕ) (js : List Job) (m : ℕ) → are_put n (without_job js m) ≡ true → are_put n js ≡ true
put-without n [] m h = h
put-without n (x ∷ js) m h = elim (cases_Bool (x.number == m)) [
  | inl t ↦ later (puts_name n (aim_of x.kind)) (put-without n js m
      (ap (are_put n) (sym (cond_true (x.number == m) (without_job js m) (x ∷ without_job js m) t)) ∙ h))
  | inr f ↦ or-right (puts_name n (aim_of x.kind)) (are_put n (without_job js m)) (are_put n js)
      (put-without n js m) (ap (are_put n)
      (sym (cond_false (x.number == m) (without_job js m) (x ∷ without_job js m) f)) ∙ h)
]
  where
    later : (a : Bool) → are_put n js ≡ true → (a || are_put n js) ≡ true
    later true e = refl
    later false e = e

-- a state without a job, with this append and doubt, and barred or not
abbrev pub left_by : State → Job → Option Append → Option Doubt → Bool → State
left_by old job flight doubt barred =
    record (ended old job) { append = flight; doubt = doubt; is_barred = barred }

module _ (limit : ℕ) (old : State) (S : IsSound limit old) (job : Job)
    (runs : job_of old.jobs job.number ≡ Some job) where
  ended-sound : (flight : Option Append) (doubt : Option Doubt) (barred : Bool) →
      ((k : ℕ) → (k ≡ job.number → ⊥) → moves_made flight k ≡ moves_made old.append k) →
      ((a : Append) → flight ≡ Some a → IsSoundAppend old a × (a.job ≡ job.number → ⊥)) →
      (barred ≡ true → flight ≡ None) → (old.is_open ≡ true → barred ≡ false → IsDoubtOf flight doubt) →
      ((d : Doubt) → doubt ≡ Some d → MayFollowIn old d.entry) →
      IsSound limit (left_by old job flight doubt barred)
  unfolding setup_in
  ended-sound flight doubt barred others append bars undoubted doubts = record {
    accepted = S.accepted;
    spelled = S.spelled;
    journal = journal-same old (left_by old job flight doubt barred) refl refl refl S.journal;
    room = (let a = sum-without (reserved (version_of old.records) (setup_in old)) old.jobs job.number job
        runs in omega (arith, a, S.room));
    files = S.files;
    names = (let a = taken-fewer old.records old.records old.jobs (without_job old.jobs job.number) (λ n h.
        or-left (are_put n (without_job old.jobs job.number)) (is_some (file_of old.records n)) (are_put n
        old.jobs) (put-without n old.jobs job.number) h) in omega (arith, a, S.names));
    ids = λ l. (let a = sum-without starts_left old.jobs job.number job runs in
        omega (arith, a, S.ids (omega (arith, l, a))));
    audits = λ k j h is_audit l. S.audits k j (found_without old.jobs job.number k j h).1 is_audit l;
    closed = λ closed. absurd (found_some (S.closed closed).0);
    set_up = S.set_up;
    handed = S.handed;
    few = omega (arith, length-without old.jobs job.number, S.few);
    numbered = numbered-without 0 old.jobs old.next_job job.number S.numbered;
    jobs = λ k j h. (let q = found_without old.jobs job.number k j h in
        kept (setup_in old) old.records old.bytes old.bytes (λ id l. refl) (moves_made old.append k)
        (moves_made flight k) j (others k q.0) (S.jobs k j q.1));
    in_journal = λ k j h. S.in_journal k j (found_without old.jobs job.number k j h).1;
    lone = λ x e. absurd (found_some (S.lone x e));
    packing = S.packing;
    switching = λ e. absurd (found_some (S.switching e).jobs);
    upgrade = λ k j h u. absurd (only-without old.jobs job.number job j runs
        (S.upgrade k j (found_without old.jobs job.number k j h).1 u) k j h);
    one_check = λ k l i j hi hj ci cj. S.one_check k l i j (found_without old.jobs job.number k i hi).1
        (found_without old.jobs job.number l j hj).1 ci cj;
    apart = λ k l i j hi hj ui uj same. S.apart k l i j (found_without old.jobs job.number k i hi).1
        (found_without old.jobs job.number l j hj).1 ui uj same;
    append = λ a h. (let p = append a h in record {
      job = p.0.job;
      runs = still-without old.jobs job.number a.job p.0.job p.1 p.0.runs;
      begun = p.0.begun;
      undone = p.0.undone;
      writes = p.0.writes;
      drawn = p.0.drawn;
      bytes = p.0.bytes;
      follows = p.0.follows;
    });
    barred = bars;
    undoubted = undoubted;
    doubt = doubts;
  }
    where
      found_some : old.jobs ≡ [] → ⊥
      found_some e = some-not-none (job_of old.jobs job.number) job runs (ap (λ l. job_of l job.number) e)

  -- a job of whose append no move is made ends
  pub plain-ended : moves_made old.append job.number ≡ 0 →
      IsSound limit (left_by old job old.append old.doubt old.is_barred)
  plain-ended none = ended-sound old.append old.doubt old.is_barred (λ k n. refl) (λ a flight. (
    S.append a flight,
    not-mine old.append job.number a flight (S.append a flight).begun none,
  )) S.barred S.undoubted S.doubt

  -- a job ends whose append is given up, or none was in flight
  pub append-ended : (doubt : Option Doubt) (barred : Bool) →
      ((a : Append) → old.append ≡ Some a → a.job ≡ job.number) →
      (old.is_open ≡ true → barred ≡ false → doubt ≡ None) →
      ((d : Doubt) → doubt ≡ Some d → MayFollowIn old d.entry) →
      IsSound limit (left_by old job None doubt barred)
  append-ended doubt barred own undoubted doubts = ended-sound None doubt barred
      (λ k n. others k n old.append refl) (λ a h. absurd (none-some a h)) (λ b. refl) undoubted doubts
    where
      none-some : (a : Append) → None ≡ Some a → ⊥
      none-some a h = cc

      others : (k : ℕ) → (k ≡ job.number → ⊥) → (flight : Option Append) → old.append ≡ flight →
          0 ≡ moves_made flight k
      others k n None e = refl
      others k n (Some a) e = sym (other a k (λ f. n (sym f ∙ own a e)))
