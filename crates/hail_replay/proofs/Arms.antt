-- What each call of the client keeps, whatever the devices hold.
use Rattle.hail_replay.proofs.Words.{◌≡◌, ℕ, ◌≤◌, true, false, List, [], ◌∷◌, ◌++◌, length, Option, Some, None, Result, Ok, Err, inl, inr, refl, sym, ◌∙◌, arith, OnOk, is_ok, is_some, cases_Bool, false≢true, Cells, Provider, Event, Step, Outcome, Happens, Moment, now, State, onward, Vault, Devices, devices, Client, ClientTurn, is_open, client_next_job, next_job_by, uses, uses_by, client_coming, coming_by, IsSame, IsSameVault, ClientStands, MakesEvent, IsStanding, IsReached, RunsJobOn, OpensOver, IsNoJob, StandsWhereOpen, NoCountFell, KeepsStanding, devices-of, next-of, enough-of}
use Rattle.hail_client.specs.declared.alone.Alone.{Alone}
use Rattle.hail_client.specs.declared.fault.ReopenFault.{ReopenFault}
use Rattle.hail_replay.proofs.Same.{Same, OneMore, steps, both, going, step_of}
use Rattle.hail_replay.proofs.Counts.{none-fell, fell, onward-over}
use Rattle.hail_replay.proofs.Behind.{open-same}
use Rattle.hail_replay.proofs.Standing.{standing-closed}

-- client and devices stand for a state, here or, where no vault is open, elsewhere
record Somewhere (c : Client) (d : Devices) : Type 0 where
  there : Devices
  state : State
  stands : ClientStands c there state

somewhere : (c : Client) (d : Devices) → StandsWhereOpen c d → Somewhere c d
somewhere c d S = elim (cases_Bool (is_open c)) [
  | inl t ↦ (let X = S t in record { there = d; state = X.state; stands = X.stands })
  | inr f ↦ (let X = standing-closed c [] f in
      record { there = devices None 0 []; state = X.state; stands = X.stands })
]

-- the number of the next job of both
numbers : (c : Client) (d : Devices) (w : State) → ClientStands c d w → w.next_job ≡ client_next_job c
numbers c d w S = next-of c.vault c.alone c.next_job d w S

-- ---- begins

-- a begin that is an event of each state keeps what a client stands for
pub begun-kept : (c next : Client) (d : Devices) (event : Event) (outcome : Outcome)
    → ((w u : State) → Happens 8 0 w event outcome u → OneMore w u) → StandsWhereOpen c d
    → ((w : State) (there : Devices) (moment : ℕ) → ClientStands c there w →
    MakesEvent w moment event outcome next there) → KeepsStanding c next d d
begun-kept c next d event outcome leaves S makes = (let X = somewhere c d S in
    let M = makes X.state X.there 0 X.stands in
    let B = leaves X.state M.state M.happens in
    let was : is_open next ≡ is_open c = sym (open-same next X.there M.state M.stands) ∙ B.is_open
    ∙ open-same c X.there X.state X.stands in
    let a = numbers c X.there X.state X.stands in
    let b = numbers next X.there M.state M.stands in
    record {
      standing = λ opened. (let Y = S (sym was ∙ opened) in let N = makes Y.state d 0 Y.stands in
          record { state = N.state; stands = N.stands });
      jobs = (let n = B.next in omega (arith, a, b, n));
      tells = refl;
      counts = none-fell d;
    })

-- ---- steps and runs

-- where no vault is open, the same client has none afterwards
still-closed : (o p : Option Vault) → is_some o ≡ false → IsSameVault o p → is_some p ≡ false
still-closed None None f s = refl
still-closed None (Some v) f s = absurd s
still-closed (Some v) p f s = absurd (false≢true (sym f))

same-number : (o p : Option Vault) (n m : ℕ) → is_some o ≡ false → is_some p ≡ false → m ≡ n →
    next_job_by p m ≡ next_job_by o n
same-number None None n m f g e = e
same-number (Some v) p n m f g e = absurd (false≢true (sym f))
same-number None (Some v) n m f g e = absurd (false≢true (sym g))

-- a closed client that changes nothing keeps it
pub closed-kept : (c next : Client) (d : Devices) → is_open c ≡ false → IsSame c next →
    KeepsStanding c next d d
closed-kept c next d closed same = (let after = still-closed c.vault next.vault closed same.vault in record {
  standing = λ opened. absurd (false≢true (sym after ∙ opened));
  jobs = (let n = same-number c.vault next.vault c.next_job next.next_job closed after same.next_job in
      omega (arith, n));
  tells = refl;
  counts = none-fell d;
})

-- no more providers are used than are handed in
pub enough : (c : Client) (d : Devices) → StandsWhereOpen c d → uses c ≤ length d.providers
enough c d S = elim (cases_Bool (is_open c)) [
  | inl t ↦ (let X = S t in enough-of c.vault c.alone c.next_job d X.state X.stands)
  | inr f ↦ none c.vault f
]
  where
    none : (o : Option Vault) → is_some o ≡ false → uses_by o ≤ length d.providers
    none None f = omega arith
    none (Some v) f = absurd (false≢true (sym f))

-- where no vault is open, no job comes next
pub closed-coming : (c : Client) (job : ℕ) → is_open c ≡ false → client_coming c job ≡ IsNoJob
closed-coming c job closed = at c.vault c.alone closed
  where
    at : (o : Option Vault) (s : Option Alone) → is_some o ≡ false → coming_by o s job ≡ IsNoJob
    at None s f = refl
    at (Some v) s f = absurd (false≢true (sym f))

-- events that leave the number of providers, whether a vault is open and the next job's number
module _ (c next : Client) (d e : Devices) (tells : is_some e.holds ≡ is_some d.holds) where
  handed-same : (w u : State) → ClientStands c d w → ClientStands next e u → Same w u →
      length e.providers ≡ length d.providers
  handed-same w u S T same =
      sym (devices-of next.vault next.alone next.next_job e u T).providers.count ∙ same.handed
      ∙ (devices-of c.vault c.alone c.next_job d w S).providers.count

  kept-by : (w u : State) → ClientStands c d w → ClientStands next e u → Same w u → NoCountFell d e →
      KeepsStanding c next d e
  kept-by w u S T same counts = record {
    standing = λ opened. record { state = u; stands = T };
    jobs = (let a = numbers c d w S in let b = numbers next e u T in let n = same.next in
        omega (arith, a, b, n));
    tells = tells;
    counts = counts;
  }

  -- a step keeps it
  pub step-kept : (job : ℕ) (outcome : Outcome) → StandsWhereOpen c d → is_open c ≡ true
      → ((w : State) (moment : ℕ) → ClientStands c d w → MakesEvent w moment (Step job) outcome next e) →
      KeepsStanding c next d e
  step-kept job outcome S opened makes = (let X = S opened in
      let M = makes X.state 0 X.stands in
      let same = steps X.state job outcome M.state M.happens in
      kept-by X.state M.state X.stands M.stands same
      (fell X.state M.state d e (devices-of c.vault c.alone c.next_job d X.state X.stands)
      (devices-of next.vault next.alone next.next_job e M.state M.stands)
      (handed-same X.state M.state X.stands M.stands same)
      (onward X.state 8 0 (Step job) outcome M.state M.happens)))

  -- a run of a job keeps it
  pub run-kept : (job : ℕ) (t : Option ClientTurn) → StandsWhereOpen c d → is_open c ≡ true
      → ((start : State) (ms : List Moment) → IsReached start ms c d → RunsJobOn start ms job t next e) →
      KeepsStanding c next d e
  run-kept job t S opened runs = (let X = S opened in
      let R = runs X.state [] (record { run = tt; stands = X.stands }) in
      let same = both X.state (now X.state (R.steps ++ [])) R.last.state
      (going X.state job R.steps R.runs.before R.reached.run.2)
      (step_of X.state (R.steps ++ []) R.last job R.runs.step R.reached.run) in
      kept-by X.state R.last.state X.stands R.reached.stands same
      (fell X.state R.last.state d e (devices-of c.vault c.alone c.next_job d X.state X.stands)
      (devices-of next.vault next.alone next.next_job e R.last.state R.reached.stands)
      (handed-same X.state R.last.state X.stands R.reached.stands same)
      (onward-over X.state (R.last ∷ (R.steps ++ [])) R.reached.run)))

-- ---- replacements

module _ (c : Client) (event : Event) (outcome : Outcome) (holds : Option Cells) (faults : ℕ)
    (ps qs : List Provider)
    (leaves : (w u : State) → Happens 8 0 w event outcome u → Same w u)
    (makes : (w : State) (holds : Option Cells) (faults moment : ℕ) →
    ClientStands c (devices holds faults ps) w →
    MakesEvent w moment event outcome c (devices holds faults qs)) where
  counts-at : (told : Option Cells) (n : ℕ) → IsStanding c (devices told n ps) →
      NoCountFell (devices told n ps) (devices told n qs)
  counts-at told n X = (let M = makes X.state told n 0 X.stands in
      fell X.state M.state (devices told n ps) (devices told n qs)
      (devices-of c.vault c.alone c.next_job _ X.state X.stands) (devices-of c.vault c.alone c.next_job _ M.state M.stands)
      (handed-same c c (devices told n ps) (devices told n qs) refl X.state M.state X.stands M.stands
      (leaves X.state M.state M.happens))
      (onward X.state 8 0 event outcome M.state M.happens))

  -- what the disk counts is left aside
  of-these : (told : Option Cells) (n : ℕ) → NoCountFell (devices told n ps) (devices told n qs) →
      NoCountFell (devices holds faults ps) (devices holds faults qs)
  of-these told n F = record { disk = omega arith; handed = F.handed; stores = F.stores; others = F.others }

  -- a replacement of a provider's symbols keeps it
  pub replaced-kept : StandsWhereOpen c (devices holds faults ps) →
      KeepsStanding c c (devices holds faults ps) (devices holds faults qs)
  replaced-kept S = record {
    standing = λ opened. (let X = S opened in let M = makes X.state holds faults 0 X.stands in
        record { state = M.state; stands = M.stands });
    jobs = omega arith;
    tells = refl;
    counts = elim (cases_Bool (is_open c)) [
      | inl t ↦ counts-at holds faults (S t)
      | inr f ↦ of-these None 0 (counts-at None 0 (standing-closed c ps f))
    ];
  }

-- ---- openings

-- an init keeps it
pub init-kept : (c : Client) (old new : Option Cells) (f g : ℕ) (ps : List Provider) →
    is_some new ≡ is_some old → f ≤ g → (IsStanding c (devices old f ps) → IsStanding c (devices new g ps)) →
    StandsWhereOpen c (devices old f ps) → KeepsStanding c c (devices old f ps) (devices new g ps)
init-kept c old new f g ps tells never standing S = record {
  standing = λ opened. standing (S opened);
  jobs = omega arith;
  tells = tells;
  counts = record { disk = never; handed = refl; stores = λ j. omega arith; others = λ j. omega arith };
}

-- a stop keeps it
pub stop-kept : (c next : Client) (old new : Option Cells) (f g : ℕ) (ps : List Provider) →
    is_some new ≡ is_some old → f ≤ g → is_open next ≡ false → client_next_job next ≡ client_next_job c →
    KeepsStanding c next (devices old f ps) (devices new g ps)
stop-kept c next old new f g ps tells never closed number = record {
  standing = λ opened. absurd (false≢true (sym closed ∙ opened));
  jobs = omega (arith, number);
  tells = tells;
  counts = record { disk = never; handed = refl; stores = λ j. omega arith; others = λ j. omega arith };
}

-- a reopening keeps it
pub reopen-kept : (c next : Client) (old new : Option Cells) (f g : ℕ) (ps : List Provider) (handed : ℕ)
    (result : Result Unit ReopenFault)
    → is_some new ≡ is_some old → f ≤ g → length ps ≡ handed → is_open next ≡ is_ok result →
    client_next_job next ≡ client_next_job c
    → OnOk result (OpensOver old (client_next_job c) handed next new g) →
    KeepsStanding c next (devices old f ps) (devices new g ps)
reopen-kept c next old new f g ps handed result tells never count opens number over = record {
  standing = λ opened. standing result (sym opens ∙ opened) over;
  jobs = omega (arith, number);
  tells = tells;
  counts = record { disk = never; handed = refl; stores = λ j. omega arith; others = λ j. omega arith };
}
  where
    standing : (r : Result Unit ReopenFault) → is_ok r ≡ true →
        OnOk r (OpensOver old (client_next_job c) handed next new g) → IsStanding next (devices new g ps)
    standing (Ok done) t O = (let W = O.one ps count in record { state = W.0; stands = O.each W.0 ps W.1 })
    standing (Err why) t O = absurd (false≢true t)

-- nothing was called
pub same-kept : (c : Client) (d : Devices) → StandsWhereOpen c d → KeepsStanding c c d d
same-kept c d S = record { standing = S; jobs = omega arith; tells = refl; counts = none-fell d }
