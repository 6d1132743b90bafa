-- What an audit or a repair whose record is in doubt worked on, whether its job runs on or has ended.
use Rattle.second_half_laws.proofs.Words.{true, ◌⊎◌, refl, ap, sym, subst, ◌∙◌, inl, inr, arith, slice_get, cases_Bool, cases_lt, false≢true, In, some-not-none, columns, Setup, setup_of, next_id, started_as, AuditJob, RepairJob, Pinned, Job, job_of, advanced, WriteGate, Store, Remove, actions_of, State, Doubt, Scrubbing, IsStart, setup_in, worked_object, next_action, Moment, now, first_moments, is_replacement, is_replaced_since, IsRun, Mark, IsCalm, relies, AllTell, told_block, HasMadeStore, same_value, found_none, Block_is, is_fair, store_place, setup_same, actions_are, first_more, replaced_before, store_kinds, remove_kinds, next_stands, actions_by-advanced, AreMarks}
use Rattle.std.proofs.Common.{◌≡◌, ℕ, ◌+◌, ◌≤◌, ◌<◌, false, List, [], ◌∷◌, length, Option, Some}
use Rattle.second_half_laws.proofs.Onward.{run_onward, all_tell}
use Rattle.second_half_laws.proofs.Walk.{walked}
use Rattle.second_half_laws.proofs.Turns.{Doubt_now}
use Rattle.second_half_laws.proofs.Quiet.{IsAtRest, quiet_blocks}
use Rattle.second_half_laws.proofs.Blocks.{since_now}
use Rattle.second_half_laws.proofs.EveryRun.{Around, around}
use Rattle.second_half_laws.proofs.Readers as rd
use Rattle.second_half_laws.proofs.SecondHalf.{calm_now, marked_facts}

-- an open vault that is not barred, or one at rest
at_rest_or : (w : State) → ((w.is_open ≡ true) × (w.is_barred ≡ false)) ⊎ IsAtRest w
at_rest_or w = elim (cases_Bool w.is_open) [
  | inr f ↦ inr (inl f)
  | inl t ↦ elim (cases_Bool w.is_barred) [ inl b ↦ inr (inr b) | inr u ↦ inl (t, u) ]
]

-- in every run
pub record Kept (start : State) (ms : List Moment) : Type 0 where
  pub begun : (d : Doubt) (job : Job) → (now start ms).doubt ≡ Some d → d.maker ≡ Some job →
      job.begun ≤ length ms
  pub below : (d : Doubt) (job : Job) (f : Pinned) → (now start ms).doubt ≡ Some d → d.maker ≡ Some job →
      In f job.pinned → f.id < next_id (now start ms).records
  pub audited : (d : Doubt) (job : Job) (f : Pinned) (i s : ℕ) → (now start ms).doubt ≡ Some d →
      d.maker ≡ Some job → job.kind ≡ AuditJob → In f job.pinned → is_replaced_since job.begun i ms ≡ false →
      told_block (now start ms) i f.id s ≡ told_block (now start (first_moments job.begun ms)) i f.id s

module _ {limit : ℕ} {start : State} {m : Moment} {ms : List Moment} (N : Around limit start m ms)
    (K : Kept start ms) (Q : IsAtRest (now start ms) → (i o s : ℕ) →
    (told_block m.state i o s ≡ told_block (now start ms) i o s) ⊎
    (is_replacement m.event m.outcome i ≡ true)) where
  open N use {facts as A, kept as E, changed as X, turned as T}

  -- the state after these moments
  abbrev w : State
  w = now start ms

  -- a file of a running audit
  running_block : (x : Job) (f : Pinned) (i s : ℕ) → job_of w.jobs x.number ≡ Some x → x.kind ≡ AuditJob →
      In f x.pinned → (told_block m.state i f.id s ≡ told_block w i f.id s) ⊎ (is_replacement m.event
      m.outcome i ≡ true)
  running_block x f i s runs kind in_f = elim (X.block i f.id s) [
    | Block_is.same e ↦ inl e
    | Block_is.replaced r ↦ inr r
    | Block_is.stored y runs_y next_y is ↦
        absurd (elim (store_kinds y y.kind i f.id s refl (is_fair w y (Store i f.id s) next_y)) [
          | inl (name, bytes, kind_y, o_is) ↦
              (let place = store_place w y name bytes i f.id s kind_y next_y in
              some-not-none _ name (ap (started_as w.records) o_is
              ∙ A.pins.started y.number y name bytes runs_y kind_y place.0
              (let l = place.1 in omega arith)) (A.pins.pins x.number x f runs in_f).1)
          | inr (repairs, pin) ↦
              (let n : y.number ≡ x.number = A.pins.checks y.number x.number y x runs_y runs (cc) (cc) in
              let e : y ≡ x = cc in let z : RepairJob ≡ AuditJob = cc in cc)
        ])
    | Block_is.scrubbed scrub rest at next_is is ↦ absurd (found_none w.jobs x.number x (A.numbers.idle.lone
        (Scrubbing scrub) at) runs)
    | Block_is.removed y runs_y next_y ↦ absurd (A.pins.older_free y.number x.number y x f.id f runs_y
        (remove_kinds y y.kind i f.id refl (is_fair w y (Remove i f.id) next_y)) runs in_f refl)
  ]

  -- a file of the audit whose record was in doubt before the event
  doubted_block : (d : Doubt) (job : Job) (f : Pinned) (i s : ℕ) → w.doubt ≡ Some d → d.maker ≡ Some job →
      job.kind ≡ AuditJob → In f job.pinned → (told_block m.state i f.id s ≡ told_block w i f.id s)
      ⊎ (is_replacement m.event m.outcome i ≡ true)
  doubted_block d job f i s at maker kind in_f = elim (at_rest_or w) [
    | inr rest ↦ Q rest i f.id s
    | inl (open_, unbarred) ↦ (let g = E.doubt_runs d open_ unbarred at in let e : g.job ≡ job = cc in
        running_block job f i s (cc) kind in_f)
  ]

  audited_step : (d : Doubt) (job : Job) (f : Pinned) (i s : ℕ) → m.state.doubt ≡ Some d →
      d.maker ≡ Some job → job.kind ≡ AuditJob → In f job.pinned →
      is_replaced_since job.begun i (m ∷ ms) ≡ false →
      told_block m.state i f.id s ≡ told_block (now start (first_moments job.begun (m ∷ ms))) i f.id s
  audited_step d job f i s h maker kind in_f none = elim (T.doubt d h) [
    | Doubt_now.kept was rec ↦ behind (K.begun d job was maker)
        (doubted_block d job f i s was maker kind in_f)
        (K.audited d job f i s was maker kind in_f (replaced_before job.begun i m ms none))
    | Doubt_now.gated x a runs next_is flight mine entry_is maker_is rec on ↦
        (let e : job ≡ advanced x = cc in let begun : job.begun ≡ x.begun = cc in
        let kx : x.kind ≡ AuditJob = cc in let in_x = subst (λ y. In f y.pinned) e in_f in
        behind (let l = A.held.begun x.number x runs in omega arith) (running_block x f i s runs kx in_x)
        (cc (A.held.audited x.number x f i s runs kx in_x (subst (λ n. is_replaced_since n i ms ≡ false) begun
        (replaced_before job.begun i m ms none)))))
    | Doubt_now.set_up t entry_is bare none_up closed ↦ absurd (some-not-none d.maker job maker bare)
  ]
    where
      behind : job.begun ≤ length ms → (told_block m.state i f.id s ≡ told_block w i f.id s) ⊎ (is_replacement
          m.event m.outcome i ≡ true) → told_block w i f.id s ≡ told_block (now start (first_moments job.begun
          ms)) i f.id s → told_block m.state i f.id s ≡ told_block (now start (first_moments job.begun
          (m ∷ ms))) i f.id s
      behind l block before = elim block [
        | inl e ↦ cc (first_more job.begun m ms l)
        | inr r ↦ absurd (false≢true (sym none ∙ since_now job.begun i m ms r l))
      ]

  kept_step : Kept start (m ∷ ms)
  kept_step = record {
    begun = λ d job h maker. elim (T.doubt d h) [
      | Doubt_now.kept was rec ↦ (let l = K.begun d job was maker in omega arith)
      | Doubt_now.gated x a runs next_is flight mine entry_is maker_is rec on ↦
          (let e : job ≡ advanced x = cc in let b : job.begun ≡ x.begun = cc in
          let l = A.held.begun x.number x runs in omega arith)
      | Doubt_now.set_up t entry_is bare none closed ↦ absurd (some-not-none d.maker job maker bare)
    ];
    below = λ d job f h maker in_f. elim (T.doubt d h) [
      | Doubt_now.kept was rec ↦
          (let l = K.below d job f was maker in_f in let e = ap next_id rec in omega arith)
      | Doubt_now.gated x a runs next_is flight mine entry_is maker_is rec on ↦
          (let e : job ≡ advanced x = cc in
          let l = (A.pins.pins x.number x f runs (subst (λ y. In f y.pinned) e in_f)).0 in
          let r = ap next_id rec in omega arith)
      | Doubt_now.set_up t entry_is bare none closed ↦ absurd (some-not-none d.maker job maker bare)
    ];
    audited = audited_step;
  }

-- in every run the blocks of an audit whose record is in doubt are those at its begin, but for replacements
pub kept : (limit : ℕ) (start : State) → IsStart start → (ms : List Moment) → IsRun limit start ms →
    Kept start ms
kept limit start clean [] run = record {
  begun = λ d job h. absurd (some-not-none start.doubt d h clean.doubt);
  below = λ d job f h. absurd (some-not-none start.doubt d h clean.doubt);
  audited = λ d job f i s h. absurd (some-not-none start.doubt d h clean.doubt);
}
kept limit start clean (m ∷ ms) run =
    kept_step (around limit start m ms clean run) (kept limit start clean ms run.2)
    (λ rest. quiet_blocks (now start ms) limit (length ms) m.event m.outcome m.state rest run.1)

-- ---- repairs, in a run that is calm by a mark

abbrev pub Rewritten : State → List Moment → Type 0
Rewritten start ms = (d : Doubt) (job : Job) (i o s : ℕ) (b : Option (List ℕ)) →
    (now start ms).doubt ≡ Some d → d.maker ≡ Some job → job.kind ≡ RepairJob →
    HasMadeStore (setup_in (now start ms)) job i o s →
    is_replaced_since job.begun i ms ≡ false → told_block (now start ms) i o s ≡ Some b →
    b ≡ Some (columns (worked_object (now start ms) job o) ((now start ms).bytes o) i s)

-- what a job made by a setup it made by one that is the same
made_alike : (t u : Setup) (job : Job) (i o s : ℕ) → t ≡ u → HasMadeStore t job i o s → HasMadeStore u job i o s
made_alike t u job i o s same made = record { place = made.place; made = made.made; action = cc }

-- the stores of a repair before its third move were made before
made_before : (t : Setup) (w : State) (x job : Job) (i o s : ℕ) → t ≡ setup_in w → job ≡ advanced x →
    next_action w x ≡ Some WriteGate → HasMadeStore t job i o s → HasMadeStore (setup_in w) x i o s
made_before t w x job i o s setup e next_is made = record { place = made.place; made = early; action = at_x }
  where
    at_x : slice_get (actions_of (setup_in w) x) made.place ≡ Some (Store i o s)
    at_x = cc (
      actions_are (setup_in w) (advanced x) x.kind refl,
      actions_by-advanced (setup_in w) x x.kind,
      actions_are (setup_in w) x x.kind refl,
    )

    early : made.place < x.place
    early = (let l = made.made in let p : job.place ≡ x.place + 1 = cc in elim (cases_lt made.place x.place) [
      | inl k ↦ k
      | inr k ↦ absurd (let here : made.place ≡ x.place = omega arith in
          let z : WriteGate ≡ Store i o s = same_value _ WriteGate (Store i o s)
          (next_stands w x WriteGate next_is (λ q. cc))
          (rw here at at_x) in cc)
    ])

-- what a repair stored whose record is in doubt is the file's own, but for replacements
pub rewritten : (limit : ℕ) (mark : Mark) (start : State) → IsStart start → AllTell start →
    (ms : List Moment) → IsRun limit start ms → IsCalm relies mark ms → AreMarks mark start ms →
    Rewritten start ms
rewritten limit mark start clean tell [] run calm marks =
    λ d job i o s b h. absurd (some-not-none start.doubt d h clean.doubt)
rewritten limit mark start clean tell (m ∷ ms) run calm marks =
    step (rewritten limit mark start clean tell ms run.2 calm.1 marks.1)
  where
    N : Around limit start m ms
    N = around limit start m ms clean run

    open N use {facts as A, kept as E, changed as X, turned as T}

    -- while the repair runs
    while_running : (x : Job) (i o s : ℕ) (b : Option (List ℕ)) →
        job_of (now start ms).jobs x.number ≡ Some x → x.kind ≡ RepairJob →
        HasMadeStore (setup_in (now start ms)) x i o s → is_replaced_since x.begun i (m ∷ ms) ≡ false →
        told_block m.state i o s ≡ Some b →
        b ≡ Some (columns (worked_object (now start ms) x o) ((now start ms).bytes o) i s)
    while_running x i o s b runs kind made none told =
        rd.carry N (marked_facts limit mark start clean tell ms run.2 calm.1 marks.1)
        (walked (length ms) (now start ms) limit m.event m.outcome m.state A.numbers.idle.lone run.1)
        (run_onward limit start m ms run) (all_tell limit start ms tell run.2)
        (calm_now mark start clean ms calm.1) x.number x i o s b runs kind made none told

    step : Rewritten start ms → Rewritten start (m ∷ ms)
    step before d job i o s b h maker kind made none told =
        elim (T.doubt d h) [
          | Doubt_now.kept was rec ↦ (let setup = setup_same m.state (now start ms) (ap setup_of rec) in
              let old = made_alike _ _ job i o s setup made in
              let p = rd.made_pin (setup_in (now start ms)) job i o s kind old in
              let below : o < next_id (now start ms).records =
              subst (λ n. n < next_id (now start ms).records) p.id_is ((kept limit start clean ms run.2).below
              d job p.file was maker p.pinned) in on below setup (elim (at_rest_or (now start ms)) [
                | inl (open_, unbarred) ↦ (let g = E.doubt_runs d open_ unbarred was in
                    let e : g.job ≡ job = cc in while_running job i o s b (cc) kind old none told)
                | inr rest ↦ elim (quiet_blocks (now start ms) limit
                    (length ms) m.event m.outcome m.state rest run.1 i o s) [
                      | inl e ↦ before d job i o s b was maker kind old
                          (replaced_before job.begun i m ms none) (sym e ∙ told)
                      | inr r ↦ absurd (false≢true (sym none ∙ since_now job.begun i m ms r
                          ((kept limit start clean ms run.2).begun d job was maker)))
                    ]
              ]))
          | Doubt_now.gated x a runs next_is flight mine entry_is maker_is rec on_ ↦
              (let setup = setup_same m.state (now start ms) (ap setup_of rec) in
              let e : job ≡ advanced x = cc in let begun : job.begun ≡ x.begun = cc in
              let kx : x.kind ≡ RepairJob = cc in
              let old = made_before _ _ x job i o s setup e next_is made in
              let p = rd.made_pin (setup_in (now start ms)) x i o s kx old in
              let below : o < next_id (now start ms).records =
              subst (λ n. n < next_id (now start ms).records) p.id_is (A.pins.pins x.number x p.file runs
              p.pinned).0 in
              on below setup (cc (while_running x i o s b runs kx old (subst (λ n. is_replaced_since n i
              (m ∷ ms) ≡ false) begun none) told)))
          | Doubt_now.set_up t entry_is bare none_up closed ↦ absurd (some-not-none d.maker job maker bare)
        ]
      where
        on : o < next_id (now start ms).records → setup_in m.state ≡ setup_in (now start ms) →
            b ≡ Some (columns (worked_object (now start ms) job o) ((now start ms).bytes o) i s) →
            b ≡ Some (columns (worked_object m.state job o) (m.state.bytes o) i s)
        on below setup e = cc (X.bytes o below)
