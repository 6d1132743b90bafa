-- Audits, what is due, repairs and the mark, in a calm run in which no audit missed damage.
use Rattle.second_half_laws.proofs.Words.{true, ◌⊎◌, refl, ap, sym, subst, ◌∙◌, inl, inr, arith, cases_Bool, cases_eq, In, is_flagged, exceeds, Record, Setup, SetUp, AuditDone, RepairDone, File, Due, setup_of, next_audit, due_of, AuditJob, RepairJob, Job, job_of, Action, WriteBody, SyncGate, Store, profiled, stripes_of, State, Doubt, setup_in, file_in, refusal_of_begin, pinned_file, beginning, next_action, block_to_store, Moment, now, first_moments, is_replaced_since, came, Mark, settled_by, mark_after, since, Misses, MissesNone, told_block, cond_true, cond_false, number_of, Job_is, Pins_is, pins_is, setup_same, first_more, first_all, IsBad, IsReplaced, WasWrong, WrongAt, Remains, IsFlaggedBy, Never, PrecedesPuts, IsClear}
use Rattle.std.proofs.Common.{◌≡◌, ℕ, ◌+◌, ◌<◌, false, List, ◌∷◌, length, Option, Some, None}
use Rattle.second_half_laws.proofs.Turns.{Doubt_now}
use Rattle.second_half_laws.proofs.Blocks.{since_more, since_now, bad_wrong, due_done, none_flagged}
use Rattle.second_half_laws.proofs.Places.{store_stands, gate_behind}
use Rattle.second_half_laws.proofs.MovePlaces.{same_actions}
use Rattle.second_half_laws.proofs.Files.{all_pinned}
use Rattle.second_half_laws.proofs.Points as pt
use Rattle.second_half_laws.proofs.Points.{Facts, ScrubsRight, rows_right}
use Rattle.second_half_laws.proofs.EveryRun as ev
use Rattle.second_half_laws.proofs.EveryRun.{Around, file_below, audits_below, repair_due}

-- of which damage files in effect are clear while audits run, repairs are due, and repairs run
pub record Audited (start : State) (ms : List Moment) : Type 0 where
  pub audit : (k : ℕ) (j : Job) → job_of (now start ms).jobs k ≡ Some j → j.kind ≡ AuditJob →
      IsClear start ms j.begun (WrongAt start ms j.begun)
  pub audit_doubt : (d : Doubt) (number u : ℕ) (c : List ℕ) → (now start ms).doubt ≡ Some d →
      d.entry ≡ AuditDone number u c →
      IsClear start ms ((now start ms).audits number) (WrongAt start ms ((now start ms).audits number))
  pub due : (u : Due) → due_of (now start ms).records ≡ Some u →
      IsClear start ms ((now start ms).audits u.number) (IsFlaggedBy (now start ms) u.counts)
  pub repair : (k : ℕ) (j : Job) → job_of (now start ms).jobs k ≡ Some j → j.kind ≡ RepairJob →
      IsClear start ms ((now start ms).audits j.subject) (Remains (now start ms) j)
  pub repair_doubt : (d : Doubt) (number : ℕ) → (now start ms).doubt ≡ Some d → d.entry ≡ RepairDone number →
      IsClear start ms ((now start ms).audits number) Never

module _ {limit : ℕ} {mark : Mark} {start : State} {m : Moment} {ms : List Moment}
    (N : Around limit start m ms) (F : Facts mark start ms) (R : ScrubsRight (now start ms))
    (G : Audited start ms) where
  open N use {clean, run, facts as A, numbers as U, files as I, kept as E, changed as X, turned as T}

  -- the state after these moments
  abbrev past : State
  past = now start ms

  on : (from : ℕ) (Old New : ℕ → ℕ → ℕ → Type 0) → PrecedesPuts start ms from → IsClear start ms from Old →
      ((q : List ℕ) (f : File) (i s : ℕ) → file_in past q ≡ Some f → file_in m.state q ≡ Some f →
      setup_in m.state ≡ setup_in past → i < (setup_in m.state).n →
      s < stripes_of (profiled (setup_in m.state) f.profile) (length (m.state.bytes f.id)) →
      IsBad m.state f.profile f.id i s → Old i f.id s → IsReplaced from i (m ∷ ms) ⊎ New i f.id s) →
      IsClear start (m ∷ ms) from New
  on = pt.clear_on N (rows_right mark start ms F) R

  -- ---- audits

  audit_on : (from : ℕ) → PrecedesPuts start ms from → IsClear start ms from (WrongAt start ms from) →
      IsClear start (m ∷ ms) from (WrongAt start (m ∷ ms) from)
  audit_on from P clear = on from _ _ P clear (λ q f i s stood h setup l k bad x.
      inr (rw (← (first_more from m ms P.early)) at x))

  audit_doubt_step : (d : Doubt) (number u : ℕ) (c : List ℕ) → m.state.doubt ≡ Some d →
      d.entry ≡ AuditDone number u c →
      IsClear start (m ∷ ms) (m.state.audits number) (WrongAt start (m ∷ ms) (m.state.audits number))
  audit_doubt_step d number u c h e = elim (T.doubt d h) [
    | Doubt_now.kept was rec ↦ (let P = E.audit_doubt d number u c was e in
        moved P.0 (past.audits number) refl P.1 (G.audit_doubt d number u c was e))
    | Doubt_now.gated job a runs next_is flight mine entry_is maker rec on_ ↦
        (let g = ev.audit_gated N job a number u c runs flight mine (sym entry_is ∙ e) in
        moved g.below job.begun (sym g.begins) (E.audit job.number job runs g.kind)
        (G.audit job.number job runs g.kind))
    | Doubt_now.set_up t entry_is bare none closed ↦
        absurd (let z : SetUp t ≡ AuditDone number u c = sym entry_is ∙ e in cc)
  ]
    where
      moved : number < next_audit past.records → (from : ℕ) → from ≡ past.audits number →
          PrecedesPuts start ms from → IsClear start ms from (WrongAt start ms from) →
          IsClear start (m ∷ ms) (m.state.audits number) (WrongAt start (m ∷ ms) (m.state.audits number))
      moved below from is P clear = subst (λ n. IsClear start (m ∷ ms) n (WrongAt start (m ∷ ms) n))
          (is ∙ sym (audits_below T number below)) (audit_on from P clear)

  -- an audit that has just begun
  audit_new : m.state.records ≡ past.records → IsClear start (m ∷ ms) (length ms) (WrongAt start (m ∷ ms)
      (length ms))
  audit_new rec q f i s h l b bad = (let stood : file_in past q ≡ Some f = cc in
      let setup = setup_same m.state past (ap setup_of rec) in let below = file_below A q f stood in
      let n = ev.bounds N f.profile f.id i s setup below l b in
      elim (pt.file_bad N (rows_right mark start ms F) R q f i s
      stood setup bad) [
        | inl old ↦ inr (subst (λ hs. WasWrong (now start hs) i f.id)
            (sym (first_more (length ms) m ms (omega arith) ∙ first_all ms)) (record {
              name = q;
              file = f;
              in_effect = stood;
              id_is = refl;
              was = bad_wrong past f i s n.1 old;
            }))
        | inr r ↦ inl (since_now (length ms) i m ms r (omega arith))
      ])

  -- ---- repairs

  rest_on : (x j : Job) (k : ℕ) (action : Action) → job_of past.jobs k ≡ Some x →
      next_action past x ≡ Some action → x.kind ≡ RepairJob → j.kind ≡ RepairJob → j.pinned ≡ x.pinned →
      j.flagged ≡ x.flagged → j.subject ≡ x.subject → j.place ≡ x.place + 1 →
      ((i o s : ℕ) (b : Option (List ℕ)) → action ≡ Store i o s → told_block m.state i o s ≡ Some b →
      b ≡ Some (block_to_store past x x.kind i o s)) → IsClear start (m ∷ ms) (m.state.audits j.subject)
      (Remains m.state j)
  rest_on x j k action runs next_is kx kj pinned flagged subject place stores =
      (let P = E.repair k x runs kx in
      subst (λ n. IsClear start (m ∷ ms) n (Remains m.state j)) (cc (audits_below T x.subject P.0))
      (on _ _ _ P.1 (G.repair k x runs kx) more))
    where
      at_number : job_of past.jobs x.number ≡ Some x
      at_number = cc (number_of past.jobs k x runs)

      more : (q : List ℕ) (f : File) (i s : ℕ) → file_in past q ≡ Some f → file_in m.state q ≡ Some f →
          setup_in m.state ≡ setup_in past → i < (setup_in m.state).n →
          s < stripes_of (profiled (setup_in m.state) f.profile) (length (m.state.bytes f.id)) →
          IsBad m.state f.profile f.id i s → Remains past x i f.id s →
          IsReplaced (past.audits x.subject) i (m ∷ ms) ⊎ Remains m.state j i f.id s
      more q f i s stood h setup l b bad (marked, (p, low, at)) = elim (cases_eq p x.place) [
        | inl here ↦ (let act : action ≡ Store i f.id s = cc in
            absurd (pt.stored_right N (rows_right mark start ms F)
            f.profile x i f.id s bad.0 at_number (next_is ∙ ap Some act) (A.pins.sound.file q f stood).1
            (λ g in_g e. E.pin_file x.number x g q f at_number in_g stood e) (stores i f.id s bad.0 act bad.1)
            (pt.wrong_old N f.profile f.id i s bad.0 setup (X.bytes f.id (file_below A q f stood)) bad.2)))
        | inr other ↦ inr (
          cc,
          (p, omega (arith, low, other, place), cc (same_actions (setup_in past) x j kx kj pinned flagged)),
        )
      ]

  -- a repair that has just begun
  repair_new : (j : Job) (wish : Option ℕ) → j ≡ beginning past (length ms) RepairJob wish →
      refusal_of_begin limit past RepairJob wish ≡ None → m.state.records ≡ past.records →
      IsClear start (m ∷ ms) (m.state.audits j.subject) (Remains m.state j)
  repair_new j wish is allowed rec = (let u = repair_due limit past wish (due_of past.records) refl allowed in
      let P = E.due u.0 u.1 in let subject : j.subject ≡ u.0.number = cc in
      subst (λ n. IsClear start (m ∷ ms) n (Remains m.state j)) (cc (audits_below T u.0.number P.0))
      (on _ _ _ P.1 (G.due u.0 u.1) (more u.0 u.1)))
    where
      more : (u : Due) → due_of past.records ≡ Some u → (q : List ℕ) (f : File) (i s : ℕ) →
          file_in past q ≡ Some f → file_in m.state q ≡ Some f → setup_in m.state ≡ setup_in past →
          i < (setup_in m.state).n → s < stripes_of (profiled (setup_in m.state) f.profile)
          (length (m.state.bytes f.id)) → IsBad m.state f.profile f.id i s →
          IsFlaggedBy past u.counts i f.id s → IsReplaced (past.audits u.number) i (m ∷ ms) ⊎ Remains m.state
          j i f.id s
      more u due q f i s stood h setup l b bad marked = (let flagged : j.flagged i ≡ true = cc in
          let bytes : m.state.bytes f.id ≡ past.bytes f.id = X.bytes f.id (file_below A q f stood) in
          let st = store_stands _ j _ i s (cc) (subst (λ x. In (pinned_file past f) x.pinned) (sym is)
          (all_pinned past q f stood)) flagged l (subst (λ y. s < stripes_of
          (profiled (setup_in m.state) f.profile) (length y)) bytes b) in
          inr (flagged, (st.0, (let z : j.place ≡ 0 = cc in omega arith), st.1)))

  module _ (missed : MissesNone start ms m.state (came past m.state)) where
    -- where the end of an audit comes into effect, one that was wrong at its begin and is not flagged was
    -- replaced since
    unmissed : (number u : ℕ) (c : List ℕ) (i o : ℕ) → came past m.state ≡ Some (AuditDone number u c) →
        number < next_audit past.records → i < (setup_in past).n → is_flagged (setup_in past).tolerance c i
        ≡ false → WasWrong (now start (first_moments (past.audits number) ms)) i o →
        IsReplaced (past.audits number) i ms
    unmissed number u c i o came_in below l unflagged w =
        elim (cases_Bool (is_replaced_since (past.audits number) i ms)) [
          | inl t ↦ t
          | inr f ↦ absurd (by_begin ((rw came_in at missed) i) f)
        ]
      where
        by_begin : (Misses start ms c (m.state.audits number) i → ⊥) →
            is_replaced_since (past.audits number) i ms ≡ false → ⊥
        by_begin none f = rw (audits_below T number below) at none (record {
          provider = l;
          unflagged = unflagged;
          unreplaced = f;
          name = w.name;
          file = w.file;
          in_effect = w.in_effect;
          wrong = w.was;
        })

    -- ---- what is due

    old_due : (u : Due) → due_of past.records ≡ Some u → IsClear start (m ∷ ms) (m.state.audits u.number)
        (IsFlaggedBy m.state u.counts)
    old_due u was = (let P = E.due u was in
        subst (λ n. IsClear start (m ∷ ms) n (IsFlaggedBy m.state u.counts))
        (sym (audits_below T u.number P.0)) (on _ _ _ P.1 (G.due u was) (λ q f i s stood h setup l b bad x.
        inr (cc))))

    new_due : (u : Due) (d : Doubt) (und : ℕ) → past.doubt ≡ Some d →
        d.entry ≡ AuditDone u.number und u.counts → ((q : List ℕ) (f : File) (i s : ℕ) →
        file_in past q ≡ Some f → file_in m.state q ≡ Some f → setup_in m.state ≡ setup_in past →
        i < (setup_in m.state).n → s < stripes_of (profiled (setup_in m.state) f.profile)
        (length (m.state.bytes f.id)) → IsBad m.state f.profile f.id i s →
        u.number < next_audit past.records → WrongAt start ms (past.audits u.number) i f.id s →
        IsReplaced (past.audits u.number) i (m ∷ ms) ⊎ IsFlaggedBy m.state u.counts i f.id s) →
        IsClear start (m ∷ ms) (m.state.audits u.number) (IsFlaggedBy m.state u.counts)
    new_due u d und at e more = (let P = E.audit_doubt d u.number und u.counts at e in
        subst (λ n. IsClear start (m ∷ ms) n (IsFlaggedBy m.state u.counts))
        (sym (audits_below T u.number P.0)) (on _ _ _ P.1 (G.audit_doubt d u.number und u.counts at e)
        (λ q f i s stood h setup l b bad x. more q f i s stood h setup l b bad P.0 x)))

    due_entered : (u : Due) (d : Doubt) → past.doubt ≡ Some d → due_of (d.entry ∷ past.records) ≡ Some u →
        (due_of past.records ≡ Some u) ⊎ ((und : ℕ) × (d.entry ≡ AuditDone u.number und u.counts))
    due_entered u d at h = due_done d.entry past.records u (A.numbers.written.1 d at) h

    -- an event keeps what files in effect are clear of while audits run, repairs are due and repairs run
    pub audited_step : Audited start (m ∷ ms)
    audited_step = record {
      audit = λ k j h kind. elim (pins_is limit start m ms A.numbers A.pins X k j h) [
        | Pins_is.had x runs pinned kind_x begun g ↦ (let kx = sym kind_x ∙ kind in
            subst (λ n. IsClear start (m ∷ ms) n (WrongAt start (m ∷ ms) n)) (sym begun)
            (audit_on x.begun (E.audit k x runs kx) (G.audit k x runs kx)))
        | Pins_is.new_one kd wish is k_is allowed rec ↦
            subst (λ n. IsClear start (m ∷ ms) n (WrongAt start (m ∷ ms) n)) (cc) (audit_new rec)
      ];
      audit_doubt = audit_doubt_step;
      due = λ u h. elim (ev.effect N) [
        | ev.Effect_is.nothing rec ↦ old_due u (ap due_of (sym rec) ∙ h)
        | ev.Effect_is.entered d at rec ↦ elim (due_entered u d at (ap due_of (sym rec) ∙ h)) [
          | inl was ↦ old_due u was
          | inr (und, e) ↦ new_due u d und at e (λ q f i s stood h2 setup l b bad below w. elim (cases_Bool
              (is_flagged (setup_in past).tolerance u.counts i)) [
                | inl t ↦ inr (cc)
                | inr f2 ↦ inl (since_more (past.audits u.number) i m ms
                    (unmissed u.number und u.counts i f.id
                    (ev.came_one N past.records d.entry rec refl ∙ ap Some e) below (rw setup at l) f2 w))
              ])
        ]
        | ev.Effect_is.set_up s rs rec none (inl e) ↦ old_due u (cc)
        | ev.Effect_is.set_up s rs rec none (inr (d, at, e)) ↦ elim (due_entered u d at (cc)) [
          | inl was ↦ old_due u was
          | inr (und, e2) ↦ new_due u d und at e2 (λ q f i t stood h2 setup l b bad below w. absurd
              (ev.no_file N rs q f none (inr (d, at, e)) (cc)))
        ]
      ];
      repair = λ k j h kind. elim (X.job k j h) [
        | Job_is.kept r grown ↦ (let P = E.repair k j r kind in
            subst (λ n. IsClear start (m ∷ ms) n (Remains m.state j)) (sym (audits_below T j.subject P.0))
            (on _ _ _ P.1 (G.repair k j r kind) (λ q f i s stood h2 setup l b bad x.
            inr (x.0, (x.1.0, x.1.1, cc)))))
        | Job_is.begun kd wish is k_is allowed rec ↦ (let kd_is : kd ≡ RepairJob = cc in
            repair_new j wish (cc) (cc) rec)
        | Job_is.plain x action runs next_is is_plain goes rec st ↦
            rest_on x j k action runs next_is (cc) kind goes.pinned goes.flagged goes.subject goes.place st
        | Job_is.drew x runs next_is free is rec ↦ (let kx : x.kind ≡ RepairJob = cc in
            rest_on x j k WriteBody runs next_is kx kind (cc) (cc) (cc) (cc)
            (λ i o s b e told. absurd (cc e)))
        | Job_is.finished x a runs next_is flight mine is rec free ↦ rest_on x j k SyncGate runs next_is (cc)
            kind (cc) (cc) (cc) (cc) (λ i o s b e told. absurd (cc e))
      ];
      repair_doubt = λ d number h e. elim (T.doubt d h) [
        | Doubt_now.kept was rec ↦ (let P = E.repair_doubt d number was e in
            subst (λ n. IsClear start (m ∷ ms) n Never) (sym (audits_below T number P.0))
            (on (past.audits number)
            Never Never P.1 (G.repair_doubt d number was e) (λ q f i s stood h2 setup l b bad x. absurd x)))
        | Doubt_now.gated job a runs next_is flight mine entry_is maker rec on_ ↦
            (let g = ev.repair_gated N job a number runs flight mine (sym entry_is
            ∙ e) in let P = E.repair job.number job runs g.kind in
            subst (λ n. IsClear start (m ∷ ms) n Never) (cc (audits_below T job.subject P.0))
            (on _ _ Never P.1
            (G.repair job.number job runs g.kind) (λ q f i s stood h2 setup l b bad x. absurd
            (let z = gate_behind past job x.1.0 i f.id s g.kind next_is x.1.2 in let low = x.1.1 in
            omega (arith, z, low)))))
        | Doubt_now.set_up t entry_is bare none closed ↦
            absurd (let z : SetUp t ≡ RepairDone number = sym entry_is ∙ e in cc)
      ];
    }

    -- ---- the mark, as it moves at settled audits

    module _ (clear : IsClear start ms (since start ms) Never) where
      stays : IsClear start (m ∷ ms) (since start ms) Never
      stays = on (since start ms) Never Never E.mark clear (λ q f i s stood h setup l b bad x. absurd x)

      settled_audit : (d : Doubt) (number u : ℕ) (c : List ℕ) → past.doubt ≡ Some d →
          d.entry ≡ AuditDone number u c → came past m.state ≡ Some (AuditDone number u c) →
          exceeds (Some (setup_in m.state)) c ≡ false → IsClear start (m ∷ ms) (m.state.audits number) Never
      settled_audit d number u c at e came_in none = (let P = E.audit_doubt d number u c at e in
          subst (λ n. IsClear start (m ∷ ms) n Never) (sym (audits_below T number P.0)) (on _ _ Never P.1
          (G.audit_doubt d number u c at e) (λ q f i s stood h setup l b bad w.
          inl (since_more (past.audits number) i m ms (unmissed number u c i f.id came_in P.0
          (subst (λ (t : Setup). i < t.n) setup l) (cc (none_flagged (setup_in m.state) c i none)) w)))))

      settled_repair : (d : Doubt) (number : ℕ) → past.doubt ≡ Some d → d.entry ≡ RepairDone number →
          IsClear start (m ∷ ms) (m.state.audits number) Never
      settled_repair d number at e = (let P = E.repair_doubt d number at e in
          subst (λ n. IsClear start (m ∷ ms) n Never) (sym (audits_below T number P.0))
          (on (past.audits number) Never Never P.1 (G.repair_doubt d number at e) (λ q f i s stood h setup l b
          bad x. absurd x)))

      by_entry : (d : Doubt) → past.doubt ≡ Some d → (r : Record) → d.entry ≡ r → came past m.state ≡ Some r →
          IsClear start (m ∷ ms) (mark_after m.state (settled_by (setup_in m.state) (Some r))
          (since start ms)) Never
      by_entry d at (AuditDone number u c) e came_in =
          elim (cases_Bool (exceeds (Some (setup_in m.state)) c)) [
            | inl t ↦ subst (λ z. IsClear start (m ∷ ms) (mark_after m.state z (since start ms)) Never)
                (sym (cond_true _ None _ t)) stays
            | inr f ↦ subst (λ z. IsClear start (m ∷ ms) (mark_after m.state z (since start ms)) Never)
                (sym (cond_false _ None _ f)) (settled_audit d number u c at e came_in f)
          ]
      by_entry d at (RepairDone number) e came_in = settled_repair d number at e
      by_entry d at r e came_in = stays

      -- after an event all damage of files in effect is new since the begin of the last settled audit
      pub mark_clear : IsClear start (m ∷ ms) (since start (m ∷ ms)) Never
      mark_clear = elim (ev.came_is N) [
        | ev.Came_is.no_record e ↦ as_came None e stays
        | ev.Came_is.setup s e ↦ as_came (Some (SetUp s)) e stays
        | ev.Came_is.doubted d at rec e ↦ as_came (Some d.entry) e (by_entry d at d.entry refl e)
      ]
        where
          as_came : (o : Option Record) → came past m.state ≡ o →
              IsClear start (m ∷ ms) (mark_after m.state (settled_by (setup_in m.state) o)
              (since start ms)) Never → IsClear start (m ∷ ms) (since start (m ∷ ms)) Never
          as_came o e P = subst (λ z. IsClear start (m ∷ ms)
              (mark_after m.state (settled_by (setup_in m.state) z) (since start ms)) Never) (sym e) P
