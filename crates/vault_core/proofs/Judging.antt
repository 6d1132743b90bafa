-- A job of a core stands for a job of the machine after an action: most of all, the sums of an audit.
use Rattle.vault_core.proofs.Words.{◌≡◌, ℕ, ◌+◌, ◌<◌, ◌≤◌, Bool, true, false, List, Some, None, inl, inr, refl, ap, sym, subst, ◌∙◌, arith, ◌⊎◌, slice_get, IsTrue, if◌then◌else◌, AllZip, cases_lt, false≢true, not-true, and_parts, le-ltb, ltb-false, Sums, Setup, next_audit, Kind, AuditJob, Given, Action, WriteBody, SyncGate, Ask, End, actions_of, State, setup_in, is_first_append, subject_drawn, taken_out, HasSums, next_action, next_stands, get-drop, audit-list, audit_rest, decided, audit-same, onward, actions-onward, Kept, CoreJob, rest_in, wanted_at, asks_next, begins_append, is_last_ask, seen_plan, is_audit_kind, has_asked, IsJobOf, goes_plainly, stepped_job, judged, number_drawn, drawn, gated}
use Rattle.std.proofs.Common.{drop}
use Rattle.std.specs.Prelude.{◌&&◌, not}
use Rattle.machine_defs.specs.Jobs.{Job}
use Rattle.state_laws.proofs.Done.{gate-within}
use Rattle.vault_core.proofs.Alike.{IsLikeFoldOf}
use Rattle.vault_core.proofs.Onward.{sums-same, no-sums, asks-none, ask-then, past-first, no-ask-first}
use Rattle.vault_core.proofs.Told.{told_on}
use Rattle.vault_core.proofs.Links.{left-here, number_same, taken_same, audit-closed, told-same, shown-subject, shown-older}
use Rattle.vault_core.proofs.Gates.{second_of}

audit_is : (k : Kind) → is_audit_kind k ≡ true → k ≡ AuditJob
audit_is AuditJob h = refl
audit_is k h = absurd (false≢true h)

-- what it says that an audit has asked all
pub record Asked (s : Setup) (m : Job) : Type 0 where
  pub audit : m.kind ≡ AuditJob
  pub past : 4 ≤ m.place
  pub head : asks_next (slice_get (actions_of s m) m.place) ≡ false

-- an audit that has asked all is behind its first append, with no ask next
asked_parts : (s : Setup) (m : Job) → has_asked s m ≡ true → Asked s m
asked_parts s m h =
    let a = and_parts (is_audit_kind m.kind)
    (not (is_first_append m) && not (asks_next (slice_get (actions_of s m) m.place))) h in
    let b = and_parts (not (is_first_append m)) (not (asks_next (slice_get (actions_of s m) m.place))) a.1 in
    record {
      audit = audit_is m.kind a.0;
      past = ltb-false m.place 4 (not-true (is_first_append m) b.0);
      head = not-true (asks_next (slice_get (actions_of s m) m.place)) b.1;
    }

-- an audit behind its first append, with no ask next, has asked all
pub asked_whole : (s : Setup) (m : Job) → m.kind ≡ AuditJob → 4 ≤ m.place →
    asks_next (slice_get (actions_of s m) m.place) ≡ false → has_asked s m ≡ true
asked_whole s m a l h = ap (λ k. is_audit_kind k && (not (is_first_append m) && not
    (asks_next (slice_get (actions_of s m) m.place)))) a
    ∙ (ap (λ b. not b && not (asks_next (slice_get (actions_of s m) m.place))) (le-ltb m.place 4 l)
    ∙ ap not h)

no_gate : (a : Action) → goes_plainly (Some a) ≡ true → a ≡ SyncGate → ⊥
no_gate a h e = false≢true (ap (λ x. goes_plainly (Some x)) (sym e) ∙ h)

module _ (w : State) {c : CoreJob} {m : Job} {a : Action} (is : IsJobOf (setup_in w) c m)
    (next : next_action w m ≡ Some a) (on : a ≡ End → ⊥)
    (free : wanted_at (setup_in w) c.place c.told ≡ None) where
  listed : slice_get (actions_of (setup_in w) m) m.place ≡ Some a
  listed = next_stands w m a next on

  -- both one action on, a job of a core still stands for the machine's
  pub on-moved : (given : List Given) →
      (IsTrue (has_asked (setup_in w) (onward m m.subject given)) →
      HasSums (setup_in w) (onward m m.subject given) c.sums) →
      IsJobOf (setup_in w) (stepped_job c) (onward m m.subject given)
  on-moved given sums = record {
    number = is.number;
    plan = is.plan;
    told = told-same (setup_in w) c.told m (onward m m.subject given) refl refl is.told;
    within = told_on (setup_in w) c (stepped_job c) refl refl refl refl free is.within;
    place = ap (λ p. p + 1) is.place;
    unjudged = λ k l. is.unjudged k (omega (arith, l));
    judged = sums;
  }

  -- an action that is not the last ask of an audit changes nothing of what is judged
  pub sums-on : (given : List Given) → goes_plainly (Some a) ≡ true →
      is_last_ask (rest_in (setup_in w) c) ≡ false →
      (given ≡ m.given) ⊎ (m.kind ≡ AuditJob → asks_next (Some a) ≡ true) →
      IsTrue (has_asked (setup_in w) (onward m m.subject given)) →
      HasSums (setup_in w) (onward m m.subject given) c.sums
  sums-on given plain last gave has = by (asks_next (Some a)) refl
    where
      parts : Asked (setup_in w) (onward m m.subject given)
      parts = asked_parts (setup_in w) (onward m m.subject given) has

      past : 4 ≤ m.place
      past = past-first (setup_in w) m a parts.audit listed (no_gate a plain) parts.past

      following : slice_get (actions_of (setup_in w) (onward m m.subject given)) (m.place + 1)
          ≡ slice_get (actions_of (setup_in w) m) (m.place + 1)
      following = ap (λ xs. slice_get xs (m.place + 1)) (actions-onward (setup_in w) m given)

      by : (b : Bool) → asks_next (Some a) ≡ b → HasSums (setup_in w) (onward m m.subject given) c.sums
      by false e = elim gave [
        | inl g ↦ sums-same (setup_in w) m (onward m m.subject given) (sym g) refl c.sums refl
            (is.judged (asked_whole (setup_in w) m parts.audit past (ap asks_next listed ∙ e)))
        | inr h ↦ absurd (false≢true (sym e ∙ h parts.audit))
      ]
      by true e = absurd (not_ask a e listed)
        where
          closed : c.told ≡ None
          closed = audit-closed is parts.audit

          not_ask : (x : Action) → asks_next (Some x) ≡ true →
              slice_get (actions_of (setup_in w) m) m.place ≡ Some x → ⊥
          not_ask (Ask j o t) f stands = elim (ask-then (setup_in w) m j o t parts.audit stands) [
            | inl asks ↦ false≢true (sym parts.head ∙ (ap asks_next following ∙ asks))
            | inr starts ↦ false≢true (sym last ∙ (ap (λ y. asks_next y && begins_append (slice_get (rest_in
                (setup_in w) c) 1)) (ap (λ xs. slice_get xs 0) (left-here w is next on closed)) ∙ (ap (λ b. b
                && begins_append (slice_get (rest_in (setup_in w) c) 1)) e ∙ (ap begins_append (second_of
                (rest_in (setup_in w) c) ∙ (ap (λ xs. slice_get (drop 1 xs) 0) (left-here w is next on closed)
                ∙ get-drop (actions_of (setup_in w) m) (m.place + 1))) ∙ starts))))
          ]
          not_ask x f stands = false≢true f

  -- an audit that is judged
  pub on-judged : (j o t : ℕ) → a ≡ Ask j o t → (given : List Given) (sums : Sums) →
      HasSums (setup_in w) (onward m m.subject given) sums →
      IsJobOf (setup_in w) (judged c sums) (onward m m.subject given)
  on-judged j o t e given sums h = record {
    number = is.number;
    plan = is.plan;
    told = told-same (setup_in w) c.told m (onward m m.subject given) refl refl is.told;
    within = told_on (setup_in w) c (judged c sums) refl refl refl refl free is.within;
    place = ap (λ p. p + 1) is.place;
    unjudged = λ k l. absurd (omega (arith, early k, l));
    judged = λ p. h;
  }
    where
      early : m.kind ≡ AuditJob → 4 ≤ m.place
      early k = elim (cases_lt m.place 4) [
        | inr l ↦ l
        | inl l ↦ absurd (no-ask-first (setup_in w) m j o t k l (listed ∙ ap Some e))
      ]

-- the job has begun its append
pub on-drawn : (w : State) (t : Kept) (c : CoreJob) (m : Job) → IsLikeFoldOf w.records t →
    IsJobOf (setup_in w) c m → wanted_at (setup_in w) c.place c.told ≡ None →
    next_action w m ≡ Some WriteBody →
    IsJobOf (setup_in w) (drawn c (number_drawn (setup_in w) t c))
    (onward m (subject_drawn w m m.kind) m.given)
on-drawn w t c m f is free next = record {
  number = is.number;
  plan = (λ i. record (is.plan i) { subject = number_same w t c m f is i })
      ∙ shown-subject c.told (seen_plan m) (subject_drawn w m m.kind);
  told = told-same (setup_in w) c.told m (onward m (subject_drawn w m m.kind) m.given) refl refl is.told;
  within = told_on (setup_in w) c (drawn c (number_drawn (setup_in w) t c)) refl refl refl refl free
      is.within;
  place = ap (λ (p : ℕ). p + 1) is.place;
  unjudged = λ k l. is.unjudged k (omega (arith, l));
  judged = sums;
}
  where
    sums : IsTrue (has_asked (setup_in w) (onward m (subject_drawn w m m.kind) m.given)) →
        HasSums (setup_in w) (onward m (subject_drawn w m m.kind) m.given) c.sums
    sums h = (let p = asked_parts (setup_in w) (onward m (subject_drawn w m m.kind) m.given) h in
        let stands = next_stands w m WriteBody next (λ e. cc) in
        let past : 4 ≤ m.place = past-first (setup_in w) m WriteBody p.audit stands (λ e. cc) p.past in
        let subject : subject_drawn w m m.kind ≡ m.subject = ap (subject_drawn w m) p.audit
        ∙ ap (λ (b : Bool). if b then next_audit w.records else m.subject)
        (le-ltb m.place 4 past) in
        sums-same (setup_in w) m (onward m (subject_drawn w m m.kind) m.given) refl (sym subject) c.sums refl
        (is.judged (asked_whole (setup_in w) m p.audit past (ap asks_next stands))))

-- the append of the job is done
pub on-gated : (w : State) (t : Kept) (cs : List CoreJob) (c : CoreJob) (m : Job) → IsLikeFoldOf w.records t →
    AllZip (IsJobOf (setup_in w)) cs w.jobs → IsJobOf (setup_in w) c m →
    wanted_at (setup_in w) c.place c.told ≡ None → next_action w m ≡ Some SyncGate → 0 < (setup_in w).n →
    IsJobOf (setup_in w) (gated (setup_in w) t cs c) (decided m (taken_out w m m.kind))
on-gated w t cs c m f all is free next some = record {
  number = is.number;
  plan = (λ i. record (is.plan i) { older = taken_same w t cs c m f all is i })
      ∙ shown-older c.told (seen_plan m) (taken_out w m m.kind);
  told = told-same (setup_in w) c.told m (decided m (taken_out w m m.kind)) refl refl is.told;
  within = told_on (setup_in w) c (gated (setup_in w) t cs c) refl refl refl refl free is.within;
  place = ap (λ (p : ℕ). p + 1) is.place;
  unjudged = λ k l. is.unjudged k (omega (arith, l));
  judged = sums;
}
  where
    stands : slice_get (actions_of (setup_in w) m) m.place ≡ Some SyncGate
    stands = next_stands w m SyncGate next (λ e. cc)

    sums : IsTrue (has_asked (setup_in w) (decided m (taken_out w m m.kind))) →
        HasSums (setup_in w) (decided m (taken_out w m m.kind)) c.sums
    sums h = elim (cases_lt m.place 4) [
      | inr l ↦ sums-same (setup_in w) m (decided m (taken_out w m m.kind)) refl refl c.sums refl
          (is.judged (asked_whole (setup_in w) m p.audit l (ap asks_next stands)))
      | inl l ↦ subst (HasSums (setup_in w) (decided m (taken_out w m m.kind))) (sym (is.unjudged p.audit l))
          (no-sums (setup_in w) (decided m (taken_out w m m.kind)) some
          (asks-none (setup_in w) m p.audit
          (ap (λ (k : ℕ). asks_next (slice_get (actions_of (setup_in w) m) k)) (four l)
          ∙ (ap (λ (xs : List Action). asks_next (slice_get xs (m.place + 1)))
          (sym (audit-same (setup_in w) m (taken_out w m m.kind) p.audit)) ∙ p.head))))
    ]
      where
        p : Asked (setup_in w) (decided m (taken_out w m m.kind))
        p = asked_parts (setup_in w) (decided m (taken_out w m m.kind)) h

        four : m.place < 4 → 4 ≡ m.place + 1
        four l = (let three = gate-within (audit_rest (setup_in w) m) m.place l
            (ap (λ (xs : List Action). slice_get xs m.place) (sym (audit-list (setup_in w) m p.audit))
            ∙ stands) in
            omega (arith, three))
