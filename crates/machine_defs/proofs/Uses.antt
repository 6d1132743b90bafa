-- Stores of puts use object numbers, and asks of audits use audit numbers.
use Rattle.machine_defs.proofs.Words.{◌≡◌, ◌-◌, ◌≤◌, refl, sym, subst, ◌∙◌, inl, inr, slice_get, Each, each_get, each_append, each_map, each_flat, upto, Setup, next_id, next_audit, PutJob, AuditJob, Job, Action, Store, Ask, Remove, End, append_actions, on_each_provider, store_actions, ask_actions, remove_actions, actions_by, put_stripes, State, setup_in, IsStart, next_action, Moment, now, IsRun, StoresFor, AsksFor, HasStored, HasAsked}
use Rattle.std.proofs.Common.{ℕ, ◌<◌, List, [], ◌∷◌, ◌++◌, Some}
use Rattle.machine_defs.proofs.ActionLists.{split_get}
use Rattle.machine_defs.proofs.Numbers.{objects, audits, next_is_by, Draws, Uses, HasUsed, facts}

-- in the actions of a put, a store is on its own object
abbrev IsOwn : Job → Action → Type 0
IsOwn job (Store j object stripe) = object ≡ job.subject
IsOwn job action = Unit {0}

own_tail : (s : Setup) (job : Job) (bytes : List ℕ) →
    Each (IsOwn job) (store_actions s job bytes ++ (append_actions ++ (remove_actions s job ++ End ∷ [])))
own_tail s job bytes = each_append (IsOwn job) (store_actions s job bytes)
    (append_actions ++ (remove_actions s job ++ End ∷ [])) (each_flat (IsOwn job)
    (λ stripe. on_each_provider s (λ j. Store j job.subject stripe))
    (upto (put_stripes s job bytes))
    (λ stripe. each_map (IsOwn job) (λ j. Store j job.subject stripe) (upto s.n) (λ j. refl))) (
      tt,
      (
        tt,
        (
          tt,
          (
            tt,
            each_append (IsOwn job) (remove_actions s job) (End ∷ [])
                (each_flat (IsOwn job) (λ object. on_each_provider s (λ j. Remove j object)) job.older
                (λ object. each_map (IsOwn job) (λ j. Remove j object) (upto s.n) (λ j. tt))) (tt, tt),
          ),
        ),
      ),
    )

-- an action that no append has
abbrev IsOther : Action → Type 0
IsOther (Store j object stripe) = ⊥
IsOther (Ask j object round) = ⊥
IsOther action = Unit {0}

others : Each IsOther append_actions
others = (tt, (tt, (tt, (tt, tt))))

put_store : (w : State) (job : Job) (name bytes : List ℕ) (j object stripe : ℕ) →
    job.kind ≡ PutJob name bytes → next_action w job ≡ Some (Store j object stripe) →
    (4 ≤ job.place) × (object ≡ job.subject)
put_store w job name bytes j object stripe kind h =
    elim (split_get append_actions
    (store_actions (setup_in w) job
    bytes ++ (append_actions ++ (remove_actions (setup_in w) job ++ End ∷ []))) job.place
    (Store j object stripe) stands) [
      | inl p ↦ absurd (each_get IsOther append_actions job.place (Store j object stripe) others p.1)
      | inr q ↦ (
        q.0,
        each_get (IsOwn job) (store_actions (setup_in w) job bytes ++
            (append_actions ++ (remove_actions (setup_in w) job ++ End ∷ []))) (job.place - 4)
            (Store j object stripe) (own_tail (setup_in w) job bytes) q.1,
      )
    ]
  where
    stands : slice_get (actions_by (setup_in w) job (PutJob name bytes)) job.place
        ≡ Some (Store j object stripe)
    stands = let e = sym (next_is_by w job) ∙ h in let f = rw kind at e in f

audit_ask : (w : State) (job : Job) (j object round : ℕ) → job.kind ≡ AuditJob →
    next_action w job ≡ Some (Ask j object round) → 4 ≤ job.place
audit_ask w job j object round kind h =
    elim (split_get append_actions (ask_actions (setup_in w) job ++ (append_actions ++ End ∷ [])) job.place
    (Ask j object round) stands) [
      | inl p ↦ absurd (each_get IsOther append_actions job.place (Ask j object round) others p.1)
      | inr q ↦ q.0
    ]
  where
    stands : slice_get (actions_by (setup_in w) job AuditJob) job.place ≡ Some (Ask j object round)
    stands = let e = sym (next_is_by w job) ∙ h in let f = rw kind at e in f

store_uses : (w : State) (m : Moment) (begun object : ℕ) → StoresFor w m begun object →
    Uses objects w begun object
store_uses w m begun object u =
    (let p = put_store w u.job u.name u.bytes u.provider object u.stripe u.puts u.makes.next in
    record {
      job = u.job;
      runs = u.makes.runs;
      has = (subst (Draws objects) (sym u.puts) tt, p.0);
      begun_is = u.begun_is;
      number_is = sym p.1;
    })

ask_uses : (w : State) (m : Moment) (begun number object round : ℕ) → AsksFor w m begun number object round →
    Uses audits w begun number
ask_uses w m begun number object round u =
    record {
      job = u.job;
      runs = u.makes.runs;
      has = (
        subst (Draws audits) (sym u.audits) tt,
        audit_ask w u.job u.provider object round u.audits u.makes.next,
      );
      begun_is = u.begun_is;
      number_is = u.number_is;
    }

stored_uses : (start : State) (ms : List Moment) (begun object : ℕ) → HasStored start ms begun object →
    HasUsed objects start ms begun object
stored_uses start [] begun object h = absurd h
stored_uses start (m ∷ ms) begun object (inl u) = inl (store_uses (now start ms) m begun object u)
stored_uses start (m ∷ ms) begun object (inr h) = inr (stored_uses start ms begun object h)

asked_uses : (start : State) (ms : List Moment) (begun number object round : ℕ) →
    HasAsked start ms begun number object round → HasUsed audits start ms begun number
asked_uses start [] begun number object round h = absurd h
asked_uses start (m ∷ ms) begun number object round (inl u) =
    inl (ask_uses (now start ms) m begun number object round u)
asked_uses start (m ∷ ms) begun number object round (inr h) =
    inr (asked_uses start ms begun number object round h)

module _ (limit : ℕ) (start : State) (ms : List Moment) (clean : IsStart start)
    (run : IsRun limit start ms) where
  -- under one object number only one put stores
  pub stored_once : (b c o : ℕ) → HasStored start ms b o → HasStored start ms c o → b ≡ c
  stored_once b c o g h = (facts objects limit start clean ms run).used_once b c o
      (stored_uses start ms b o g) (stored_uses start ms c o h)

  -- under one audit number only one audit asks
  pub asked_once : (b c n o p r s : ℕ) → HasAsked start ms b n o r → HasAsked start ms c n p s → b ≡ c
  asked_once b c n o p r s g h = (facts audits limit start clean ms run).used_once b c n
      (asked_uses start ms b n o r g) (asked_uses start ms c n p s h)

  -- what was stored under is below the next object number
  pub stored_below : (b o : ℕ) → HasStored start ms b o → o < next_id (now start ms).records
  stored_below b o h = (facts objects limit start clean ms run).used_below b o (stored_uses start ms b o h)

  -- what was asked under is below the next audit number
  pub asked_below : (b n o r : ℕ) → HasAsked start ms b n o r → n < next_audit (now start ms).records
  asked_below b n o r h =
      (facts audits limit start clean ms run).used_below b n (asked_uses start ms b n o r h)
