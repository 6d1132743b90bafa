-- A put or an audit at a move of one of its two appends: at its first one it has done nothing else, and at
-- its second one all that stands
-- between them.
use Rattle.job_laws.proofs.Words.{◌≡◌, ℕ, zero, suc, ◌+◌, ◌-◌, ◌<◌, ◌≤◌, List, [], ◌∷◌, ◌++◌, length, take, Some, sym, subst, ◌∙◌, inl, inr, arith, slice_get, Each, each_get, Provider, Given, Action, WriteBody, SyncBody, WriteGate, SyncGate, append_actions, split_get, With, Did, Made, take-append-add, made-split}

-- a move of an append
abbrev pub IsMove : Action → Type 0
IsMove WriteBody = Unit {0}
IsMove SyncBody = Unit {0}
IsMove WriteGate = Unit {0}
IsMove SyncGate = Unit {0}
IsMove action = ⊥

-- any other action
abbrev pub IsUnmoved : Action → Type 0
IsUnmoved action = IsMove action → ⊥

-- moves change nothing of providers, and give nothing
did-move : (x : With) (action : Action) (old new : ℕ → Provider) (given now : List Given) → IsMove action →
    Did x action old new given now → (new ≡ old) × (now ≡ given)
did-move x WriteBody old new given now m d = d
did-move x SyncBody old new given now m d = d
did-move x WriteGate old new given now m d = d
did-move x SyncGate old new given now m d = d
did-move x action old new given now m d = absurd m

made-moves : (x : With) (actions : List Action) (old new : ℕ → Provider) (given now : List Given) →
    Each IsMove actions → Made x actions old new given now → (new ≡ old) × (now ≡ given)
made-moves x [] old new given now ms made = made
made-moves x (a ∷ actions) old new given now (m, ms) (mid, so_far, did, rest) =
    (let first = did-move x a old mid given so_far m did in
    let more = made-moves x actions mid new so_far now ms rest in
    (more.0 ∙ first.0, more.1 ∙ first.1))

-- fewer than four first actions of an append are moves
few-moves : (behind : List Action) (r : ℕ) → r < 4 → Each IsMove (take r (append_actions ++ behind))
few-moves behind zero l = tt
few-moves behind (suc zero) l = (tt, tt)
few-moves behind (suc (suc zero)) l = (tt, (tt, tt))
few-moves behind (suc (suc (suc zero))) l = (tt, (tt, (tt, tt)))
few-moves behind (suc (suc (suc (suc r)))) l = absurd (omega (arith, l))

module _ (x : With) (between behind : List Action) (p : ℕ) (action : Action) (move : IsMove action)
    (first : Each IsUnmoved between) (last : Each IsUnmoved behind) (old new : ℕ → Provider)
    (now : List Given)
    (at : slice_get (append_actions ++ (between ++ (append_actions ++ behind))) p ≡ Some action)
    (made : Made x (take p (append_actions ++ (between ++ (append_actions ++ behind)))) old new [] now) where
  -- a move before the first append's end
  pub moved-first : p < 4 → (new ≡ old) × (now ≡ [])
  moved-first l = made-moves x (take p (append_actions ++ (between ++ (append_actions ++ behind)))) old new
      [] now (few-moves (between ++ (append_actions ++ behind)) p l) made

  -- where a move of the second append stands
  second-at : 4 ≤ p → (r : ℕ) × (r < 4) × (p ≡ 4 + (length between + r))
  second-at l = elim (split_get append_actions (between ++ (append_actions ++ behind)) p action at) [
    | inl a ↦ absurd (omega (arith, l))
    | inr b ↦ elim (split_get between (append_actions ++ behind) (p - 4) action b.1) [
      | inl a ↦ absurd (each_get IsUnmoved between (p - 4) action first a.1 move)
      | inr c ↦ elim (split_get append_actions behind (p - 4 - length between) action c.1) [
        | inl a ↦ (p - 4 - length between, a.0, (omega (arith, l)))
        | inr d ↦ absurd (each_get IsUnmoved behind (p - 4 - length between - 4) action last d.1 move)
      ]
    ]
  ]

  -- a move of the second append: all between was made
  pub moved-second : 4 ≤ p → Made x between old new [] now
  moved-second l = (let r = second-at l in
      let front : take p (append_actions ++ (between ++ (append_actions ++ behind))) ≡ append_actions ++
      (between ++ take r.0 (append_actions ++ behind)) =
      cc (
        take-append-add append_actions (between ++ (append_actions ++ behind)) (length between + r.0),
        take-append-add between (append_actions ++ behind) r.0,
      ) in
      let a = made-split x append_actions (between ++ take r.0 (append_actions ++ behind)) old new [] now
      (subst (λ xs. Made x xs old new [] now) front made)
      in let b = made-split x between (take r.0 (append_actions ++ behind)) a.0 new a.1 now a.3 in
      let start = made-moves x append_actions old a.0 [] a.1 (tt, (tt, (tt, (tt, tt)))) a.2 in
      let end = made-moves x (take r.0 (append_actions ++ behind)) b.0 new b.1 now (few-moves behind r.0 r.1)
      b.3 in
      subst (λ f. Made x between f new [] now) start.0 (subst (λ h. Made x between a.0 new h now) start.1
      (subst (λ f. Made x between a.0 f a.1 now) (sym end.0) (rw (← end.1) at b.2))))
