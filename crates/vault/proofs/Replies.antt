-- A reply to the action that comes next, and the end that one brings.
use Rattle.vault.proofs.Words.{◌≡◌, ℕ, true, Some, None, sym, subst, ◌∙◌, false≢true, WriteBody, SyncBody, WriteGate, SyncGate, Fetch, Work, Remove, End, CoreView, Coming, is_move, next_in, HasReply, TakesReply, Reply, Desk, Answer, Turn, ComesMove, IfEnded, HasPaddedCounts, IsStopped}
use Rattle.machine_defs.specs.Actions.{Action, Store, Ask}
use Rattle.vault_core.specs.Coming.{Acts}
use Rattle.vault_core.specs.declared.reply.Reply.TheVariants as reply
use Rattle.vault.specs.declared.turn.Turn.TheVariants as turn

-- a reply that an action has is one to the job whose next action it is
pub replies : (c : CoreView) (job : ℕ) (action : Action) (r : Reply) → next_in c job ≡ Acts action
    → HasReply c job (Acts action) r → TakesReply c job r
replies c job action r next has = subst (λ (coming : Coming). HasReply c job coming r) (sym next) has

-- a move of an append is done, fails, or finds no memory
pub record HasMoveReplies (c : CoreView) (job : ℕ) : Type 0 where
  pub done : TakesReply c job reply.Done
  pub failed : TakesReply c job reply.Failed
  pub memory : TakesReply c job reply.Memory

-- each of these is a reply to a move
by_move : (c : CoreView) (job : ℕ) (a : Action) → is_move (Some a) ≡ true
    → HasReply c job (Acts a) reply.Done × HasReply c job (Acts a) reply.Failed
    × HasReply c job (Acts a) reply.Memory
by_move c job WriteBody moves = (tt, tt, tt)
by_move c job SyncBody moves = (tt, tt, tt)
by_move c job WriteGate moves = (tt, tt, tt)
by_move c job SyncGate moves = (tt, tt, tt)
by_move c job (Store j o s) moves = absurd (false≢true moves)
by_move c job (Fetch j o s) moves = absurd (false≢true moves)
by_move c job (Ask j o r) moves = absurd (false≢true moves)
by_move c job (Work o s) moves = absurd (false≢true moves)
by_move c job (Remove j o) moves = absurd (false≢true moves)
by_move c job End moves = absurd (false≢true moves)

-- so they are replies to the job whose move comes next, also where its flight was taken
pub move_replies : (v v0 : Desk) (job : ℕ) → v0 ≡ record v { flight = None } → ComesMove v.core job
    → HasMoveReplies v0.core job
move_replies v v0 job rest next =
    let has = by_move v.core job next.action next.moves in
    subst (λ (x : Desk). HasMoveReplies x.core job) (sym rest) (record {
      done = replies v.core job next.action reply.Done next.comes.value has.0;
      failed = replies v.core job next.action reply.Failed next.comes.value has.1;
      memory = replies v.core job next.action reply.Memory next.comes.value has.2;
    })

-- a job that was ended goes not on
pub goes_not_on : (v new : Desk) (job : ℕ) (r : Reply) (a : Answer) (t : Turn)
    → IsStopped v job r a t new → t ≡ turn.More → ⊥
goes_not_on v new job r a t stopped more = cc (sym more ∙ stopped.turn_is)

-- and its answer has padded counts, where the one that it was given has
pub padded_end : (v new : Desk) (job : ℕ) (r : Reply) (a : Answer) (t : Turn)
    → IsStopped v job r a t new → HasPaddedCounts a → IfEnded t (λ ended. HasPaddedCounts ended.answer)
padded_end v new job r a t stopped padded =
    subst (λ (x : Turn). IfEnded x (λ ended. HasPaddedCounts ended.answer)) (sym stopped.turn_is) padded
