-- What a provider answers to requests, and what these leave. Lists have the newest request first.
--
--   Reply                      == what came of a request
--   reply_bytes a              == its bytes
--   AnswersRequest r old a new == the provider answers the request so, and this is what is seen of it
--                                 afterwards
--   AnswersIn r old bs new     == the same with the bytes of the answer
--   Serves rs old as new       == the provider answers each request in its turn
--   replies_text as            == the bytes of the answers, one after the other
--   reply_to r held            == what a provider that holds this and does not fail answers
--   held_after r held          == what it holds then
--   failed_count as            == how many of the answers say that the call failed
--   AreClean as                == none says that it failed, or found no memory
--   served held rs             == the bytes of the answers to all requests, and the blocks held after them
use Rattle.std.specs.Prelude.{◌≡◌, ℕ, ◌+◌, ◌^◌, ◌<◌, Bool, true, false, if◌then◌else◌, List, [], ◌∷◌, ◌++◌, All, Option, None, Some, IfSome}
use Rattle.std.specs.Option.{option_map}
use Rattle.column_defs.specs.Challenges.{honest_answer}
use Rattle.column_defs.specs.Objects.{bytes_of_symbols}
use Rattle.device_defs.specs.Faults.{Rose}
use Rattle.device_defs.specs.Providers.{Held, Provider, with_block, without_object, sized}
use Rattle.device_defs.specs.ProviderCalls.{StoreCounts, FetchCounts, OtherCounts, FetchGives, AskGives, Stores, FailsToStore, FindsNoMemory, RemovesAll, FailsToRemove}
use Rattle.wire_defs.specs.Requests.{Request, Store, Fetch, Ask, Remove}

-- what came of a request
pub data Reply : Type 0 where
  -- a block is set, or an object removed
  Done : Reply
  -- the symbols of a block, or the one symbol of an answer
  Found : (symbols : List ℕ) → Reply
  -- no block, or no answer
  Missing : Reply
  -- the call failed
  Failed : Reply
  -- a store found no memory
  NoMemory : Reply

-- the bytes of an answer
abbrev pub reply_bytes : Reply → List ℕ
reply_bytes Done = 1 ∷ []
reply_bytes (Found symbols) = 1 ∷ bytes_of_symbols symbols
reply_bytes Missing = 0 ∷ []
reply_bytes Failed = 2 ∷ []
reply_bytes NoMemory = 3 ∷ []

-- a fetch that gave the block, or none
pub record FetchesAs (size object stripe : ℕ) (old : Provider) (given : Option (List ℕ))
    (new : Provider) : Type 0 where
  pub held : new.held ≡ old.held
  pub counts : FetchCounts old new
  pub gives : FetchGives size object stripe old.held given
  pub symbols : IfSome given (λ block. All (λ symbol. symbol < 2 ^ 128) block)

-- a fetch that failed
pub record FailsToFetch (old new : Provider) : Type 0 where
  pub held : new.held ≡ old.held
  pub counts : FetchCounts old new
  pub cause : Rose old.other_faults new.other_faults

-- an ask that gave the answer, or none
pub record AsksAs (honest : (ℕ → Option (List ℕ)) → Option ℕ) (object : ℕ) (old : Provider)
    (given : Option ℕ) (new : Provider) : Type 0 where
  pub held : new.held ≡ old.held
  pub counts : OtherCounts old new
  pub gives : AskGives honest object old.held given
  pub symbol : IfSome given (λ symbol. symbol < 2 ^ 128)

-- an ask that failed
pub record FailsToAnswer (old new : Provider) : Type 0 where
  pub held : new.held ≡ old.held
  pub counts : OtherCounts old new
  pub cause : Rose old.other_faults new.other_faults

-- a provider answers a request
abbrev pub AnswersRequest : Request → Provider → Reply → Provider → Type 0
AnswersRequest (Store object stripe block) old Done new = Stores object stripe block old new
AnswersRequest (Store object stripe block) old Failed new = FailsToStore old new
AnswersRequest (Store object stripe block) old NoMemory new = FindsNoMemory old new
AnswersRequest (Store object stripe block) old (Found symbols) new = ⊥
AnswersRequest (Store object stripe block) old Missing new = ⊥
AnswersRequest (Fetch object stripe size) old (Found block) new =
    FetchesAs size object stripe old (Some block) new
AnswersRequest (Fetch object stripe size) old Missing new = FetchesAs size object stripe old None new
AnswersRequest (Fetch object stripe size) old Failed new = FailsToFetch old new
AnswersRequest (Fetch object stripe size) old Done new = ⊥
AnswersRequest (Fetch object stripe size) old NoMemory new = ⊥
AnswersRequest (Ask object c) old (Found (symbol ∷ [])) new =
    AsksAs (honest_answer c) object old (Some symbol) new
AnswersRequest (Ask object c) old (Found []) new = ⊥
AnswersRequest (Ask object c) old (Found (symbol ∷ more ∷ others)) new = ⊥
AnswersRequest (Ask object c) old Missing new = AsksAs (honest_answer c) object old None new
AnswersRequest (Ask object c) old Failed new = FailsToAnswer old new
AnswersRequest (Ask object c) old Done new = ⊥
AnswersRequest (Ask object c) old NoMemory new = ⊥
AnswersRequest (Remove object) old Done new = RemovesAll object old new
AnswersRequest (Remove object) old Failed new = FailsToRemove object old new
AnswersRequest (Remove object) old (Found symbols) new = ⊥
AnswersRequest (Remove object) old Missing new = ⊥
AnswersRequest (Remove object) old NoMemory new = ⊥

-- a provider answers each request in its turn
abbrev pub Serves : List Request → Provider → List Reply → Provider → Type 0
Serves [] old [] new = new ≡ old
Serves [] old (a ∷ as_) new = ⊥
Serves (r ∷ rs) old [] new = ⊥
Serves (r ∷ rs) old (a ∷ as_) new = (mid : Provider) × Serves rs old as_ mid × AnswersRequest r mid a new

-- the bytes of answers, one after the other
abbrev pub replies_text : List Reply → List ℕ
replies_text [] = []
replies_text (a ∷ as_) = replies_text as_ ++ reply_bytes a

-- a block or an answer, where there is one
abbrev pub found : Option (List ℕ) → Reply
found None = Missing
found (Some symbols) = Found symbols

-- what a provider that holds this and does not fail answers
abbrev pub reply_to : Request → Held → Reply
reply_to (Store object stripe block) held = Done
reply_to (Fetch object stripe size) held = found (sized size (held object stripe))
reply_to (Ask object c) held = found (option_map (λ symbol. symbol ∷ []) (honest_answer c (held object)))
reply_to (Remove object) held = Done

-- what such a provider holds then
abbrev pub held_after : Request → Held → Held
held_after (Store object stripe block) held = with_block object stripe block held
held_after (Fetch object stripe size) held = held
held_after (Ask object c) held = held
held_after (Remove object) held = without_object object held

-- the bytes of the answers to all requests, and the blocks held after them
abbrev pub served : Held → List Request → List ℕ × Held
served held [] = ([], held)
served held (r ∷ rs) =
    ((served held rs).0 ++ reply_bytes (reply_to r (served held rs).1), held_after r (served held rs).1)

-- a provider answers a request with these bytes
abbrev pub AnswersIn : Request → Provider → List ℕ → Provider → Type 0
AnswersIn r old bytes new = (a : Reply) × AnswersRequest r old a new × (bytes ≡ reply_bytes a)

-- a call that failed
abbrev pub is_failed : Reply → Bool
is_failed Done = false
is_failed (Found symbols) = false
is_failed Missing = false
is_failed Failed = true
is_failed NoMemory = false

-- how many of the answers say that the call failed
abbrev pub failed_count : List Reply → ℕ
failed_count [] = 0
failed_count (a ∷ as_) = (if is_failed a then 1 else 0) + failed_count as_

-- no answer says that the call failed or found no memory
abbrev pub AreClean : List Reply → Type 0
AreClean [] = Unit {0}
AreClean (Done ∷ as_) = AreClean as_
AreClean (Found symbols ∷ as_) = AreClean as_
AreClean (Missing ∷ as_) = AreClean as_
AreClean (Failed ∷ as_) = ⊥
AreClean (NoMemory ∷ as_) = ⊥
