-- What an answer over a link tells, where the link tells what is behind it.
--
--   answer_size r                            == how many bytes of symbols stand in an answer to a request
--                                               that gives some
--   first_byte_of a                          == the first byte of an answer
--   tail_of a                                == the bytes behind it
--   AskedFor r result tail b now             == the answer that came, as a change of what is behind the link
--   seen_behind behind stores others fetches == what is seen of a provider over a link: the one behind it
--                                               where the link tells it, and else the counts that are kept
--                                               here
use Rattle.std.specs.Prelude.{◌≡◌, ℕ, ◌*◌, Bool, true, false, List, [], ◌∷◌, length, Option, Some, None, Result, Ok, Err, if◌then◌else◌}
use Rattle.column_defs.specs.Objects.{bytes_of_symbols}
use Rattle.device_defs.specs.Providers.{Held, Provider}
use Rattle.device_defs.specs.ProviderCalls.{RemovesAll, FailsToRemove}
use Rattle.stream_model.specs.declared.fault.Failed.{Failed}
use Rattle.wire_defs.specs.Requests.{Request, Store, Fetch, Ask, Remove}
use Rattle.wire_defs.specs.Replies.{Reply, Done, Found, Missing, Failed as FailedReply, NoMemory, AnswersRequest, FetchesAs, FailsToFetch, AsksAs, FailsToAnswer}
use Rattle.wire_defs.specs.Links.{Behind, provider_behind}

-- how many bytes of symbols stand in an answer that gives some
abbrev pub answer_size : Request → ℕ
answer_size (Store object stripe block) = 0
answer_size (Fetch object stripe size) = 16 * size
answer_size (Ask object c) = 16
answer_size (Remove object) = 0

-- the first byte of an answer
abbrev pub first_byte_of : Reply → ℕ
first_byte_of Done = 1
first_byte_of (Found symbols) = 1
first_byte_of Missing = 0
first_byte_of FailedReply = 2
first_byte_of NoMemory = 3

-- the bytes behind it
abbrev pub tail_of : Reply → List ℕ
tail_of (Found symbols) = bytes_of_symbols symbols
tail_of a = []

-- the answer that came, as a change of what is behind the link
pub record AskedFor (r : Request) (result : Option ℕ) (tail : List ℕ) (b : Behind)
    (now : Option Behind) : Type 0 where
  pub reply : Reply
  pub new : Behind
  pub now_is : now ≡ Some new
  pub nothing_due : new.due ≡ []
  pub answered : AnswersRequest r (provider_behind b) reply (provider_behind new)
  pub kind : result ≡ Some (first_byte_of reply)
  pub symbols : first_byte_of reply ≡ 1 → tail ≡ tail_of reply

-- what is seen of a provider over a link
abbrev pub seen_behind : Option Behind → ℕ → ℕ → ℕ → Provider
seen_behind None stores others fetches =
    record { held = None; store_faults = stores; other_faults = others; fetches = fetches }
seen_behind (Some b) stores others fetches = provider_behind b

-- what a provider over a link tells of its blocks, and its three counts
abbrev pub held_over : Option Behind → Option Held
held_over behind = (seen_behind behind 0 0 0).held

-- its count of failed stores: that behind the link where it tells, or else this one
abbrev pub store_faults_over : Option Behind → ℕ → ℕ
store_faults_over behind stores = (seen_behind behind stores 0 0).store_faults

-- its count of other failed calls, in the same way
abbrev pub other_faults_over : Option Behind → ℕ → ℕ
other_faults_over behind others = (seen_behind behind 0 others 0).other_faults

-- its count of fetches, in the same way
abbrev pub fetches_over : Option Behind → ℕ → ℕ
fetches_over behind fetches = (seen_behind behind 0 0 fetches).fetches

-- what is out of step: the bytes that are due behind a link that tells them, and a mark where such a link
-- is broken
abbrev pub out_of_step : Option Behind → Bool → List ℕ
out_of_step None broken = []
out_of_step (Some b) broken = if broken then 1 ∷ [] else b.due

-- a fetch over a link, by what came of it
abbrev pub FetchedAs : ℕ → ℕ → List ℕ → List ℕ → Result Bool Failed → Provider → Provider → Type 0
FetchedAs object stripe out given (Ok true) old new =
    FetchesAs (length out) object stripe old (Some given) new
FetchedAs object stripe out given (Ok false) old new =
    FetchesAs (length out) object stripe old None new × (given ≡ out)
FetchedAs object stripe out given (Err fault) old new = FailsToFetch old new × (given ≡ out)

-- an ask over a link, by what came of it
abbrev pub AskedAs : ((ℕ → Option (List ℕ)) → Option ℕ) → ℕ → Result (Option ℕ) Failed → Provider → Provider
    → Type 0
AskedAs honest object (Ok answer) old new = AsksAs honest object old answer new
AskedAs honest object (Err fault) old new = FailsToAnswer old new

-- a removal over a link, by what came of it
abbrev pub RemovedAs : ℕ → Result Unit Failed → Provider → Provider → Type 0
RemovedAs object (Ok done) old new = RemovesAll object old new
RemovedAs object (Err fault) old new = FailsToRemove object old new
