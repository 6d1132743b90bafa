-- A link to a provider, where it tells what is behind it.
--
--   Behind                 == what the provider behind a link holds, its three counts, and the bytes of its
--                             answers that are due
--   provider_behind b      == what is seen of that provider
--   Sends bytes old new    == a send: one whole request, while nothing is due, is answered, and its answer is
--                             due
--   Receives n out old new == a receive of so many bytes into out
use Rattle.std.specs.Prelude.{◌≡◌, ◌≢◌, ℕ, ◌<◌, List, [], ◌++◌, length, take, Option, Some}
use Rattle.device_defs.specs.Providers.{Held, Provider}
use Rattle.wire_defs.specs.Requests.{Request, SpellsRequest}
use Rattle.wire_defs.specs.Replies.{AnswersIn}

-- what the provider behind a link holds, its three counts, and the bytes that are due
pub record Behind : Type 0 where
  pub held : Held
  pub store_faults : ℕ
  pub other_faults : ℕ
  pub fetches : ℕ
  pub due : List ℕ

-- what is seen of the provider behind a link
abbrev pub provider_behind : Behind → Provider
provider_behind b =
    record {
      held = Some b.held;
      store_faults = b.store_faults;
      other_faults = b.other_faults;
      fetches = b.fetches;
    }

-- one whole request, sent while nothing is due, is answered, and its answer is due
abbrev pub Sends : List ℕ → Behind → Behind → Type 0
Sends bytes old new =
    (r : Request) → SpellsRequest bytes r → old.due ≡ []
    → AnswersIn r (provider_behind old) new.due (provider_behind new)

-- the first bytes that are due are given, at least one where there is one and there is room
pub record Receives (n : ℕ) (out : List ℕ) (old new : Behind) : Type 0 where
  pub given : old.due ≡ take n out ++ new.due
  pub some : 0 < length out → old.due ≢ [] → 0 < n
  pub provider : provider_behind new ≡ provider_behind old
