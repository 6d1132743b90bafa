-- What a step of a scrub shows of providers holds of the same providers with no content told.
use Rattle.hail_scrub.proofs.Words.{◌≡◌, ℕ, Bool, List, [], ◌∷◌, map, refl, ap, ◌∙◌, option_map, map-set, slice_get-map, column_of_symbols, Provider, Stores, FindsNoMemory, FailsToStore, Fetches, Action, Store, Fetch, Work, End, ScrubTurn, ScrubView, provider_by, stores_by, no_memory_by, fails_by, fetches_by, CallsAt, ComesTo, MakesNext}
use Rattle.hail_scrub.specs.declared.turn.ScrubAnswer.TheVariants as answer
use Rattle.hail_scrub.specs.declared.turn.ScrubTurn.TheVariants as turn

-- one function after another goes as both at once
pub map_twice : {X Y Z : Type 0} (f : Y → Z) (g : X → Y) (xs : List X) → map f (map g xs) ≡ map
    (λ x. f (g x)) xs
map_twice f g [] = refl
map_twice {Z = Z} f g (x ∷ xs) = ap (λ (l : List Z). f (g x) ∷ l) (map_twice f g xs)

module _ (is_told : Bool) where
  abbrev by : Provider → Provider
  by = provider_by is_told

  calls_by : (j : ℕ) (ps qs : List Provider) (call call' : Provider → Provider → Type 0) →
      ((p q : Provider) → call p q → call' (by p) (by q)) → CallsAt j ps qs call →
      CallsAt j (map by ps) (map by qs) call'
  calls_by j ps qs call call' each one = record {
    before = by one.before;
    after = by one.after;
    there = slice_get-map by ps j ∙ ap (option_map by) one.there;
    others = ap (map by) one.others ∙ map-set by ps j one.after;
    called = each one.before one.after one.called;
  }

  acts_by : (old : ScrubView) (a : Action) (rest : List Action) (ps : List Provider) (t : ScrubTurn)
      (new : ScrubView) (qs : List Provider) → ComesTo old a rest ps t new qs →
      ComesTo old a rest (map by ps) t new (map by qs)
  acts_by old (Fetch j o t) rest ps turn.More new qs f = record {
    x = f.x;
    one = f.one;
    seen = f.seen;
    at_is = f.at_is;
    count = f.count;
    block = f.block;
    block_is = f.block_is;
    calls = calls_by j ps qs (λ p q. Fetches f.x.profile.size o t p f.block q)
        (λ p q. Fetches f.x.profile.size o t p f.block q)
        (λ p q h. fetches_by is_told f.x.profile.size o t p q f.block f.block_is h) f.calls;
    new_is = f.new_is;
  }
  acts_by old (Work o t) rest ps turn.More new qs h = (h.0, ap (map by) h.1)
  acts_by old (Work o t) rest ps (turn.Done (answer.Lost s row)) new qs h = (h.0, h.1, ap (map by) h.2)
  acts_by old (Store j o t) rest ps turn.More new qs f = record {
    x = f.x;
    one = f.one;
    rows = f.rows;
    at_is = f.at_is;
    calls = calls_by j ps qs (Stores o t (column_of_symbols f.x f.rows j t))
        (Stores o t (column_of_symbols f.x f.rows j t))
        (stores_by is_told o t (column_of_symbols f.x f.rows j t)) f.calls;
    new_is = f.new_is;
    behind = f.behind;
  }
  acts_by old (Store j o t) rest ps (turn.Done (answer.ProviderFault k)) new qs h =
      (h.0, calls_by j ps qs FailsToStore FailsToStore (fails_by is_told) h.1)
  acts_by old (Store j o t) rest ps (turn.Done answer.Memory) new qs h =
      calls_by j ps qs FindsNoMemory FindsNoMemory (no_memory_by is_told) h
  acts_by old End rest ps (turn.Done (answer.Scrubbed stripes symbols blocks)) new qs h =
      (h.0, h.1, h.2, ap (map by) h.3)
  acts_by old a rest ps t new qs h = absurd h

  -- so does a step
  pub step_by : (old : ScrubView) (ps : List Provider) (t : ScrubTurn) (new : ScrubView)
      (qs : List Provider) →
      MakesNext old ps t new qs → MakesNext old (map by ps) t new (map by qs)
  step_by old ps t new qs step = record {
    action = step.action;
    rest = step.rest;
    todo_is = step.todo_is;
    acts = acts_by old step.action step.rest ps t new qs step.acts;
    over = step.over;
  }
