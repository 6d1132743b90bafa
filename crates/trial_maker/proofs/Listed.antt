-- Events behind events.
use Rattle.std.proofs.Common.{◌≡◌, ℕ, ◌+◌, List, [], ◌∷◌, ◌++◌, refl, ap, ◌∙◌, append_assoc, arith}
use Rattle.std.proofs.lemmas.List.FromFn.{map-range_with_len_more}
use Rattle.machine_defs.specs.Jobs.{PutJob}
use Rattle.machine_defs.specs.Events.{Init, Lose, Reopen}
use Rattle.machine_defs.specs.Transcripts.{Instruction, Once}
use Rattle.trial_maker.specs.Trials.{trial_key, trial_bytes, trial_name, whole, opening, losses}

-- one loss more
pub losses_more : (provider n : ℕ) → losses provider (n + 1)
    ≡ losses provider n ++ Once (Lose provider 1 n) ∷ []
unfolding losses
losses_more provider n = map-range_with_len_more (λ stripe. Once (Lose provider 1 stripe)) 0 n n (omega arith)

-- no loss
pub no-losses : (provider : ℕ) → losses provider 0 ≡ []
unfolding losses
no-losses provider = refl

-- the first events, by what they are made of
unfoldable started : List ℕ → List ℕ → List ℕ → List Instruction
started key name bytes = Once (Init (record {
  n = 6;
  l = 3;
  b = 1;
  profile = 2;
  rounds = 4;
  picks = 8;
  tolerance = 0;
  master = key;
})) ∷ Once Reopen ∷ whole (PutJob name bytes) 1

-- the first events
pub opening_is : (seed : ℕ) (key name bytes : List ℕ) (before one two three : List Instruction) →
    key ≡ trial_key seed → name ≡ trial_name → bytes ≡ trial_bytes seed → one ≡ before ++ Once (Init (record {
      n = 6;
      l = 3;
      b = 1;
      profile = 2;
      rounds = 4;
      picks = 8;
      tolerance = 0;
      master = key;
    })) ∷ []
    → two ≡ one ++ Once Reopen ∷ []
    → three ≡ two ++ whole (PutJob name bytes) 1
    → three ≡ before ++ opening seed
unfolding opening started
opening_is seed key name bytes before one two three key_is name_is bytes_is one_is two_is three_is =
    let init = Once (Init
    (record { n = 6; l = 3; b = 1; profile = 2; rounds = 4; picks = 8; tolerance = 0; master = key })) in
    three_is
    ∙ ap (λ (front : List Instruction). front ++ whole (PutJob name bytes) 1)
    (two_is ∙ ap (λ (front : List Instruction). front ++ Once Reopen ∷ []) one_is)
    ∙ append_assoc (before ++ init ∷ []) (Once Reopen ∷ []) (whole (PutJob name bytes) 1)
    ∙ append_assoc before (init ∷ []) (Once Reopen ∷ whole (PutJob name bytes) 1)
    ∙ ap (λ (x : List ℕ). before ++ started x name bytes) key_is
    ∙ ap (λ (x : List ℕ). before ++ started (trial_key seed) x bytes) name_is
    ∙ ap (λ (x : List ℕ). before ++ started (trial_key seed) trial_name x) bytes_is
