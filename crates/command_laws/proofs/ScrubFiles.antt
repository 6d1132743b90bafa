-- A file that is in effect over a scrub: right on each provider that tells where it is done, and no less
-- right than before whatever comes of it.
use Rattle.command_laws.proofs.Words.{◌≡◌, ℕ, zero, suc, ◌<◌, ◌≤◌, ◌⊎◌, Bool, true, false, List, [], ◌∷◌, length, Option, None, Some, refl, ap, sym, subst, ◌∙◌, inl, inr, arith, Contains, is_some, cases_eq, false≢true, append-nil, In, Object, is_wrong, is_wrong_block, column_of_symbols, Held, Record, File, file_of, profiled, stripes_of, Answer, Seen, Ending, provider_at, setup_in_effect, object_in_effect, Ran, object_numbered, Place, Gave, places_of, RewrittenOn, PartlyRewrittenOn, RewritesAll, RewritesPart, SweepsAll, everyone, ScrubGives, ScrubbedAlone, AnswersScrub, bad_seen, IsDone, IsKnown, HoldsFile, IsScrubbed, ran_to, is_wrong_or_untold, HasRightFile, IsSteady, spoilt_below, column-right, each-not-wrong, not-wrong-each}
use Rattle.device_defs.specs.Told.{Goes}
use Rattle.machine_defs.specs.Answers as answer
use Rattle.command_laws.proofs.Known.{known-once}
use Rattle.command_laws.proofs.GetEnds.{shape-at}
use Rattle.command_laws.proofs.Anew.{all-in, listed-in, right-column, holds-right}
use Rattle.command_laws.proofs.ScrubEnds.{scrub_left, scrub-done}
use Rattle.command_laws.proofs.FilesStay.{DoTell, bad-few}
use Rattle.command_laws.proofs.FilesKept.{refused-has, goes-tells, columns-right}
use Rattle.command_laws.proofs.Early.{scrub-cases}

-- ---- a scrub that is done

-- a scrub that is done has written all providers anew
as-rewritten : (x : Ran) (stripes : ℕ) (symbols blocks : List ℕ) → SweepsAll x stripes symbols blocks →
    RewritesAll x everyone
as-rewritten x stripes symbols blocks S =
    record { gave = S.gave; symbols = S.rows; truth = S.truth; gives = S.gives; held = S.held }

-- a done scrub wrote each file anew on each provider, where at most b providers were bad
pub scrub-right : (name bytes : List ℕ) (records : List Record) (file : File) (j : ℕ) (old new : Seen)
    (end : Ending) → AnswersScrub old new end → IsKnown old records → IsDone end →
    file_of records name ≡ Some file → length bytes ≡ file.size →
    bad_seen records old new file bytes ≤ (setup_in_effect records).b → j < (setup_in_effect records).n →
    HoldsFile records new bytes file j
scrub-right name bytes records file j old new end A K done in_effect size few below =
    (let P = scrub-done old new end A done in
    let same = known-once old records P.records K P.opened.read in
    (rw same at (by-records P)) in_effect few below)
  where
    by-records : (P : IsScrubbed old new end) → file_of P.records name ≡ Some file →
        bad_seen P.records old new file bytes ≤ (setup_in_effect P.records).b →
        j < (setup_in_effect P.records).n → HoldsFile P.records new bytes file j
    by-records P is few below stripe within =
        holds-right (ran_to P.records P.records old new end.heard) (shape-at old P.records P.opened) everyone
        (as-rewritten (ran_to P.records P.records old new end.heard) P.stripes P.symbols P.blocks P.swept)
        name file bytes is size few P.opened.read.accepted stripe within j below refl

-- a provider that told tells after a done scrub
done-tells : (records : List Record) (j : ℕ) (old new : Seen) (end : Ending) → AnswersScrub old new end →
    IsKnown old records → IsDone end → j < (setup_in_effect records).n →
    is_some (provider_at old.providers j).held ≡ true → is_some (provider_at new.providers j).held ≡ true
done-tells records j old new end A K done below tells = (let P = scrub-done old new end A done in
    goes-tells _ (provider_at old.providers j).held (provider_at new.providers j).held tells
    (P.swept.held j (subst (λ rs. j < (setup_in_effect rs).n) (sym
    (known-once old records P.records K P.opened.read)) below)))

-- after a done scrub a right file is right on each provider that tells, where few are spoilt
pub scrub-has : (name bytes : List ℕ) (records : List Record) (spoilt untold : ℕ → Bool) (old new : Seen)
    (end : Ending) → AnswersScrub old new end → IsDone end → IsKnown old records →
    HasRightFile old records name bytes spoilt → IsSteady (setup_in_effect records).n spoilt old new →
    spoilt_below (setup_in_effect records).n spoilt ≤ (setup_in_effect records).b →
    DoTell (setup_in_effect records).n untold old → HasRightFile new records name bytes untold
scrub-has name bytes records spoilt untold old new end A done K H steady few tells = record {
  file = H.file;
  in_effect = H.in_effect;
  are_bytes = H.are_bytes;
  size = H.size;
  right = λ j below clean. columns-right (setup_in_effect records) H.file bytes j
      (provider_at new.providers j).held H.size (done-tells records j old new end A K done below
      (tells j below clean)) (scrub-right name bytes records H.file j old new end A K done H.in_effect H.size
      (omega (arith, bad-few name bytes records spoilt old new H steady, few)) below);
}

-- ---- whatever comes of a scrub

-- a place is one of these, or none of them
contains-in : (xs : List Place) (z : Place) → Contains xs z → In z xs
contains-in [] z (i, below, e) = absurd (omega (arith, below))
contains-in (x ∷ xs) z (zero, below, e) = inl (sym e)
contains-in (x ∷ xs) z (suc i, below, e) = inr (contains-in xs z (i, omega (arith, below), e))

find-place : (xs : List Place) (z : Place) → In z xs ⊎ (In z xs → ⊥)
find-place [] z = inr (λ i. i)
find-place (x ∷ xs) z = elim (cases_eq z.object x.object) [
  | inl o ↦ elim (cases_eq z.stripe x.stripe) [
    | inl s ↦ inl (inl (λ i. record { object = o i; stripe = s i }))
    | inr differ ↦ in-rest (λ e. differ (ap (λ p. p.stripe) e)) (find-place xs z)
  ]
  | inr differ ↦ in-rest (λ e. differ (ap (λ p. p.object) e)) (find-place xs z)
]
  where
    in-rest : (z ≡ x → ⊥) → In z xs ⊎ (In z xs → ⊥) → In z (x ∷ xs) ⊎ (In z (x ∷ xs) → ⊥)
    in-rest differ (inl i) = inl (inr i)
    in-rest differ (inr none) = inr (λ i. elim i [ inl e ↦ differ e | inr k ↦ none k ])

-- what was written anew in all places was so in some
goes-partly : (objects : ℕ → Object) (symbols : Place → List ℕ) (all : List Place) (j : ℕ)
    (a b : Option Held) → Goes (RewrittenOn objects symbols all j) a b →
    Goes (PartlyRewrittenOn objects symbols all j) a b
goes-partly objects symbols all j None None g = tt
goes-partly objects symbols all j (Some a) (Some b) g =
    record { stored = λ k z below. inr (g.stored k z below); others = g.others }
goes-partly objects symbols all j a b g = absurd g

module _ (name bytes : List ℕ) (records : List Record) (spoilt : ℕ → Bool) (old new : Seen) (end : Ending)
    (K : IsKnown old records) (H : HasRightFile old records name bytes spoilt)
    (steady : IsSteady (setup_in_effect records).n spoilt old new)
    (few : spoilt_below (setup_in_effect records).n spoilt ≤ (setup_in_effect records).b) where
  fewer : bad_seen records old new H.file bytes ≤ (setup_in_effect records).b
  fewer = omega (arith, bad-few name bytes records spoilt old new H steady, few)

  abbrev o : Object
  o = object_in_effect records H.file

  module _ (how : Answer) (left : ScrubbedAlone records how old new) where
    abbrev x : Ran
    x = scrub_left records how old new left

    module _ (done rest : List Place) (gave : Gave) (symbols : Place → List ℕ)
        (W : RewritesPart x everyone done rest gave symbols) where
      not-wrong : (j : ℕ) (a b : Held) → PartlyRewrittenOn (object_numbered x) symbols done j a b →
          is_wrong o bytes j (a H.file.id) ≡ false → (stripe : ℕ) →
          stripe < stripes_of (profiled (setup_in_effect records) H.file.profile) H.file.size →
          is_wrong_block o bytes j stripe (b H.file.id stripe) ≡ false
      not-wrong j a b G right stripe within = by-place (find-place done place)
        where
          place : Place
          place = record { object = H.file.id; stripe = stripe }

          before : is_wrong_block o bytes j stripe (a H.file.id stripe) ≡ false
          before = not-wrong-each o bytes j (a H.file.id) right stripe (rw (← H.size) at within)

          by-place : In place done ⊎ (In place done → ⊥) →
              is_wrong_block o bytes j stripe (b H.file.id stripe) ≡ false
          by-place (inr none) = ap (is_wrong_block o bytes j stripe)
              (G.others place (λ c. none (contains-in done place c))) ∙ before
          by-place (inl i) = elim (all-in (λ p. (b p.object p.stripe ≡ a p.object p.stripe)
              ⊎ (b p.object p.stripe
              ≡ Some (column_of_symbols (object_numbered x p.object) (symbols p) j p.stripe))) done place
              G.stored i) [
                | inl same ↦ ap (is_wrong_block o bytes j stripe) same ∙ before
                | inr stored ↦ ap (is_wrong_block o bytes j stripe)
                    (stored ∙ right-column x (shape-at old records K.opened) gave symbols done W.truth W.gives
                    H.file bytes (listed-in x name H.file H.in_effect) H.size fewer K.opened.read.accepted
                    stripe within i j)
                    ∙ column-right o bytes j stripe
              ]

      still-right : (j : ℕ) (a b : Option Held) →
          Goes (PartlyRewrittenOn (object_numbered x) symbols done j) a b →
          is_wrong_or_untold o bytes j a ≡ false → is_wrong_or_untold o bytes j b ≡ false
      still-right j None b g right = absurd (false≢true (sym right))
      still-right j (Some a) None g right = absurd g
      still-right j (Some a) (Some b) g right = each-not-wrong o bytes j (b H.file.id)
          (λ t l. not-wrong j a b g right t (rw H.size at l))

      part-has : HasRightFile new records name bytes spoilt
      part-has = record {
        file = H.file;
        in_effect = H.in_effect;
        are_bytes = H.are_bytes;
        size = H.size;
        right = λ j below clean. still-right j (provider_at old.providers j).held
            (provider_at new.providers j).held (W.held j below) (H.right j below clean);
      }

    by-answer : (h : Answer) → ScrubGives x h → HasRightFile new records name bytes spoilt
    by-answer (answer.Scrubbed stripes symbols blocks) L = part-has (places_of x) [] L.gave L.rows (record {
      parts = sym (append-nil (places_of x));
      truth = L.truth;
      gives = L.gives;
      held = λ j below. goes-partly (object_numbered x) L.rows (places_of x) j
          (provider_at old.providers j).held (provider_at new.providers j).held (L.held j below);
    })
    by-answer (answer.Lost stripe row) L = part-has L.done (L.place ∷ L.rest) L.gave L.symbols L.part
    by-answer (answer.ProviderFault j) L = part-has L.2.done L.2.rest L.2.gave L.2.symbols L.2.part
    by-answer answer.Memory L = part-has L.done L.rest L.gave L.symbols L.part
    by-answer h L = absurd L

  -- a right file stays so over a scrub, whatever comes of it, where few are spoilt
  pub scrub-keeps : AnswersScrub old new end → HasRightFile new records name bytes spoilt
  scrub-keeps = scrub-cases (λ E. refused-has E.status E.at name bytes records spoilt old new end E.refused H)
      (λ other how opened sync left by. let same = known-once old records other K opened.read in
      let here = rw same at left in
      by-answer how here how here.leaves.gives)
