-- A file that is in effect and right on most providers, between two commands.
use Rattle.command_laws.proofs.Words.{◌≡◌, ℕ, ◌+◌, ◌<◌, ◌≤◌, Bool, true, false, List, length, Option, None, Some, refl, ap, sym, subst, ◌∙◌, inl, inr, arith, is_some, nat_lt, nat_le, cases_Bool, cases_lt, false≢true, nat_tests, Object, is_wrong_block, Rose, last_count, Held, Provider, Record, largest_file, File, file_as, next_id, file_of, profiled, object_of, chosen, AreBytes, Seen, Ending, provider_at, setup_in_effect, object_in_effect, StoredOn, AnswersPut, has_risen, is_bad_with, is_bad_for, bad_seen, IsDone, IsKnown, after_put, is_wrong_or_untold, HasRightFile, IsUntouched, IsSteady, spoilt_below, count_of-within, column-right, each-not-wrong}
use Rattle.std.proofs.Common.{◌||◌}
use Rattle.device_defs.specs.Told.{Goes}
use Rattle.command_laws.proofs.Known.{known-once}
use Rattle.command_laws.proofs.JobEnds.{put-done, put-setup}
use Rattle.command_laws.proofs.DoneStores.{whole-read}

-- ---- a provider's own blocks are not wrong

-- a provider on which a file was stored is right for it
pub stored-right : (o : Object) (bytes : List ℕ) (older : Option File) (rose : Type 0) (j : ℕ)
    (a b : Option Held) → is_some a ≡ true → Goes (StoredOn o bytes older rose j) a b →
    is_wrong_or_untold o bytes j b ≡ false
stored-right o bytes older rose j None b tells g = absurd (false≢true tells)
stored-right o bytes older rose j (Some a) None tells g = absurd g
stored-right o bytes older rose j (Some a) (Some b) tells g =
    each-not-wrong o bytes j (b o.id) (λ t l. ap (is_wrong_block o bytes j t) (g.stored t l)
    ∙ column-right o bytes j t)

-- each of n providers that is not spoilt tells what it holds
abbrev pub DoTell : ℕ → (ℕ → Bool) → Seen → Type 0
DoTell n spoilt c = (j : ℕ) → j < n → spoilt j ≡ false → is_some (provider_at c.providers j).held ≡ true

-- ---- a put that is done

-- the profile of a put's file
abbrev its_profile : List Record → Option ℕ → ℕ
its_profile records own = chosen (setup_in_effect records) own

-- a put whose file is stored on each provider leaves it right
pub stored-file : (name bytes : List ℕ) (own : Option ℕ) (records : List Record) (spoilt : ℕ → Bool)
    (old new : Seen) →
    file_of (after_put records name (length bytes) own) name
    ≡ Some (file_as name (next_id records) (length bytes) (chosen (setup_in_effect records) own)) →
    AreBytes bytes → (older : Option File) (rose : ℕ → Type 0) →
    ((j : ℕ) → j < (setup_in_effect records).n →
    Goes (StoredOn (object_of (profiled (setup_in_effect records) (chosen (setup_in_effect records) own))
    (next_id records)) bytes older (rose j) j)
    (provider_at old.providers j).held (provider_at new.providers j).held) →
    DoTell (setup_in_effect records).n spoilt old →
    HasRightFile new (after_put records name (length bytes) own) name bytes spoilt
stored-file name bytes own records spoilt old new in_effect are older rose stored tells = record {
  file = file_as name (next_id records) (length bytes) (its_profile records own);
  in_effect = in_effect;
  are_bytes = are;
  size = refl;
  right = λ j below clean. (let l : j < (setup_in_effect records).n =
      subst (λ s. j < s.n) (put-setup records name (length bytes) own) below in
      subst (λ s. is_wrong_or_untold (object_of (profiled s (its_profile records own))
      (next_id records)) bytes j
      (provider_at new.providers j).held ≡ false) (sym (put-setup records name (length bytes) own))
      (stored-right (object_of (profiled (setup_in_effect records) (its_profile records own))
      (next_id records)) bytes
      older (rose j) j (provider_at old.providers j).held (provider_at new.providers j).held
      (tells j l clean) (stored j l)));
}

-- after a done put its file is in effect, and right on each provider that tells
pub put-has : (name bytes : List ℕ) (own : Option ℕ) (records : List Record) (spoilt : ℕ → Bool)
    (old new : Seen) (end : Ending) → AnswersPut name own old new end → IsDone end → IsKnown old records →
    old.source ≡ Some bytes →
    DoTell (setup_in_effect records).n spoilt old →
    HasRightFile new (after_put records name (length bytes) own) name bytes spoilt
put-has name bytes own records spoilt old new end A done K source tells =
    (let P = put-done name own old new end A done in
    let same = known-once old records P.records K P.opened.read in
    subst (λ rs. HasRightFile new (after_put rs name (length bytes) own) name bytes spoilt) same
    (subst (λ bs. HasRightFile new (after_put P.records name (length bs) own) name bs spoilt)
    (whole-read (largest_file + 1) old.source new.source bytes P.bytes source P.read P.whole)
    (stored-file name P.bytes own P.records spoilt old new P.in_effect P.are_bytes (file_of P.records name) _
    P.stored (rw (← same) at tells))))

-- ---- between two commands

-- a right file is right where the next command finds it
pub next-has : (name bytes : List ℕ) (records : List Record) (spoilt : ℕ → Bool) (new next : Seen) →
    HasRightFile new records name bytes spoilt → IsUntouched (setup_in_effect records).n spoilt new next →
    HasRightFile next records name bytes spoilt
next-has name bytes records spoilt new next H U = record {
  file = H.file;
  in_effect = H.in_effect;
  are_bytes = H.are_bytes;
  size = H.size;
  right = λ j below clean. ap (is_wrong_or_untold (object_in_effect records H.file) bytes j) (U j below clean)
      ∙ H.right j below clean;
}

-- ---- how many providers are bad at a get

calm-risen : (before now : ℕ) → (Rose before now → ⊥) → has_risen before now ≡ false
calm-risen before now calm = elim (cases_lt before now) [
  | inl l ↦ absurd (calm (λ below. l))
  | inr m ↦ elim (cases_lt before last_count) [
    | inl l ↦ (or-false (nat_lt before now) (nat_le last_count now) (not-less before now m)
        (not-past now last_count (omega (arith, l, m))))
    | inr past ↦ absurd (calm (λ below. absurd (omega (arith, below, past))))
  ]
]
  where
    not-less : (a b : ℕ) → b ≤ a → nat_lt a b ≡ false
    not-less a b l = grind (arith, nat_tests, l)

    not-past : (a b : ℕ) → a < b → nat_le b a ≡ false
    not-past a b l = grind (arith, nat_tests, l)

    or-false : (b c : Bool) → b ≡ false → c ≡ false → (b || c) ≡ false
    or-false b c e f = λ i. e i || f i

bad-off : (o : Object) (bytes : List ℕ) (j : ℕ) (p q : Provider) (told : Option Held) →
    is_wrong_or_untold o bytes j told ≡ false → has_risen p.other_faults q.other_faults ≡ false →
    is_bad_with o bytes j p q told ≡ false
bad-off o bytes j p q None right calm = absurd (false≢true (sym right))
bad-off o bytes j p q (Some held) right calm = (λ i. right i || calm i)

-- no more providers are bad for a right file than are spoilt
pub bad-few : (name bytes : List ℕ) (records : List Record) (spoilt : ℕ → Bool) (old new : Seen)
    (H : HasRightFile old records name bytes spoilt) → IsSteady (setup_in_effect records).n spoilt old new →
    bad_seen records old new H.file bytes ≤ spoilt_below (setup_in_effect records).n spoilt
bad-few name bytes records spoilt old new H steady =
    count_of-within (λ j. is_bad_for (object_in_effect records H.file) bytes j (provider_at old.providers j)
    (provider_at new.providers j)) spoilt 0 (setup_in_effect records).n within
  where
    within : (j : ℕ) → j < 0 + (setup_in_effect records).n →
        is_bad_for (object_in_effect records H.file) bytes j (provider_at old.providers j)
        (provider_at new.providers j) ≡ true → spoilt j ≡ true
    within j below bad = elim (cases_Bool (spoilt j)) [
      | inl t ↦ t
      | inr f ↦ (let l : j < (setup_in_effect records).n = omega (arith, below) in
          absurd (false≢true (sym
          (bad-off (object_in_effect records H.file) bytes j (provider_at old.providers j)
          (provider_at new.providers j) (provider_at old.providers j).held (H.right j l f)
          (calm-risen _ _ (steady j l f))) ∙ bad)))
    ]
