-- What is read is what the words spell.
use Rattle.schedule_text.proofs.Words.{◌≡◌, ℕ, List, [], ◌∷◌, ◌++◌, cond, Option, Some, None, sym, subst, inl, inr, refl, codes, bytes_eq, bytes_eq-Decides, cond-cases, Setup, bind_some, some_is, GetJob, DropJob, AuditJob, RepairJob, UpgradeJob, Init, Begin, BeginScrub, BeginPack, Step, Alter, Lose, Stop, Reopen, Names, Instruction, Once, RunJob, Word, IsNumber, IsHex, SpellsCommand, put_command, only_command, number_word_at, setup_words_at, init_at, put_at, get_at, drop_words_at, begun_at, begin_at, step_at, run_at, alter_at, lose_at, stop_at, apart_at, behind_at}
use Rattle.record_codec.specs.Reading.{◌>>=◌}
use Rattle.schedule_text.proofs.Fields.{TookProfile, word-took, ended-took, numeral-took, number-took, profile-took, bytes-took, key-took}

-- ---- what was read is spelled

-- a number that is read first: its word, and what is read behind it
numbered : {Y : Type 0} (bits : ℕ) (ws : List Word) (f : ℕ × List Word → Option Y) (y : Y) →
    (number_word_at bits ws >>= f) ≡ Some y
    → (x : ℕ × List Word) × (word : Word) × (ws ≡ word ∷ x.1) × IsNumber bits word x.0 × (f x ≡ Some y)
numbered bits ws f y e =
    let a = bind_some (number_word_at bits ws) f y e in
    let word = number-took bits ws a.0 a.1 in
    (a.0, word.0, word.1, word.2, a.2)

-- a word, and the words behind it
before : {word : Word} {ws rest more : List Word} → ws ≡ word ∷ rest → rest ≡ more → ws ≡ word ∷ more
before e f = cc (e, f)

-- a setup that is read: its words
abbrev SetupTook : List Word → Setup × List Word → Type 0
SetupTook ws x = (n l b profile rounds picks tolerance : Word) ×
    (ws ≡ n ∷ l ∷ b ∷ profile ∷ rounds ∷ picks ∷ tolerance ∷ x.1) × IsNumber 8 n x.0.n × IsNumber 8 l x.0.l ×
    IsNumber 8 b x.0.b × IsNumber 8 profile x.0.profile × IsNumber 8 rounds x.0.rounds × IsNumber 8 picks
    x.0.picks × IsNumber 16 tolerance x.0.tolerance

setup-takes : (ws : List Word) (x : Setup × List Word) → setup_words_at ws ≡ Some x → SetupTook ws x
unfolding setup_words_at
setup-takes ws x e =
    let n = numbered 8 ws _ x e in
    let l = numbered 8 n.0.1 _ x n.4 in
    let b = numbered 8 l.0.1 _ x l.4 in
    let p = numbered 8 b.0.1 _ x b.4 in
    let r = numbered 8 p.0.1 _ x p.4 in
    let k = numbered 8 r.0.1 _ x r.4 in
    let t = numbered 16 k.0.1 _ x k.4 in
    let is = before n.2 (before l.2 (before b.2 (before p.2 (before r.2 (before k.2 t.2))))) in
    subst (SetupTook ws) (some_is _ x t.4)
    (n.1, l.1, b.1, p.1, r.1, k.1, t.1, is, n.3, l.3, b.3, p.3, r.3, k.3, t.3)

module _ (ws : List Word) (command : Instruction) where
  -- a command that no word stands behind
  ended : (front : List Word) (made : Instruction) (left : List Word) →
      only_command made left ≡ Some command → (left ≡ [] → SpellsCommand front made)
      → SpellsCommand front command
  ended front made left e spelled =
      let none = ended-took made command left e in
      subst (SpellsCommand front) none.1 (spelled none.0)

  -- a line that ends where it is read
  bare-takes : (made : Instruction) (front : List Word) → SpellsCommand (front ++ []) made →
      only_command made ws ≡ Some command → SpellsCommand (front ++ ws) command
  bare-takes made front spelled e = ended (front ++ ws) made ws e (λ none. rw none spelled)

  init-takes : init_at ws ≡ Some command → SpellsCommand (codes "init" ∷ ws) command
  unfolding init_at
  init-takes e =
      let a = bind_some _ _ command e in
      let b = bind_some _ _ command a.2 in
      let s = setup-takes ws a.0 a.1 in
      let key = key-took a.0.1 b.0 b.1 in
      ended _ (Once (Init (record a.0.0 { master = b.0.0 }))) b.0.1 b.2 (λ none.
      (s.0, s.1, s.2, s.3, s.4, s.5, s.6, key.0, cc, s.8, s.9, s.10, s.11, s.12, s.13, s.14, key.2))

  step-takes : step_at ws ≡ Some command → SpellsCommand (codes "step" ∷ ws) command
  unfolding step_at
  step-takes e =
      let a = numbered 32 ws _ command e in
      ended _ (Once (Step a.0.0)) a.0.1 a.4 (λ none. (a.1, cc (a.2, none), a.3))

  run-takes : run_at ws ≡ Some command → SpellsCommand (codes "run" ∷ ws) command
  unfolding run_at
  run-takes e =
      let a = numbered 32 ws _ command e in
      ended _ (RunJob a.0.0) a.0.1 a.4 (λ none. (a.1, cc (a.2, none), a.3))

  alter-takes : alter_at ws ≡ Some command → SpellsCommand (codes "alter" ∷ ws) command
  unfolding alter_at
  alter-takes e =
      let p = numbered 32 ws _ command e in
      let o = numbered 64 p.0.1 _ command p.4 in
      let s = numbered 32 o.0.1 _ command o.4 in
      let k = numbered 32 s.0.1 _ command s.4 in
      let g = bind_some _ _ command k.4 in
      let x = numeral-took k.0.1 g.0 g.1 in
      ended _ (Once (Alter p.0.0 o.0.0 s.0.0 k.0.0 g.0.0)) g.0.1 g.2 (λ none.
      (p.1, o.1, s.1, k.1, x.0, cc, p.3, o.3, s.3, k.3, (x.2, x.2.small)))

  lose-takes : lose_at ws ≡ Some command → SpellsCommand (codes "lose" ∷ ws) command
  unfolding lose_at
  lose-takes e =
      let p = numbered 32 ws _ command e in
      let o = numbered 64 p.0.1 _ command p.4 in
      let s = numbered 32 o.0.1 _ command o.4 in
      ended _ (Once (Lose p.0.0 o.0.0 s.0.0)) s.0.1 s.4 (λ none.
      (p.1, o.1, s.1, cc (p.2, o.2, s.2, none), p.3, o.3, s.3))

  stop-takes : stop_at ws ≡ Some command → SpellsCommand (codes "stop" ∷ ws) command
  unfolding stop_at
  stop-takes e =
      let a = bind_some _ _ command e in
      let word = bytes-took ws a.0 a.1 in
      ended _ (Once (Stop a.0.0)) a.0.1 a.2 (λ none. (word.0, cc (word.1, none), word.2))

  -- the words of a put, with the word of a profile or without one
  put-spelled : (name digits : Word) (bytes : List ℕ) (behind : List Word) (profile : Option ℕ)
      (left : List Word) → ws ≡ name ∷ digits ∷ behind → IsHex digits bytes
      → TookProfile behind profile left → left ≡ []
      → SpellsCommand (codes "begin" ∷ codes "put" ∷ ws) (put_command name bytes profile)
  put-spelled name digits bytes behind None left is hex took none = (digits, cc (is, took, none), hex)
  put-spelled name digits bytes behind (Some profile) left is hex took none =
      (digits, took.0, cc (is, took.1, none), hex, took.2)

  put-takes : put_at ws ≡ Some command → SpellsCommand (codes "begin" ∷ codes "put" ∷ ws) command
  unfolding put_at
  put-takes e =
      let a = bind_some _ _ command e in
      let name = word-took ws a.0 a.1 in
      let b = bind_some _ _ command a.2 in
      let digits = bytes-took a.0.1 b.0 b.1 in
      let d = bind_some _ _ command b.2 in
      ended _ (put_command a.0.0 b.0.0 d.0.0) d.0.1 d.2
      (put-spelled a.0.0 digits.0 b.0.0 b.0.1 d.0.0 d.0.1 (cc (name, digits.1)) digits.2
      (profile-took b.0.1 d.0 d.1))

  get-takes : get_at ws ≡ Some command → SpellsCommand (codes "begin" ∷ codes "get" ∷ ws) command
  unfolding get_at
  get-takes e =
      let a = bind_some _ _ command e in
      let name = word-took ws a.0 a.1 in
      ended _ (Once (Begin (GetJob a.0.0))) a.0.1 a.2 (λ none. cc (name, none))

  drop-takes : drop_words_at ws ≡ Some command → SpellsCommand (codes "begin" ∷ codes "drop" ∷ ws) command
  unfolding drop_words_at
  drop-takes e =
      let a = bind_some _ _ command e in
      let name = word-took ws a.0 a.1 in
      ended _ (Once (Begin (DropJob a.0.0))) a.0.1 a.2 (λ none. cc (name, none))

  -- what is read behind a word that is tested, by what the word is
  chosen : (P : Word → Type 0) (word other : Word) (a b : Option Instruction) →
      cond (bytes_eq word other) a b ≡ Some command → (a ≡ Some command → P other) →
      (b ≡ Some command → P word) → P word
  chosen P word other a b e chose passed = elim (cond-cases (bytes_eq word other) a b _ e) [
    | inl same ↦ rw ((bytes_eq-Decides word other).0 same.0) (chose same.1)
    | inr e ↦ passed e.1
  ]

  -- behind `begin`
  begun-takes : (kind : Word) → begun_at kind ws ≡ Some command →
      SpellsCommand (codes "begin" ∷ kind ∷ ws) command
  unfolding begun_at
  begun-takes kind e =
      let by = chosen (λ k. SpellsCommand (codes "begin" ∷ k ∷ ws) command) kind in
      let bare = λ (made : Instruction) (word : Word). bare-takes made (codes "begin" ∷ word ∷ []) in
      by (codes "put") _ _ e put-takes (λ e.
      by (codes "get") _ _ e get-takes (λ e.
      by (codes "drop") _ _ e drop-takes (λ e.
      by (codes "audit") _ _ e (bare (Once (Begin AuditJob)) (codes "audit") refl) (λ e.
      by (codes "repair") _ _ e (bare (Once (Begin RepairJob)) (codes "repair") refl) (λ e.
      by (codes "upgrade") _ _ e (bare (Once (Begin UpgradeJob)) (codes "upgrade") refl) (λ e.
      by (codes "scrub") _ _ e (bare (Once BeginScrub) (codes "scrub") refl) (λ e.
      by (codes "pack") _ _ e (bare (Once BeginPack) (codes "pack") refl) (λ e. absurd (cc e)))))))))

-- behind the first word of a line
module _ (first : Word) (ws : List Word) (command : Instruction) where
  begin-takes : begin_at ws ≡ Some command → SpellsCommand (codes "begin" ∷ ws) command
  unfolding begin_at
  begin-takes e =
      let a = bind_some _ _ command e in
      subst (λ (t : List Word). SpellsCommand (codes "begin" ∷ t) command) (sym (word-took ws a.0 a.1))
      (begun-takes a.0.1 command a.0.0 a.2)

  apart-takes : apart_at first ws ≡ Some command → SpellsCommand (first ∷ ws) command
  unfolding apart_at
  apart-takes e =
      let by = chosen ws command (λ f. SpellsCommand (f ∷ ws) command) first in
      by (codes "alter") _ _ e (alter-takes ws command) (λ e.
      by (codes "lose") _ _ e (lose-takes ws command) (λ e.
      by (codes "stop") _ _ e (stop-takes ws command) (λ e.
      by (codes "list") _ _ e (bare-takes ws command (Once Names) (codes "list" ∷ []) refl) (λ e.
      absurd (cc e)))))

  pub behind-takes : behind_at first ws ≡ Some command → SpellsCommand (first ∷ ws) command
  unfolding behind_at
  behind-takes e =
      let by = chosen ws command (λ f. SpellsCommand (f ∷ ws) command) first in
      by (codes "init") _ _ e (init-takes ws command) (λ e.
      by (codes "reopen") _ _ e (bare-takes ws command (Once Reopen) (codes "reopen" ∷ []) refl) (λ e.
      by (codes "begin") _ _ e begin-takes (λ e.
      by (codes "step") _ _ e (step-takes ws command) (λ e.
      by (codes "run") _ _ e (run-takes ws command) apart-takes))))
