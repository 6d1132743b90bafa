-- Blocks of files in effect that are the providers' own columns stay so, unless their providers are replaced,
-- and a put brings in such blocks.
use Rattle.second_half_laws.proofs.Words.{true, ◌⊎◌, refl, ap, sym, ◌∙◌, inl, inr, cases_Bool, false≢true, In, columns, File, started_as, Pinned, Job, job_of, Store, Remove, profiled, stripes_of, State, setup_in, object_in, file_object, file_in, next_action, block_to_store, Moment, now, is_replacement, is_replaced_since, begun_of, told_block, Block_is, some_told, is_fair, setup_same, store_kinds, remove_kinds, replaced_before, PrecedesPuts}
use Rattle.std.proofs.Common.{◌≡◌, ℕ, ◌<◌, false, List, ◌∷◌, length, Option, Some, None}
use Rattle.second_half_laws.proofs.Blocks.{since_now, since_earlier}
use Rattle.second_half_laws.proofs.EveryRun as ev
use Rattle.second_half_laws.proofs.EveryRun.{Around, file_below, worked_is}
use Rattle.second_half_laws.proofs.Points as pt
use Rattle.second_half_laws.proofs.Points.{RowsRight, ScrubsRight}

-- each block of a file in effect that a provider tells of, and that was not replaced since a moment, is the
-- provider's own column
abbrev pub Owns : State → List Moment → ℕ → Type 0
Owns start ms from = (q : List ℕ) (f : File) (i s : ℕ) (block : Option (List ℕ)) →
    file_in (now start ms) q ≡ Some f → i < (setup_in (now start ms)).n →
    s < stripes_of (profiled (setup_in (now start ms)) f.profile) (length ((now start ms).bytes f.id)) →
    is_replaced_since from i ms ≡ false → told_block (now start ms) i f.id s ≡ Some block →
    block ≡ Some (columns (file_object (now start ms) f) ((now start ms).bytes f.id) i s)

module _ {limit : ℕ} {start : State} {m : Moment} {ms : List Moment} (N : Around limit start m ms) where
  open N use {clean, run, facts as A, numbers as U, files as I, kept as E, changed as X, turned as T}

  -- the state after these moments
  abbrev w : State
  w = now start ms

  -- the column stays, where setup and bytes are the same
  columns_on : (p o i s : ℕ) → setup_in m.state ≡ setup_in w → m.state.bytes o ≡ w.bytes o →
      columns (object_in w p o) (w.bytes o) i s ≡ columns (object_in m.state p o) (m.state.bytes o) i s
  columns_on p o i s setup bytes = cc

  -- what is stored under a number that is not started and whose file has this profile
  stored_own : RowsRight w → (p : ℕ) (x : Job) (i o s : ℕ) (b : Option (List ℕ)) →
      job_of w.jobs x.number ≡ Some x → next_action w x ≡ Some (Store i o s) → started_as w.records o ≡ None →
      ((f : Pinned) → In f x.pinned → f.id ≡ o → f.profile ≡ p) → b ≡ Some (block_to_store w x x.kind i o s) →
      b ≡ Some (columns (object_in w p o) (w.bytes o) i s)
  stored_own W p x i o s b runs next_is none own b_is =
      elim (store_kinds x x.kind i o s refl (is_fair w x (Store i o s) next_is)) [
        | inl (name, bytes, kind, o_is) ↦ absurd (pt.unstored N
            x name bytes i o s runs kind next_is o_is none)
        | inr (repairs, pin) ↦ cc (
          pt.stored_column N W x i o s b runs next_is repairs b_is,
          worked_is start ms E x o runs pin,
          own pin.file pin.pinned pin.id_is,
        )
      ]

  -- of a file in effect a block is the own column after an event where it was, or its provider is replaced
  -- now
  file_own : RowsRight w → ScrubsRight w → (q : List ℕ) (f : File) (i s : ℕ) (b : Option (List ℕ)) →
      file_in w q ≡ Some f → setup_in m.state ≡ setup_in w → told_block m.state i f.id s ≡ Some b →
      (told_block w i f.id s ≡ Some b → b ≡ Some (columns (file_object w f) (w.bytes f.id) i s)) →
      (b ≡ Some (columns (file_object m.state f) (m.state.bytes f.id) i s)) ⊎ (is_replacement m.event
      m.outcome i ≡ true)
  file_own W R q f i s b stood setup told old =
      (let on = columns_on f.profile f.id i s setup (X.bytes f.id (file_below A q f stood)) in
      elim (X.block i f.id s) [
        | Block_is.same e ↦ inl (old (sym e ∙ told) ∙ ap Some on)
        | Block_is.replaced r ↦ inr r
        | Block_is.stored x runs next_is is ↦ inl (stored_own W f.profile x i f.id s b runs next_is
            (A.pins.sound.file q f stood).1 (λ g in_g e. E.pin_file x.number x g q f runs in_g stood e)
            (some_told _ _ b (sym is ∙ told)) ∙ ap Some on)
        | Block_is.scrubbed scrub rest at next_is is ↦ inl (cc (
          some_told _ _ b (sym is ∙ told),
          R scrub rest i s q f at next_is stood,
        ))
        | Block_is.removed x runs next_is ↦ absurd (ev.no_remover N q f stood x
            runs (remove_kinds x x.kind i f.id refl (is_fair w x (Remove i f.id) next_is)))
      ])

  -- an event keeps own columns, since a moment before which no put began that works
  pub owns_on : RowsRight w → ScrubsRight w → (from : ℕ) → PrecedesPuts start ms from → Owns start ms from →
      Owns start (m ∷ ms) from
  owns_on W R from P owns q f i s block h l k unreplaced told =
      (let c = ev.comes N q f h in let setup = setup_same m.state w c.setup in
      elim c.how [
        | inl stood ↦ (let n = ev.bounds N f.profile f.id i s setup (file_below A q f stood) l k in
            elim (file_own W R q f i s block stood setup told
            (λ old. owns q f i s block stood n.0 n.1 (replaced_before from i m ms unreplaced) old)) [
              | inl own ↦ own
              | inr r ↦ absurd (false≢true (cc (since_now from i m ms r P.early)))
            ])
        | inr (d, at, e) ↦ elim (cases_Bool (is_replaced_since (begun_of d.maker) i (m ∷ ms))) [
          | inl t ↦ absurd (false≢true (cc (since_earlier from _ i _ (P.doubts d e.version f.id f.size
              f.profile at e.entry_is) t)))
          | inr none ↦ ev.put_right N d f.id f.size f.profile i s block at e setup l k none told
        ]
      ])
