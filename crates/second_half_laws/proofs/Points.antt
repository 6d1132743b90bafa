-- What holds in a run that is calm by a mark: blocks that are stored are right, and a moment since which all
-- damage is new stays one.
use Rattle.second_half_laws.proofs.Words.{true, ◌⊎◌, refl, ap, sym, ◌∙◌, inl, inr, arith, cases_Bool, In, symbols_in, columns, is_wrong_block, some-not-none, File, next_id, started_as, PutJob, RepairJob, Pinned, Fetched, Worked, Job, job_of, Action, Store, Remove, profiled, stripes_of, State, Doubt, Scrub, Scrubbing, setup_in, object_in, file_object, pinned_object, worked_object, file_in, block_to_scrub, symbols_given, next_action, block_to_store, Moment, now, first_moments, is_replacement, is_replaced_since, Mark, relies, begun_of, told_block, HasMadeStore, Block_is, some_told, is_fair, store_place, found_none, setup_same, store_kinds, remove_kinds, IsBad, IsReplaced, RoseSince, IsEndOfPut, Never, PrecedesPuts, IsClear, IsMark}
use Rattle.std.proofs.Common.{◌≡◌, ℕ, ◌≤◌, ◌<◌, false, List, ◌∷◌, length, Option, Some, None}
use Rattle.second_half_laws.proofs.Blocks.{since_more, since_now, since_earlier, right_block}
use Rattle.second_half_laws.proofs.Places.{worked_before_store}
use Rattle.second_half_laws.proofs.MadeFacts.{given_symbols, made_work_gave}
use Rattle.second_half_laws.proofs.EveryRun as ev
use Rattle.second_half_laws.proofs.EveryRun.{Around, file_below, worked_is}

-- the state at the begin of a job
abbrev pub begin_of : State → List Moment → Job → State
begin_of start ms j = now start (first_moments j.begun ms)

-- the mark at the begin of a job
abbrev pub mark_of : Mark → List Moment → Job → ℕ
mark_of mark ms j = mark (first_moments j.begun ms)

-- what holds, by a mark, of files and of what jobs read and store
pub record Facts (mark : Mark) (start : State) (ms : List Moment) : Type 0 where
  pub moment : IsMark start ms (mark ms)
  pub marked : (k : ℕ) (j : Job) → job_of (now start ms).jobs k ≡ Some j → mark_of mark ms j ≤ length ms
  pub reads : (k : ℕ) (j : Job) (f : Pinned) (i s : ℕ) → job_of (now start ms).jobs k ≡ Some j →
      In f j.pinned → i < (setup_in (now start ms)).n →
      s < stripes_of (profiled (setup_in (now start ms)) f.profile) (length ((now start ms).bytes f.id)) →
      IsBad (now start ms) f.profile f.id i s → IsReplaced (mark_of mark ms j) i ms
  pub counts : (k : ℕ) (j : Job) (i : ℕ) → job_of (now start ms).jobs k ≡ Some j →
      ((begin_of start ms j).providers i).other_faults ≤ ((now start ms).providers i).other_faults
  pub gave : (k : ℕ) (j : Job) (f : Pinned) (i s : ℕ) (block : Option (List ℕ)) →
      job_of (now start ms).jobs k ≡ Some j → In f j.pinned → i < (setup_in (now start ms)).n →
      s < stripes_of (profiled (setup_in (now start ms)) f.profile) (length ((now start ms).bytes f.id)) →
      In (Fetched i f.id s block) j.given →
      is_wrong_block (pinned_object (now start ms) f) ((now start ms).bytes f.id) i s block ≡ true →
      IsReplaced (mark_of mark ms j) i ms ⊎
      ((block ≡ None) × RoseSince (begin_of start ms j) (now start ms) i)
  pub rows : (k : ℕ) (j : Job) (o s : ℕ) (symbols : List ℕ) → job_of (now start ms).jobs k ≡ Some j →
      relies j.kind ≡ true → In (Worked o s symbols) j.given →
      (o < next_id (now start ms).records) ×
      (symbols ≡ symbols_in (worked_object (now start ms) j o) ((now start ms).bytes o) s)
  pub rewrote : (k : ℕ) (j : Job) (i o s : ℕ) (b : Option (List ℕ)) → job_of (now start ms).jobs k ≡ Some j →
      j.kind ≡ RepairJob → HasMadeStore (setup_in (now start ms)) j i o s →
      is_replaced_since j.begun i ms ≡ false → told_block (now start ms) i o s ≡ Some b →
      b ≡ Some (columns (worked_object (now start ms) j o) ((now start ms).bytes o) i s)

-- the symbols of what gets and repairs opened are the file's
abbrev pub RowsRight : State → Type 0
RowsRight w = (x : Job) (o s : ℕ) (symbols : List ℕ) → job_of w.jobs x.number ≡ Some x →
    relies x.kind ≡ true → In (Worked o s symbols) x.given →
    symbols ≡ symbols_in (worked_object w x o) (w.bytes o) s

-- the next store of a scrub, under the number of a file in effect, is of the provider's own column
abbrev pub ScrubsRight : State → Type 0
ScrubsRight w = (scrub : Scrub) (rest : List Action) (i s : ℕ) (q : List ℕ) (f : File) →
    w.alone ≡ Some (Scrubbing scrub) → scrub.todo ≡ Store i f.id s ∷ rest → file_in w q ≡ Some f →
    block_to_scrub w scrub i f.id s ≡ columns (file_object w f) (w.bytes f.id) i s

-- from what holds by a mark
pub rows_right : (mark : Mark) (start : State) (ms : List Moment) → Facts mark start ms →
    RowsRight (now start ms)
rows_right mark start ms F x o s symbols runs kind given = (F.rows x.number x o s symbols runs kind given).1

module _ {limit : ℕ} {start : State} {m : Moment} {ms : List Moment} (N : Around limit start m ms) where
  open N use {clean, run, facts as A, kept as E, changed as X}

  -- the state after these moments
  abbrev here : State
  here = now start ms

  -- a block that is wrong after an event was so before, where setup and bytes are the same
  pub wrong_old : (p o i s : ℕ) (b : Option (List ℕ)) → setup_in m.state ≡ setup_in here →
      m.state.bytes o ≡ here.bytes o → is_wrong_block (object_in m.state p o) (m.state.bytes o) i s b ≡ true →
      is_wrong_block (object_in here p o) (here.bytes o) i s b ≡ true
  wrong_old p o i s b setup bytes h = cc

  -- a number under which a running put stores is started
  pub unstored : (x : Job) (name bytes : List ℕ) (i o s : ℕ) → job_of here.jobs x.number ≡ Some x →
      x.kind ≡ PutJob name bytes → next_action here x ≡ Some (Store i o s) → o ≡ x.subject →
      started_as here.records o ≡ None → ⊥
  unstored x name bytes i o s runs kind next_is o_is none =
      (let place = store_place here x name bytes i o s kind next_is in
      some-not-none (started_as here.records o) name (ap (started_as here.records) o_is
      ∙ A.pins.started x.number x name bytes runs kind place.0 (omega (arith, place.1))) none)

  -- a block that a repair stores is the column
  pub stored_column : RowsRight here → (x : Job) (i o s : ℕ) (b : Option (List ℕ)) →
      job_of here.jobs x.number ≡ Some x → next_action here x ≡ Some (Store i o s) → x.kind ≡ RepairJob →
      b ≡ Some (block_to_store here x x.kind i o s) →
      b ≡ Some (columns (worked_object here x o) (here.bytes o) i s)
  stored_column W x i o s b runs next_is repairs b_is = (let g = made_work_gave limit start clean ms run
      x.number x o s runs (worked_before_store here x i o s repairs next_is).0 in
      cc (W x o s (symbols_given x.given o s) runs (ap relies repairs) (given_symbols x.given o s g.0
      g.1)))

  -- so it is right, of a number that is not started and whose file has this profile
  pub stored_right : RowsRight here → (p : ℕ) (x : Job) (i o s : ℕ) (b : Option (List ℕ)) →
      job_of here.jobs x.number ≡ Some x → next_action here x ≡ Some (Store i o s) →
      started_as here.records o ≡ None → ((f : Pinned) → In f x.pinned → f.id ≡ o → f.profile ≡ p) →
      b ≡ Some (block_to_store here x x.kind i o s) → is_wrong_block (object_in here p o) (here.bytes o) i s b
      ≡ true → ⊥
  stored_right W p x i o s b runs next_is none own b_is wrong =
      elim (store_kinds x x.kind i o s refl (is_fair here x (Store i o s) next_is)) [
        | inl (name, bytes, kind, o_is) ↦ unstored x name bytes i o s runs kind next_is o_is none
        | inr (repairs, pin) ↦ (let column = stored_column W x i o s b runs next_is repairs b_is in
            let object = worked_is start ms E x o runs pin
            ∙ ap (λ q. object_in here q o) (own pin.file pin.pinned pin.id_is) in
            right_block (object_in here p o) (here.bytes o) i s (cc))
      ]

  -- a block that is bad was so before, or its provider is replaced now
  bad_before : RowsRight here → (p o i s : ℕ) → setup_in m.state ≡ setup_in here → o < next_id here.records →
      started_as here.records o ≡ None → ((x : Job) (f : Pinned) → job_of here.jobs x.number ≡ Some x →
      In f x.pinned → f.id ≡ o → f.profile ≡ p) → ((x : Job) → job_of here.jobs x.number ≡ Some x →
      In o x.older → ⊥) → ((scrub : Scrub) (rest : List Action) → here.alone ≡ Some (Scrubbing scrub) →
      scrub.todo ≡ Store i o s ∷ rest → block_to_scrub here scrub i o s ≡ columns (object_in here p o)
      (here.bytes o) i s) → IsBad m.state p o i s → IsBad here p o i s ⊎ (is_replacement m.event m.outcome i
      ≡ true)
  bad_before W p o i s setup below none own no_older scrubs (b, told, wrong) =
      (let w = wrong_old p o i s b setup (X.bytes o below) wrong in
      elim (X.block i o s) [
        | Block_is.same e ↦ inl (b, sym e ∙ told, w)
        | Block_is.replaced r ↦ inr r
        | Block_is.stored x runs next_is is ↦
            absurd (stored_right W p x i o s b runs next_is none (λ f in_f e. own x f runs in_f e)
            (some_told (block_to_store here x x.kind i o s) (here.providers i).held b (sym is ∙ told)) w)
        | Block_is.scrubbed scrub rest at next_is is ↦ absurd (right_block (object_in here p o) (here.bytes o)
            i s (cc (
              some_told (block_to_scrub here scrub i o s) (here.providers i).held b (sym is ∙ told),
              scrubs scrub rest at next_is,
            )))
        | Block_is.removed x runs next_is ↦
            absurd (no_older x runs (remove_kinds x x.kind i o refl (is_fair here x (Remove i o) next_is)))
      ])

  -- while a job runs no scrub does
  pub no_scrub : (k : ℕ) (x : Job) → job_of here.jobs k ≡ Some x → {B : Type 0} → (scrub : Scrub) →
      here.alone ≡ Some (Scrubbing scrub) → B
  no_scrub k x runs scrub at =
      absurd (found_none here.jobs k x (A.numbers.idle.lone (Scrubbing scrub) at) runs)

  -- of a file that a running job works on
  pub pinned_bad : RowsRight here → (k : ℕ) (x : Job) (f : Pinned) (i s : ℕ) → job_of here.jobs k ≡ Some x →
      In f x.pinned → setup_in m.state ≡ setup_in here → IsBad m.state f.profile f.id i s →
      IsBad here f.profile f.id i s ⊎ (is_replacement m.event m.outcome i ≡ true)
  pinned_bad W k x f i s runs in_x setup bad = (let quiet = A.pins.pins k x f runs in_x in
      bad_before W f.profile f.id i s setup quiet.0 quiet.1
      (λ y g runs_y in_g e. E.one_pin y.number k y x g f runs_y runs in_g in_x e)
      (λ y runs_y o. A.pins.older_free y.number k y x f.id f runs_y o runs in_x refl)
      (λ scrub rest at. no_scrub k x runs scrub at) bad)

  -- of a file in effect
  pub file_bad : RowsRight here → ScrubsRight here → (q : List ℕ) (f : File) (i s : ℕ) →
      file_in here q ≡ Some f → setup_in m.state ≡ setup_in here → IsBad m.state f.profile f.id i s →
      IsBad here f.profile f.id i s ⊎ (is_replacement m.event m.outcome i ≡ true)
  file_bad W R q f i s stood setup bad = bad_before W f.profile f.id i s setup (file_below A q f stood)
      (A.pins.sound.file q f stood).1 (λ y g runs_y in_g e. E.pin_file y.number y g q f runs_y in_g stood e)
      (ev.no_remover N q f stood) (λ scrub rest at next_is. R scrub rest i s q f at next_is stood) bad

  -- of the put whose record was in doubt
  put_bad : (d : Doubt) (id size p i s : ℕ) → here.doubt ≡ Some d → IsEndOfPut here.records d.entry id size p
      → setup_in m.state ≡ setup_in here → i < (setup_in m.state).n →
      s < stripes_of (profiled (setup_in m.state) p) (length (m.state.bytes id)) → IsBad m.state p id i s →
      IsReplaced (begun_of d.maker) i (m ∷ ms)
  put_bad d id size p i s at e setup l k (b, told, wrong) =
      elim (cases_Bool (is_replaced_since (begun_of d.maker) i (m ∷ ms))) [
        | inl t ↦ t
        | inr f ↦ absurd (right_block (object_in m.state p id) (m.state.bytes id) i s
            (cc (ev.put_right N d id size p i s b at e setup l k f told)))
      ]

  -- files stay clear since a moment before which no put began that works
  pub clear_on : RowsRight here → ScrubsRight here → (from : ℕ) (Old New : ℕ → ℕ → ℕ → Type 0) →
      PrecedesPuts start ms from → IsClear start ms from Old → ((q : List ℕ) (f : File) (i s : ℕ) →
      file_in here q ≡ Some f → file_in m.state q ≡ Some f → setup_in m.state ≡ setup_in here →
      i < (setup_in m.state).n → s < stripes_of (profiled (setup_in m.state) f.profile)
      (length (m.state.bytes f.id)) → IsBad m.state f.profile f.id i s → Old i f.id s →
      IsReplaced from i (m ∷ ms) ⊎ New i f.id s) → IsClear start (m ∷ ms) from New
  clear_on W R from Old New P clear more q f i s h l k bad =
      (let c = ev.comes N q f h in let setup = setup_same m.state here c.setup in
      elim c.how [
        | inl stood ↦ (let n = ev.bounds N f.profile f.id i s setup (file_below A q f stood) l k in
            elim (file_bad W R q f i s stood setup bad) [
              | inl old ↦ elim (clear q f i s stood n.0 n.1 old)
                  [ inl r ↦ inl (since_more from i m ms r) | inr x ↦ more q f i s stood h setup l k bad x ]
              | inr r ↦ inl (since_now from i m ms r P.early)
            ])
        | inr (d, at, e) ↦ inl (since_earlier from (begun_of d.maker) i (m ∷ ms)
            (P.doubts d e.version f.id f.size f.profile at e.entry_is)
            (put_bad d f.id f.size f.profile i s at e setup l k bad))
      ])

  -- an event keeps a mark: damage of files in effect is still new since then
  pub mark_on : RowsRight here → ScrubsRight here → (from : ℕ) → IsMark start ms from →
      IsMark start (m ∷ ms) from
  mark_on W R from P = record {
    before = ev.before_on N from P.before;
    clear = clear_on W R from Never Never P.before P.clear (λ q f i s stood h setup l k bad x. absurd x);
  }
