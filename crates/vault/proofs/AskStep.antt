-- An ask is a step of the machine.
use Rattle.vault.proofs.Words.{◌≡◌, ℕ, zero, suc, ◌+◌, ◌<◌, ◌≤◌, true, List, [], ◌∷◌, ◌++◌, Option, None, refl, sym, ap, subst, ◌∙◌, arith, append_assoc, length-append, replicate, list_all, append-nil, Judges, Setup, challenge_in, JudgesRound, answers_given, Kind, AuditJob, Given, Answered, Job, advanced_with, profiled, object_of, State, setup_in, sums_of, IsPadded, Question, AuditTask, challenge_put, last_answers, sums_on, ask_put, HasHeard, HasJudged, answered_entries, Round, rounds_in, rounds_after, asked_after, AsksOn, JudgesEach, HasAnswered, IsAsked, IsAudit, empty_sums, Cells, Provider, ComesNext, Desk, devices, DeskStands, Comes}
use Rattle.std.proofs.Common.{◌==◌, length}
use Rattle.std.specs.Prelude.{vec_len, vec_capacity}
use Rattle.machine_defs.specs.Actions.{Action, Ask}
use Rattle.file_layout.specs.Files as layout
use Rattle.vault.proofs.Allowed.{IsAllowed, next_allowed}
use Rattle.vault.proofs.Ways.{is_handed}
use Rattle.vault.proofs.Asks.{entries_more, none_answered, answered_more, last_given, apart, judges_still, judges_more}
use Rattle.vault.proofs.AskOrders.{count-ask}

-- so many zeros are all zero
pub zero_all : (n : ℕ) → list_all (λ count. count == 0) (replicate n 0) ≡ true
zero_all zero = refl
zero_all (suc n) = zero_all n

-- the ask is that of a round of a job
pub record IsPut (s : Setup) (job : Job) (x : Round) (q : Question) : Type 0 where
  pub object : layout.shaped_object s.master q.file ≡ object_of (profiled s x.file.profile) x.file.id
  pub challenge : challenge_put s.master q ≡ challenge_in (profiled s x.file.profile) job x.file.id
      (length x.file.bytes) x.number
  pub id_is : q.file.id ≡ x.file.id
  pub round_is : q.round ≡ x.number
  pub n_is : q.file.shape.n ≡ s.n

nothing_yet : (xs : List Round) (symbols : List (Option ℕ)) (given : List Given) → IsAsked xs 0 symbols given
nothing_yet [] symbols given = tt
nothing_yet (x ∷ xs) symbols given = none_answered x symbols given (sym (append-nil symbols))

module _ (s : Setup) (job : Job) (rising : Rattle.vault.proofs.Asks.Rising 0 0 (rounds_in s job.pinned))
    (late : 4 ≤ job.place) where
  -- what an audit works with after an ask, from what it worked with before
  module _ (k : ℕ) (x : Round) (xs over : List Round) (tail : List Action) (symbol : Option ℕ)
      (t u m : AuditTask) (q : Question)
      (is : IsAudit s t job (Ask k x.file.id x.number ∷ tail))
      (rounds : rounds_in s job.pinned ≡ over ++ (x ∷ xs))
      (answered : HasAnswered x k t.heard.symbols.items job.given)
      (sums : JudgesEach s job over (empty_sums s) (sums_on t)) (put : IsPut s job x q)
      (hears : HasHeard q k t m symbol) where
    abbrev gift : Given
    gift = Answered k x.file.id x.number symbol

    abbrev job' : Job
    job' = advanced_with job gift

    heard_now : HasAnswered x (k + 1) m.heard.symbols.items (gift ∷ job.given)
    heard_now = rw (← hears.heard.symbols) at (answered_more x k t.heard.symbols.items job.given symbol
        answered)

    same_sums : sums_on m ≡ sums_on t
    same_sums = (λ i. sums_of (hears.counts i) (hears.undecided i))

    still : JudgesEach s job' over (empty_sums s) (sums_on m)
    still = rw (← same_sums) at (judges_still s job k x.file.id x.number symbol over (empty_sums s) (sums_on t)
        (apart 0 0 over x xs (subst (Rattle.vault.proofs.Asks.Rising 0 0) rounds rising)) sums)

    -- all but the round in work
    entries : answered_entries m.heard.job m.heard.asks.items m.heard.symbols.items
        ≡ Rattle.machine_defs.specs.Heard.entries_of job.number (gift ∷ job.given)
    entries = (λ i. answered_entries (hears.heard.job i) (hears.heard.asks i) (hears.heard.symbols i))
        ∙ entries_more t.heard.job t.heard.asks.items t.heard.symbols.items (ask_put q k) symbol is.asks
        ∙ (λ i. is.heard i ++ record {
          job = is.job_is i;
          given = Answered k (put.id_is i) (put.round_is i) symbol;
        } ∷ [])

    asks_count : length m.heard.asks.items ≡ length t.heard.asks.items + 1
    asks_count = ap length hears.heard.asks ∙ length-append t.heard.asks.items (ask_put q k ∷ [])

    symbols_count : length m.heard.symbols.items ≡ length t.heard.symbols.items + 1
    symbols_count = ap length hears.heard.symbols ∙ length-append t.heard.symbols.items (symbol ∷ [])

    -- with an answer that is not the last of its round, an audit is at the next provider
    pub audit_kept : AsksOn s.n (x ∷ xs) (k + 1) tail → IsAudit s m job' tail
    audit_kept order = record {
      kind = is.kind;
      job_is = hears.heard.job ∙ is.job_is;
      heard = entries;
      asks = asks_count ∙ ap (λ (a : ℕ). a + 1) is.asks ∙ sym symbols_count;
      over = over;
      left = x ∷ xs;
      rounds = rounds;
      opening = λ few. absurd (omega (arith, few, late));
      asked = k + 1;
      order = order;
      in_work = heard_now;
      counts = (ap (λ c. c.n) hears.counts ∙ is.counts.0, subst IsPadded (sym hears.counts) is.counts.1);
      sums = still;
      room_asks = omega (
        arith,
        is.room_asks,
        count-ask k x.file.id x.number tail,
        hears.heard.room_asks,
        asks_count,
        t.heard.asks.ok.0,
        m.heard.asks.ok.0,
      );
      room_symbols = omega (
        arith,
        is.room_symbols,
        count-ask k x.file.id x.number tail,
        hears.heard.room_symbols,
        symbols_count,
        t.heard.symbols.ok.0,
        m.heard.symbols.ok.0,
      );
    }

    judged_now : k + 1 ≡ s.n → HasJudged s.master q m u →
        JudgesRound s job' x.file x.number (sums_on m) (sums_on u)
    judged_now last judged = subst (λ o. Judges o (challenge_in (profiled s x.file.profile) job x.file.id
        (length x.file.bytes) x.number) (answers_given (gift ∷ job.given) s.n x.file.id x.number) (sums_on m)
        (sums_on u)) put.object (subst (λ c. Judges (layout.shaped_object s.master q.file) c
        (answers_given (gift ∷ job.given) s.n x.file.id x.number) (sums_on m) (sums_on u)) put.challenge
        (subst (λ l. Judges (layout.shaped_object s.master q.file) (challenge_put s.master q) l (sums_on m)
        (sums_on u)) (ap (λ n. last_answers n m.heard.symbols.items) put.n_is
        ∙ last_given x s.n m.heard.symbols.items (gift ∷ job.given)
        (subst (λ n. HasAnswered x n m.heard.symbols.items (gift ∷ job.given)) last heard_now))
        judged.judges))

    -- with the last answer of its round, judged, an audit is at the next round
    pub audit_judged : k + 1 ≡ s.n → HasJudged s.master q m u → AsksOn s.n xs 0 tail → IsAudit s u job' tail
    audit_judged last judged order =
        let h = judged.heard in
        record {
          kind = is.kind;
          job_is = ap (λ a. a.job) h ∙ hears.heard.job ∙ is.job_is;
          heard = ap (λ a. answered_entries a.job a.asks.items a.symbols.items) h ∙ entries;
          asks = ap (λ a. length a.asks.items) h ∙ asks_count ∙ ap (λ (a : ℕ). a + 1) is.asks
              ∙ sym symbols_count ∙ sym (ap (λ a. length a.symbols.items) h);
          over = over ++ x ∷ [];
          left = xs;
          rounds = rounds ∙ sym (append_assoc over (x ∷ []) xs);
          opening = λ few. absurd (omega (arith, few, late));
          asked = 0;
          order = order;
          in_work = nothing_yet xs u.heard.symbols.items (gift ∷ job.given);
          counts = (
            judged.n_is ∙ ap (λ c. c.n) hears.counts ∙ is.counts.0,
            judged.padded (subst IsPadded (sym hears.counts) is.counts.1),
          );
          sums = judges_more s job' over x (empty_sums s) (sums_on m) (sums_on u) still (judged_now last judged);
          room_asks = omega (
            arith,
            is.room_asks,
            count-ask k x.file.id x.number tail,
            hears.heard.room_asks,
            asks_count,
            t.heard.asks.ok.0,
            m.heard.asks.ok.0,
            ap (λ a. vec_len a.asks) h,
            ap (λ a. vec_capacity a.asks) h,
          );
          room_symbols = omega (
            arith,
            is.room_symbols,
            count-ask k x.file.id x.number tail,
            hears.heard.room_symbols,
            symbols_count,
            t.heard.symbols.ok.0,
            m.heard.symbols.ok.0,
            ap (λ a. vec_len a.symbols) h,
            ap (λ a. vec_capacity a.symbols) h,
          );
        }

-- what is left of an audit before an ask begins with the round that is asked in
pub record IsNext (s : Setup) (t : AuditTask) (job : Job) (k o r : ℕ) (tail : List Action) : Type 0 where
  pub x : Round
  pub xs : List Round
  pub over : List Round
  pub rounds : rounds_in s job.pinned ≡ over ++ (x ∷ xs)
  pub id_is : o ≡ x.file.id
  pub number_is : r ≡ x.number
  pub answered : HasAnswered x k t.heard.symbols.items job.given
  pub order : AsksOn s.n (rounds_after s.n x xs k) (asked_after s.n k) tail
  pub sums : JudgesEach s job over (empty_sums s) (sums_on t)

-- the ask that an audit has next is of the round with which what is left of it begins
pub next_round : (s : Setup) (t : AuditTask) (job : Job) (k o r : ℕ) (tail : List Action) →
    IsAudit s t job (Ask k o r ∷ tail) → IsNext s t job k o r tail
next_round s t job k o r tail is = by_left is.left is.asked is.rounds is.order is.in_work
  where
    by_left : (left : List Round) (asked : ℕ) → rounds_in s job.pinned ≡ is.over ++ left →
        AsksOn s.n left asked (Ask k o r ∷ tail) → IsAsked left asked t.heard.symbols.items job.given →
        IsNext s t job k o r tail
    by_left [] asked rounds order work = absurd order
    by_left (x ∷ xs) asked rounds order work = record {
      x = x;
      xs = xs;
      over = is.over;
      rounds = rounds;
      id_is = order.1;
      number_is = order.2;
      answered = rw (← order.0) at work;
      order = rw (← order.0) at order.3;
      sums = is.sums;
    }

module _ (v : Desk) (w : State) (holds : Option Cells) (faults number k o r : ℕ) (ps : List Provider)
    (stands : DeskStands v (devices holds faults ps) w) (comes : Comes v.core number (Ask k o r)) where
  coming : ComesNext w number (Ask k o r) None
  coming = comes.machine w stands.core

  within : k < (setup_in w).n
  within = by_kind coming.job.kind (next_allowed w coming.job (Ask k o r) coming.comes)
    where
      by_kind : (kind : Kind) → IsAllowed (setup_in w).n kind (Ask k o r) → k < (setup_in w).n
      by_kind AuditJob h = h
      by_kind _ h = absurd h

  -- the provider is there
  pub provider_there : k < length ps
  provider_there = is_handed v (devices holds faults ps) w k stands within
