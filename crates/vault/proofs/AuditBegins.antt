-- What an audit begins with.
use Rattle.vault.proofs.Words.{◌≡◌, ℕ, ◌*◌, ◌≤◌, List, [], ◌∷◌, take, drop, replicate, Option, refl, sym, ap, ◌∙◌, arith, take-replicate, drop-replicate, Setup, most_files, File, files_of, actions_left, new_job, AuditJob, State, setup_in, setup-providers, counted, length-pin_all, AuditTask, Desk, Devices, answered_entries, asks_left, Round, rounds_in, DeskStands, IsAudit, IsAsked, IsNewAudit, table-like}
use Rattle.std.proofs.Common.{length}
use Rattle.record_defs.proofs.OrderLaws.{few-files_of}
use Rattle.vault.specs.declared.heard.Ask.{Ask}
use Rattle.vault.proofs.AskOrders.{audit-order, audit-count}

-- no ask is made in the first round yet
started : (xs : List Round) (symbols : List (Option ℕ)) → symbols ≡ [] → IsAsked xs 0 symbols []
started [] symbols is = tt
started (x ∷ xs) symbols is =
    record { before = []; now = []; older = []; symbols_is = is; count = refl; given_is = refl }

module _ (v : Desk) (d : Devices) (w : State) (moment : ℕ) (stands : DeskStands v d w) where
  -- a table has no more files than may be in effect
  pub few-files : length v.core.table.files ≤ most_files
  few-files = (let e = ap (λ (fs : List File). length fs) (table-like v.core w stands.core).files in
      let f = few-files_of w.records stands.core.sound.accepted in omega (arith, e, f))

  -- a new audit's task is at the first action of the machine's new job
  pub audit-task : (t : AuditTask) (asks : ℕ) → IsNewAudit v.core.next_job v.setup.n asks t →
      asks ≡ length v.core.table.files * (v.setup.rounds * v.setup.n)
      → IsAudit (setup_in w) t (new_job w moment AuditJob)
      (actions_left (setup_in w) (new_job w moment AuditJob))
  audit-task t asks new asks_are =
      let s = setup_in w in
      let job = new_job w moment AuditJob in
      let n_is : s.n ≡ v.setup.n = ap (λ (x : Setup). x.n) stands.setup in
      let rounds_is : s.rounds ≡ v.setup.rounds = ap (λ (x : Setup). x.rounds) stands.setup in
      let limits = setup-providers 8 w stands.core.sound stands.core.is_open in
      let least = limits.0 in
      let most = limits.1 in
      let counts_n : t.counts.n ≡ s.n = new.n_is ∙ sym n_is in
      let files : length job.pinned ≡ length v.core.table.files = length-pin_all w (files_of w.records)
      ∙ sym (ap (λ (fs : List File). length fs) (table-like v.core w stands.core).files) in
      let few : asks_left (actions_left s job) ≤ length job.pinned * (s.rounds * s.n) =
      audit-count s job refl in
      let same : length job.pinned * (s.rounds * s.n) ≡ asks = (λ i. files i * (rounds_is i * n_is i))
      ∙ sym asks_are in
      let room_asks = new.room_asks in
      let room_symbols = new.room_symbols in
      let zeros : counted t.counts ≡ replicate s.n 0 = (λ i. take (counts_n i) (new.by_is i))
      ∙ take-replicate s.n 16 0 most in
      record {
        kind = refl;
        job_is = new.job_is ∙ stands.core.next_job;
        heard = ap (λ (xs : List Ask). answered_entries t.heard.job xs t.heard.symbols.items) new.no_asks;
        asks = ap length new.no_asks ∙ sym (ap length new.no_symbols);
        over = [];
        left = rounds_in s job.pinned;
        rounds = refl;
        opening = λ few. refl;
        asked = 0;
        order = audit-order s (omega (arith, least)) job refl;
        in_work = started (rounds_in s job.pinned) t.heard.symbols.items new.no_symbols;
        counts = (
          counts_n,
          record {
            room = ap length new.by_is;
            at_most = omega (arith, counts_n, most);
            zeros = ap (drop t.counts.n) new.by_is ∙ drop-replicate t.counts.n 16 0;
          },
        );
        sums = (λ i. record { counts = zeros i; undecided = new.undecided i });
        room_asks = omega (arith, few, same, room_asks);
        room_symbols = omega (arith, few, same, room_symbols);
      }
