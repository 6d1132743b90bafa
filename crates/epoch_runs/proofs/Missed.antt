-- The run with damage that an audit missed, computed from its instructions.
use Rattle.std.proofs.Common.{◌≡◌, ℕ, ◌+◌, ◌≤◌, ◌==◌, Bool, true, false, List, [], ◌∷◌, ◌++◌, length, map, flat_map, slice_index, Option, Some, None, if◌then◌else◌, refl, ap, sym, ◌∙◌, inr, arith}
use Rattle.std.proofs.lemmas.Bool.{false≢true}
use Rattle.code_defs.specs.ServerCode.{differences}
use Rattle.code_defs.proofs.Codewords.{differences-same}
use Rattle.column_defs.proofs.ColumnLaws.{length-column_of_symbols}
use Rattle.second_half_laws.proofs.FewDamaged.{few_calm, few_scrubs}
use Rattle.damage_run.specs.Words.{AuditStart, AuditDone, upto, is_wrong, PutJob, GetJob, AuditJob, Action, Store, End, actions_of, Put, Got, Audited, Scrubbed, Begin, BeginScrub, Step, Lose, Ended, Replaced, IsStart, setup_in, Moment, IsRun, now, scrubbed, IsScrubCalm, told_block, DamagesOnly, NoneMissed, AllTell, Goes, Works, Notes, Came, Heard, Gives, Brings, Opens, Mends, Finds, Instruction, Turned, Turns, Sweeps, Begins, Reopens, Comes, run_of, AreFit}
use Rattle.machine_defs.specs.States.{AreFirst, Scrub, Alone, Scrubbing, Packing}
use Rattle.damage_run.specs.Points.{name, byte, counts}
use Rattle.damage_run.proofs.Points.{is-event}
use Rattle.damage_run.proofs.Run.{◌and◌, few, sizes, are-run, block, symbols, byte_back, own_work, lose}
use Rattle.damage_run.proofs.Told.{mine}
use Rattle.damage_run.proofs.Values.{thing, without_two_give, right, same_first, no_answer, sums, judged}
use Rattle.epoch_runs.specs.Missed.{lenient, missing, symbols_off, blocks_off, HasMissed, IsSweeping}

-- a put, a lost block, and an audit that tolerates it
abbrev put : List Instruction
put = Turns 1 (Gives Put ∷ Goes 12 ∷ []) ∷ Begins (Begin (PutJob name byte)) ∷ Reopens ∷ []

abbrev damaged : List Instruction
damaged = Comes (Lose 2 1 0) Replaced (lose 2) ∷ put

abbrev audited : List Instruction
audited = Turns 2 (Gives (Audited 1 0 counts) ∷ Goes 3 ∷ Notes (AuditDone 1 0 counts) ∷ Heard (right 3)
    ∷ Heard None ∷ Heard (right 1) ∷ Heard (right 0) ∷ Goes 3 ∷ [])
    ∷ Turned 2 (Notes (AuditStart 1)) ∷ Begins (Begin AuditJob) ∷ damaged

-- a scrub, up to its store and to its end; and a get
abbrev opened : List Instruction
opened = Sweeps 3 (Opens symbols (Store 2 1 0 ∷ End ∷ []) ∷ Brings (Some (block 3)) ∷ Brings None
    ∷ Brings (Some (block 1)) ∷ Brings (Some (block 0)) ∷ []) ∷ Begins BeginScrub ∷ audited

abbrev swept : List Instruction
swept = Sweeps 3 (Finds 1 symbols_off blocks_off ∷ Mends ∷ []) ∷ opened

abbrev got : List Instruction
got = Turns 4 (Gives (Got byte) ∷ Works symbols ∷ Came (Some (block 3)) ∷ Came (Some (block 2))
    ∷ Came (Some (block 1)) ∷ Came (Some (block 0)) ∷ []) ∷ Begins (Begin (GetJob name)) ∷ swept

-- what differs in the stripe: all six symbols of the block that is not there
all_off : differences (block 0) (block 0) ∷ differences (block 1) (block 1) ∷ length (block 2)
    ∷ differences (block 3) (block 3) ∷ [] ≡ symbols_off
all_off = rw (
  differences-same (block 0),
  differences-same (block 1),
  length-column_of_symbols thing symbols 2 0,
  differences-same (block 3),
) refl

abbrev todo : List ℕ → List Action
todo ds = flat_map (λ j. if slice_index ds j == 0 then [] else Store j 1 0 ∷ []) (upto 4) ++ End ∷ []

abbrev found : ℕ → ℕ
found n = 0 + (if n == 0 then 0 else 1)

-- they can be carried out
fit_damaged : AreFit 8 missing damaged
unfolding setup_in actions_of
fit_damaged = (omega arith, (_, ((λ x. refl, λ x. refl), refl), refl)) and assumption (few, sizes)

fit_audited : AreFit 8 missing audited
unfolding setup_in actions_of
fit_audited = (omega arith and (refl, (refl, (refl, (sums, (sums, judged, refl), refl)))) and refl and
    (refl, (refl, (sums, (sums, (sums, judged, refl), refl), refl))) and (refl, (refl, same_first _ _ refl))
    and (refl, (refl, sym (no_answer _ refl))) and (refl, (refl, same_first _ _ refl)) and
    (refl, (refl, same_first _ _ refl)) and refl and tt) and assumption few and (assumption) and fit_damaged

fit_opened : AreFit 8 missing opened
unfolding setup_in actions_of
fit_opened = (omega arith and (refl, (refl, (without_two_give, ap todo all_off))) and assumption sizes)
    and (assumption) and fit_audited

fit_swept : AreFit 8 missing swept
unfolding setup_in actions_of
fit_swept = (omega arith
    and (refl, (refl, (refl, sym (ap (map (λ n. 0 + n)) all_off), sym (ap (map found) all_off))))
    and (refl, (refl, tt)) and tt) and fit_opened

fit : AreFit 8 missing got
unfolding setup_in actions_of
fit = assumption (few, sizes, byte_back, own_work) and (assumption) and fit_swept

-- ---- the run

starts : IsStart missing
starts = (let first : AreFirst missing.records = inr (lenient, refl, refl) in assumption first)

tell : AllTell missing
tell j = refl

-- where provider 2 alone is damaged, it is calm counted from finished scrubs
calm : (ms : List Moment) → IsRun 8 missing ms → DamagesOnly (2 ∷ []) ms → 1 ≤ (setup_in (now missing ms)).b →
    IsScrubCalm missing ms
calm ms run only enough = record {
  jobs = few_calm 8 (scrubbed missing) missing (2 ∷ []) starts ms run only (inr enough);
  scrubs = few_scrubs 8 (scrubbed missing) missing (2 ∷ []) starts ms run only (inr enough);
}

abbrev pub moments : List Moment
moments = run_of missing got

-- at the record's coming in, the provider that was wrong at the audit's begin is not flagged
is-missed : NoneMissed missing moments → ⊥
unfolding setup_in actions_of is_wrong
is-missed none = none.1.1.1.1.1.1.1.1.1.1.1.1.1.1.1.1.0 2 (record {
  provider = omega arith;
  unflagged = refl;
  unreplaced = refl;
  name = name;
  file = record { name = name; id = 1; size = 1; profile = 0 };
  in_effect = refl;
  wrong = refl;
})

pub has-missed : HasMissed moments
unfolding setup_in actions_of
has-missed = record {
  clean = starts;
  tell = tell;
  run = are-run 8 missing got fit;
  calm = calm moments (are-run 8 missing got fit) (assumption (mine 2)) (omega arith);
  put = is-event moments 14 (Step 1) (Ended Put) refl refl refl;
  damaged = is-event moments 15 (Lose 2 1 0) Replaced refl refl refl;
  audited = is-event moments 29 (Step 2) (Ended (Audited 1 0 counts)) refl refl refl;
  missed = is-missed;
  swept = is-event moments 37 (Step 3) (Ended (Scrubbed 1 symbols_off blocks_off)) refl refl refl;
  mark = refl;
  got = is-event moments 44 (Step 4) (Ended (Got byte)) refl refl refl;
}

-- ---- within it, the scrub

abbrev pub sweeping : List Moment
sweeping = run_of missing opened

abbrev is_scrubbing : Option Alone → Bool
is_scrubbing (Some (Scrubbing scrub)) = true
is_scrubbing alone = false

abbrev todo_in : Option Alone → List Action
todo_in (Some (Scrubbing scrub)) = scrub.todo
todo_in alone = []

scrub_in : (alone : Option Alone) → is_scrubbing alone ≡ true →
    (scrub : Scrub) × (alone ≡ Some (Scrubbing scrub))
scrub_in None h = absurd (false≢true h)
scrub_in (Some (Packing pack)) h = absurd (false≢true h)
scrub_in (Some (Scrubbing scrub)) h = (scrub, refl)

found-scrub : (scrub : Scrub) × ((now missing sweeping).alone ≡ Some (Scrubbing scrub))
unfolding setup_in actions_of
found-scrub = scrub_in (now missing sweeping).alone refl

is-todo : todo_in (now missing sweeping).alone ≡ Store 2 1 0 ∷ End ∷ []
unfolding setup_in actions_of
is-todo = refl

is-lacking : told_block (now missing sweeping) 2 1 0 ≡ Some None
unfolding setup_in actions_of
is-lacking = refl

run-sweeping : IsRun 8 missing sweeping
run-sweeping = are-run 8 missing opened fit_opened

calm-sweeping : IsScrubCalm missing sweeping
unfolding setup_in actions_of
calm-sweeping = calm sweeping run-sweeping (assumption (mine 2)) (omega arith)

pub is-sweeping : (scrub : Scrub) × IsSweeping sweeping scrub
is-sweeping = (
  found-scrub.0,
  record {
    clean = starts;
    tell = tell;
    run = run-sweeping;
    calm = calm-sweeping;
    runs = found-scrub.1;
    todo = sym (ap todo_in found-scrub.1) ∙ is-todo;
    lacks = is-lacking;
  },
)
