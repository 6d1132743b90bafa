use Rattle.vault_open.proofs.Words.{arith, refl, SetUp, with_master, on_err}
use Rattle.vault_open.proofs.FirstRecord.{begun, goes-on, stands-with, stands-ready}
use Rattle.vault_open.proofs.preparing.append_setup.Goals as goal

pub returns-in_err-turn-clause-left : goal.returns-in_err-turn-clause-left
returns-in_err-turn-clause-left g c = λ area base_is blank.
    let s = with_master c.args.setup.now c.args.master.now.0 in
    let start = begun s area c.args.base c.new-append.result (g.D.Disk.holds c.args.disk.now) _ base_is
    c.setup_record.ensures.entry c.setup_record.ensures.in_grammar.spelled c.new-append.ensures.gate
    c.new-append.ensures.moves c.new-append.ensures.body blank in
    on_err c.from_residual.result _
    (stands-with area (SetUp s) 0 _ _ _ _ _ (omega arith) start c.in_err-turn.ensures.moves c.in_err-turn.ensures.disk)

pub returns-in_err-turn-2-clause-left : goal.returns-in_err-turn-2-clause-left
returns-in_err-turn-2-clause-left g c = λ area base_is blank.
    let s = with_master c.args.setup.now c.args.master.now.0 in
    let start = begun s area c.args.base c.new-append.result (g.D.Disk.holds c.args.disk.now) _ base_is
    c.setup_record.ensures.entry c.setup_record.ensures.in_grammar.spelled c.new-append.ensures.gate
    c.new-append.ensures.moves c.new-append.ensures.body blank in
    let first = goes-on area (SetUp s) 0 _ _ _ _ _ (omega arith) start c.in_ok-turn.ensures.moves c.in_ok-turn.ensures.disk in
    on_err c.from_residual-in_err-turn-2.result _
    (stands-with area (SetUp s) 1 _ _ _ _ _ (omega arith) first c.in_err-turn-2.ensures.moves c.in_err-turn-2.ensures.disk)

pub returns-in_err-turn-3-clause-left : goal.returns-in_err-turn-3-clause-left
returns-in_err-turn-3-clause-left g c = λ area base_is blank.
    let s = with_master c.args.setup.now c.args.master.now.0 in
    let start = begun s area c.args.base c.new-append.result (g.D.Disk.holds c.args.disk.now) _ base_is
    c.setup_record.ensures.entry c.setup_record.ensures.in_grammar.spelled c.new-append.ensures.gate
    c.new-append.ensures.moves c.new-append.ensures.body blank in
    let first = goes-on area (SetUp s) 0 _ _ _ _ _ (omega arith) start c.in_ok-turn.ensures.moves c.in_ok-turn.ensures.disk in
    let second = goes-on area (SetUp s) 1 _ _ _ _ _ (omega arith) first c.in_ok-turn-2.ensures.moves c.in_ok-turn-2.ensures.disk in
    on_err c.from_residual-in_err-turn-3.result _
    (stands-with area (SetUp s) 2 _ _ _ _ _ (omega arith) second c.in_err-turn-3.ensures.moves c.in_err-turn-3.ensures.disk)

pub returns-in_err-turn-4-clause-left : goal.returns-in_err-turn-4-clause-left
returns-in_err-turn-4-clause-left g c = λ area base_is blank.
    let s = with_master c.args.setup.now c.args.master.now.0 in
    let start = begun s area c.args.base c.new-append.result (g.D.Disk.holds c.args.disk.now) _ base_is
    c.setup_record.ensures.entry c.setup_record.ensures.in_grammar.spelled c.new-append.ensures.gate
    c.new-append.ensures.moves c.new-append.ensures.body blank in
    let first = goes-on area (SetUp s) 0 _ _ _ _ _ (omega arith) start c.in_ok-turn.ensures.moves c.in_ok-turn.ensures.disk in
    let second = goes-on area (SetUp s) 1 _ _ _ _ _ (omega arith) first c.in_ok-turn-2.ensures.moves c.in_ok-turn-2.ensures.disk in
    let third = goes-on area (SetUp s) 2 _ _ _ _ _ (omega arith) second c.in_ok-turn-3.ensures.moves c.in_ok-turn-3.ensures.disk in
    on_err c.from_residual-in_err-turn-4.result _
    (stands-with area (SetUp s) 3 _ _ _ _ _ (omega arith) third c.in_err-turn-4.ensures.moves c.in_err-turn-4.ensures.disk)

pub returns-clause-ready : goal.returns-clause-ready
returns-clause-ready g c = λ area base_is blank.
    let s = with_master c.args.setup.now c.args.master.now.0 in
    let start = begun s area c.args.base c.new-append.result (g.D.Disk.holds c.args.disk.now) _ base_is
    c.setup_record.ensures.entry c.setup_record.ensures.in_grammar.spelled c.new-append.ensures.gate
    c.new-append.ensures.moves c.new-append.ensures.body blank in
    let first = goes-on area (SetUp s) 0 _ _ _ _ _ (omega arith) start c.in_ok-turn.ensures.moves c.in_ok-turn.ensures.disk in
    let second = goes-on area (SetUp s) 1 _ _ _ _ _ (omega arith) first c.in_ok-turn-2.ensures.moves c.in_ok-turn-2.ensures.disk in
    let third = goes-on area (SetUp s) 2 _ _ _ _ _ (omega arith) second c.in_ok-turn-3.ensures.moves c.in_ok-turn-3.ensures.disk in
    stands-ready area (SetUp s) 3 _ _ _ _ _ (omega arith) third c.in_ok-turn-4.ensures.moves c.in_ok-turn-4.ensures.disk refl
