use Rattle.vault.proofs.Words.{◌-◌, ◌++◌, ◌∷◌, [], refl, sym, ap, subst, ◌≡◌, None, IsSome, spelling, Desk, place_in, wants_in}
use Rattle.vault_core.specs.declared.reply.Reply.TheVariants as reply
use Rattle.vault.specs.declared.flight.Moved.TheVariants as moved
use Rattle.vault.specs.declared.turn.Answer.TheVariants as answer
use Rattle.vault.proofs.AtWork.{place_there}
use Rattle.vault.proofs.Untold.{goes_by, move_by, leaves_told}
use Rattle.vault.proofs.AppendMoves.{append_goes_on, append_done, append_failed, append_unwritten, gave_away, fed_away}
use Rattle.vault.proofs.MovedCells.{append_of, cells_on, cells_torn, cells_stopped}
use Rattle.vault.proofs.Replies.{move_replies}
use Rattle.vault.proofs.Called.{fed-acted, stopped-acted}
use Rattle.vault.proofs.desk.Desk.move_append.Goals as goal

pub stop-requires-clause-there : goal.stop-requires-clause-there
stop-requires-clause-there g c =
    subst (λ (v : Desk). IsSome (place_in v.jobs.items c.args.job)) (sym c.take_flight.ensures.rest)
    (place_there c.args.self.now c.args.job _ c.requires.next.comes c.requires.at_work)

pub stop-requires-in-Memory-clause-there : goal.stop-requires-in-Memory-clause-there
stop-requires-in-Memory-clause-there g c =
    subst (λ (v : Desk). IsSome (place_in v.jobs.items c.args.job)) (sym c.take_flight.ensures.rest)
    (place_there c.args.self.now c.args.job _ c.requires.next.comes c.requires.at_work)

pub returns-in-On-clause-machine : goal.returns-in-On-clause-machine
returns-in-On-clause-machine g c = λ w moment providers is_told stands.
    let keeps = gave_away c.args.self.now c.take_flight.new.self c.take_flight.ensures.rest in
    append_goes_on c.args.self.now w _ _ _ _ moment c.args.job providers stands c.take_flight.result
    c.requires.next.action c.requires.next.comes c.requires.next.moves
    (c.take_flight.ensures.is w _ _ providers c.requires.next.action stands c.requires.next.comes) _ _
    (move_by is_told c.take_flight.result.append (g.D.Disk.holds c.args.disk.now) (moved.On c.in-On.flight)
    (g.D.Disk.holds c.turn.new.disk) c.in-On.ensures.made)
    (goes_by is_told _ _ _ c.turn.ensures.beyond) c.in-On.ensures.cause refl
    (ap (λ (v : Desk). v.jobs.items) c.take_flight.ensures.rest)
    (record { setup = keeps.setup; master = keeps.master; shape = keeps.shape; base = keeps.base })
    (fed_away c.args.self.now c.take_flight.new.self c.args.job reply.Done _ c.take_flight.ensures.rest
    (record {
      step = c.feed.ensures.step;
      streams = record { setup = c.feed.ensures.setup; none = c.feed.ensures.streams; told = c.feed.ensures.told };
    }))

pub returns-in-Done-clause-machine : goal.returns-in-Done-clause-machine
returns-in-Done-clause-machine g c = λ w moment providers is_told stands.
    let keeps = gave_away c.args.self.now c.take_flight.new.self c.take_flight.ensures.rest in
    append_done c.args.self.now w _ _ _ _ moment c.args.job providers stands c.take_flight.result
    c.requires.next.action c.requires.next.comes c.requires.next.moves
    (c.take_flight.ensures.is w _ _ providers c.requires.next.action stands c.requires.next.comes) _
    (move_by is_told c.take_flight.result.append (g.D.Disk.holds c.args.disk.now) moved.Done
    (g.D.Disk.holds c.turn.new.disk) c.in-Done.ensures.made)
    (goes_by is_told _ _ _ c.turn.ensures.beyond) c.in-Done.ensures.cause
    (ap (λ (v : Desk). v.flight) c.take_flight.ensures.rest)
    (ap (λ (v : Desk). v.jobs.items) c.take_flight.ensures.rest)
    (record { setup = keeps.setup; master = keeps.master; shape = keeps.shape; base = keeps.base })
    (fed_away c.args.self.now c.take_flight.new.self c.args.job reply.Done _ c.take_flight.ensures.rest
    (record {
      step = c.feed-in-Done.ensures.step;
      streams = record { setup = c.feed-in-Done.ensures.setup; none = c.feed-in-Done.ensures.streams; told = c.feed-in-Done.ensures.told };
    }))

pub returns-in-Failed-clause-machine : goal.returns-in-Failed-clause-machine
returns-in-Failed-clause-machine g c = λ w moment providers is_told stands. append_failed c.args.self.now w _
    _ _ _ moment c.args.job providers stands c.take_flight.result c.requires.next.action c.requires.next.comes
    c.requires.next.moves (c.take_flight.ensures.is w _ _ providers c.requires.next.action stands
    c.requires.next.comes) _ _ _ (move_by is_told c.take_flight.result.append (g.D.Disk.holds c.args.disk.now)
    moved.Failed (g.D.Disk.holds c.turn.new.disk) c.in-Failed.ensures.made)
    (goes_by is_told _ _ _ c.turn.ensures.beyond) c.in-Failed.ensures.cause
    (ap (λ v. v.core) c.take_flight.ensures.rest) (ap (λ v. v.jobs.items) c.take_flight.ensures.rest)
    (gave_away c.args.self.now c.take_flight.new.self c.take_flight.ensures.rest) c.stop.ensures.stopped

pub returns-in-Memory-clause-machine : goal.returns-in-Memory-clause-machine
returns-in-Memory-clause-machine g c = λ w moment providers is_told stands. append_unwritten c.args.self.now w
    _ _ _ _ moment c.args.job providers stands c.take_flight.result c.requires.next.action
    c.requires.next.comes c.requires.next.moves (c.take_flight.ensures.is w _ _ providers
    c.requires.next.action stands c.requires.next.comes) _ _ _ (move_by is_told c.take_flight.result.append
    (g.D.Disk.holds c.args.disk.now) moved.Memory (g.D.Disk.holds c.turn.new.disk) c.in-Memory.ensures.made)
    (c.in-Memory.ensures.no_fault refl) (ap (λ (v : Desk). v.core) c.take_flight.ensures.rest)
    (ap (λ (v : Desk). v.jobs.items) c.take_flight.ensures.rest)
    (ap (λ (v : Desk). v.flight) c.take_flight.ensures.rest) (gave_away c.args.self.now c.take_flight.new.self
    c.take_flight.ensures.rest) c.stop-in-Memory.ensures.stopped

pub returns-in-On-clause-cells : goal.returns-in-On-clause-cells
returns-in-On-clause-cells g c = λ w entry providers stands given. cells_on c.args.self.now _ entry _ _ _
    (append_of c.args.self.now w _ _ c.args.job providers stands c.requires.next.action c.requires.next.comes
    c.take_flight.result (c.take_flight.ensures.is w _ _ providers c.requires.next.action stands
    c.requires.next.comes) entry given) c.in-On.ensures.made.disk.does

pub returns-in-Done-clause-cells : goal.returns-in-Done-clause-cells
returns-in-Done-clause-cells g c = λ w entry providers stands given. cells_on c.args.self.now _ entry _ _ _
    (append_of c.args.self.now w _ _ c.args.job providers stands c.requires.next.action c.requires.next.comes
    c.take_flight.result (c.take_flight.ensures.is w _ _ providers c.requires.next.action stands
    c.requires.next.comes) entry given) c.in-Done.ensures.made.1.disk.does

pub returns-in-Failed-clause-cells : goal.returns-in-Failed-clause-cells
returns-in-Failed-clause-cells g c = λ w entry providers stands given. cells_stopped _ c.stop.new.self
    c.args.job _ (c.args.self.now.core.end - 1) (spelling entry ++ 0 ∷ []) reply.Failed answer.DiskFault
    c.stop.result (g.D.Disk.holds c.args.disk.now) (g.D.Disk.holds c.turn.new.disk) c.stop.ensures.stopped
    (cells_torn c.args.self.now _ entry _ _ _ (append_of c.args.self.now w _ _ c.args.job providers stands
    c.requires.next.action c.requires.next.comes c.take_flight.result
    (c.take_flight.ensures.is w _ _ providers c.requires.next.action stands c.requires.next.comes) entry
    given) (c.in-Failed.ensures.made.1.disk.torn refl))

pub returns-in-Memory-clause-cells : goal.returns-in-Memory-clause-cells
returns-in-Memory-clause-cells g c = λ w entry providers stands given.
    cells_stopped _ c.stop-in-Memory.new.self c.args.job _ (c.args.self.now.core.end - 1)
    (spelling entry ++ 0 ∷ []) reply.Memory answer.Memory c.stop-in-Memory.result
    (g.D.Disk.holds c.args.disk.now) (g.D.Disk.holds c.turn.new.disk) c.stop-in-Memory.ensures.stopped
    (c.in-Memory.ensures.made.1.disk.memory refl)

pub feed-requires-clause-reply : goal.feed-requires-clause-reply
feed-requires-clause-reply g c = (move_replies c.args.self.now c.take_flight.new.self c.args.job
    c.take_flight.ensures.rest c.requires.next).done

pub feed-requires-in-Done-clause-reply : goal.feed-requires-in-Done-clause-reply
feed-requires-in-Done-clause-reply g c = (move_replies c.args.self.now c.take_flight.new.self c.args.job
    c.take_flight.ensures.rest c.requires.next).done

pub stop-requires-clause-reply : goal.stop-requires-clause-reply
stop-requires-clause-reply g c = (move_replies c.args.self.now c.take_flight.new.self c.args.job
    c.take_flight.ensures.rest c.requires.next).failed

pub stop-requires-in-Memory-clause-reply : goal.stop-requires-in-Memory-clause-reply
stop-requires-in-Memory-clause-reply g c = (move_replies c.args.self.now c.take_flight.new.self c.args.job
    c.take_flight.ensures.rest c.requires.next).memory

pub returns-in-On-clause-tells : goal.returns-in-On-clause-tells
returns-in-On-clause-tells g c = leaves_told _ _ _ _ _ _ c.in-On.ensures.made.disk

pub returns-in-On-clause-called : goal.returns-in-On-clause-called
returns-in-On-clause-called g c = c.turn.ensures.called

pub returns-in-Done-clause-tells : goal.returns-in-Done-clause-tells
returns-in-Done-clause-tells g c = leaves_told _ _ _ _ _ _ c.in-Done.ensures.made.1.disk

pub returns-in-Done-clause-called : goal.returns-in-Done-clause-called
returns-in-Done-clause-called g c = c.turn.ensures.called

pub returns-in-Failed-clause-tells : goal.returns-in-Failed-clause-tells
returns-in-Failed-clause-tells g c = leaves_told _ _ _ _ _ _ c.in-Failed.ensures.made.1.disk

pub returns-in-Failed-clause-called : goal.returns-in-Failed-clause-called
returns-in-Failed-clause-called g c = c.turn.ensures.called

pub returns-in-Memory-clause-tells : goal.returns-in-Memory-clause-tells
returns-in-Memory-clause-tells g c = leaves_told _ _ _ _ _ _ c.in-Memory.ensures.made.1.disk

pub returns-in-Memory-clause-called : goal.returns-in-Memory-clause-called
returns-in-Memory-clause-called g c = c.turn.ensures.called

pub feed-requires-clause-given : goal.feed-requires-clause-given
feed-requires-clause-given g c = subst (λ (v : Desk). wants_in v.core c.args.job ≡ None)
    (sym c.take_flight.ensures.rest) c.requires.next.comes.wants

pub feed-requires-in-Done-clause-given : goal.feed-requires-in-Done-clause-given
feed-requires-in-Done-clause-given g c = subst (λ (v : Desk). wants_in v.core c.args.job ≡ None)
    (sym c.take_flight.ensures.rest) c.requires.next.comes.wants

pub stop-requires-clause-given : goal.stop-requires-clause-given
stop-requires-clause-given g c = subst (λ (v : Desk). wants_in v.core c.args.job ≡ None)
    (sym c.take_flight.ensures.rest) c.requires.next.comes.wants

pub stop-requires-in-Memory-clause-given : goal.stop-requires-in-Memory-clause-given
stop-requires-in-Memory-clause-given g c = subst (λ (v : Desk). wants_in v.core c.args.job ≡ None)
    (sym c.take_flight.ensures.rest) c.requires.next.comes.wants

pub returns-in-On-clause-acted : goal.returns-in-On-clause-acted
returns-in-On-clause-acted g c =
    fed-acted c.args.self.now c.take_flight.new.self c.args.job _ c.take_flight.ensures.rest c.feed.ensures.falls
    (record { setup = c.feed.ensures.setup; none = c.feed.ensures.streams; told = c.feed.ensures.told })

pub returns-in-Done-clause-acted : goal.returns-in-Done-clause-acted
returns-in-Done-clause-acted g c =
    fed-acted c.args.self.now c.take_flight.new.self c.args.job _ c.take_flight.ensures.rest c.feed-in-Done.ensures.falls
    (record { setup = c.feed-in-Done.ensures.setup; none = c.feed-in-Done.ensures.streams; told = c.feed-in-Done.ensures.told })

pub returns-in-Failed-clause-acted : goal.returns-in-Failed-clause-acted
returns-in-Failed-clause-acted g c =
    rw c.take_flight.ensures.rest at (stopped-acted _ _ _ _ _ _ c.stop.ensures.stopped tt)

pub returns-in-Memory-clause-acted : goal.returns-in-Memory-clause-acted
returns-in-Memory-clause-acted g c =
    rw c.take_flight.ensures.rest at (stopped-acted _ _ _ _ _ _ c.stop-in-Memory.ensures.stopped tt)
