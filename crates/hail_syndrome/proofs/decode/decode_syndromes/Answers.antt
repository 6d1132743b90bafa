use Rattle.hail_syndrome.proofs.Words.{◌-◌, ap, sym, subst, List, ℕ, length, arith, length-map-range_with_len, Apart, nim, nim_laws, sound_points, sound_values, syndrome, syndromes_of}
use Rattle.hail_poly.specs.Registers.{Registers}
use Rattle.hail_poly.proofs.KeySteps.{key_loaded}
use Rattle.hail_syndrome.proofs.Decide.{many, apart_chosen, too_few, is_enough, front_is, made_of}
use Rattle.hail_syndrome.proofs.SoundPlaces.{length-sound_values}
use Rattle.hail_syndrome.proofs.decode.decode_syndromes.Goals as goal

pub euclid-requires : goal.euclid-requires
euclid-requires c =
    let m : ℕ = length c.args.points.now - c.args.keep in
    key_loaded (syndromes_of c.args.points.now c.args.values.now m) m c.args.work.now.size
    c.load_syndromes.new.work
    (omega (arith, length-map-range_with_len (syndrome c.args.points.now c.args.values.now) 0 m))
    c.load_syndromes.ensures

pub load-requires-clause-apart : goal.load-requires-clause-apart
load-requires-clause-apart c =
    let f = c.euclid.new.self.factor in
    let row = rw c.load_syndromes.ensures at c.euclid.ensures.row in
    let combination = rw c.load_syndromes.ensures at c.euclid.ensures.combination in
    let enough = many c.args.points.now c.args.values.now c.requires.even c.requires.apart c.args.keep
    c.args.fix c.requires.keep c.requires.enough c.euclid.new.self.rest f row combination in
    subst (λ (p : List ℕ). Apart p)
    (sym (front_is c.gather.new.sound (sound_points nim f c.args.points.now) c.gather.result c.args.keep
    c.gather.ensures.points enough))
    (apart_chosen c.args.points.now c.args.values.now c.requires.even c.requires.apart c.args.keep c.args.fix
    c.requires.keep c.requires.enough c.euclid.new.self.rest f row combination)

pub returns-then-agreements-fix-clause-decoded : goal.returns-then-agreements-fix-clause-decoded
returns-then-agreements-fix-clause-decoded c =
    let f = c.euclid.new.self.factor in
    let row = rw c.load_syndromes.ensures at c.euclid.ensures.row in
    let combination = rw c.load_syndromes.ensures at c.euclid.ensures.combination in
    let enough = many c.args.points.now c.args.values.now c.requires.even c.requires.apart c.args.keep
    c.args.fix c.requires.keep c.requires.enough c.euclid.new.self.rest f row combination in
    too_few c.args.points.now c.args.values.now c.requires.even c.requires.apart c.args.keep c.args.fix
    c.requires.keep c.requires.enough c.euclid.new.self.rest f row combination
    c.load.new.self.rest
    (made_of c.args.keep c.gather.result c.gather.result (sound_points nim f c.args.points.now)
    (sound_values nim f c.args.points.now c.args.values.now) c.gather.new.sound c.gather.new.seen
    c.load.new.self.rest c.gather.ensures.points c.gather.ensures.values enough
    (length-sound_values nim nim_laws f c.args.points.now c.args.values.now c.requires.even)
    (ap (λ (r : Registers). r.rest) c.load.ensures))
    (rw (c.agreements.ensures.count, c.rest.ensures.is) at c.if-agreements-fix.true)

pub returns-clause-decoded : goal.returns-clause-decoded
returns-clause-decoded c =
    let f = c.euclid.new.self.factor in
    let row = rw c.load_syndromes.ensures at c.euclid.ensures.row in
    let combination = rw c.load_syndromes.ensures at c.euclid.ensures.combination in
    let enough = many c.args.points.now c.args.values.now c.requires.even c.requires.apart c.args.keep
    c.args.fix c.requires.keep c.requires.enough c.euclid.new.self.rest f row combination in
    is_enough c.args.points.now c.args.values.now c.requires.even c.requires.apart c.args.keep c.args.fix
    c.requires.keep c.requires.enough c.euclid.new.self.rest f row combination
    c.load.new.self.rest
    (made_of c.args.keep c.gather.result c.gather.result (sound_points nim f c.args.points.now)
    (sound_values nim f c.args.points.now c.args.values.now) c.gather.new.sound c.gather.new.seen
    c.load.new.self.rest c.gather.ensures.points c.gather.ensures.values enough
    (length-sound_values nim nim_laws f c.args.points.now c.args.values.now c.requires.even)
    (ap (λ (r : Registers). r.rest) c.load.ensures))
    (rw (c.agreements.ensures.count, c.rest.ensures.is) at c.if-agreements-fix.false)
