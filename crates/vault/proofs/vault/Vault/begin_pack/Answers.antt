use Rattle.vault.proofs.Words.{◌∙◌, refl, ap, sym, subst, other_area, WritesText, packed-folds, CoreView, Desk}
use Rattle.vault.proofs.Alone.{drawn_works}
use Rattle.vault.proofs.PackBegins.{pack-begun}
use Rattle.vault.proofs.Switching.{no-job}
use Rattle.vault.proofs.vault.Vault.begin_pack.Goals as goal

pub invariant_of-self : goal.invariant_of-self
invariant_of-self c =
    let v : Desk = c.args.self.now.desk in
    record {
      at_work = drawn_works v (record v { core = c.draw-number.new.self })
          (no-job v.core.jobs (c.in_default.ensures.free refl).0)
          c.draw-number.ensures.drawn (record { setup = refl; master = refl; shape = refl; base = refl }) refl refl
          c.args.self.now.at_work;
    }

pub returns-clause-begins : goal.returns-clause-begins
returns-clause-begins c = λ w d stands.
    let v : Desk = c.args.self.now.desk in
    let f = c.in_default.ensures.free refl in
    let drew = c.draw-number.ensures.drawn in
    let writes = c.in_ok-pack.ensures.writes in
    pack-begun v c.draw-number.new.self _ _ w d stands.desk
    (sym (c.in_default.ensures.refusal w d stands.desk))
    (record { idle = f.0; unbarred = f.1; flight = f.2 }) drew refl
    (record {
      held = refl;
      quiet = record {
        idle = ap (λ (x : CoreView). x.jobs) drew ∙ f.0;
        unbarred = ap (λ (x : CoreView). x.barred) drew ∙ f.1;
        flight = f.2;
      };
      text = λ few. record {
        writes = λ area base. subst (λ (x : CoreView). WritesText (other_area area)
            (Rattle.journal_pack.specs.Tables.packed_table x.table) c.in_ok-pack.pack) (sym drew)
            (writes area base);
        version = ap (λ (x : CoreView). x.table.version) drew ∙ f.3;
      };
    })
    c.draw-number.ensures.number (c.text_length-before.ensures w d stands.desk) c.in_ok-pack.ensures.moves
    (subst (λ (qs : _). WritesText (other_area w.area) qs c.in_ok-pack.pack)
    (packed-folds w.journal v.core.table stands.desk.core.table) (writes w.area stands.desk.base))
