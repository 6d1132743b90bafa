use Rattle.hail_top.proofs.Words.{map, refl, length-map, command_of, provider_seen}
use Rattle.command_words.specs.declared.command.Command.TheVariants as kind
use Rattle.hail_top.proofs.Answered.{answered, put-answered, put-inits}
use Rattle.hail_top.proofs.InitRuns.{inits-as}
use Rattle.hail_top.proofs.PackRuns.{packs-as, put-packs}
use Rattle.hail_top.proofs.top.answer.Goals as goal

pub returns-in-Init-clause-answers : goal.returns-in-Init-clause-answers
returns-in-Init-clause-answers g c =
    let see = provider_seen g.P.Provider in
    answered _ _ _ _ _ c.in-Init.is
    (c.set_up.ensures.answers (map see c.args.providers.now) (length-map c.args.providers.now see))

pub returns-in-Put-clause-answers : goal.returns-in-Put-clause-answers
returns-in-Put-clause-answers g c =
    answered _ _ _ _ _ c.in-Put.is (put-answered c.in-Put.name.now c.in-Put.profile
    (λ o. command_of (kind.Put c.in-Put.name o)) refl (λ p. refl) _ _ _ c.put.ensures.answers)

pub returns-in-Get-clause-answers : goal.returns-in-Get-clause-answers
returns-in-Get-clause-answers g c = answered _ _ _ _ _ c.in-Get.is (
  c.alone.ensures.answers (g.S.Source.left c.args.source.now) (g.S.Source.faults c.args.source.now),
  (refl, refl),
)

pub returns-in-Get-clause-counts : goal.returns-in-Get-clause-counts
returns-in-Get-clause-counts g c =
    c.alone.ensures.counts (g.S.Source.left c.args.source.now) (g.S.Source.faults c.args.source.now)

pub returns-in-Drop-clause-answers : goal.returns-in-Drop-clause-answers
returns-in-Drop-clause-answers g c = answered _ _ _ _ _ c.in-Drop.is (
  c.alone-in-Drop.ensures.answers (g.S.Source.left c.args.source.now) (g.S.Source.faults c.args.source.now),
  (refl, refl),
)

pub returns-in-Drop-clause-counts : goal.returns-in-Drop-clause-counts
returns-in-Drop-clause-counts g c =
    c.alone-in-Drop.ensures.counts (g.S.Source.left c.args.source.now) (g.S.Source.faults c.args.source.now)

pub returns-in-List-clause-answers : goal.returns-in-List-clause-answers
returns-in-List-clause-answers g c =
    let see = provider_seen g.P.Provider in
    answered _ _ _ _ _ c.in-List.is (
      c.list.ensures.answers (map see c.args.providers.now) (g.S.Source.left c.args.source.now)
          (g.S.Source.faults c.args.source.now) (length-map c.args.providers.now see),
      (refl, refl),
    )

pub returns-in-Audit-clause-answers : goal.returns-in-Audit-clause-answers
returns-in-Audit-clause-answers g c = answered _ _ _ _ _ c.in-Audit.is (
  c.alone-in-Audit.ensures.answers (g.S.Source.left c.args.source.now) (g.S.Source.faults c.args.source.now),
  (refl, refl),
)

pub returns-in-Audit-clause-counts : goal.returns-in-Audit-clause-counts
returns-in-Audit-clause-counts g c =
    c.alone-in-Audit.ensures.counts (g.S.Source.left c.args.source.now) (g.S.Source.faults c.args.source.now)

pub returns-in-Repair-clause-answers : goal.returns-in-Repair-clause-answers
returns-in-Repair-clause-answers g c = answered _ _ _ _ _ c.in-Repair.is (
  c.alone-in-Repair.ensures.answers (g.S.Source.left c.args.source.now) (g.S.Source.faults c.args.source.now),
  (refl, refl),
)

pub returns-in-Repair-clause-counts : goal.returns-in-Repair-clause-counts
returns-in-Repair-clause-counts g c =
    c.alone-in-Repair.ensures.counts (g.S.Source.left c.args.source.now) (g.S.Source.faults c.args.source.now)

pub returns-in-Init-clause-inits : goal.returns-in-Init-clause-inits
returns-in-Init-clause-inits g c =
    let see = provider_seen g.P.Provider in
    inits-as _ _ _ _ _ c.in-Init.is
    (c.set_up.ensures.goes_on (map see c.args.providers.now) (length-map c.args.providers.now see))

pub returns-in-Row-clause-inits : goal.returns-in-Row-clause-inits
returns-in-Row-clause-inits g c = inits-as _ _ _ _ _ c.in-Row.is tt

pub returns-in-Put-clause-inits : goal.returns-in-Put-clause-inits
returns-in-Put-clause-inits g c = inits-as _ _ _ _ _ c.in-Put.is (put-inits c.in-Put.name.now c.in-Put.profile
    (λ o. command_of (kind.Put c.in-Put.name o)) refl (λ p. refl) _ _ _)

pub returns-in-Get-clause-inits : goal.returns-in-Get-clause-inits
returns-in-Get-clause-inits g c = inits-as _ _ _ _ _ c.in-Get.is tt

pub returns-in-Drop-clause-inits : goal.returns-in-Drop-clause-inits
returns-in-Drop-clause-inits g c = inits-as _ _ _ _ _ c.in-Drop.is tt

pub returns-in-List-clause-inits : goal.returns-in-List-clause-inits
returns-in-List-clause-inits g c = inits-as _ _ _ _ _ c.in-List.is tt

pub returns-in-Audit-clause-inits : goal.returns-in-Audit-clause-inits
returns-in-Audit-clause-inits g c = inits-as _ _ _ _ _ c.in-Audit.is tt

pub returns-in-Repair-clause-inits : goal.returns-in-Repair-clause-inits
returns-in-Repair-clause-inits g c = inits-as _ _ _ _ _ c.in-Repair.is tt

pub returns-in-Upgrade-clause-answers : goal.returns-in-Upgrade-clause-answers
returns-in-Upgrade-clause-answers g c = answered _ _ _ _ _ c.in-Upgrade.is (
  c.alone-in-Upgrade.ensures.answers (g.S.Source.left c.args.source.now)
      (g.S.Source.faults c.args.source.now),
  (refl, refl),
)

pub returns-in-Upgrade-clause-counts : goal.returns-in-Upgrade-clause-counts
returns-in-Upgrade-clause-counts g c =
    c.alone-in-Upgrade.ensures.counts (g.S.Source.left c.args.source.now) (g.S.Source.faults c.args.source.now)

pub returns-in-Upgrade-clause-inits : goal.returns-in-Upgrade-clause-inits
returns-in-Upgrade-clause-inits g c = inits-as _ _ _ _ _ c.in-Upgrade.is tt

pub returns-in-Scrub-clause-answers : goal.returns-in-Scrub-clause-answers
returns-in-Scrub-clause-answers g c = answered _ _ _ _ _ c.in-Scrub.is (
  c.scrub.ensures.answers (g.S.Source.left c.args.source.now) (g.S.Source.faults c.args.source.now),
  (refl, refl),
)

pub returns-in-Scrub-clause-counts : goal.returns-in-Scrub-clause-counts
returns-in-Scrub-clause-counts g c =
    c.scrub.ensures.counts (g.S.Source.left c.args.source.now) (g.S.Source.faults c.args.source.now)

pub returns-in-Scrub-clause-inits : goal.returns-in-Scrub-clause-inits
returns-in-Scrub-clause-inits g c = inits-as _ _ _ _ _ c.in-Scrub.is tt

pub returns-in-Pack-clause-answers : goal.returns-in-Pack-clause-answers
returns-in-Pack-clause-answers g c =
    let see = provider_seen g.P.Provider in
    answered _ _ _ _ _ c.in-Pack.is (
      c.pack.ensures.answers (map see c.args.providers.now) (g.S.Source.left c.args.source.now)
          (g.S.Source.faults c.args.source.now) (length-map c.args.providers.now see),
      (refl, refl),
    )

pub returns-in-Pack-clause-inits : goal.returns-in-Pack-clause-inits
returns-in-Pack-clause-inits g c = inits-as _ _ _ _ _ c.in-Pack.is tt

pub returns-in-Row-clause-packs : goal.returns-in-Row-clause-packs
returns-in-Row-clause-packs g c = packs-as _ _ _ _ _ c.in-Row.is tt

pub returns-in-Init-clause-packs : goal.returns-in-Init-clause-packs
returns-in-Init-clause-packs g c = packs-as _ _ _ _ _ c.in-Init.is tt

pub returns-in-Get-clause-packs : goal.returns-in-Get-clause-packs
returns-in-Get-clause-packs g c = packs-as _ _ _ _ _ c.in-Get.is tt

pub returns-in-Drop-clause-packs : goal.returns-in-Drop-clause-packs
returns-in-Drop-clause-packs g c = packs-as _ _ _ _ _ c.in-Drop.is tt

pub returns-in-List-clause-packs : goal.returns-in-List-clause-packs
returns-in-List-clause-packs g c = packs-as _ _ _ _ _ c.in-List.is tt

pub returns-in-Audit-clause-packs : goal.returns-in-Audit-clause-packs
returns-in-Audit-clause-packs g c = packs-as _ _ _ _ _ c.in-Audit.is tt

pub returns-in-Repair-clause-packs : goal.returns-in-Repair-clause-packs
returns-in-Repair-clause-packs g c = packs-as _ _ _ _ _ c.in-Repair.is tt

pub returns-in-Upgrade-clause-packs : goal.returns-in-Upgrade-clause-packs
returns-in-Upgrade-clause-packs g c = packs-as _ _ _ _ _ c.in-Upgrade.is tt

pub returns-in-Scrub-clause-packs : goal.returns-in-Scrub-clause-packs
returns-in-Scrub-clause-packs g c = packs-as _ _ _ _ _ c.in-Scrub.is tt

pub returns-in-Put-clause-packs : goal.returns-in-Put-clause-packs
returns-in-Put-clause-packs g c = packs-as _ _ _ _ _ c.in-Put.is (put-packs c.in-Put.name.now c.in-Put.profile
    (λ o. command_of (kind.Put c.in-Put.name o)) refl (λ p. refl) _ _ _)

pub returns-in-Pack-clause-packs : goal.returns-in-Pack-clause-packs
returns-in-Pack-clause-packs g c =
    let see = provider_seen g.P.Provider in
    packs-as _ _ _ _ _ c.in-Pack.is
    (c.pack.ensures.around (map see c.args.providers.now) (g.S.Source.left c.args.source.now)
    (g.S.Source.faults c.args.source.now) (length-map c.args.providers.now see))
