use Rattle.provider_wire.proofs.over_link.LinkProviderProvider.fetch.Goals as goal

pub returns-clause-answered : goal.returns-clause-answered
returns-clause-answered g c = c.fetch_over.ensures.answered

pub returns-clause-counts : goal.returns-clause-counts
returns-clause-counts g c = c.fetch_over.ensures.counts

pub returns-clause-link_fault : goal.returns-clause-link_fault
returns-clause-link_fault g c = c.fetch_over.ensures.link_fault
