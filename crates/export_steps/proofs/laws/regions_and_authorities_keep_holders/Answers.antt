use Rattle.export_steps.proofs.Holding.{keep_frozen, keep_holders}
use Rattle.export_steps.proofs.laws.regions_and_authorities_keep_holders.Goals as goal

pub returns-clause-holders : goal.returns-clause-holders
returns-clause-holders c = λ standing was now homes later_homes covers later_covers kept keeps leaf rank live still has. keep_holders standing was now homes later_homes covers later_covers kept keeps leaf rank live still has

pub returns-clause-frozen : goal.returns-clause-frozen
returns-clause-frozen c = λ standing was now homes later_homes covers later_covers kept leaf live still. keep_frozen standing was now homes later_homes covers later_covers kept leaf live still
