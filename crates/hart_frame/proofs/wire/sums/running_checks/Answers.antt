use Rattle.hart_frame.proofs.Common.{refl}
use Rattle.hart_frame.specs.declared.wire.sums.TheConstants.{EIGHT_ON, FOUR_ON, ONE_ON, TWO_ON}
use Rattle.hart_frame.proofs.lemmas.wire.Sums.{fits_lanes, running_checks, sums_last_all}
use Rattle.hart_frame.proofs.wire.sums.running_checks.Goals as goal

pub returns-clause-len : goal.returns-clause-len
returns-clause-len c =
    (sums_last_all c.args.lanes c.fits-lanes.0 ONE_ON TWO_ON FOUR_ON EIGHT_ON refl refl refl refl refl refl refl refl).long

pub returns-clause-checks : goal.returns-clause-checks
returns-clause-checks c =
    running_checks c.args.lanes _
    (sums_last_all c.args.lanes c.fits-lanes.0 ONE_ON TWO_ON FOUR_ON EIGHT_ON refl refl refl refl refl refl refl refl)
    (fits_lanes c.args.lanes c.fits-lanes.1)
