-- DEMAND 3, of every run from a fresh step.
use Rattle.rules.specs.DemandThree.{DemandThree}
use Rattle.history.proofs.Runs.{run_keeps}
use Rattle.history.proofs.Conclude.{conclude}

pub demand_three : DemandThree
demand_three s t us f r =
    let k = run_keeps f r in
    conclude us t k.0 k.1
