-- NO SYSTEM NAME stands in the queue that a run tells of: document 02 §2, over any run from a fresh step.
use mathlib.Core.Path.{◌≡◌, sym, ap, ◌∙◌}
use mathlib.Core.Bool.{false}
use mathlib.Core.List.{List}
use Rattle.lists.specs.Lists.{some}
use Rattle.rules.specs.Steps.{Step}
use Rattle.rules.specs.Reading.{Turn, queue_read}
use Rattle.rules.specs.DemandThree.{Run, Fresh, Demand3}
use Rattle.laws.specs.SystemNames.{for_system, sound_no_system}
use Rattle.history.proofs.Demand.{demand_three}

-- of whatever meets demand 3
pub told_no_system : (us : List Turn) (t : Step) → Demand3 us t → some for_system (queue_read us) ≡ false
told_no_system us t d = ap (some for_system) (sym d.stored) ∙ sound_no_system t d.sound

pub run_no_system : (s t : Step) (us : List Turn) → Fresh s → Run s us t → some for_system (queue_read us) ≡ false
run_no_system s t us f r = told_no_system us t (demand_three s t us f r)
