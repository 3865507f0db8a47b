-- machine::modes::lowest meets its contract.
use mathlib.Core.Path.{◌≡◌}
use mathlib.Core.Bool.{true, false}
use Rattle.std.proofs.Common.{rules}
use Rattle.std.proofs.lemmas.Iterator.{first_from_Range}
use Rattle.planner.proofs.Leaving.{leaves_proper}
use Rattle.machine.specs.Plan.{is_listed}
use Rattle.machine.proofs.Steps.{lowest_found, paced_listed}
use Rattle.machine.proofs.modes.lowest.Goals as goal

pub returns : goal.returns
returns c = λ t w l.
    lowest_found t (leaves_proper l) c.find.result
    (first_from_Range _ _ _ _ (λ i. is_listed t i ≡ true) (λ i. is_listed t i ≡ false) c.find.ensures.ran
    (λ x q k. paced_listed l x true (search rules)) (λ x q k. (search rules, paced_listed l x false (search rules))))
