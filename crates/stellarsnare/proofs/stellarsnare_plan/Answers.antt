-- stellarsnare::stellarsnare_plan meets its contract.
use Rattle.stellarsnare.proofs.Telling.{plan_told}
use Rattle.stellarsnare.proofs.stellarsnare_plan.Goals as goal

pub returns : goal.returns
returns c = rw c.is_some.ensures (plan_told c.plan.result c.told.result c.plan.ensures c.told.ensures)
