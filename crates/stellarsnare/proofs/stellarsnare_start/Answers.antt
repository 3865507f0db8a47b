-- stellarsnare::stellarsnare_start meets its contract.
use Rattle.stellarsnare.proofs.Telling.{start_told, start_denied}
use Rattle.stellarsnare.proofs.stellarsnare_start.Goals as goal

pub returns-in_default : goal.returns-in_default
returns-in_default c = start_denied c.start.ensures c.in_default.ensures

pub returns : goal.returns
returns c = start_told c.start.ensures c.in-Some.ensures c.three.ensures
