-- stellarsnare::stellarsnare_print meets its contract.
use Rattle.stellarsnare.proofs.Telling.{print_told, print_denied}
use Rattle.stellarsnare.proofs.stellarsnare_print.Goals as goal

pub returns-in_default : goal.returns-in_default
returns-in_default c = print_denied c.print.ensures c.in_default.ensures

pub returns : goal.returns
returns c = print_told c.print.ensures c.in-Some.ensures
