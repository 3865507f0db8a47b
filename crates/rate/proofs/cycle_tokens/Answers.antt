-- rate::cycle_tokens meets its contract.
use Rattle.std.proofs.Common.{arith, take}
use Rattle.std.proofs.lemmas.Grind.{common_steps}
use Rattle.rate.specs.Rate.{tokens_first}
use Rattle.rate.proofs.cycle_tokens.Goals as goal

pub returns : goal.returns
returns c = grind (arith, common_steps, tokens_first (take c.args.phases c.args.rates) c.args.phases)
