-- arguments::sign_in meets its contract.
use Rattle.std.proofs.Common.{rules, tests, eqb}
use Rattle.std.proofs.lemmas.Iterator.{YieldsList-from_slice}
use Rattle.std.proofs.lemmas.Iterator.Search.{position_from_yields_List}
use Rattle.arguments.proofs.sign_in.Goals as goal

pub returns : goal.returns
returns c =
    position_from_yields_List (λ b. eqb b c.args.sign) _ _ _ c.position.ensures.ran (YieldsList-from_slice c.args.bytes.now c.iter.ensures.rest) (λ x b q k. search (rules, tests))
