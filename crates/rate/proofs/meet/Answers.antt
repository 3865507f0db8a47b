-- rate::meet meets its contract.
use native.Mathlib.Omega.{arith}
use Rattle.numbers.specs.Euclid.{gcd_pos}
use Rattle.rate.specs.Rate.{meets_reduced}
use Rattle.rate.proofs.meet.Goals as goal

pub nonzero_div-result : goal.nonzero_div-result
nonzero_div-result c = gcd_pos c.gcd-common.ensures (omega arith)

pub nonzero_div-result-2 : goal.nonzero_div-result-2
nonzero_div-result-2 c = gcd_pos c.gcd-common.ensures (omega arith)

pub returns : goal.returns
returns c =
    let is = rw (c.tokens-tokens.ensures, c.times.ensures, c.tokens-each.ensures) at c.gcd-common.ensures in
    rw (c.tokens-each.ensures, c.tokens-tokens.ensures, c.times.ensures) (meets_reduced c.args.makers c.gcd-common.result c.args.made c.args.taken c.requires.1 is)
