-- channel::waits::asked meets its contract.
use Rattle.std.proofs.Common.{refl, arith}
use Rattle.channel.specs.Bounds.{near_small, take_near}
use Rattle.channel.proofs.waits.asked.Goals as goal

pub most-requires : goal.most-requires
most-requires c =
    ((λ n. refl), (λ k d b. near_small _ (c.requires.0 k d b)), rw c.take.ensures (near_small _ (take_near c.args.pace _ _ c.requires.1 c.requires.2)), omega (arith, c.requires.1.step))
