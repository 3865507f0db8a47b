-- change::works_in meets its contract.
use Rattle.std.proofs.Common.{rules}
use Rattle.units.specs.Limits.{ACTORS}
use Rattle.change.specs.Work.{no_works, works_at}
use Rattle.change.specs.Running.{running_in}
use Rattle.change.proofs.Made.{made}
use Rattle.change.proofs.works_in.Goals as goal

pub returns : goal.returns
returns c =
    made _ _ (works_at (running_in c.args.front.now).actors (running_in c.args.front.now).firings (running_in c.args.front.now).starts) (λ k y q e. search rules) _ ACTORS no_works c.from_fn.ensures.items
