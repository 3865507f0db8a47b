-- graph::balance::balances_at meets its contract.
use Rattle.tables.proofs.Stored.{proper_of}
use Rattle.graph.proofs.Flows.{flow_in, made_fits}
use Rattle.graph.proofs.balance.balances_at.Goals as goal

pub even-requires : goal.even-requires
even-requires c =
    let flow = flow_in _ (proper_of c.args.mode.now) _ c.requires.1 in
    rw c.flow_at-flow.ensures (made_fits _ _ (c.requires.0.small _) flow.made, made_fits _ _ (c.requires.0.small _) flow.taken)
