-- graph::judge meets its contract.
use mathlib.Core.Path.{◌≡◌, sym, ◌∙◌}
use Rattle.tables.specs.Stored.{mode_of}
use Rattle.tables.proofs.Stored.{proper_of}
use Rattle.graph.specs.Order.{Ranked}
use Rattle.graph.specs.Ends.{Ends}
use Rattle.std.proofs.lemmas.Result.{err_from_is_err_and}
use Rattle.graph.specs.Rounds.{only_of}
use Rattle.graph.specs.Judged.{cyclic, no_ends}
use Rattle.graph.proofs.Sorted.{sorted, order_ranked, order_cyclic, order_acyclic}
use Rattle.graph.proofs.Bounds.{firsts, lasts, source_found, sink_found, source_none, sink_none}
use Rattle.graph.proofs.Refused.{refused}
use Rattle.graph.proofs.Judging.{balanced_judged}
use Rattle.graph.proofs.judge.Goals.{After-order_of-order, After-only, After-only-2, In_ok-sink}
use Rattle.graph.proofs.judge.Goals as goal

-- what the calls gave, by the mode
order : (c : After-order_of-order) → c.order_of-order.result ≡ sorted (mode_of c.args.mode.now)
order c = rw (c.order_of-order.ensures, c.preds_of-preds.ensures, c.active-active.ensures)

none_left : (c : After-order_of-order) → c.order_of-order.result.left ≡ 0 → (sorted (mode_of c.args.mode.now)).left ≡ 0
none_left c e = rw (← order c) e

source : (c : After-only) → c.only.result ≡ only_of (firsts (mode_of c.args.mode.now))
source c = rw (c.only.ensures, c.firsts.ensures, c.preds_of-preds.ensures, c.active-active.ensures)

sink : (c : After-only-2) → c.only-2.result ≡ only_of (lasts (mode_of c.args.mode.now))
sink c = rw (c.only-2.ensures, c.lasts.ensures, c.preds_of-preds.ensures, c.active-active.ensures)

pub returns-then-order-ne0 : goal.returns-then-order-ne0
returns-then-order-ne0 c =
    let is = order (goal.at.returns-then-order-ne0 c).After-order_of-order in
    cyclic (order_cyclic _ (proper_of c.args.mode.now) (rw is at c.if-order-ne0.true))

pub returns-in_err-source : goal.returns-in_err-source
returns-in_err-source c =
    let h = goal.at.returns-in_err-source c in let none = c.in_err-source.ensures in
    let p = err_from_is_err_and c.from_residual.result c.from_residual.ensures.1 in
    rw (p.1, p.2, refused _ _ _ none.ok_part none.value)
    (no_ends (order_acyclic _ (proper_of c.args.mode.now) (none_left h.After-order_of-order c.if-order-ne0.false)) (source_none _ (proper_of c.args.mode.now) (sym (source h.After-only) ∙ none.ok_part)))

pub returns-in_err-sink : goal.returns-in_err-sink
returns-in_err-sink c =
    let h = goal.at.returns-in_err-sink c in let none = c.in_err-sink.ensures in
    let p = err_from_is_err_and c.from_residual-in_err-sink.result c.from_residual-in_err-sink.ensures.1 in
    rw (p.1, p.2, refused _ _ _ none.ok_part none.value)
    (no_ends (order_acyclic _ (proper_of c.args.mode.now) (none_left h.After-order_of-order c.if-order-ne0.false)) (sink_none _ (proper_of c.args.mode.now) (sym (sink h.After-only-2) ∙ none.ok_part)))

-- the depths and the ends that are found
ranked : (c : After-order_of-order) → c.order_of-order.result.left ≡ 0 → Ranked (mode_of c.args.mode.now) c.order_of-order.result.depths
ranked c e = rw (order c) (order_ranked _ (proper_of c.args.mode.now) (none_left c e))

ends : (c : In_ok-sink) → Ends (mode_of c.args.mode.now) c.in_ok-source.source c.in_ok-sink.sink
ends c = (
  source_found _ (proper_of c.args.mode.now) _ (rw (c.only.ensures, c.firsts.ensures, c.preds_of-preds.ensures, c.active-active.ensures) at c.in_ok-source.ensures.ok_part),
  sink_found _ (proper_of c.args.mode.now) _ (rw (c.only-2.ensures, c.lasts.ensures, c.preds_of-preds.ensures, c.active-active.ensures) at c.in_ok-sink.ensures.ok_part),
)

pub balanced-requires : goal.balanced-requires
balanced-requires c =
    let h = goal.at.balanced-requires c in
    (ranked h.After-order_of-order c.if-order-ne0.false, ends h.In_ok-sink)

pub returns : goal.returns
returns c =
    let h = goal.at.returns c in
    rw c.balanced.ensures (balanced_judged _ (proper_of c.args.mode.now) _ (ranked h.After-order_of-order c.if-order-ne0.false) _ _ (ends h.In_ok-sink))
