-- planner::modes::plan_modes meets its contract. The invariant: the modes below m are planned.
use Rattle.std.proofs.lemmas.Result.{err_from_is_err_and}
use mathlib.Core.Path.{ap, ◌∙◌}
use native.Mathlib.Omega.{arith}
use lib.ListN.{length}
use Rattle.tables.specs.Memory.{table_in}
use Rattle.planner.proofs.Coming.{coming_none, coming_fresh, coming_next, coming_refused, coming_all, channels_long}
use Rattle.planner.proofs.modes.plan_modes.Goals as goal

pub loop-m-init : goal.loop-m-init
loop-m-init c =
    let t = table_in c.args.fronts.now c.args.channels.now in let none = coming_none t _ _ _ c.requires in
    (none.fronts_long, ap length c.requires.channels_are ∙ channels_long t, none.carried_long, none)

pub plan_into-requires : goal.plan_into-requires
plan_into-requires c =
    let l = c.loop-m in coming_fresh (table_in c.args.fronts.now c.args.channels.now) c.args.channels.now c.requires.proper c.requires.channels_are l.m (omega arith) l.fronts l.carried l.invariant.3

pub returns-in_err-plan_into : goal.returns-in_err-plan_into
returns-in_err-plan_into c =
    let l = c.loop-m in let i = c.plan_into in
    let p = err_from_is_err_and c.from_residual.result c.from_residual.ensures.1 in rw (p.1, p.2)
    (coming_refused (table_in c.args.fronts.now c.args.channels.now) c.args.channels.now c.requires.proper c.requires.channels_are l.m (omega arith) l.fronts l.carried l.invariant.3 _ _ i.new.front i.new.carried
    c.number_of.ensures c.in_err-plan_into.ensures)

pub loop-m-preserved : goal.loop-m-preserved
loop-m-preserved c =
    let l = c.loop-m in let i = c.plan_into in (
      l.invariant.0,
      l.invariant.1,
      l.invariant.2,
      coming_next (table_in c.args.fronts.now c.args.channels.now) c.args.channels.now c.requires.proper c.requires.channels_are l.m (omega arith) l.fronts l.carried l.invariant.3 _ i.new.front i.new.carried
          c.number_of.ensures c.in_ok-plan_into.ensures,
    )

pub returns : goal.returns
returns c = coming_all _ _ _ _ c.loop-m.m (omega arith) c.loop-m.invariant.3
