-- graph::timed meets its contract.
use mathlib.Core.Path.{◌≡◌, sym, ◌∙◌}
use Rattle.std.specs.Prelude.{Option}
use Rattle.std.proofs.lemmas.Result.{err_from_is_err_and}
use Rattle.units.specs.declared.Tick.{Tick}
use Rattle.tables.specs.Stored.{mode_of}
use Rattle.tables.proofs.Stored.{proper_of}
use Rattle.graph.specs.Laws.{iteration_pos}
use Rattle.graph.specs.Judge.{lasting, timed_of}
use Rattle.graph.proofs.Refused.{refused}
use Rattle.graph.proofs.Lasting.{actors_fitting, firings_few, works_light, firings_fire, length_is}
use Rattle.graph.proofs.timed.Goals.{After-length_of}
use Rattle.graph.proofs.timed.Goals as goal

-- the model by the length that was found
by_length : (c : After-length_of) (r : Option Tick) → c.length_of.result ≡ r
    → timed_of (mode_of c.args.mode.now) c.args.depths c.args.source c.args.sink c.args.counts
    ≡ lasting (mode_of c.args.mode.now) c.args.depths c.args.source c.args.sink c.firings_of-firings.result c.works_of-works.result r
unfolding timed_of
by_length c r e = rw (← e, c.length_of.ensures, c.works_of-works.ensures, c.firings_of-firings.ensures, c.actors_of-actors.ensures, c.active-active.ensures)

pub returns-in_err-iteration : goal.returns-in_err-iteration
returns-in_err-iteration c =
    let none = c.in_err-iteration.ensures in
    let p = err_from_is_err_and c.from_residual.result c.from_residual.ensures.1 in
    rw (p.1, p.2, refused _ _ _ none.ok_part none.value) (sym (by_length (goal.at.returns-in_err-iteration c).After-length_of _ none.ok_part))

pub returns-in-Some : goal.returns-in-Some
returns-in-Some c =
    sym (by_length (goal.at.returns-in-Some c).After-length_of _ c.in_ok-iteration.ensures.ok_part
    ∙ rw (← c.actors_of-actors.ensures, ← c.shares_of-shares.ensures, ← c.in-Some.ensures))

pub returns : goal.returns
returns c =
    rw c.periods_of.ensures
    (sym (by_length (goal.at.returns c).After-length_of _ c.in_ok-iteration.ensures.ok_part
    ∙ rw (← c.actors_of-actors.ensures, ← c.shares_of-shares.ensures, ← c.in_default.ensures, c.active-active.ensures)))

pub firings_of-firings-requires : goal.firings_of-firings-requires
firings_of-firings-requires c = (rw c.actors_of-actors.ensures (actors_fitting _ (proper_of c.args.mode.now)), c.requires.0.small)

pub works_of-works-requires : goal.works_of-works-requires
works_of-works-requires c =
    rw (c.firings_of-firings.ensures, c.actors_of-actors.ensures) (actors_fitting _ (proper_of c.args.mode.now), firings_few _ (proper_of c.args.mode.now) _ c.requires.0)

pub length_of-requires : goal.length_of-requires
length_of-requires c =
    rw (c.firings_of-firings.ensures, c.actors_of-actors.ensures, c.active-active.ensures) (firings_fire _ (proper_of c.args.mode.now) _ c.requires.0)

pub shares_of-shares-requires : goal.shares_of-shares-requires
shares_of-shares-requires c =
    rw (c.works_of-works.ensures, c.firings_of-firings.ensures, c.actors_of-actors.ensures)
    (actors_fitting _ (proper_of c.args.mode.now), works_light _ (proper_of c.args.mode.now) _ c.requires.0)

pub overloaded-requires : goal.overloaded-requires
overloaded-requires c =
    let (counted, active) = c.requires in let proper = proper_of c.args.mode.now in
    let is = rw (c.length_of.ensures, c.works_of-works.ensures, c.firings_of-firings.ensures, c.actors_of-actors.ensures, c.active-active.ensures) at c.in_ok-iteration.ensures.ok_part in
    iteration_pos _ proper _ counted.some (length_is _ proper _ counted (c.args.source, active) _ is).0

pub periods_of-requires : goal.periods_of-requires
periods_of-requires c =
    rw (c.firings_of-firings.ensures, c.actors_of-actors.ensures, c.active-active.ensures) (firings_fire _ (proper_of c.args.mode.now) _ c.requires.0)
