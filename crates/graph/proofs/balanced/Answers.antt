-- graph::balanced meets its contract.
use mathlib.Core.Path.{◌≡◌, sym, ap, ◌∙◌}
use Prim.Native.Nat.{◌*◌}
use Rattle.units.specs.Limits.{ACTORS}
use Rattle.tables.specs.Stored.{mode_of}
use Rattle.tables.proofs.Stored.{proper_of}
use Rattle.std.specs.Prelude.{Err}
use Rattle.std.proofs.lemmas.Option.{MatchOption-at_some}
use Rattle.std.proofs.lemmas.Result.{err_from_is_err_and}
use Rattle.graph.specs.Counts.{counts_of}
use Rattle.graph.specs.Judge.{balanced_of}
use Rattle.graph.proofs.Sorted.{ranked_acyclic, ranked_below}
use Rattle.graph.proofs.Entries.{entered}
use Rattle.graph.proofs.Flows.{counts_small}
use Rattle.graph.proofs.Refused.{refused}
use Rattle.graph.proofs.Multiples.{counts_counted}
use Rattle.graph.proofs.balanced.Goals.{After-counts_of-found}
use Rattle.graph.proofs.balanced.Goals as goal

pub counts_of-found-requires : goal.counts_of-found-requires
counts_of-found-requires c =
    let (ranked, ends) = c.requires in let proper = proper_of c.args.mode.now in
    rw c.entries_of-entries.ensures
    (record { long = ranked.long; below = ranked_below _ proper _ ranked }, entered _ proper _ ranked, ends.0.0.0)

-- what is found
found : (c : After-counts_of-found) → c.counts_of-found.result ≡ counts_of (mode_of c.args.mode.now) c.args.depths c.args.source
found c = rw (c.counts_of-found.ensures, c.entries_of-entries.ensures)

pub returns-in_err-counts : goal.returns-in_err-counts
unfolding balanced_of
returns-in_err-counts c =
    let none = c.in_err-counts.ensures in
    let p = err_from_is_err_and c.from_residual.result c.from_residual.ensures.1 in
    rw (p.1, p.2, ← found (goal.at.returns-in_err-counts c).After-counts_of-found, none.ok_part) (ap Err (refused _ _ _ none.ok_part none.value))

pub balances-requires : goal.balances-requires
balances-requires c =
    let is = rw c.counts_of-found.ensures at c.in_ok-counts.ensures.ok_part in
    MatchOption-at_some _ _ _ is (counts_small _ _ _ _ (ACTORS * ACTORS))

pub returns-then-not-balances : goal.returns-then-not-balances
unfolding balanced_of
returns-then-not-balances c =
    rw (← found (goal.at.returns-then-not-balances c).After-counts_of-found, c.in_ok-counts.ensures.ok_part, ← c.balances.ensures, c.if-not-balances.true)

pub timed-requires : goal.timed-requires
timed-requires c =
    let (ranked, ends) = c.requires in let proper = proper_of c.args.mode.now in
    let is = sym (found (goal.at.timed-requires c).After-counts_of-found) ∙ c.in_ok-counts.ensures.ok_part in
    (counts_counted _ proper _ ranked _ _ ends (ranked_acyclic _ proper _ ranked) _ is, (ends.0.0.0, ends.0.0.1))

pub returns : goal.returns
unfolding balanced_of
returns c =
    c.timed.ensures
    ∙ rw (← found (goal.at.returns c).After-counts_of-found, c.in_ok-counts.ensures.ok_part, ← c.balances.ensures, c.if-not-balances.false)
