-- planner::changes::put_change_at meets its contract.
use Rattle.std.proofs.Common.{ℕ, replicate, ap, ◌∙◌}
use Rattle.std.specs.Prelude.{Some, None}
use Rattle.planning.specs.Nothing.{no_timing}
use Rattle.planner.proofs.Timing.{change_or_none}
use Rattle.planner.proofs.changes.put_change_at.Goals as goal

pub returns-in-Some : goal.returns-in-Some
returns-in-Some c =
    (c.in-Some.timing, change_or_none c.args.words.now c.args.place c.requires.2 (Some c.in-Some.timing) c.in-Some.ensures, c.put_change.ensures)

pub returns-in-None : goal.returns-in-None
returns-in-None c =
    (no_timing, change_or_none c.args.words.now c.args.place c.requires.2 None c.in-None.ensures, c.clear.ensures ∙ ap (λ (n : ℕ). replicate n 0) c.requires.3)
