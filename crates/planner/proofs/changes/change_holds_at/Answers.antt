-- planner::changes::change_holds_at meets its contract.
use Rattle.std.proofs.Common.{refl}
use Rattle.std.specs.Prelude.{Some, None}
use Rattle.planning.specs.Nothing.{no_timing}
use Rattle.layout.specs.Words.{change_words}
use Rattle.planner.proofs.Timing.{change_or_none}
use Rattle.planner.proofs.changes.change_holds_at.Goals as goal

pub returns-in-Some : goal.returns-in-Some
returns-in-Some c = (
  change_words c.in-Some.timing,
  (c.in-Some.timing, change_or_none c.args.words.now c.args.place c.requires.2 (Some c.in-Some.timing) c.in-Some.ensures, refl),
  c.change_holds.ensures,
)

pub returns-in-None : goal.returns-in-None
returns-in-None c =
    (change_words no_timing, (no_timing, change_or_none c.args.words.now c.args.place c.requires.2 None c.in-None.ensures, refl), rw c.requires.3 at c.blank.ensures)
