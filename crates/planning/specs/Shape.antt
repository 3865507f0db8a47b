-- The plan of a table as a whole.
use Rattle.std.specs.Prelude.{List}
use Rattle.change.specs.declared.Timing.{Timing}
use Rattle.planning.specs.declared.ModePlan.{ModePlan}

-- What is planned of a table. The change from mode m to mode n stands at MODES times m plus n; all 0 where there is none.
pub record Plan : Type 0 where
  pub parts : List ModePlan
  pub changes : List Timing
