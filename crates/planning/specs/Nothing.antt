-- What stands where nothing is planned.
use Rattle.std.specs.Prelude.{[], replicate}
use Rattle.units.specs.Ticks.{tick}
use Rattle.units.specs.Tokens.{token}
use Rattle.units.specs.Limits.{ACTORS, CHANNELS}
use Rattle.units.specs.Firings.{firing}
use Rattle.change.specs.declared.Timing.{Timing}
use Rattle.planning.specs.declared.ModePlan.{ModePlan}

-- past the end of an array of parts
abbrev pub no_part : ModePlan
no_part = record { source = 0; sink = 0; iteration = tick 0; startup = tick 0; firings = []; periods = []; starts = []; sizes = []; tokens = [] }

-- for a mode that is not listed
abbrev pub empty_part : ModePlan
empty_part =
    record {
      source = 0;
      sink = 0;
      iteration = tick 0;
      startup = tick 0;
      firings = replicate ACTORS (firing 0);
      periods = replicate ACTORS (tick 0);
      starts = replicate ACTORS (tick 0);
      sizes = replicate CHANNELS (token 0);
      tokens = replicate CHANNELS (token 0);
    }

-- where there is no change
abbrev pub no_timing : Timing
no_timing = record { overlap = tick 0; offset = tick 0; worst = tick 0 }
