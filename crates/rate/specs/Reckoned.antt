-- Model: the numbers of the rate rule that are stated by what they are, as they are reckoned.
use Rattle.std.specs.Prelude.{ℕ, ◌*◌, ◌/◌}
use Rattle.numbers.specs.Reckoned.{gcd_of}
use Rattle.units.specs.declared.Token.{Token}
use Rattle.rate.specs.declared.Meeting.{Meeting}

abbrev pub meet_of : ℕ → Token → Token → Meeting
meet_of makers made taken =
    record {
      times = taken.0 / gcd_of (makers * made.0) taken.0;
      takers = makers * made.0 / gcd_of (makers * made.0) taken.0;
    }
