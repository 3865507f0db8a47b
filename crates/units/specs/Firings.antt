-- Firings of an actor.
use Rattle.std.specs.Prelude.{ℕ}
use Rattle.units.specs.declared.Firing.{Firing}

abbrev pub firing : ℕ → Firing
firing k = record { 0 = k }
