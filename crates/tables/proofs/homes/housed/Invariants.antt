use Rattle.std.proofs.Common.{◌≡◌, ℕ, ◌<◌, ◌≤◌, length, get_or, None}
use Rattle.units.specs.Limits.{ACTORS}
use Rattle.tables.specs.Memory.{actor_in}
use Rattle.tables.specs.Parts.{home_of}
use Rattle.tables.proofs.homes.housed.Given as goal

abbrev pub invariant-loop-i : goal.invariant-loop-i
invariant-loop-i l = record {
  long : length l.home-items ≡ ACTORS;
  done : (k : ℕ) → k < l.i → get_or l.home-items k None ≡ home_of (get_or l.fn.homes k None) (actor_in l.front k).processor;
  left : (k : ℕ) → l.i ≤ k → get_or l.home-items k None ≡ get_or l.fn.homes k None;
}
