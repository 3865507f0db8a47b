use Rattle.numbers.specs.All.{Below}
use Rattle.numbers.specs.Tab.{tab}
use Rattle.units.specs.Limits.{ACTORS}
use Rattle.tables.specs.Memory.{actor_in}
use Rattle.tables.specs.Parts.{AtHome}
use Rattle.tables.proofs.homes.at_home.Given as goal

abbrev pub invariant-loop-i : goal.invariant-loop-i
invariant-loop-i l = Below (AtHome l.fn.homes (tab ACTORS (actor_in l.front))) l.i
