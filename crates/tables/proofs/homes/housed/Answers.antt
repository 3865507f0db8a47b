-- tables::homes::housed meets its contract. The invariant: the homes of the actors below i are set.
use Rattle.std.proofs.Common.{sym, ap, ◌∙◌, get_or, None, arith}
use Rattle.numbers.specs.Tab.{is_tab, get_or_tab}
use Rattle.units.specs.Limits.{ACTORS}
use Rattle.tables.specs.declared.Actor.{Actor}
use Rattle.tables.specs.Shape.{no_actor}
use Rattle.tables.specs.Memory.{actor_in}
use Rattle.tables.specs.Parts.{home_of}
use Rattle.tables.proofs.homes.housed.Goals as goal

pub returns : goal.returns
returns c =
    let l = c.loop-i in
    is_tab ACTORS _ _ None l.invariant.long
    (λ i h. l.invariant.done i (omega arith) ∙ ap (λ (a : Actor). home_of (get_or c.args.homes i None) a.processor) (sym (get_or_tab ACTORS (actor_in c.args.front.now) i no_actor h)))
