-- tables::memory::list_actor meets its contract.
use mathlib.Core.Path.{ap, ◌∙◌}
use Rattle.numbers.specs.Bits.{adding, with_is}
use Rattle.tables.specs.declared.memory.Head.{Head}
use Rattle.tables.proofs.Remembered.{front_listed}
use Rattle.tables.proofs.memory.list_actor.Goals as goal

pub returns : goal.returns
returns c =
    front_listed c.args.front.now c.requires.0 c.args.i c.with.result c.args.actor c.requires.1 c.put_actor.new.words
    (with_is _ _ c.with.ensures ∙ ap (λ (x : Head). adding x.active c.args.i) c.head_of-head.ensures)
    c.put_actor.ensures
