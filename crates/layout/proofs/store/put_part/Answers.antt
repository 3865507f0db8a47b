-- layout::store::put_part meets its contract.
use mathlib.Core.Path.{ap, ◌∙◌}
use Rattle.tables.specs.declared.memory.Head.{Head}
use Rattle.tables.specs.Memory.{head_words}
use Rattle.layout.specs.Words.{head_with}
use Rattle.layout.proofs.Laying.{front_planned}
use Rattle.layout.proofs.store.put_part.Goals as goal

pub returns : goal.returns
returns c =
    let head = c.put_head in let actors = c.put_actors in (
      front_planned c.args.front.now c.requires.0 c.args.part head.new.words actors.new.words
          (head.ensures ∙ ap (λ (h : Head). head_words (head_with h c.args.part)) c.head_of-head.ensures) actors.ensures,
      c.put_carried.ensures,
    )
