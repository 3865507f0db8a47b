-- tables::memory::InMemory::actor meets its contract.
use Rattle.std.proofs.Common.{sym, ◌∙◌}
use Rattle.tables.proofs.Remembered.{actor_in_law}
use Rattle.tables.proofs.memory.InMemory.actor.Goals as goal

pub returns : goal.returns
returns c = c.actor_at.ensures ∙ sym (actor_in_law _ c.args.self.now.channels.now _ c.requires)
