-- tables::memory::InMemory::channel meets its contract.
use Rattle.std.proofs.Common.{◌≡◌, ◌<◌, sym, subst, ◌∙◌, arith}
use Rattle.units.specs.Limits.{CHANNELS}
use Rattle.tables.specs.Shape.{channel_at}
use Rattle.tables.specs.Proper.{ProperChannel}
use Rattle.tables.specs.Stored.{mode_of}
use Rattle.tables.proofs.Remembered.{channel_in_law}
use Rattle.tables.proofs.Stored.{proper_of}
use Rattle.tables.proofs.memory.InMemory.channel.Goals.{After-channel_at}
use Rattle.tables.proofs.memory.InMemory.channel.Goals as goal

-- it is the mode's
is : (c : After-channel_at) → c.channel_at.result ≡ channel_at (mode_of c.args.self.now) c.args.k
is c = let few : c.args.k < CHANNELS = omega (arith, c.requires, (proper_of c.args.self.now).count) in c.channel_at.ensures ∙ sym (channel_in_law c.args.self.now.front.now _ _ few)

pub returns-clause-is : goal.returns-clause-is
returns-clause-is c = is (goal.at.returns-clause-is c).After-channel_at

pub returns-clause-proper : goal.returns-clause-proper
returns-clause-proper c =
    subst (ProperChannel _) (sym (is (goal.at.returns-clause-proper c).After-channel_at)) ((proper_of c.args.self.now).channel _ c.requires)
