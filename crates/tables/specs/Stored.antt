-- The mode that stands in memory.
use Rattle.tables.specs.declared.memory.InMemory.{InMemory}
use Rattle.tables.specs.Shape.{Mode}
use Rattle.tables.specs.Memory.{mode_in}

-- what its front and its channels hold
abbrev pub mode_of : InMemory → Mode
mode_of s = mode_in s.front.now s.channels.now
