-- printer::lines::actor meets its contract.
use mathlib.Core.Path.{◌∙◌}
use Rattle.numbers.specs.Bits.{has_is}
use Rattle.rfc4180.proofs.Laying.{laid_none}
use Rattle.printer.proofs.lines.actor.Goals as goal

pub returns-then-not-has : goal.returns-then-not-has
returns-then-not-has c = rw (has_is _ _ _ c.has.ensures ∙ c.if-not-has.true) (laid_none _ _)

pub line-requires : goal.line-requires
line-requires c =
    rw (c.number_of.ensures, c.number_of-2.ensures, c.firings.ensures, c.ticks.ensures, c.ticks-2.ensures)
    (rw (has_is _ _ _ c.has.ensures ∙ c.if-not-has.false) at c.requires.0)

pub returns : goal.returns
returns c =
    rw (has_is _ _ _ c.has.ensures ∙ c.if-not-has.false)
    (rw (c.number_of.ensures, c.number_of-2.ensures, c.firings.ensures, c.ticks.ensures, c.ticks-2.ensures) at c.line.ensures)
