-- printer::lines::change meets its contract.
use borrow.Author.Tests.{eq-eqb, ne_eqb}
use Rattle.rfc4180.proofs.Laying.{laid_none}
use Rattle.printer.proofs.lines.change.Goals as goal

pub returns-then-old-eq0 : goal.returns-then-old-eq0
returns-then-old-eq0 c = rw (eq-eqb _ 0 c.if-old-eq0.true) (laid_none _ _)

pub returns-then-new-eq0 : goal.returns-then-new-eq0
returns-then-new-eq0 c = rw (ne_eqb _ 0 c.if-old-eq0.false, eq-eqb _ 0 c.if-new-eq0.true) (laid_none _ _)

pub returns-then-o-n : goal.returns-then-o-n
returns-then-o-n c = rw (ne_eqb _ 0 c.if-old-eq0.false, ne_eqb _ 0 c.if-new-eq0.false, eq-eqb _ _ c.if-o-n.true) (laid_none _ _)

pub line-requires : goal.line-requires
line-requires c =
    rw (c.number_of.ensures, c.number_of-2.ensures, c.ticks.ensures, c.ticks-2.ensures, c.ticks-3.ensures)
    (rw (ne_eqb _ 0 c.if-old-eq0.false, ne_eqb _ 0 c.if-new-eq0.false, ne_eqb _ _ c.if-o-n.false) at c.requires.0)

pub returns : goal.returns
returns c =
    rw (ne_eqb _ 0 c.if-old-eq0.false, ne_eqb _ 0 c.if-new-eq0.false, ne_eqb _ _ c.if-o-n.false)
    (rw (c.number_of.ensures, c.number_of-2.ensures, c.ticks.ensures, c.ticks-2.ensures, c.ticks-3.ensures) at c.line.ensures)
