-- printer::lines::channel meets its contract.
use Rattle.printer.proofs.lines.channel.Goals as goal

pub line-requires : goal.line-requires
line-requires c =
    rw (c.number_of.ensures, c.number_of-2.ensures, c.number_of-3.ensures, c.tokens.ensures, c.tokens-2.ensures) c.requires.0

pub returns : goal.returns
returns c =
    rw (c.number_of.ensures, c.number_of-2.ensures, c.number_of-3.ensures, c.tokens.ensures, c.tokens-2.ensures) at c.line.ensures
