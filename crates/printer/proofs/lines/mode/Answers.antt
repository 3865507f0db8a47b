-- printer::lines::mode meets its contract.
use Rattle.layout.specs.Read.{mode_of, part_of}
use Rattle.printer.specs.Printed.{channels_text}
use Rattle.rfc4180.proofs.Laying.{laid_then, room_first, room_then}
use Rattle.printer.proofs.lines.mode.Goals as goal

pub actors-next-requires : goal.actors-next-requires
actors-next-requires c =
    (room_first (channels_text c.args.m (mode_of c.args.words.now) (part_of c.args.words.now)) c.requires.0, c.requires.1, c.requires.2)

pub channels-requires : goal.channels-requires
channels-requires c =
    let p = c.requires in (room_then p.0 c.actors-next.ensures, p.1, p.2, p.3)

pub returns : goal.returns
returns c =
    laid_then c.actors-next.ensures c.channels.ensures
