-- printer::bytes::blank meets its contract.
use mathlib.Core.Path.{refl}
use Rattle.printer.proofs.Laying.{laid_cleared}
use Rattle.printer.proofs.bytes.blank.Goals as goal

pub returns : goal.returns
returns c =
    laid_cleared c.args.out.now c.args.from _ c.requires refl c.clear_bytes.ensures
