use Rattle.std.proofs.Common.{◌≤◌}
use Rattle.units.specs.Limits.{CHANNELS}
use Rattle.tables.specs.Shape.{channel_at}
use Rattle.rfc4180.specs.Laid.{Laid}
use Rattle.layout.specs.Read.{mode_of, part_of}
use Rattle.printer.specs.Texts.{texts}
use Rattle.printer.specs.Printed.{channel_text, size_at, tokens_at}
use Rattle.printer.proofs.lines.channels.Given as goal

abbrev pub invariant-loop-k : goal.invariant-loop-k
invariant-loop-k l = record {
  few : l.k-end ≤ CHANNELS;
  laid : Laid l.initial.out l.from (texts (λ k. channel_text l.m (channel_at (mode_of l.words) k) (size_at (part_of l.words) k) (tokens_at (part_of l.words) k)) l.k) l.out l.at;
}
