use Rattle.std.proofs.Common.{◌≡◌, take}
use Rattle.units.specs.Firings.{firing}
use Rattle.rate.specs.Rate.{tokens_of}
use Rattle.channel.specs.Flow.{rates_of}
use Rattle.channel.specs.Phases.{listed, give_at}
use Rattle.channel.proofs.waits.gives.Given as goal

abbrev pub invariant-loop-s : goal.invariant-loop-s
invariant-loop-s l = record {
  marks : take l.s l.marks ≡ listed l.s (give_at 0 l.pace l.fn.producer l.start);
  made : l.made ≡ tokens_of (rates_of l.fn.producer) (firing l.s);
}
