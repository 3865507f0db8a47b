use Rattle.std.proofs.Common.{◌≡◌, take}
use Rattle.units.specs.Firings.{firing}
use Rattle.rate.specs.Rate.{tokens_of}
use Rattle.channel.specs.Flow.{rates_of}
use Rattle.channel.specs.Phases.{listed, claiming_at}
use Rattle.channel.proofs.claims.claims.Given as goal

abbrev pub invariant-loop-s : goal.invariant-loop-s
invariant-loop-s l = record {
  holds : take l.s l.holds ≡ listed l.s (claiming_at l.pace l.fn.producer l.start);
  made : l.made ≡ tokens_of (rates_of l.fn.producer) (firing l.s);
}
