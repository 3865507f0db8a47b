use Rattle.std.proofs.Common.{◌≡◌}
use Rattle.numbers.specs.Extreme.{most_of}
use Rattle.units.specs.Ticks.{tick}
use Rattle.units.specs.Firings.{firing}
use Rattle.rate.specs.Rate.{tokens_of}
use Rattle.channel.specs.Flow.{rates_of}
use Rattle.channel.specs.Phases.{asked_of}
use Rattle.channel.proofs.waits.latest.Given as goal

abbrev pub invariant-loop-f : goal.invariant-loop-f
invariant-loop-f l = record {
  latest : l.latest ≡ tick (most_of (λ f. (asked_of l.gives l.pace l.fn.consumer f).0) l.f);
  taken : l.taken ≡ tokens_of (rates_of l.fn.consumer) (firing l.f);
}
