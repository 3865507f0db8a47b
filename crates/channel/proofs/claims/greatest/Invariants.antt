use Rattle.std.proofs.Common.{◌≡◌}
use Rattle.numbers.specs.Extreme.{most_of}
use Rattle.units.specs.Tokens.{token}
use Rattle.units.specs.Firings.{firing}
use Rattle.rate.specs.Rate.{tokens_of}
use Rattle.channel.specs.Flow.{rates_of}
use Rattle.channel.specs.Phases.{back_at, held_of}
use Rattle.channel.proofs.claims.greatest.Given as goal

abbrev pub invariant-loop-f : goal.invariant-loop-f
invariant-loop-f l = record {
  most : l.most ≡ token (most_of (λ f. (held_of l.claims l.pace.step.tokens (back_at l.pace l.fn.consumer l.start f)).0) l.f);
  taken : l.taken ≡ tokens_of (rates_of l.fn.consumer) (firing l.f);
}
