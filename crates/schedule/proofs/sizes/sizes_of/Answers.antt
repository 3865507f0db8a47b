-- schedule::sizes::sizes_of meets its contract.
use Rattle.std.proofs.Common.{rules, arith}
use Rattle.units.specs.Limits.{CHANNELS}
use Rattle.units.specs.Tokens.{token}
use Rattle.tables.specs.Stored.{mode_of}
use Rattle.schedule.specs.Reached.{start_at, SizeAt}
use Rattle.schedule.proofs.Made.{made_each}
use Rattle.schedule.proofs.sizes.sizes_of.Goals as goal

pub returns : goal.returns
returns c =
    let each = made_each _ _ (SizeAt (mode_of c.args.mode.now) c.args.periods (start_at c.args.starts)) (λ k y q e. search rules) _ CHANNELS (token 0) c.from_fn.ensures.items in
    record {
      long = c.from_fn.ensures.items.long;
      size = λ k h. (each k (omega (arith, h, c.requires.proper.count))).0 h;
      no_size = λ k l. (each k l).1;
    }
