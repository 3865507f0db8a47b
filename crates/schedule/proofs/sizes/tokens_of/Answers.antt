-- schedule::sizes::tokens_of meets its contract.
use Rattle.std.proofs.Common.{rules, ◌≡◌, ℕ}
use Rattle.numbers.specs.Tab.{is_tab}
use Rattle.units.specs.Limits.{CHANNELS}
use Rattle.units.specs.declared.Token.{Token}
use Rattle.units.specs.Tokens.{token}
use Rattle.tables.specs.Stored.{mode_of}
use Rattle.schedule.specs.Reached.{tokens_at}
use Rattle.schedule.proofs.Made.{made_each}
use Rattle.schedule.proofs.sizes.tokens_of.Goals as goal

pub returns : goal.returns
returns c =
    is_tab CHANNELS _ _ (token 0) c.from_fn.ensures.items.long
    (made_each _ _ (λ (k : ℕ) (y : Token). y ≡ tokens_at (mode_of c.args.mode.now) c.args.firings k) (λ k y q e. search rules) _ CHANNELS (token 0) c.from_fn.ensures.items)
