-- The pace of a channel: so many times some tokens in so many times some ticks, at both of its ends.
use Rattle.std.specs.Prelude.{◌≡◌, ℕ, ◌/◌}
use Rattle.std.proofs.Common.{sym, ap, ◌∙◌}
use Rattle.numbers.specs.Common.{IsGcd}
use Rattle.numbers.specs.Euclid.{gcd_unique}
use Rattle.units.specs.declared.Tick.{Tick}
use Rattle.units.specs.declared.Token.{Token}
use Rattle.units.specs.Ticks.{tick, times_ticks}
use Rattle.units.specs.Tokens.{token, times_tokens}
use Rattle.rate.specs.declared.pace.Step.{Step}

-- w is the step of a channel whose producer makes so many tokens in a cycle of so many ticks, and whose consumer takes so many in its cycle: the greatest
-- number of tokens of which both cycles have a whole number, and the ticks that they last
pub record IsStep (made : Token) (cycle : Tick) (taken : Token) (w : Step) : Type 0 where
  pub tokens : IsGcd made.0 taken.0 w.tokens.0
  pub ticks : w.ticks ≡ tick (cycle.0 / (made.0 / w.tokens.0))

-- the ticks that the whole steps of so many tokens last, and the tokens of the whole steps in so many ticks
abbrev pub lasting_of : Step → Token → Tick
lasting_of w t = times_ticks (t.0 / w.tokens.0) w.ticks

abbrev pub moving_of : Step → Tick → Token
moving_of w t = times_tokens (t.0 / w.ticks.0) w.tokens

pub step_unique : (made : Token) (cycle : Tick) (taken : Token) {v w : Step} → IsStep made cycle taken v → IsStep made cycle taken w → v ≡ w
step_unique made cycle taken {v} {w} p q =
    let e : v.tokens.0 ≡ w.tokens.0 = gcd_unique p.tokens q.tokens in
    λ i. record { tokens = token (e i); ticks = (p.ticks ∙ ap (λ (n : ℕ). tick (cycle.0 / (made.0 / n))) e ∙ sym q.ticks) i }
