-- rate::tokens meets its contract.
use Rattle.std.proofs.Common.{ℕ, List, ◌+◌, ◌*◌, ◌/◌, ◌%◌, ◌<◌, ◌≤◌, sym, length, get_or, take, sum, pos_of_ne-zero, arith}
use Rattle.std.proofs.lemmas.Grind.{common_steps}
use Rattle.numbers.specs.Sum.{sum_most}
use Rattle.units.specs.Limits.{MOST_RATE}
use Rattle.units.specs.Tokens.{token}
use Rattle.rate.specs.Rate.{rate_of, tokens_summed, tokens_none}
use Rattle.rate.proofs.tokens.Goals as goal

-- whole cycles and what comes after them move at most the greatest rate for each firing
most : (rates : List ℕ) (n : ℕ) → 0 < length rates → ((i : ℕ) → get_or rates i 0 < 256)
    → n / length rates * sum rates + sum (take (n % length rates) rates) ≤ n * MOST_RATE.0
most rates n some small =
    rw (← tokens_summed rates n some) (sum_most (rate_of rates) MOST_RATE.0 n (λ i h. omega (arith, small (i % length rates))))

pub returns-then-phases-eq0 : goal.returns-then-phases-eq0
returns-then-phases-eq0 c = let s = c.args in λ i. token (sym (tokens_none s.rates.now s.n.0 c.if-phases-eq0.true) i)

pub overflow_mul-cycles : goal.overflow_mul-cycles
overflow_mul-cycles c =
    grind (arith, common_steps, most c.args.rates.now c.args.n.0 (pos_of_ne-zero c.if-phases-eq0.false) (λ i. omega (arith, c.type_inv.rates i)))

pub overflow_add-cycles : goal.overflow_add-cycles
overflow_add-cycles c =
    grind (arith, common_steps, most c.args.rates.now c.args.n.0 (pos_of_ne-zero c.if-phases-eq0.false) (λ i. omega (arith, c.type_inv.rates i)))

pub returns : goal.returns
returns c = grind (arith, common_steps, tokens_summed c.args.rates.now c.args.n.0)
