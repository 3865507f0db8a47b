-- Model: the numbers of the period rule that are stated by what they are, as they are reckoned.
use Rattle.std.specs.Prelude.{◌≡◌, refl, Bool, true, false, cond, ℕ, ◌*◌, ◌<◌, leb, Option, Some, None}
use Rattle.std.proofs.Common.{lt_of_lt_of_le, le_of_eq, leb-true, leb-false}
use Rattle.numbers.specs.Multiples.{lcm_unique}
use Rattle.numbers.specs.Quotient.{rounded_of}
use Rattle.numbers.specs.Reckoned.{lcm_of, lcm_of_law}
use Rattle.units.specs.declared.Tick.{Tick}
use Rattle.units.specs.declared.Firing.{Firing}
use Rattle.units.specs.Ticks.{tick}
use Rattle.units.specs.Firings.{firing}
use Rattle.period.specs.Period.{CommonWithin, common_unique}

abbrev pub common_of : Firing → Firing → Firing → Option Firing
common_of a b limit = cond (leb (lcm_of a.0 b.0) limit.0) (Some (firing (lcm_of a.0 b.0))) None

pub common_of_law : (a b limit : Firing) → 0 < b.0 → CommonWithin a b limit (common_of a b limit)
common_of_law a b limit pos = go (leb l limit.0) refl
  where
    l : ℕ
    l = lcm_of a.0 b.0

    go : (x : Bool) → leb l limit.0 ≡ x → CommonWithin a b limit (cond x (Some (firing l)) None)
    go true e = (lcm_of_law a.0 b.0 pos, leb-true _ _ e)
    go false e = λ m p. lt_of_lt_of_le (leb-false _ _ e) (le_of_eq (lcm_unique (lcm_of_law a.0 b.0 pos) p))

pub common_is : (a b limit : Firing) (r : Option Firing) → 0 < b.0 → CommonWithin a b limit r → r ≡ common_of a b limit
common_is a b limit r pos p = common_unique a b limit r (common_of a b limit) p (common_of_law a b limit pos)

abbrev pub length_of : Firing → Tick → Tick
length_of l w = tick (l.0 * rounded_of w.0 l.0)

abbrev pub iteration_of : Firing → Tick → Tick → Option Tick
iteration_of l w limit = cond (leb (length_of l w).0 limit.0) (Some (length_of l w)) None
