-- An iteration under a limit has one length, and it is the one that the model reckons.
use Rattle.std.specs.Prelude.{◌≡◌, refl, Bool, true, false, cond, ◌<◌, leb, Option, Some, None}
use Rattle.std.proofs.Common.{ap, subst, not-le_of_lt, leb-true, leb-false}
use Rattle.numbers.specs.Quotient.{rounded_of, rounded_of_law}
use Rattle.units.specs.declared.Tick.{Tick}
use Rattle.units.specs.declared.Firing.{Firing}
use Rattle.period.specs.Period.{IterationWithin, iteration_unique}
use Rattle.period.specs.Reckoned.{length_of, iteration_of}

pub within_unique : (l : Firing) (w limit : Tick) (x y : Option Tick) → IterationWithin l w limit x → IterationWithin l w limit y → x ≡ y
within_unique l w limit (Some g) (Some h) p q = ap Some (iteration_unique l w p.0 q.0)
within_unique l w limit (Some g) None p q = absurd (not-le_of_lt (q g p.0) p.1)
within_unique l w limit None (Some h) p q = absurd (not-le_of_lt (p h q.0) q.1)
within_unique l w limit None None p q = refl

pub iteration_of_law : (l : Firing) (w limit : Tick) → 0 < l.0 → IterationWithin l w limit (iteration_of l w limit)
iteration_of_law l w limit pos = go (leb (length_of l w).0 limit.0) refl
  where
    go : (x : Bool) → leb (length_of l w).0 limit.0 ≡ x → IterationWithin l w limit (cond x (Some (length_of l w)) None)
    go true e = ((rounded_of w.0 l.0, rounded_of_law w.0 l.0 pos, refl), leb-true _ _ e)
    go false e = λ h p.
        subst (λ (t : Tick). limit.0 < t.0)
        (iteration_unique l w {g = length_of l w} {h = h} (rounded_of w.0 l.0, rounded_of_law w.0 l.0 pos, refl) p) (leb-false _ _ e)

pub iteration_is : (l : Firing) (w limit : Tick) (r : Option Tick) → 0 < l.0 → IterationWithin l w limit r → r ≡ iteration_of l w limit
iteration_is l w limit r pos p = within_unique l w limit r (iteration_of l w limit) p (iteration_of_law l w limit pos)
