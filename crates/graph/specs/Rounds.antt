-- Model of order.rt and ends.rt: predecessor sets, the rounds that move actors, and the sets of the two ends.
use Rattle.std.specs.Prelude.{Bool, cond, ◌&&◌, not, List, Option, None, ℕ, zero, suc, eqb, get_or, set, replicate, find}
use Rattle.std.specs.List.{range_with_len}
use Rattle.std.specs.Int.Bits.{bit_and, bit_or}
use Rattle.numbers.specs.Bits.{hasb, size, adding, removing}
use Rattle.units.specs.Limits.{ACTORS}
use Rattle.tables.specs.declared.Channel.{Channel}
use Rattle.tables.specs.Shape.{Mode, channel_at}
use Rattle.graph.specs.declared.order.Order.{Order}

-- the sets with one channel more
abbrev pub joined : List ℕ → Channel → List ℕ
joined ps c = set ps c.to (adding (get_or ps c.to 0) c.from)

-- for each actor the set of those from which one of the first n channels leads to it
unfoldable pub preds_from : Mode → ℕ → List ℕ
preds_from m zero = replicate ACTORS 0
preds_from m (suc n) = joined (preds_from m n) (channel_at m n)

-- and of all channels
abbrev pub preds_of : Mode → List ℕ
preds_of m = preds_from m m.count

-- actor i is done, at depth d
abbrev pub moved : Order → ℕ → ℕ → Order
moved o i d = record { done = adding o.done i; left = removing o.left i; depths = set o.depths i d }

-- actor i is left, and its predecessors are all done
abbrev pub ready : List ℕ → Order → ℕ → Bool
ready ps o i = hasb o.left i && eqb (bit_and (get_or ps i 0) o.done) (get_or ps i 0)

-- the actors below n in a round
unfoldable pub round_from : List ℕ → Order → ℕ → ℕ → Order
round_from ps o d zero = o
round_from ps o d (suc n) = cond (ready ps o n) (moved (round_from ps o d n) n d) (round_from ps o d n)

-- before the first round all active actors are left
abbrev pub unordered : ℕ → Order
unordered active = record { done = 0; left = active; depths = replicate ACTORS 0 }

-- n rounds
unfoldable pub order_from : List ℕ → ℕ → ℕ → Order
order_from ps active zero = unordered active
order_from ps active (suc n) =
    cond (eqb (order_from ps active n).left 0) (order_from ps active n) (round_from ps (order_from ps active n) n ACTORS)

-- as many rounds as there are actors
abbrev pub order_of : List ℕ → ℕ → Order
order_of ps active = order_from ps active ACTORS

-- the active actors below n that pass a test, as a set
unfoldable pub chosen : (ℕ → Bool) → ℕ → ℕ → ℕ
chosen f active zero = 0
chosen f active (suc n) = cond (hasb active n && f n) (adding (chosen f active n) n) (chosen f active n)

-- the active actors that no channel leads to
abbrev pub firsts_of : List ℕ → ℕ → ℕ
firsts_of ps active = chosen (λ i. eqb (get_or ps i 0) 0) active ACTORS

-- the actors that are in one of the first n sets
unfoldable pub givers_from : List ℕ → ℕ → ℕ
givers_from ps zero = 0
givers_from ps (suc n) = bit_or (givers_from ps n) (get_or ps n 0)

-- the active actors that no channel leads from
abbrev pub lasts_of : List ℕ → ℕ → ℕ
lasts_of ps active = chosen (λ i. not (hasb (givers_from ps ACTORS) i)) active ACTORS

-- the number of a set that has one number only
abbrev pub only_of : ℕ → Option ℕ
only_of s = cond (eqb (size ACTORS s) 1) (find (hasb s) (range_with_len 0 ACTORS)) None
