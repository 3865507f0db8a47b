-- Each public function's statement admits one answer only.
use mathlib.Core.Path.{sym, ◌∙◌}
use Rattle.numbers.specs.Extreme.{least_unique, greatest_unique}
use Rattle.numbers.specs.Decides.{decides_unique}
use Rattle.numbers.specs.Euclid.{gcd_unique}
use Rattle.numbers.specs.Multiples.{lcm_within_unique}
use Rattle.numbers.proofs.Settles.{Settles}
use Rattle.numbers.proofs.common.gcd.Kinds as gcd_kinds
use Rattle.numbers.proofs.common.gcd.Reads as gcd
use Rattle.numbers.proofs.common.lcm.Kinds as lcm_kinds
use Rattle.numbers.proofs.common.lcm.Reads as lcm
use Rattle.numbers.proofs.extreme.greatest.Kinds as greatest_kinds
use Rattle.numbers.proofs.extreme.greatest.Reads as greatest
use Rattle.numbers.proofs.fraction.plus.Kinds as plus_kinds
use Rattle.numbers.proofs.fraction.plus.Reads as plus
use Rattle.numbers.proofs.fraction.at_most.Kinds as at_most_kinds
use Rattle.numbers.proofs.fraction.at_most.Reads as at_most
use Rattle.numbers.proofs.quotient.rounded_up.Kinds as rounded_up_kinds
use Rattle.numbers.proofs.quotient.rounded_up.Reads as rounded_up

gcd_settled : Settles 0 gcd_kinds.ps gcd_kinds.r gcd.Post
gcd_settled κs a x y s t p q = gcd_unique p q

lcm_settled : Settles 0 lcm_kinds.ps lcm_kinds.r lcm.Post
lcm_settled κs a x y s t p q = lcm_within_unique _ _ _ x y p q

plus_settled : Settles 0 plus_kinds.ps plus_kinds.r plus.Post
plus_settled κs a x y s t p q = p ∙ sym q

at_most_settled : Settles 0 at_most_kinds.ps at_most_kinds.r at_most.Post
at_most_settled κs a x y s t p q = decides_unique x y p q

rounded_up_settled : Settles 0 rounded_up_kinds.ps rounded_up_kinds.r rounded_up.Post
rounded_up_settled κs a x y s t p q = least_unique _ p q

greatest_settled : Settles 1 greatest_kinds.ps greatest_kinds.r greatest.Post
greatest_settled κs a x y s t p q = greatest_unique _ p q
