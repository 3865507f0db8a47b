-- Each public function's statement admits one answer only: the limits.
use mathlib.Core.Path.{sym, ◌∙◌}
use Rattle.numbers.proofs.Settles.{Settles}
use Rattle.units.proofs.limits.all.Kinds as all_kinds
use Rattle.units.proofs.limits.all.Reads as all

all_settled : Settles 0 all_kinds.ps all_kinds.r all.Post
all_settled κs a x y s t p q = p ∙ sym q
