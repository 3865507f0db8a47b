-- Each public function's statement admits one answer only.
use mathlib.Core.Path.{sym, ◌∙◌}
use Rattle.numbers.proofs.Settles.{Settles}
use Rattle.numbers.specs.Bits.{with_is, without_is}
use Rattle.numbers.specs.Decides.{decides_unique}
use Rattle.bits.proofs.has.Kinds as has_kinds
use Rattle.bits.proofs.has.Reads as has
use Rattle.bits.proofs.with.Kinds as with_kinds
use Rattle.bits.proofs.with.Reads as with
use Rattle.bits.proofs.without.Kinds as without_kinds
use Rattle.bits.proofs.without.Reads as without
use Rattle.bits.proofs.within.Kinds as within_kinds
use Rattle.bits.proofs.within.Reads as within
use Rattle.bits.proofs.size.Kinds as size_kinds
use Rattle.bits.proofs.size.Reads as size

has_settled : Settles 0 has_kinds.ps has_kinds.r has.Post
has_settled κs a x y s t p q = decides_unique x y p q

with_settled : Settles 0 with_kinds.ps with_kinds.r with.Post
with_settled κs a x y s t p q = with_is _ _ p ∙ sym (with_is _ _ q)

without_settled : Settles 0 without_kinds.ps without_kinds.r without.Post
without_settled κs a x y s t p q = without_is _ _ p ∙ sym (without_is _ _ q)

within_settled : Settles 0 within_kinds.ps within_kinds.r within.Post
within_settled κs a x y s t p q = decides_unique x y p q

size_settled : Settles 0 size_kinds.ps size_kinds.r size.Post
size_settled κs a x y s t p q = p ∙ sym q
