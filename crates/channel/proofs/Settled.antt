-- Each public function's statement admits one answer only.
use Rattle.numbers.proofs.Settles.{Settles}
use Rattle.numbers.specs.Extreme.{least_unique, greatest_unique}
use Rattle.units.specs.Ticks.{tick}
use Rattle.units.specs.Tokens.{token}
use Rattle.channel.proofs.least_start.Kinds as least_start_kinds
use Rattle.channel.proofs.least_start.Reads as least_start
use Rattle.channel.proofs.size.Kinds as size_kinds
use Rattle.channel.proofs.size.Reads as size

least_start_settled : Settles 0 least_start_kinds.ps least_start_kinds.r least_start.Post
least_start_settled κs a x y s t p q = λ i. tick (least_unique _ p q i)

size_settled : Settles 0 size_kinds.ps size_kinds.r size.Post
size_settled κs a x y s t p q = λ i. token (greatest_unique _ p q i)
