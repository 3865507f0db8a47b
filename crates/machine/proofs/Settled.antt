-- Each public function's statement admits one answer only.
use Rattle.numbers.proofs.Settles.{Settles}
use Rattle.machine.proofs.Unique.{begins_unique, answers_unique}
use Rattle.machine.proofs.start.Kinds as start_kinds
use Rattle.machine.proofs.start.Reads as start
use Rattle.machine.proofs.Machine.request.Kinds as request_kinds
use Rattle.machine.proofs.Machine.request.Reads as request

start_settled : Settles 1 start_kinds.ps start_kinds.r start.Post
start_settled κs a x y s t p q = begins_unique p q

request_settled : Settles 1 request_kinds.ps request_kinds.r request.Post
request_settled κs a x y s t p q = let (e, f) = answers_unique p q in λ i. record { reply = e i; machine = f i }
