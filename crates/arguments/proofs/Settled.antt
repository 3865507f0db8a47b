-- Each public function's statement admits one answer only.
use mathlib.Core.Path.{sym, ◌∙◌}
use Rattle.numbers.proofs.Settles.{Settles}
use Rattle.arguments.proofs.Reading.{request_unique}
use Rattle.arguments.proofs.Parting.{bad_unique}
use Rattle.arguments.proofs.end_of.Kinds as end_kinds
use Rattle.arguments.proofs.end_of.Reads as end
use Rattle.arguments.proofs.request_of.Kinds as request_kinds
use Rattle.arguments.proofs.request_of.Reads as request
use Rattle.arguments.proofs.first_bad.Kinds as bad_kinds
use Rattle.arguments.proofs.first_bad.Reads as bad

end_of_settled : Settles 1 end_kinds.ps end_kinds.r end.Post
end_of_settled κs a x y s t p q = p ∙ sym q

request_of_settled : Settles 1 request_kinds.ps request_kinds.r request.Post
request_of_settled κs a x y s t p q = request_unique p q

first_bad_settled : Settles 1 bad_kinds.ps bad_kinds.r bad.Post
first_bad_settled κs a x y s t p q = bad_unique p q
