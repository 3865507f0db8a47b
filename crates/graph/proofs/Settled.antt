-- Each public function's statement admits one answer only.
use Rattle.numbers.proofs.Settles.{Settles}
use Rattle.graph.proofs.Unique.{judged_unique}
use Rattle.graph.proofs.judge.Kinds as judge_kinds
use Rattle.graph.proofs.judge.Reads as judge

judge_settled : Settles 2 judge_kinds.ps judge_kinds.r judge.Post
judge_settled κs a x y s t p q = judged_unique _ p q
