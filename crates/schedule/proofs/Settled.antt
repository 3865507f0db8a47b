-- Each public function's statement admits one answer only.
use Rattle.numbers.proofs.Settles.{Settles}
use Rattle.schedule.proofs.Unique.{scheduled_unique}
use Rattle.schedule.proofs.schedule.Kinds as schedule_kinds
use Rattle.schedule.proofs.schedule.Reads as schedule

schedule_settled : Settles 2 schedule_kinds.ps schedule_kinds.r schedule.Post
schedule_settled κs a x y s t p q = scheduled_unique _ _ p q
