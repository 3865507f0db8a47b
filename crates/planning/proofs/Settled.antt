-- Each public function's statement admits one answer only.
use Rattle.numbers.proofs.Settles.{Settles}
use Rattle.tables.specs.Stored.{mode_of}
use Rattle.planning.proofs.Unique.{comes_unique}
use Rattle.planning.proofs.modes.plan_mode.Kinds as plan_mode_kinds
use Rattle.planning.proofs.modes.plan_mode.Reads as plan_mode

plan_mode_settled : Settles 2 plan_mode_kinds.ps plan_mode_kinds.r plan_mode.Post
plan_mode_settled κs a x y s t p q = comes_unique (mode_of a.0.now) a.1.0 x y p q
