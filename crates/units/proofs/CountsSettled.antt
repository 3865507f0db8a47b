-- Each public function's statement admits one answer only: what is reckoned alike with every kind.
use mathlib.Core.Path.{sym, ◌∙◌}
use denote.RattleType.{RattleType}
use denote.Param.Laws.{Laws, IsCopy}
use mir.Syntax.{Dict}
use Rattle.numbers.proofs.Settles.{Settles}
use Rattle.numbers.specs.Decides.{decides_unique}
use Rattle.std.specs.declared.clone.Clone.{Ghosts as Clones}
use Rattle.units.specs.declared.counts.Count.{Ghosts as Counts}
use Rattle.units.specs.declared.counts.number.Number.{Ghosts as Numbers}
use Rattle.units.proofs.counts.Count.at_most.Kinds as at_most_kinds
use Rattle.units.proofs.counts.Count.at_most.Reads as at_most
use Rattle.units.proofs.counts.Count.greater.Kinds as greater_kinds
use Rattle.units.proofs.counts.Count.greater.Reads as greater
use Rattle.units.proofs.counts.Count.plus.Kinds as plus_kinds
use Rattle.units.proofs.counts.Count.plus.Reads as plus
use Rattle.units.proofs.counts.Count.minus.Kinds as minus_kinds
use Rattle.units.proofs.counts.Count.minus.Reads as minus
use Rattle.units.proofs.counts.Count.times.Kinds as times_kinds
use Rattle.units.proofs.counts.Count.times.Reads as times
use Rattle.units.proofs.counts.Count.per.Kinds as per_kinds
use Rattle.units.proofs.counts.Count.per.Reads as per
use Rattle.units.proofs.counts.Count.rest.Kinds as rest_kinds
use Rattle.units.proofs.counts.Count.rest.Reads as rest

module _ (Kind : RattleType) (laws : Laws Kind) (copy : IsCopy Kind) (counts : Counts Kind.Denot) (count : Dict) (numbers : Numbers Kind.Denot) (number : Dict)
    (clones : Clones Kind.Denot) (clone : Dict) where
  at_most_settled : Settles 1 (at_most_kinds.ps Kind laws copy) (at_most_kinds.r Kind laws copy) (at_most.Post Kind laws copy counts count numbers number clones clone)
  at_most_settled κs a x y s t p q = decides_unique x y p q

  greater_settled : Settles 1 (greater_kinds.ps Kind laws copy) (greater_kinds.r Kind laws copy) (greater.Post Kind laws copy counts count numbers number clones clone)
  greater_settled κs a x y s t p q = p ∙ sym q

  plus_settled : Settles 1 (plus_kinds.ps Kind laws copy) (plus_kinds.r Kind laws copy) (plus.Post Kind laws copy counts count numbers number clones clone)
  plus_settled κs a x y s t p q = p ∙ sym q

  minus_settled : Settles 1 (minus_kinds.ps Kind laws copy) (minus_kinds.r Kind laws copy) (minus.Post Kind laws copy counts count numbers number clones clone)
  minus_settled κs a x y s t p q = p ∙ sym q

  times_settled : Settles 1 (times_kinds.ps Kind laws copy) (times_kinds.r Kind laws copy) (times.Post Kind laws copy counts count numbers number clones clone)
  times_settled κs a x y s t p q = p ∙ sym q

  per_settled : Settles 1 (per_kinds.ps Kind laws copy) (per_kinds.r Kind laws copy) (per.Post Kind laws copy counts count numbers number clones clone)
  per_settled κs a x y s t p q = p ∙ sym q

  rest_settled : Settles 1 (rest_kinds.ps Kind laws copy) (rest_kinds.r Kind laws copy) (rest.Post Kind laws copy counts count numbers number clones clone)
  rest_settled κs a x y s t p q = p ∙ sym q
