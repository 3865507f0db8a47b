use Rattle.std.proofs.Common.{◌-◌, length}
use Rattle.reader.proofs.Listing.{Listing}
use Rattle.reader.proofs.rates.rates_of.Given as goal

abbrev pub invariant-loop-rate : goal.invariant-loop-rate
invariant-loop-rate l = Listing l.s l.values l.count l.at

abbrev pub decreases-loop-rate : goal.decreases-loop-rate
decreases-loop-rate l = length l.s - l.at
