-- reader::rates::rates_of meets its contract. The loop's invariant: the rates before the place were read.
use Rattle.std.proofs.Common.{arith, subst, inl, inr}
use Rattle.rfc4180.specs.Numbers.{Listed}
use Rattle.units.specs.Limits.{MOST_RATE}
use Rattle.reader.proofs.Listing.{listing_none, Stored, listing_all, listing_more, listing_bad}
use Rattle.reader.proofs.rates.rates_of.Goals.{else-count-lt-PHASES, then-count-lt-PHASES}
use Rattle.reader.proofs.rates.rates_of.Goals as goal

pub loop-rate-init : goal.loop-rate-init
loop-rate-init c = listing_none _

pub returns-in_err-rate : goal.returns-in_err-rate
returns-in_err-rate c = rw c.from_residual.ensures (listing_bad c.loop-rate.invariant (rw c.tokens-most.ensures at c.in_err-rate.ensures))

pub returns-then-rate-s : goal.returns-then-rate-s
returns-then-rate-s c =
    let rate : Listed c.args.s.now c.loop-rate.at MOST_RATE.0 c.in_ok-rate.rate.value c.in_ok-rate.rate.end = rw c.tokens-most.ensures at c.in_ok-rate.ensures in
    let kept : Stored c.loop-rate.values c.loop-rate.count c.in_ok-rate.rate.value c.if-count-lt-PHASES.values =
    elim c.if-count-lt-PHASES.branch [
      | then-count-lt-PHASES w ↦ inl (w.if-count-lt-PHASES.true, w.values-is)
      | else-count-lt-PHASES w ↦ inr (w.if-count-lt-PHASES.false, w.values-is)
    ] in
    listing_all c.loop-rate.invariant _ _ kept (subst (Listed c.args.s.now c.loop-rate.at MOST_RATE.0 c.in_ok-rate.rate.value) c.if-rate-s.true rate)

pub loop-rate-preserved : goal.loop-rate-preserved
loop-rate-preserved c =
    let rate : Listed c.args.s.now c.loop-rate.at MOST_RATE.0 c.in_ok-rate.rate.value c.in_ok-rate.rate.end = rw c.tokens-most.ensures at c.in_ok-rate.ensures in
    let kept : Stored c.loop-rate.values c.loop-rate.count c.in_ok-rate.rate.value c.if-count-lt-PHASES.values =
    elim c.if-count-lt-PHASES.branch [
      | then-count-lt-PHASES w ↦ inl (w.if-count-lt-PHASES.true, w.values-is)
      | else-count-lt-PHASES w ↦ inr (w.if-count-lt-PHASES.false, w.values-is)
    ] in
    listing_more c.loop-rate.invariant _ _ kept rate (omega (arith, c.if-rate-s.false, rate.inside))
