-- The marked lines of document 01 that have a star, all of them. Assumes nothing.
use mathlib.Core.Path.{refl}
use Rattle.numbers.specs.Bits.{bit}
use Rattle.numbers.specs.Every.{Every}
use Rattle.numbers.specs.Extreme.{most_of}
use Rattle.numbers.specs.Fraction.{sum_of}
use Rattle.numbers.specs.Padded.{padded}
use Rattle.numbers.specs.Sum.{sum}
use Rattle.numbers.specs.Tab.{tab}
use Rattle.numbers.specs.Lowest.{lowest_or}
use Rattle.numbers.specs.Reckoned.{gcd_from}
use Rattle.terms.specs.declared.refusal.Reason.TheVariants.{Unended}
use Rattle.rfc4180.specs.Decimal.{writing, decimal}
use Rattle.rfc4180.specs.Writing.{joined}
use Rattle.reader.specs.Rows.{channels}
use Rattle.reader.specs.Told.{table_of}
use Rattle.reader.proofs.Computed.{rows_in, readsb}
use Rattle.graph.specs.Rounds.{preds_from, round_from, order_from, chosen, givers_from}
use Rattle.graph.specs.Counts.{entries_from, stays, fed_of, counts_from, balancesb}
use Rattle.graph.specs.Lengths.{most_from, common_from, share_from}
use Rattle.graph.specs.Judge.{timed_of, balanced_of, judge_of}
use Rattle.channel.specs.Phases.{start_of, size_of}
use Rattle.schedule.specs.Model.{depth_from, starts_from, schedule_of}
use Rattle.run.specs.Machine.{refusal}
use Rattle.printer.specs.Texts.{texts}
use Rattle.printer.specs.Printed.{line_text}
use Rattle.marked.specs.Lines.{Holds, lines}
use Rattle.planning.proofs.Reckoned.{answer_of}
use Rattle.marked.proofs.Told.{AllTold}
use Rattle.marked.proofs.Claims.{all_hold}
use Rattle.marked.proofs.Large.{large}

-- a row, and the rows behind it
infixr 30 ◌&◌
◌&◌ : {A B : Type 0} → A → B → A × B
a & b = (a, b)

pub marked : Every Holds lines
unfolding lines AllTold bit sum sum_of tab lowest_or gcd_from most_of rows_in readsb channels table_of padded preds_from round_from order_from chosen givers_from entries_from stays fed_of counts_from balancesb most_from common_from share_from timed_of balanced_of judge_of start_of size_of depth_from starts_from schedule_of answer_of texts line_text joined decimal writing refusal
marked =
    all_hold lines
    (((tt, refl), refl)
    & ((tt, refl), refl)
    & ((tt, refl), refl)
    & ((tt, refl), refl)
    & ((tt, refl), refl)
    & ((tt, refl), refl)
    & (tt, refl)
    & ((tt, refl), large.0)
    & ((tt, refl), large.1)
    & ((tt, refl), large.2)
    & (tt, refl)
    & (tt, refl)
    & (tt, refl)
    & (tt, tt, refl)
    & ((tt, refl), tt, ((Unended, refl, refl), tt))
    & ((tt, refl), tt, (refl, tt))
    & ((tt, refl), tt, (refl, tt))
    & ((tt, refl), tt, (refl, tt))
    & ((tt, refl), tt, (refl, ((Unended, refl, refl), (refl, tt))))
    & tt)
