-- What is printed where numbers are large: of P8, of P9 and at the limit. Assumes nothing.
use mathlib.Core.Path.{◌≡◌, refl, ◌∙◌}
use mathlib.Core.List.{List, [], ◌∷◌, ◌++◌, append-nil}
use Prim.Native.Nat.{ℕ}
use Prim.Native.String.{String}
use lib.ListN.{get_or}
use Rattle.numbers.specs.Bits.{bit}
use Rattle.numbers.specs.Extreme.{most_of}
use Rattle.numbers.specs.Padded.{padded}
use Rattle.numbers.specs.Sum.{sum}
use Rattle.numbers.specs.Tab.{tab}
use Rattle.numbers.specs.Lowest.{lowest_or}
use Rattle.numbers.specs.Reckoned.{gcd_from}
use Rattle.units.specs.Limits.{MODES, ACTORS}
use Rattle.terms.specs.Text.{bytes}
use Rattle.rfc4180.specs.Writing.{joined}
use Rattle.rfc4180.proofs.Decimals.{numeral_is}
use Rattle.reader.specs.Told.{table_of}
use Rattle.reader.proofs.Computed.{rows_in}
use Rattle.graph.specs.Rounds.{preds_from, round_from, order_from, chosen, givers_from}
use Rattle.graph.specs.Counts.{entries_from, stays, fed_of, counts_from, balancesb}
use Rattle.graph.specs.Lengths.{most_from, common_from, share_from}
use Rattle.graph.specs.Judge.{timed_of, balanced_of, judge_of}
use Rattle.channel.specs.Phases.{start_of, size_of}
use Rattle.schedule.specs.Model.{depth_from, starts_from, schedule_of}
use Rattle.printer.specs.Texts.{texts}
use Rattle.printer.specs.Printed.{as_five, line_text, plan_text}
use Rattle.marked.specs.Lines.{text_of, eight, plan_eight, nine, plan_nine, longest, plan_longest}
use Rattle.planning.proofs.Reckoned.{answer_of}
use Rattle.marked.proofs.Reckoned.{plan_for}
use Rattle.marked.proofs.Claims.{table_in}

-- lines one behind the other, and nothing behind the last
abbrev pieces : List (List ℕ) → ℕ → List ℕ
pieces ls n = texts (λ i. get_or ls i []) n

-- the text of two actors and of a channel in mode 1
abbrev in_one : List ℕ → List ℕ → List ℕ → List ℕ
in_one a b c = pieces ((pieces (a ∷ b ∷ []) ACTORS ++ pieces (c ∷ []) 1) ∷ []) MODES ++ []

in_one_law : (a b c : List ℕ) → in_one a b c ≡ (a ++ b) ++ c
unfolding texts
in_one_law a b c = simp append-nil

abbrev actor_line : ℕ → ℕ → ℕ → ℕ → List ℕ
actor_line i q t s = line_text (bytes "actor") (as_five 1 i q t s)

abbrev channel_line : ℕ → ℕ → List ℕ
channel_line size tokens = line_text (bytes "channel") (as_five 1 1 2 size tokens)

-- what is printed of the plan of these rows
abbrev shown : List String → List ℕ
shown rows = plan_text (table_in (text_of rows)) (plan_for (table_in (text_of rows)))

-- it is these three lines, by their numbers; and they are written so
abbrev Reckoned : List String → List ℕ → List ℕ → List ℕ → Type 0
Reckoned rows source sink channel = shown rows ≡ in_one source sink channel

abbrev Written : List String → List ℕ → List ℕ → List ℕ → Type 0
Written lines source sink channel = (source ++ sink) ++ channel ≡ text_of lines

reckoned : Reckoned eight (actor_line 1 1 16777216 0) (actor_line 2 16 1048576 16777216) (channel_line 32 16)
    × Reckoned nine (actor_line 1 1 17825792 0) (actor_line 2 17 1048576 17825792) (channel_line 34 17)
    × Reckoned longest (actor_line 1 8 134217728 0) (actor_line 2 1024 1048576 134217728) (channel_line 256 1024)
unfolding bit sum tab lowest_or gcd_from most_of rows_in table_of padded preds_from round_from order_from chosen givers_from entries_from stays fed_of counts_from balancesb most_from common_from share_from timed_of balanced_of judge_of start_of size_of depth_from starts_from schedule_of answer_of texts
reckoned = (refl, refl, refl)

written : Written plan_eight (actor_line 1 1 16777216 0) (actor_line 2 16 1048576 16777216) (channel_line 32 16)
    × Written plan_nine (actor_line 1 1 17825792 0) (actor_line 2 17 1048576 17825792) (channel_line 34 17)
    × Written plan_longest (actor_line 1 8 134217728 0) (actor_line 2 1024 1048576 134217728) (channel_line 256 1024)
unfolding line_text joined
written =
    rw (
      numeral_is (bytes "134217728") refl,
      numeral_is (bytes "17825792") refl,
      numeral_is (bytes "16777216") refl,
      numeral_is (bytes "1048576") refl,
      numeral_is (bytes "1024") refl,
      numeral_is (bytes "256") refl,
      numeral_is (bytes "34") refl,
      numeral_is (bytes "32") refl,
      numeral_is (bytes "17") refl,
      numeral_is (bytes "16") refl,
      numeral_is (bytes "8") refl,
      numeral_is (bytes "2") refl,
      numeral_is (bytes "1") refl,
      numeral_is (bytes "0") refl,
    ) (refl, refl, refl)

pub large : (shown eight ≡ text_of plan_eight) × (shown nine ≡ text_of plan_nine) × (shown longest ≡ text_of plan_longest)
large =
    let (a, b, c) = reckoned in
    let (d, e, f) = written in
    (a ∙ in_one_law _ _ _ ∙ d, b ∙ in_one_law _ _ _ ∙ e, c ∙ in_one_law _ _ _ ∙ f)
