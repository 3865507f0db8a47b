-- Each public function's statement admits one answer only; that of `read` settles the memory that is left too.
use mathlib.Core.Path.{◌≡◌, refl, sym, ap, ap₂, ◌∙◌}
use mathlib.Core.List.{List}
use Prim.Native.Nat.{ℕ, ◌-◌}
use lib.ListN.{length}
use contract.Lifetimes.{Lfts}
use denote.Triple.Clauses.{AtExit}
use borrow.Fn.Kinds.{Dens, res_t, ended_of}
use Rattle.std.specs.Prelude.{Option, Some, Result, Ok, Err}
use Rattle.numbers.proofs.Settles.{Settles}
use Rattle.terms.specs.declared.refusal.Reason.{Reason}
use Rattle.terms.specs.declared.refusal.Refusal.{Refusal}
use Rattle.tables.specs.Memory.{table_fronts, table_channels}
use Rattle.reader.specs.declared.line.Line.{Line}
use Rattle.reader.specs.declared.rates.Rates.{Rates as RatesIn}
use Rattle.reader.specs.Rows.{Row}
use Rattle.reader.specs.Told.{Reading, ReadInto}
use Rattle.reader.specs.Lines.{rates_in, RatesOf, listed, none, line_of, LineAt, no_record, no_row, row}
use Rattle.reader.specs.Checks.{FirstOrNone, refused, passes}
use Rattle.reader.proofs.Written.{same_list}
use Rattle.reader.proofs.Again.{first_of_one, first_or_none, readable, first_row_one, told_one}
use Rattle.reader.proofs.rates.rates_of.Kinds as rates_of_kinds
use Rattle.reader.proofs.rates.rates_of.Reads as rates_of_law
use Rattle.reader.proofs.line.ChannelFromLink.from.Kinds as channel_from_link_kinds
use Rattle.reader.proofs.line.ChannelFromLink.from.Reads as channel_from_link
use Rattle.reader.proofs.line.line_at.Kinds as line_at_kinds
use Rattle.reader.proofs.line.line_at.Reads as line_at_lem
use Rattle.reader.proofs.check.check_actor.Kinds as check_actor_kinds
use Rattle.reader.proofs.check.check_actor.Reads as check_actor
use Rattle.reader.proofs.check.check_channel.Kinds as check_channel_kinds
use Rattle.reader.proofs.check.check_channel.Reads as check_channel
use Rattle.reader.proofs.read.Kinds as read_kinds
use Rattle.reader.proofs.read.Reads as read

rates_one : {s : List ℕ} {x y : Option RatesIn} → RatesOf s x → RatesOf s y → x ≡ y
rates_one (listed xs r e) (listed ys q f) = ap (λ (zs : List ℕ). Some (rates_in zs)) (same_list xs ys r.0 q.0 (e ∙ sym f))
rates_one (listed xs r e) (none h) = absurd (h xs r e)
rates_one (none h) (listed xs r e) = absurd (h xs r e)
rates_one (none h) (none k) = refl

rates_of_settled : Settles 1 rates_of_kinds.ps rates_of_kinds.r rates_of_law.Post
rates_of_settled κs a x y s t p q = rates_one p q

line_one : {text : List ℕ} {at : ℕ} {x y : Result Line Reason} → LineAt text at x → LineAt text at y → x ≡ y
line_one (no_record x) (no_record y) = refl
line_one (no_record x) (no_row y) = absurd (x y.fields y.contents y.rest y.stands y.six)
line_one (no_record x) (row g) = absurd (readable g x)
line_one (no_row x) (no_record y) = absurd (y x.fields x.contents x.rest x.stands x.six)
line_one (no_row x) (no_row y) = refl
line_one (no_row x) (row {r} {rest} g) = absurd (x.no_row r rest g)
line_one (row f) (no_record y) = absurd (readable f y)
line_one (row {r} {rest} f) (no_row y) = absurd (y.no_row r rest f)
line_one {text} (row f) (row g) = let (e, k) = first_row_one f g in ap₂ (λ (r : Row) (u : List ℕ). Ok (line_of r (length text - length u))) e k

line_at_settled : Settles 1 line_at_kinds.ps line_at_kinds.r line_at_lem.Post
line_at_settled κs a x y s t p q = line_one p q

channel_from_link_settled : Settles 0 channel_from_link_kinds.ps channel_from_link_kinds.r channel_from_link.Post
channel_from_link_settled κs a x y s t p q = p ∙ sym q

first_one : {a b c : Type 0} {x y : Result (Unit {0}) Reason} → FirstOrNone a b c x → FirstOrNone a b c y → x ≡ y
first_one (refused x) (refused y) = ap Err (first_of_one x y)
first_one (refused x) (passes q) = absurd (first_or_none q x)
first_one (passes q) (refused y) = absurd (first_or_none q y)
first_one (passes p) (passes q) = refl

check_actor_settled : Settles 0 check_actor_kinds.ps check_actor_kinds.r check_actor.Post
check_actor_settled κs a x y s t p q = first_one p q

check_channel_settled : Settles 0 check_channel_kinds.ps check_channel_kinds.r check_channel.Post
check_channel_settled κs a x y s t p q = first_one p q

into_one : {text f c g d : List ℕ} {x y : Result (Unit {0}) Refusal} → ReadInto text x f c → ReadInto text y g d → (x ≡ y) × (f ≡ g) × (c ≡ d)
into_one p q =
    let e = told_one p.told q.told in
    let t : p.table ≡ q.table = ap (λ (r : Reading). r.table) e in
    (ap (λ (r : Reading). r.answer) e, p.fronts_are ∙ ap table_fronts t ∙ sym q.fronts_are, p.channels_are ∙ ap table_channels t ∙ sym q.channels_are)

read_settled : (κs : Lfts 3) (a : Dens κs read_kinds.ps) (x y : (res_t read_kinds.r κs).Denot) (s t : AtExit (ended_of 3 read_kinds.ps read_kinds.r) κs)
    → read.Post κs a x s → read.Post κs a y t → (x ≡ y) × (s.1.0.now ≡ t.1.0.now) × (s.1.1.0.now ≡ t.1.1.0.now)
read_settled κs a x y s t p q = into_one p q
