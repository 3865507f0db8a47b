-- Each public function's statement admits one answer only.
use mathlib.Core.Path.{◌≡◌, refl, ap, ap₂}
use mathlib.Core.List.{List}
use Prim.Native.Nat.{ℕ}
use contract.Lifetimes.{Lfts}
use denote.Triple.Clauses.{AtExit}
use borrow.Fn.Kinds.{Dens, res_t, ended_of}
use Rattle.numbers.proofs.Settles.{Settles}
use Rattle.numbers.specs.Decides.{decides_unique}
use Rattle.std.specs.Prelude.{Option, Some, None}
use Rattle.rfc4180.specs.declared.decimal.Item.{Item}
use Rattle.rfc4180.specs.declared.record.Found.{Found}
use Rattle.rfc4180.specs.Records.{RecordAt, found, none}
use Rattle.rfc4180.specs.Numbers.{NumberOf, ItemAt}
use Rattle.rfc4180.proofs.Grammar.{first_one}
use Rattle.rfc4180.proofs.Decimals.{number_one}
use Rattle.rfc4180.proofs.Runs.{run_one, item_run}
use Rattle.rfc4180.proofs.Laying.{laid_one}
use Rattle.rfc4180.proofs.bytes.same.Kinds as same_kinds
use Rattle.rfc4180.proofs.bytes.same.Reads as same
use Rattle.rfc4180.proofs.record.record_at.Kinds as record_at_kinds
use Rattle.rfc4180.proofs.record.record_at.Reads as record_at
use Rattle.rfc4180.proofs.decimal.number_of.Kinds as number_of_kinds
use Rattle.rfc4180.proofs.decimal.number_of.Reads as number_of_lem
use Rattle.rfc4180.proofs.decimal.item_at.Kinds as item_at_kinds
use Rattle.rfc4180.proofs.decimal.item_at.Reads as item_at
use Rattle.rfc4180.proofs.writing.word.Kinds as word_kinds
use Rattle.rfc4180.proofs.writing.word.Reads as word
use Rattle.rfc4180.proofs.writing.number.Kinds as number_kinds
use Rattle.rfc4180.proofs.writing.number.Reads as number
use Rattle.rfc4180.proofs.writing.field.Kinds as field_kinds
use Rattle.rfc4180.proofs.writing.field.Reads as field
use Rattle.rfc4180.proofs.writing.crlf.Kinds as crlf_kinds
use Rattle.rfc4180.proofs.writing.crlf.Reads as crlf

found_one : {text : List ℕ} {at : ℕ} {x y : Option Found} → RecordAt text at x → RecordAt text at y → x ≡ y
found_one (found l p) (found k q) = let e = first_one p q in rw (e.0, e.2)
found_one (found {fs} {cs} {rest} l p) (none h) = absurd (h l fs cs rest p)
found_one (none h) (found {fs} {cs} {rest} l p) = absurd (h l fs cs rest p)
found_one (none h) (none k) = refl

number_unique : (s : List ℕ) (least most : ℕ) (x y : Option ℕ) → NumberOf s least most x → NumberOf s least most y → x ≡ y
number_unique s least most (Some n) (Some m) p q = ap Some (number_one p.1 q.1)
number_unique s least most (Some n) None p q = absurd (q n p.0 p.1)
number_unique s least most None (Some m) p q = absurd (p m q.0 q.1)
number_unique s least most None None p q = refl

item_unique : (s : List ℕ) (at most : ℕ) (x y : Option Item) → ItemAt s at most x → ItemAt s at most y → x ≡ y
item_unique s at most (Some i) (Some j) p q =
    let w = run_one (item_run p) (item_run q) in ap₂ (λ (n end : ℕ). Some (record { value = n; end = end })) w.0 w.1
item_unique s at most (Some i) None p q = absurd (q i.value i.end p)
item_unique s at most None (Some j) p q = absurd (p j.value j.end q)
item_unique s at most None None p q = refl

same_settled : Settles 2 same_kinds.ps same_kinds.r same.Post
same_settled κs a x y s t p q = decides_unique x y p q

record_at_settled : Settles 1 record_at_kinds.ps record_at_kinds.r record_at.Post
record_at_settled κs a x y s t p q = found_one p q

number_of_settled : Settles 1 number_of_kinds.ps number_of_kinds.r number_of_lem.Post
number_of_settled κs a x y s t p q = number_unique _ _ _ x y p q

item_at_settled : Settles 1 item_at_kinds.ps item_at_kinds.r item_at.Post
item_at_settled κs a x y s t p q = item_unique _ _ _ x y p q

-- and of those that write, one content of the buffer only
word_settled : (κs : Lfts 2) (a : Dens κs word_kinds.ps) (x y : (res_t word_kinds.r κs).Denot) (s t : AtExit (ended_of 2 word_kinds.ps word_kinds.r) κs)
    → word.Post κs a x s → word.Post κs a y t → (x ≡ y) × (s.0.now ≡ t.0.now)
word_settled κs a x y s t p q = laid_one p q

number_settled : (κs : Lfts 1) (a : Dens κs number_kinds.ps) (x y : (res_t number_kinds.r κs).Denot) (s t : AtExit (ended_of 1 number_kinds.ps number_kinds.r) κs)
    → number.Post κs a x s → number.Post κs a y t → (x ≡ y) × (s.0.now ≡ t.0.now)
number_settled κs a x y s t p q = laid_one p q

field_settled : (κs : Lfts 1) (a : Dens κs field_kinds.ps) (x y : (res_t field_kinds.r κs).Denot) (s t : AtExit (ended_of 1 field_kinds.ps field_kinds.r) κs)
    → field.Post κs a x s → field.Post κs a y t → (x ≡ y) × (s.0.now ≡ t.0.now)
field_settled κs a x y s t p q = laid_one p q

crlf_settled : (κs : Lfts 1) (a : Dens κs crlf_kinds.ps) (x y : (res_t crlf_kinds.r κs).Denot) (s t : AtExit (ended_of 1 crlf_kinds.ps crlf_kinds.r) κs)
    → crlf.Post κs a x s → crlf.Post κs a y t → (x ≡ y) × (s.0.now ≡ t.0.now)
crlf_settled κs a x y s t p q = laid_one p q
