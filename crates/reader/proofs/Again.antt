-- The tables that texts read as are the proper ones: each is written as a text that reads as it again. A text is told of in one way only.
-- Assumes nothing.
use mathlib.Core.Path.{◌≡◌, refl, sym, ap, subst, ◌∙◌}
use mathlib.Core.List.{List, [], ◌∷◌}
use mathlib.Core.Logic.{⊎_elim}
use Prim.Native.Nat.{ℕ}
use native.Mathlib.Omega.{arith}
use lib.ListN.{length}
use Rattle.std.specs.Prelude.{Ok, Err}
use Rattle.rfc4180.specs.Grammar.{plain, FirstRecord, last, as_is, over}
use Rattle.terms.specs.Refusal.{refusal_at}
use Rattle.terms.specs.declared.refusal.Place.TheVariants.{Row as AtRow}
use Rattle.terms.specs.declared.refusal.Reason.{Reason}
use Rattle.tables.specs.Shape.{Table}
use Rattle.tables.specs.Proper.{ProperTable}
use Rattle.reader.specs.Rows.{Row, contents, FirstOf, by_3, by_4, by_5, NoneOf, RowRefused, Passes}
use Rattle.reader.specs.Told.{Outcome, rows, refused, FirstRow, Refused1, FrontRefused, by_1, by_2, by_row, After, done, stopped, passed, Of, wrong_length, right_length, table_of, Reading, reading_of, Told}
use Rattle.reader.specs.Writing.{rows_of, written}
use Rattle.rfc4180.proofs.Grammar.{first_one}
use Rattle.reader.proofs.Lookup.{start}
use Rattle.reader.proofs.Written.{row_one}
use Rattle.reader.proofs.Reread.{row_fields, read_again, after_passed, after_some}
use Rattle.reader.proofs.Kept.{proper}
use Rattle.reader.proofs.Rewritten.{rows_passed, rows_table}
use Rattle.reader.proofs.Short.{written_short, written_some}

-- a text reads as this table
abbrev pub ReadsAs : List ℕ → Table → Type 0
ReadsAs text t = Told text (record { answer = Ok tt; table = t })

-- rows that were read make a proper table
of_proper : {text : List ℕ} {rs : List Row} → Of text (rows rs) → ProperTable (table_of rs)
of_proper (right_length some few a) = proper (after_passed a start) (after_some a some)

pub reads_proper : (text : List ℕ) (t : Table) → ReadsAs text t → ProperTable t
reads_proper text t (rows rs, of, e) = subst ProperTable (sym (ap (λ (r : Reading). r.table) e)) (of_proper of)
reads_proper text t (refused n r, of, e) =
    let f : Ok tt ≡ Err (refusal_at n (AtRow r)) = ap (λ (x : Reading). x.answer) e in
    let z : ◌≡◌ {A = ℕ} 0 1 = cc in absurd (omega arith)

-- the first of three refusals is one only, and where none applies there is no first
pub first_of_one : {third fourth fifth : Type 0} {n k : Reason} → FirstOf third fourth fifth n → FirstOf third fourth fifth k → n ≡ k
first_of_one (by_3 x) (by_3 y) = refl
first_of_one (by_3 x) (by_4 a y) = absurd (a x)
first_of_one (by_3 x) (by_5 a b y) = absurd (a x)
first_of_one (by_4 a x) (by_3 y) = absurd (a y)
first_of_one (by_4 a x) (by_4 b y) = refl
first_of_one (by_4 a x) (by_5 b c y) = absurd (c x)
first_of_one (by_5 a b x) (by_3 y) = absurd (a y)
first_of_one (by_5 a b x) (by_4 c y) = absurd (b y)
first_of_one (by_5 a b x) (by_5 c d y) = refl

pub first_or_none : {third fourth fifth : Type 0} {n : Reason} → NoneOf third fourth fifth → FirstOf third fourth fifth n → ⊥
first_or_none q (by_3 x) = q.0 x
first_or_none q (by_4 a x) = q.1 x
first_or_none q (by_5 a b x) = q.2 x

-- a row is a record of six fields
pub readable : {t u : List ℕ} {r : Row} → FirstRow t r u → Refused1 t → ⊥
readable {u = u} {r} f x = x f.fields (contents r) u f.stands (row_fields r)

pub written_reads : (t : Table) → ProperTable t → ReadsAs (written t) t
written_reads t p = (
  rows (rows_of t),
  read_again (rows_of t) (rows_passed t p) (written_some t p) (written_short t p),
  ap (λ (x : Table). record { answer = Ok tt; table = x }) (sym (rows_table t p)),
)

-- one row stands at the front of a text, and none where it is empty
pub first_row_one : {t u v : List ℕ} {r s : Row} → FirstRow t r u → FirstRow t s v → (r ≡ s) × (u ≡ v)
first_row_one {r = r} {s} f g =
    let (fields, same, rest) = first_one f.stands g.stands in
    (row_one r s same f.in_range g.in_range, rest)

no_first_row : {u : List ℕ} {r : Row} → FirstRow [] r u → ⊥
no_first_row {r = r} f =
    let none : FirstRecord [] (plain [] ∷ []) ([] ∷ []) [] = last (as_is tt) over in
    omega (arith, ap length (first_one f.stands none).1, row_fields r)

-- what stands there is refused in one way, and then it is no row that passes
front_passes : {rs : List Row} {t u : List ℕ} {r : Row} {n : Reason} → FirstRow t r u → Passes rs r → FrontRefused rs t n → ⊥
front_passes f q (by_1 x) = readable f x
front_passes {u = u} {r} f q (by_2 x) = x.no_row r u f
front_passes {rs} {n = n} f q (by_row g x) = first_or_none q (subst (λ (s : Row). RowRefused rs s n) (first_row_one g f).0 x)

front_refused_one : {rs : List Row} {t : List ℕ} {n k : Reason} → FrontRefused rs t n → FrontRefused rs t k → n ≡ k
front_refused_one (by_1 x) (by_1 y) = refl
front_refused_one (by_1 x) (by_2 y) = absurd (x y.fields y.contents y.rest y.stands y.six)
front_refused_one (by_1 x) (by_row g y) = absurd (readable g x)
front_refused_one (by_2 x) (by_1 y) = absurd (y x.fields x.contents x.rest x.stands x.six)
front_refused_one (by_2 x) (by_2 y) = refl
front_refused_one (by_2 x) (by_row {r = r} {rest} g y) = absurd (x.no_row r rest g)
front_refused_one (by_row f x) (by_1 y) = absurd (readable f y)
front_refused_one (by_row {r = r} {rest} f x) (by_2 y) = absurd (y.no_row r rest f)
front_refused_one {rs} {k = k} (by_row f x) (by_row g y) = first_of_one x (subst (λ (s : Row). RowRefused rs s k) (first_row_one g f).0 y)

-- a text has one outcome
pub after_one : {rs : List Row} {t : List ℕ} {o u : Outcome} → After rs t o → After rs t u → o ≡ u
after_one done done = refl
after_one done (stopped h x) = absurd (omega arith)
after_one done (passed f q a) = absurd (no_first_row f)
after_one (stopped h x) done = absurd (omega arith)
after_one (stopped h x) (stopped l y) = rw (front_refused_one x y) refl
after_one (stopped h x) (passed f q a) = absurd (front_passes f q x)
after_one (passed f q a) done = absurd (no_first_row f)
after_one (passed f q a) (stopped h x) = absurd (front_passes f q x)
after_one {rs} {u = u} (passed {rest = rest} f q a) (passed {r = s} g p b) =
    let (row, tail) = first_row_one g f in
    after_one a (subst (λ (x : Row). After (x ∷ rs) rest u) row (subst (λ (x : List ℕ). After (s ∷ rs) x u) tail b))

pub of_one : {t : List ℕ} {o u : Outcome} → Of t o → Of t u → o ≡ u
of_one (wrong_length w) (wrong_length v) = refl
of_one (wrong_length w) (right_length some few a) = absurd (⊎_elim (λ e. omega arith) (λ e. omega arith) w)
of_one (right_length some few a) (wrong_length w) = absurd (⊎_elim (λ e. omega arith) (λ e. omega arith) w)
of_one (right_length some few a) (right_length more less b) = after_one a b

pub told_one : {text : List ℕ} {x y : Reading} → Told text x → Told text y → x ≡ y
told_one p q = p.2 ∙ ap reading_of (of_one p.1 q.1) ∙ sym q.2
