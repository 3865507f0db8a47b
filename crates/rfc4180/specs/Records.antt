-- What is found at a place of a text.
use Rattle.std.specs.Prelude.{◌≡◌, List, [], ◌∷◌, ◌++◌, ℕ, ◌+◌, ◌-◌, ◌≤◌, length, drop, Option, Some, None}
use Rattle.numbers.specs.Every.{Every}
use Rattle.numbers.specs.Padded.{padded}
use Rattle.rfc4180.specs.declared.bytes.Class.TheVariants.{Text, Quote}
use Rattle.rfc4180.specs.declared.record.Span.{Span}
use Rattle.rfc4180.specs.declared.record.Found.{Found}
use Rattle.rfc4180.specs.declared.record.Field.{Field}
use Rattle.rfc4180.specs.declared.record.After.{After}
use Rattle.rfc4180.specs.declared.record.After.TheVariants.{More, End}
use Rattle.rfc4180.specs.Bytes.{class_of, class_at}
use Rattle.rfc4180.specs.Grammar.{Cell, plain, quoted, cell_text, Inside, Means, RecordEnd, FirstRecord}

-- the fields of a record that are kept
abbrev pub KEPT : ℕ
KEPT = 8

-- where the bytes of a field stand that begins at a place: for a quoted one, those between its quotes
abbrev pub span_of : ℕ → Cell → Span
span_of p (plain t) = record { start = p; end = p + length t }
span_of p (quoted t) = record { start = p + 1; end = p + 1 + length t }

-- where the bytes of each field stand, of fields one behind the other from a place on, with a comma between them
unfoldable pub spans : ℕ → List Cell → List Span
spans p [] = []
spans p (f ∷ fs) = span_of p f ∷ spans (p + length (cell_text f) + 1) fs

abbrev pub no_span : Span
no_span = record { start = 0; end = 0 }

-- what is found at a place of a text: how many fields the record has that starts there, where the first KEPT of them stand, and the place
-- behind it; None where none starts there
pub data RecordAt (text : List ℕ) (at : ℕ) : Option Found → Type 0 where
  found : {fs : List Cell} {cs : List (List ℕ)} {rest : List ℕ} → at ≤ length text → FirstRecord (drop at text) fs cs rest
      → RecordAt text at (Some (record { count = length fs; fields = padded KEPT no_span (spans at fs); next = length text - length rest }))
  none : (at ≤ length text → (fs : List Cell) (cs : List (List ℕ)) (rest : List ℕ) → FirstRecord (drop at text) fs cs rest → ⊥)
      → RecordAt text at None

-- the bytes of text from a place on, up to a place where none stands
pub data PlainTo (text : List ℕ) (from : ℕ) : ℕ → Type 0 where
  ends : (t u : List ℕ) → Every (λ b. class_of b ≡ Text) t → (class_at u ≡ Some Text → ⊥) → drop from text ≡ t ++ u → PlainTo text from (from + length t)

-- the quote that closes a field whose bytes between the quotes begin at a place, and which no other quote follows
pub data ClosedAt (text : List ℕ) (from : ℕ) : Option ℕ → Type 0 where
  closed : {t c : List ℕ} (u : List ℕ) → Inside t c → (class_at u ≡ Some Quote → ⊥) → drop from text ≡ t ++ (34 ∷ u) → ClosedAt text from (Some (from + length t))
  never : ((t c u : List ℕ) → Inside t c → (class_at u ≡ Some Quote → ⊥) → drop from text ≡ t ++ (34 ∷ u) → ⊥) → ClosedAt text from None

-- a field ends where this follows: behind an unquoted one, which begins with no quote, no text; behind a quoted one no quote
abbrev pub Whole : Cell → List ℕ → Type 0
Whole (plain t) u = (class_at u ≡ Some Text → ⊥) × (class_at (t ++ u) ≡ Some Quote → ⊥)
Whole (quoted t) u = class_at u ≡ Some Quote → ⊥

-- the field at a place, and the place behind it
pub data FieldAt (text : List ℕ) (at : ℕ) : Option Field → Type 0 where
  stands : {f : Cell} {c : List ℕ} (u : List ℕ) → Means f c → Whole f u → drop at text ≡ cell_text f ++ u
      → FieldAt text at (Some (record { span = span_of at f; end = at + length (cell_text f) }))
  broken : ((f : Cell) (c u : List ℕ) → Means f c → Whole f u → drop at text ≡ cell_text f ++ u → ⊥) → FieldAt text at None

-- what stands at a place where a field ends: the comma before the next field, the end of the record, or neither
pub data AfterAt (text : List ℕ) (at : ℕ) : Option After → Type 0 where
  comma : {u : List ℕ} → drop at text ≡ 44 ∷ u → AfterAt text at (Some (More (at + 1)))
  end : {rest : List ℕ} → RecordEnd (drop at text) rest → AfterAt text at (Some (End (length text - length rest)))
  neither : ((u : List ℕ) → drop at text ≡ 44 ∷ u → ⊥) → ((rest : List ℕ) → RecordEnd (drop at text) rest → ⊥) → AfterAt text at None
