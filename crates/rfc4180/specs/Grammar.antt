-- The grammar of RFC 4180: what stands in a text for which contents.
use Rattle.std.specs.Prelude.{◌≡◌, List, [], ◌∷◌, ◌++◌, ℕ}
use Rattle.numbers.specs.Every.{Every}
use Rattle.rfc4180.specs.declared.bytes.Class.{Class}
use Rattle.rfc4180.specs.declared.bytes.Class.TheVariants.{Text, Comma, Quote, Return, Feed, Other}
use Rattle.rfc4180.specs.Bytes.{class_of}

-- a field as it stands: its bytes, or its bytes between two quotes
pub data Cell : Type 0 where
  plain : List ℕ → Cell
  quoted : List ℕ → Cell

abbrev pub cell_text : Cell → List ℕ
cell_text (plain t) = t
cell_text (quoted t) = 34 ∷ (t ++ (34 ∷ []))

-- the bytes without the quotes around them
abbrev pub raw : Cell → List ℕ
raw (plain t) = t
raw (quoted t) = t

-- what may stand between quotes for itself: text, a comma, CR and LF
abbrev pub Inner : Class → Type 0
Inner Text = Unit {0}
Inner Comma = Unit {0}
Inner Quote = ⊥
Inner Return = Unit {0}
Inner Feed = Unit {0}
Inner Other = ⊥

-- the bytes between the quotes of a field, and its content: two quotes stand for one
pub data Inside : List ℕ → List ℕ → Type 0 where
  nothing : Inside [] []
  byte : {b : ℕ} {t c : List ℕ} → Inner (class_of b) → Inside t c → Inside (b ∷ t) (b ∷ c)
  pair : {t c : List ℕ} → Inside t c → Inside (34 ∷ 34 ∷ t) (34 ∷ c)

-- a field and its content
pub data Means : Cell → List ℕ → Type 0 where
  as_is : {t : List ℕ} → Every (λ b. class_of b ≡ Text) t → Means (plain t) t
  between : {t c : List ℕ} → Inside t c → Means (quoted t) c

-- the end of a record, and what follows it: CRLF, or the end of the text
pub data RecordEnd : List ℕ → List ℕ → Type 0 where
  crlf : {rest : List ℕ} → RecordEnd (13 ∷ 10 ∷ rest) rest
  over : RecordEnd [] []

-- the record at the front of a text: its fields as they stand, their contents, and what follows it
pub data FirstRecord : List ℕ → List Cell → List (List ℕ) → List ℕ → Type 0 where
  last : {f : Cell} {c u rest : List ℕ} → Means f c → RecordEnd u rest → FirstRecord (cell_text f ++ u) (f ∷ []) (c ∷ []) rest
  more : {f : Cell} {c u rest : List ℕ} {fs : List Cell} {cs : List (List ℕ)} → Means f c → FirstRecord u fs cs rest
      → FirstRecord (cell_text f ++ (44 ∷ u)) (f ∷ fs) (c ∷ cs) rest
