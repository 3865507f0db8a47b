-- What the planner answers for every text and every buffer, and what it leaves in the buffer.
use Rattle.std.specs.Prelude.{◌≡◌, List, ℕ, length, Result, Ok, Err}
use Rattle.terms.specs.Refusal.{nowhere_for}
use Rattle.terms.specs.declared.refusal.Reason.TheVariants.{NoPlan}
use Rattle.terms.specs.declared.refusal.Refusal.{Refusal}
use Rattle.tables.specs.Shape.{Table, empty_table}
use Rattle.reader.specs.Told.{read_as, Told}
use Rattle.planning.specs.Shape.{Plan}
use Rattle.planning.specs.Plan.{Planned, Planning}
use Rattle.layout.specs.Words.{WORDS, words_of}
use Rattle.printer.specs.Printed.{PRINTED, plan_text, Shows}

-- Refusal 15 names no place.
abbrev pub no_plan : Refusal
no_plan = nowhere_for NoPlan

-- The text is read, and t is the table of its rows.
abbrev pub Reads : List ℕ → Table → Type 0
Reads text t = Told text (read_as t)

-- The answer to a text, with a buffer that holds these words before and those after: 15 where the buffer has another length; then the first refusal of
-- the text's length and rows; then that of its modes; and otherwise the words of its plan. A refusal leaves the buffer as it stood.
pub data Plans (text before : List ℕ) : Result (Unit {0}) Refusal → List ℕ → Type 0 where
  wrong_length : (length before ≡ WORDS → ⊥) → Plans text before (Err no_plan) before
  not_read : {r : Refusal} → length before ≡ WORDS → Told text (record { answer = Err r; table = empty_table })
      → Plans text before (Err r) before
  not_planned : {t : Table} {r : Refusal} → length before ≡ WORDS → Reads text t
      → Planning t (Err r) → Plans text before (Err r) before
  accepted : {t : Table} {w : Plan} → length before ≡ WORDS → Reads text t → Planned t w → Plans text before (Ok tt) (words_of t w)

-- Words that some accepted table leaves.
abbrev pub Stored : List ℕ → Type 0
Stored words = (text before : List ℕ) × Plans text before (Ok tt) words

-- The table t of some text, with what is planned of it, leaves these words.
pub record Leaves (t : Table) (w : Plan) (words : List ℕ) : Type 0 where
  pub text : List ℕ
  pub reads : Reads text t
  pub planned : Planned t w
  pub left : words ≡ words_of t w

-- What is printed of some words into a buffer of bytes: 15, and the bytes as they stood, where its length is another or no accepted table leaves the words.
pub data Prints (words before : List ℕ) : Result ℕ Refusal → List ℕ → Type 0 where
  no_room : (length before ≡ PRINTED → ⊥) → Prints words before (Err no_plan) before
  not_stored : length before ≡ PRINTED → (Stored words → ⊥) → Prints words before (Err no_plan) before
  printed : {t : Table} {w : Plan} {after : List ℕ} {n : ℕ} → length before ≡ PRINTED → Leaves t w words → Shows (plan_text t w) after n
      → Prints words before (Ok n) after
