-- Bytes laid over a buffer from a place on.
use Rattle.std.specs.Prelude.{◌≡◌, List, ℕ, ◌+◌, ◌≤◌, length}
use Rattle.std.proofs.lemmas.List.Edits.{sets}

-- there is room for a text from a place on
pub record Room (buffer : List ℕ) (at : ℕ) (text : List ℕ) : Type 0 where
  pub fits : at + length text ≤ length buffer

-- a buffer, and what it is with a text laid over it from a place on; the text ends before the place `end`
pub record Laid (before : List ℕ) (at : ℕ) (text after : List ℕ) (end : ℕ) : Type 0 where
  pub ends : end ≡ at + length text
  pub is : after ≡ sets before at text
