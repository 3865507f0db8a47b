-- Texts as bytes.
use Rattle.std.specs.Prelude.{List, [], ◌∷◌, ℕ}
use Prim.Native.Char.{code}
use Prim.Native.String as String'
use Prim.Native.String.{String}

-- the bytes of an ASCII text
abbrev pub bytes : String → List ℕ
bytes String'.[] = []
bytes (String'.◌∷◌ c s) = code c ∷ bytes s
