-- The bytes of a text, by what they are to RFC 4180.
use Rattle.std.specs.Prelude.{cond, List, [], ◌∷◌, ℕ, eqb, ltb, Option, Some, None}
use Rattle.rfc4180.specs.declared.bytes.Class.{Class}
use Rattle.rfc4180.specs.declared.bytes.Class.TheVariants.{Text, Comma, Quote, Return, Feed, Other}

-- the comma, the quote, CR and LF; every other byte from 32 to 126 is text; what is left stands outside the grammar
unfoldable pub class_of : ℕ → Class
class_of b =
    cond (eqb b 44) Comma
    (cond (eqb b 34) Quote
    (cond (eqb b 13) Return
    (cond (eqb b 10) Feed
    (cond (ltb b 32) Other
    (cond (ltb b 127) Text
    Other)))))

-- the class of the byte at the front of a text, where the text is not over
abbrev pub class_at : List ℕ → Option Class
class_at [] = None
class_at (b ∷ t) = Some (class_of b)
