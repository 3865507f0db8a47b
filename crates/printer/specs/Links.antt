-- Model of the code: the line of a channel, by the channel as it is planned.
use Rattle.std.specs.Prelude.{List, ℕ}
use Rattle.terms.specs.Place.{number_of}
use Rattle.terms.specs.Text.{bytes}
use Rattle.layout.specs.declared.load.Link.{Link}
use Rattle.printer.specs.Printed.{line_text, as_five}

abbrev pub link_text : ℕ → Link → List ℕ
link_text m l = line_text (bytes "channel") (as_five (number_of m) (number_of l.from) (number_of l.to) l.size.0 l.tokens.0)
