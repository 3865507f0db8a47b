-- Tokens of a channel.
use Rattle.std.specs.Prelude.{ℕ, ◌+◌, ◌-◌, ◌*◌, ◌%◌, max}
use Rattle.units.specs.declared.Token.{Token}

abbrev pub token : ℕ → Token
token n = record { 0 = n }

-- the greater of two
abbrev pub greater_token : Token → Token → Token
greater_token a b = token (max a.0 b.0)

-- a, and b more; a, and b less, which is at least 0
abbrev pub plus_tokens : Token → Token → Token
plus_tokens a b = token (a.0 + b.0)

abbrev pub minus_tokens : Token → Token → Token
minus_tokens a b = token (a.0 - b.0)

-- n times a
abbrev pub times_tokens : ℕ → Token → Token
times_tokens n a = token (n * a.0)

-- what is left of a when b is taken from it as often as it fits
abbrev pub rest_tokens : Token → Token → Token
rest_tokens a b = token (a.0 % b.0)
