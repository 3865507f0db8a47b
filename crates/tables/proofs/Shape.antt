-- What its type tells of the rates of a channel. Assumes nothing.
use mathlib.Core.List.{List}
use native.Mathlib.Omega.{arith}
use mir.Val.{Val}
use mir.Syntax.{w8}
use borrow.Author.Rules.{elem_Fits}
use denote.Laws.{Is}
use denote.Struct.Declared.{row}
use Rattle.tables.specs.declared.Channel.{Channel}
use Rattle.tables.specs.Parts.{Bytes}
use Rattle.tables.specs.contracts.Channel as channel

-- a channel's rates
pub record ChannelShape (c : Channel) : Type 0 where
  pub production : Bytes c.production
  pub consumption : Bytes c.consumption

pub channel_shape : (c : Channel) (vs : List Val) → Is (row channel.the_type) c vs → ChannelShape c
channel_shape c vs g =
    record {
      production = record {
        long = g.1.1.1.1.0.1.0.1;
        small = λ k. omega (arith, elem_Fits w8 w8 c.production _ k g.1.1.1.1.0.1.1 tt);
      };
      consumption = record {
        long = g.1.1.1.1.1.0.1.0.1;
        small = λ k. omega (arith, elem_Fits w8 w8 c.consumption _ k g.1.1.1.1.1.0.1.1 tt);
      };
    }
