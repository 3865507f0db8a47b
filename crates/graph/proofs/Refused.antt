-- A step that finds nothing refuses a mode by the fault that is named.
use Rattle.std.specs.Prelude.{◌≡◌, Option, None, Some, Err}
use Rattle.std.specs.Option.{ok_or}
use Rattle.graph.specs.declared.Fault.{Fault}

pub refused : {A : Type 0} (o : Option A) (e f : Fault) → o ≡ None → Err e ≡ ok_or o f → e ≡ f
refused {A} None e f n is = cc
refused {A} (Some x) e f n is = cc
