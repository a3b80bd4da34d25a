-- What holds whatever was answered.
use Rattle.std.proofs.Common.{Option, Some, None, Result, Ok, Err, OnErr}
use Rattle.std.specs.Option.{IfNone}

pub if_err : {T E P : Type 0} (r : Result T E) → P → OnErr r P
if_err (Ok x) p = tt
if_err (Err e) p = p

pub if_none : {T P : Type 0} (o : Option T) → P → IfNone o P
if_none (Some x) p = tt
if_none None p = p
