-- A call that may be refused, once it is known whether it was.
use Rattle.std.proofs.Common.{◌≡◌, true, false}
use Rattle.std.specs.Prelude.{is_err, OnOk, OnErr, Result, Ok, Err}

-- what holds where it was done
pub of_done : {X E P : Type 0} (answer : Result X E) → is_err answer ≡ false → OnOk answer P → P
of_done (Ok x) is holds = holds
of_done (Err e) is holds = cc

-- what holds where it was refused
pub of_refused : {X E P : Type 0} (answer : Result X E) → is_err answer ≡ true → OnErr answer P → P
of_refused (Ok x) is holds = cc
of_refused (Err e) is holds = holds
