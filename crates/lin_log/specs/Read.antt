-- What reading a part of a line answers, beside what the definition says.
use Rattle.std.specs.Prelude.{◌≡◌, Result, Ok, Err}
use Rattle.lin_log.specs.declared.reason.LineFault.{LineFault}
use Rattle.lin_log.specs.declared.reason.LineFault.TheVariants.{Bad, OutOfMemory}
use Rattle.lin_log.specs.declared.reason.Reason.{Reason}

abbrev pub Fails : {Y : Type 0} → LineFault → Result Y Reason → Type 0
Fails (Bad why) read = read ≡ Err why
Fails OutOfMemory read = Unit {0}

abbrev pub Gives : {X Y : Type 0} → (X → Y) → Result X LineFault → Result Y Reason → Type 0
Gives view (Ok x) read = read ≡ Ok (view x)
Gives view (Err e) read = Fails e read
