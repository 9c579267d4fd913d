-- The numbers of statuses.
use Rattle.std.specs.Prelude.{ℕ}
use Rattle.program_support.specs.declared.status.Status.{Status}
use Rattle.program_support.specs.declared.status.Status.TheVariants.{Done, Found, OutOfMemory, Unreadable, Unwritable, Stopped}

abbrev pub status_code : Status → ℕ
status_code Done = 0
status_code Found = 1
status_code OutOfMemory = 2
status_code Unreadable = 3
status_code Unwritable = 4
status_code Stopped = 5
