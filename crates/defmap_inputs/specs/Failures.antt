-- What a failure tells: the status to end with, and a line.
use Rattle.std.specs.Prelude.{ℕ, List, [], codes}
use Rattle.std.specs.String.{string_bytes}
use Rattle.defmap_inputs.specs.declared.failure.Failure.{Failure}
use Rattle.defmap_inputs.specs.declared.failure.Failure.TheVariants.{Told, OutOfMemory, NoOutput, Closed}
use Rattle.defmap_inputs.specs.declared.failure.Status.{Status}
use Rattle.defmap_inputs.specs.declared.failure.Status.TheVariants.{Fine, Unreadable}

-- a failure that is told has its own; memory and output are what cannot be read or written; and that nobody reads on is none
abbrev pub status_of : Failure → Status
status_of (Told status line) = status
status_of OutOfMemory = Unreadable
status_of NoOutput = Unreadable
status_of Closed = Fine

-- each says what to do
abbrev pub line_of : Failure → List ℕ
line_of (Told status line) = string_bytes line
line_of OutOfMemory = codes "memory ran out: give the program more of it, or a smaller --limit"
line_of NoOutput = codes "the output cannot be written: see where it leads"
line_of Closed = []
