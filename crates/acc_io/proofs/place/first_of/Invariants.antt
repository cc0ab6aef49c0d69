-- No file before this one has the name, so the first of that name is the first among the rest.
use Rattle.std.proofs.Common.{◌≡◌, drop}
use Rattle.acc_io.specs.Held.{file_of}
use Rattle.acc_io.specs.Files.{files_of}
use Rattle.acc_io.proofs.place.first_of.Given as goal

abbrev pub invariant-loop-file : goal.invariant-loop-file
invariant-loop-file l = file_of (files_of l.fn.files) l.fn.name ≡ file_of (files_of (drop l.file l.fn.files)) l.fn.name
