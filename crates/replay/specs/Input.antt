-- What reading the program's input answers.
use Rattle.std.specs.Prelude.{ℕ, Result, Ok, Err}

-- how many bytes of the buffer were read; 0 where a read failed
abbrev pub bytes_read : {E : Type 0} → Result ℕ E → ℕ
bytes_read (Ok n) = n
bytes_read (Err e) = 0
