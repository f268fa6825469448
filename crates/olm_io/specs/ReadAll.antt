-- What reading to the end answers.
use Rattle.std.specs.Prelude.{ℕ, List, length, Bool, true, false, nat_le, if◌then◌else◌, Result, Ok, Err}
use Rattle.olm_io.specs.declared.traits.FolderFault.{FolderFault}
use Rattle.olm_io.specs.declared.traits.FolderFault.TheVariants.{Failed, TooLong, Memory}

-- A call that failed, and want of memory, may come at any time.
abbrev pub is_free : FolderFault → Bool
is_free Failed = true
is_free (TooLong limit) = false
is_free Memory = true

-- The whole text, where it has at most as many bytes as the limit.
abbrev pub whole : ℕ → List ℕ → Result (List ℕ) FolderFault
whole limit text = if nat_le (length text) limit then Ok text else Err (TooLong limit)
