-- Data of which only the first bytes matter.
use Rattle.std.specs.Prelude.{ℕ, nat_lt, if◌then◌else◌, List, length, take}

-- Reads the first `size` bytes with `read`, and ignores the bytes after them. If there are fewer than `size` bytes, the result is `fewer`.
abbrev pub having : {A : Type 0} → ℕ → A → (List ℕ → A) → List ℕ → A
having size fewer read bytes = if nat_lt (length bytes) size then fewer else read (take size bytes)
