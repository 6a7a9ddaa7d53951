-- The parts of a `Plain`: a reader or writer of the standard library, and a count of its failures (implementation choice).
use Rattle.std.specs.Prelude.{ℕ}
use Rattle.hart_cli.specs.declared.stream.plain.Plain.{Plain}

-- The reader or writer that a `Plain` holds.
abbrev pub plain_inner : {T : Type 0} → Plain T → T
plain_inner plain = plain.inner

-- How often a `Plain` has failed.
abbrev pub plain_failures : {T : Type 0} → Plain T → ℕ
plain_failures plain = plain.failures
