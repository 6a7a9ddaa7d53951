-- The loop current mode as a byte (HCF_SPEC-127). The mode says whether the loop current follows the process.
use Rattle.std.specs.Prelude.{ℕ}
use Rattle.hart_values.specs.declared.loop_mode.LoopMode.{LoopMode}
use Rattle.hart_values.specs.declared.loop_mode.LoopMode.TheVariants.{Disabled, Enabled}

-- The byte of a loop current mode: 0 if the mode is disabled, 1 if it is enabled.
abbrev pub mode_byte : LoopMode → ℕ
mode_byte Disabled = 0
mode_byte Enabled = 1
