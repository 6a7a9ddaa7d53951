-- The numbers of the faults of frames (implementation choice).
use Rattle.std.specs.Prelude.{ℕ}
use Rattle.hart_frame.specs.declared.wire.fault.FrameFault.{FrameFault}
use Rattle.hart_frame.specs.declared.wire.fault.FrameFault.TheVariants.{TooShortReply, BadPreamble, BadDelimiter, Truncated, BadCheck}
use Rattle.hart_frame.specs.declared.wire.fault.FrameFault.TheVariants.{ShortReply}

-- The number of each fault.
abbrev pub frame_fault_number : FrameFault → ℕ
frame_fault_number TooShortReply = 1
frame_fault_number BadPreamble = 2
frame_fault_number BadDelimiter = 3
frame_fault_number Truncated = 4
frame_fault_number BadCheck = 5
frame_fault_number ShortReply = 6
