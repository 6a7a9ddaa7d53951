-- The layout of the beginning of a body (HCF_SPEC-081).
use Rattle.std.specs.Prelude.{◌≡◌, ℕ, ◌+◌, ◌%◌, List}
use Rattle.hart_frame.specs.declared.wire.layout.Layout.{Layout}
use Rattle.hart_frame.specs.wire.Delimiter.{kind_code}
use Rattle.hart_frame.specs.wire.Layout.{address_end, byte_count_in, command_place, delimiter_in}

-- A layout describes a list of bytes if the bytes have the kind, the places and the byte count of the layout.
pub record Describes (layout : Layout) (bytes : List ℕ) : Type 0 where
  pub kind : kind_code layout.kind ≡ delimiter_in bytes % 8
  pub address : layout.address_end ≡ address_end bytes
  pub command : layout.command_place ≡ command_place bytes
  pub count : layout.byte_count ≡ byte_count_in bytes

-- The length of a body with this layout.
abbrev pub layout_length : Layout → ℕ
layout_length layout = layout.command_place + 3 + layout.byte_count
