-- The registers of a device, and what a write does to them (HCF_SPEC-127).
use Rattle.std.specs.Prelude.{ℕ, ◌≡◌, ◌==◌, ◌<◌, List, [], ◌∷◌, length, Option, None, Some, IfSome, slice_index, unwrap_or}
use Rattle.std.specs.Prelude.{if◌then◌else◌}
use Rattle.std.specs.Option.{option_or}
use Rattle.hart_values.specs.hart_date.Calendar.{IsDateBytes}
use Rattle.hart_commands.specs.declared.register.Register.{Register}
use Rattle.hart_commands.specs.declared.register.Register.TheVariants.{Polling, Mode, Message, Tag, Descriptor, Date, Assembly, LongTag}
use Rattle.hart_commands.specs.declared.request.Request.{Request}
use Rattle.hart_commands.specs.Commands.{command_of, written_by}
use Rattle.hart_commands.specs.Parts.{request_parts}
use Rattle.hart_commands.specs.RequestCode.{is_write}

-- All registers, in this order: polling address, loop current mode, message, tag, descriptor, date, final assembly number, long tag.
abbrev pub registers : List Register
registers = Polling ∷ Mode ∷ Message ∷ Tag ∷ Descriptor ∷ Date ∷ Assembly ∷ LongTag ∷ []

-- The place of a register in the list of all registers, counted from 0.
abbrev pub place_of : Register → ℕ
place_of Polling = 0
place_of Mode = 1
place_of Message = 2
place_of Tag = 3
place_of Descriptor = 4
place_of Date = 5
place_of Assembly = 6
place_of LongTag = 7

-- A row of the table of registers: how many bytes a register has, and which bytes are valid in it.
pub record RegisterRow : Type 1 where
  pub size : ℕ
  pub IsValid : List ℕ → Type 0

-- All bytes are valid.
abbrev pub Any : List ℕ → Type 0
Any bytes = Unit {0}

-- Bytes are valid if the first byte is below `limit`.
abbrev pub BeginsBelow : ℕ → List ℕ → Type 0
BeginsBelow limit bytes = slice_index bytes 0 < limit

-- The table of the registers. A polling address is below 64, a loop current mode is below 2, and a date is in the calendar or not set. In
-- every other register all bytes are valid.
abbrev pub row_of : Register → RegisterRow
row_of Polling = record { size = 1; IsValid = BeginsBelow 64 }
row_of Mode = record { size = 1; IsValid = BeginsBelow 2 }
row_of Message = record { size = 24; IsValid = Any }
row_of Tag = record { size = 6; IsValid = Any }
row_of Descriptor = record { size = 12; IsValid = Any }
row_of Date = record { size = 3; IsValid = IsDateBytes }
row_of Assembly = record { size = 3; IsValid = Any }
row_of LongTag = record { size = 32; IsValid = Any }

-- How many bytes a register has.
abbrev pub size_of : Register → ℕ
size_of register = (row_of register).size

-- Bytes are valid in a register if they have the register's size and the register's row allows them.
abbrev pub IsValidIn : Register → List ℕ → Type 0
IsValidIn register bytes = (length bytes ≡ size_of register) × (row_of register).IsValid bytes

-- The contents of a device: the bytes of every register. `Contents` is a record, because a contract cannot treat a struct as a function
-- from registers to bytes.
pub record Contents : Type 0 where
  pub polling : List ℕ
  pub mode : List ℕ
  pub message : List ℕ
  pub tag : List ℕ
  pub descriptor : List ℕ
  pub date : List ℕ
  pub assembly : List ℕ
  pub long_tag : List ℕ

-- The bytes that a register holds.
abbrev pub bytes_in : Contents → Register → List ℕ
bytes_in contents Polling = contents.polling
bytes_in contents Mode = contents.mode
bytes_in contents Message = contents.message
bytes_in contents Tag = contents.tag
bytes_in contents Descriptor = contents.descriptor
bytes_in contents Date = contents.date
bytes_in contents Assembly = contents.assembly
bytes_in contents LongTag = contents.long_tag

-- The contents in which each register holds the bytes that the function `bytes` returns for this register.
abbrev pub contents_by : (Register → List ℕ) → Contents
contents_by bytes = record {
  polling = bytes Polling;
  mode = bytes Mode;
  message = bytes Message;
  tag = bytes Tag;
  descriptor = bytes Descriptor;
  date = bytes Date;
  assembly = bytes Assembly;
  long_tag = bytes LongTag;
}

-- Contents are valid if every register holds bytes that are valid in it.
abbrev pub AreValid : Contents → Type 0
AreValid contents = (register : Register) → IsValidIn register (bytes_in contents register)

-- In contracts, an overwrite is the write request. A request that is no configuration write names no register.
abbrev pub Overwrite : Type 0
Overwrite = Request

-- The part for a register. It has the same place in `parts` as the register has in the list of registers. The result is `None` if the
-- register is not in the list, or if no part has that place.
abbrev pub part_for : Register → List Register → List (List ℕ) → Option (List ℕ)
part_for register (first ∷ registers) (part ∷ parts) =
    if place_of first == place_of register then Some part else part_for register registers parts
part_for register _ _ = None

-- The new bytes of a register, if the overwrite names it. They are one part of the request's data. This part has the same place among the
-- parts as the register has in the list of registers that the command writes.
abbrev pub named_in : Overwrite → Register → Option (List ℕ)
named_in overwrite register = part_for register (written_by (command_of overwrite)) (request_parts overwrite)

-- The bytes that are paired with a register in a list of pairs, or `None` if no pair has this register.
abbrev pub set_by : List (Register × List ℕ) → Register → Option (List ℕ)
set_by [] register = None
set_by ((named, bytes) ∷ others) register = if place_of named == place_of register then Some bytes else set_by others register

-- An overwrite names valid bytes if all new bytes that it has for a register are valid in that register.
abbrev pub NamesValid : Overwrite → Type 0
NamesValid overwrite = (register : Register) → IfSome (named_in overwrite register) (IsValidIn register)

-- The overwrite of a request, if the request is a configuration write.
abbrev pub overwrite_of : Request → Option Overwrite
overwrite_of request = if is_write (command_of request) then Some request else None

-- The contents after an overwrite. Each register that the overwrite names holds its new bytes, and every other register is unchanged.
abbrev pub overwritten : Overwrite → Contents → Contents
overwritten overwrite old = contents_by (λ register. unwrap_or (named_in overwrite register) (bytes_in old register))

-- The new bytes of a register in the last overwrite that names this register, or `None` if no overwrite of the list names this register.
abbrev pub last_named : List Overwrite → Register → Option (List ℕ)
last_named [] register = None
last_named (overwrite ∷ later) register = option_or (last_named later register) (named_in overwrite register)

-- The contents after a list of overwrites. Each register holds its new bytes from the last overwrite that names this register. A register
-- that no overwrite names holds its initial bytes.
abbrev pub registers_of : List Overwrite → Contents → Contents
registers_of overwrites initial =
    contents_by (λ register. unwrap_or (last_named overwrites register) (bytes_in initial register))
