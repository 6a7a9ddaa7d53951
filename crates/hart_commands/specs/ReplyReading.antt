-- How the data of a reply with code 0 are read (HCF_SPEC-127).
use Rattle.std.specs.Prelude.{ℕ, ◌+◌, ◌-◌, ◌*◌, ◌/◌, ◌==◌, ◌&&◌, min, nat_lt, if◌then◌else◌, List, [], ◌∷◌, length, take, drop, map}
use Rattle.std.specs.Prelude.{slice_index, Option, Some, None}
use Rattle.std.specs.Simd.{first_chunks}
use Rattle.hart_commands.specs.declared.content.ReplyContent.{ReplyContent}
use Rattle.hart_commands.specs.declared.content.ReplyContent.TheVariants.{Identity, Current, Dynamic, Polling, Variables, Tag, More}
use Rattle.hart_commands.specs.FirstBytes.{having}
use Rattle.hart_commands.specs.Groups.{tag_in, descriptor_in, date_in, identity_of}
use Rattle.hart_commands.specs.Values.{float_at, unit_value_of, variable_of}

-- The content that the first `size` bytes determine. With fewer bytes there is no content.
abbrev pub saying : ℕ → (List ℕ → ReplyContent) → List ℕ → Option ReplyContent
saying size content = having size None (λ xs. Some (content xs))

-- The identity in a reply. It has 22 bytes, and its first byte is 254.
abbrev pub identity_reading : List ℕ → Option ReplyContent
identity_reading = having 22 None (λ xs. if slice_index xs 0 == 254 then Some (Identity (identity_of xs)) else None)

-- The loop current and the percent of range in 8 bytes.
abbrev pub current_of : List ℕ → ReplyContent
current_of bytes = Current (float_at bytes 0) (float_at bytes 4)

-- The loop current and the dynamic variables in a reply. After the loop current comes at least one whole group of five bytes. Only the
-- first four groups are read.
abbrev pub dynamic_reading : List ℕ → Option ReplyContent
dynamic_reading bytes =
    if nat_lt (length bytes) 9 then None
    else
    let groups = min (length (drop 4 bytes) / 5) 4 in
    Some (Dynamic (float_at bytes 0) (map unit_value_of (first_chunks 5 groups (drop 4 bytes))))

-- The polling address and the loop current mode in two bytes, both unchecked.
abbrev pub polling_of : List ℕ → ReplyContent
polling_of bytes = Polling (slice_index bytes 0) (slice_index bytes 1)

-- The device variables in a reply: an extended device status, one to eight groups of eight bytes, and then a time stamp of four bytes. No
-- byte may follow.
abbrev pub variables_reading : List ℕ → Option ReplyContent
variables_reading bytes =
    let groups = (length bytes - 5) / 8 in
    if nat_lt 0 groups && nat_lt groups 9 && (length bytes == 5 + 8 * groups)
    then Some (Variables (slice_index bytes 0) (map variable_of (first_chunks 8 groups (drop 1 bytes))) (drop (1 + 8 * groups) bytes))
    else None

-- The tag, the descriptor and an unchecked date in 21 bytes.
abbrev pub tag_of : List ℕ → ReplyContent
tag_of bytes = Tag (tag_in bytes) (descriptor_in bytes) (date_in bytes)

-- The additional status bytes in a reply. At least one byte is needed, and only the first 25 bytes are read.
abbrev pub more_reading : List ℕ → Option ReplyContent
more_reading [] = None
more_reading (byte ∷ bytes) = Some (More (take 25 (byte ∷ bytes)))
