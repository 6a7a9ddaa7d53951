-- The unique address in a reply (HCF_SPEC-127).
use Rattle.std.specs.Prelude.{◌+◌, ◌*◌, ◌%◌, ◌^◌, ◌==◌, if◌then◌else◌, slice_index, Option, None, Some}
use Rattle.hart_values.specs.declared.address.Address.{Address}
use Rattle.hart_values.specs.declared.address.Address.TheVariants.{Unique}
use Rattle.hart_commands.specs.declared.content.ReplyContent.{ReplyContent}
use Rattle.hart_commands.specs.declared.content.ReplyContent.TheVariants.{Identity}
use Rattle.hart_commands.specs.declared.identity.IdentityContent.{IdentityContent}
use Rattle.hart_commands.specs.declared.reply.Reply.{Reply}
use Rattle.hart_values.specs.address.AddressBytes.{is_broadcast}

-- The address of an identity. Its two numbers are the lower 14 bits of the expanded device type, and the device id. Each number is read
-- with the most significant byte first.
abbrev pub address_of : IdentityContent → Address
address_of identity = Unique (record {
  expanded_type =
      (256 * slice_index identity.expanded_device_type 0 + slice_index identity.expanded_device_type 1) % 2 ^ 14;
  device_id =
      65536 * slice_index identity.device_id 0 + 256 * slice_index identity.device_id 1 + slice_index identity.device_id 2;
})

-- The unique address of an identity, unless it is the broadcast address. No other content has a unique address.
abbrev pub address_in : ReplyContent → Option Address
address_in (Identity identity) = if is_broadcast (address_of identity) then None else Some (address_of identity)
address_in _ = None

-- The unique address in a reply with code 0 is the unique address in its content. A reply with any other code has no unique address.
abbrev pub unique_in : Reply → Option Address
unique_in reply = if reply.code == 0 then address_in reply.content else None
