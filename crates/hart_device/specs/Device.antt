-- The state of a device in contracts, and how a command, a reply and a restart change it (HCF_SPEC-099, HCF_SPEC-127). Implementation
-- choice: Command 38 is no write; a write counts even if the register already holds the same bytes; each master has its own cold start bit.
use Rattle.std.specs.Prelude.{ℕ, ◌<◌, ◌+◌, ◌%◌, ◌^◌, Bool, true, false}
use Rattle.hart_values.specs.declared.master_id.MasterId.{MasterId}
use Rattle.hart_values.specs.EachMaster.{with_master}
use Rattle.hart_values.specs.declared.each_master.EachMaster.{EachMaster}
use Rattle.hart_commands.specs.Registers.{AreValid, Contents, Overwrite, overwritten}
use Rattle.hart_device.specs.declared.identity_parts.IdentityParts.{IdentityParts}
use Rattle.hart_device.specs.declared.registers.values.RegisterValues.{RegisterValues}
use Rattle.hart_device.specs.Identity.{AreIdentityParts}
use Rattle.hart_device.specs.Registers.{values_of}

-- The state of a device: its identity, register contents, configuration change counter, write protection, and two bits for each
-- master. The configuration-changed bit of a master is set if the configuration has changed since this master last reset the bit.
-- The cold start bit of a master is set from a restart on, until a reply with a response code has shown it to this master.
pub record DeviceState : Type 0 where
  pub identity : IdentityParts
  pub contents : Contents
  pub counter : ℕ
  pub changed : EachMaster Bool
  pub protected : Bool
  pub cold_start : EachMaster Bool

-- Every device is well made: its parts make an identity, its registers hold valid bytes, and its counter fits in two bytes.
pub record IsDevice (state : DeviceState) : Type 0 where
  pub identity : AreIdentityParts state.identity
  pub contents : AreValid state.contents
  pub counter : state.counter < 2 ^ 16

-- The same bit for both masters.
abbrev pub for_both : Bool → EachMaster Bool
for_both bit = record { primary = bit; secondary = bit }

-- A new device holds the given values. Its counter is 0, it is not write protected, and its configuration-changed bits and cold start bits
-- are clear.
abbrev pub new_device : IdentityParts → RegisterValues → DeviceState
new_device identity values = record {
  identity = identity;
  contents = values_of values;
  counter = 0;
  changed = for_both false;
  protected = false;
  cold_start = for_both false;
}

-- The effect of a command: no effect, the overwrite of a configuration write, or a reset of the asking master's configuration-changed bit.
pub data Effect : Type 0 where
  Nothing : Effect
  Executes : (overwrite : Overwrite) → Effect
  Resets : Effect

-- The state after a configuration write was counted. The counter is one more, with 0 after 65535, and both masters' configuration-changed
-- bits are set. Nothing else changes.
abbrev pub counted : DeviceState → DeviceState
counted state = record state { counter = (state.counter + 1) % 2 ^ 16; changed = for_both true }

-- The state after a configuration write overwrote registers. The write counts even if the registers already held the same bytes.
abbrev pub written : Overwrite → DeviceState → DeviceState
written overwrite state = record (counted state) { contents = overwritten overwrite state.contents }

-- The state after a command. A command without effect changes nothing. A reset clears only the configuration-changed bit of the asking
-- master.
abbrev pub after : MasterId → Effect → DeviceState → DeviceState
after master Nothing state = state
after master (Executes overwrite) state = written overwrite state
after master Resets state = record state { changed = with_master master false state.changed }

-- The state after a restart: both masters' cold start bits are set. Nothing else changes.
abbrev pub restarted : DeviceState → DeviceState
restarted state = record state { cold_start = for_both true }

-- The state after a reply with a response code to a master. The reply shows this master's cold start bit and clears it. Nothing else
-- changes.
abbrev pub after_reply : MasterId → DeviceState → DeviceState
after_reply master state = record state { cold_start = with_master master false state.cold_start }
