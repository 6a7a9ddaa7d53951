-- The types that the definitions use, from the code of this crate and of the crates below it.
pub use Rattle.hart_commands.specs.Registers.{Overwrite}
pub use Rattle.hart_commands.specs.declared.reply.Reply.{Reply}
pub use Rattle.hart_commands.specs.declared.request.Request.{Request}
pub use Rattle.hart_device.specs.Device.{DeviceState, Effect, Executes, Nothing, Resets}
pub use Rattle.hart_device.specs.answer.Delivery.{Brought, Garbled, NoMessage, OneFrame}
pub use Rattle.hart_device.specs.declared.process.Process.{Process}
pub use Rattle.hart_frame.specs.heard.Character.{Character}
pub use Rattle.hart_frame.specs.wire.FrameParts.{FrameParts}
pub use Rattle.hart_line.specs.declared.event.Heard.{Heard}
pub use Rattle.hart_line.specs.declared.event.Heard.TheVariants.{Chars, Clean, Lost}
pub use Rattle.hart_line.specs.declared.event.LineEvent.{LineEvent}
pub use Rattle.hart_line.specs.declared.event.LineEvent.TheVariants.{Noise, Protect, Restart, Submit, Turn}
pub use Rattle.hart_line.specs.declared.fault.Leg.{Leg}
pub use Rattle.hart_line.specs.declared.fault.LineFault.{LineFault}
pub use Rattle.hart_line.specs.declared.fault.LineFault.TheVariants.{BadLine, Memory, Undetected}
pub use Rattle.hart_line.specs.declared.line.report.Outcome.{Outcome}
pub use Rattle.hart_line.specs.declared.line.report.Outcome.TheVariants.{Answered, NoReply, Refused, Unfinished}
pub use Rattle.hart_line.specs.declared.line.report.Spoken.{Spoken}
pub use Rattle.hart_master.specs.declared.fault.MasterFault.{MasterFault}
pub use Rattle.hart_values.specs.declared.address.Address.{Address}
pub use Rattle.hart_values.specs.declared.each_master.EachMaster.{EachMaster}
pub use Rattle.hart_values.specs.declared.master_id.MasterId.{MasterId}
pub use Rattle.hart_values.specs.declared.master_id.MasterId.TheVariants.{Primary, Secondary}
