use Rattle.hart_device.proofs.device.Device.reply_to_garbled.Goals as goal

pub returns-in_err-request : goal.returns-in_err-request
returns-in_err-request g c = record { reply = rw (c.from_residual.ensures, ← c.self.view_is) c.in_err-request.ensures }
