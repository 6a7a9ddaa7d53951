use Rattle.std.proofs.Common.{◌≡◌, ◌+◌, ◌∷◌, length, take, sum_by, flat_map}
use Rattle.hart_commands.specs.Registers.{bytes_in, registers, size_of}
use Rattle.hart_device.proofs.device.Device.image.Given as goal

abbrev pub invariant-loop-register : goal.invariant-loop-register
invariant-loop-register g l = record {
  bytes : l.image ≡ 2 ∷ flat_map (bytes_in l.self.contents) (take l.register-index registers);
  len : length l.image ≡ 1 + sum_by size_of (take l.register-index registers);
}
