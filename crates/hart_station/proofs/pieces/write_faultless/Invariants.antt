use Rattle.std.proofs.Common.{◌≡◌, length, take}
use Rattle.hart_frame.specs.heard.Character.{faultless}
use Rattle.hart_station.proofs.pieces.write_faultless.Given as goal

abbrev pub invariant-loop-place : goal.invariant-loop-place
invariant-loop-place l = record {
  long : length l.chars ≡ length l.bytes;
  made : take l.place l.chars ≡ faultless (take l.place l.bytes);
}
