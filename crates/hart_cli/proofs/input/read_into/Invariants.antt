use Rattle.std.proofs.Common.{◌≡◌, ◌-◌, ◌≤◌, length}
use Rattle.hart_cli.specs.declared.input.TheConstants.{PORTION_LEN}
use Rattle.hart_cli.specs.input.Input.{ReadsWell, input_room}
use Rattle.hart_station.specs.Station.{input_limit}
use Rattle.hart_cli.proofs.input.read_into.Given as goal

abbrev pub invariant-loop-end : goal.invariant-loop-end
invariant-loop-end g l = record {
  read : ReadsWell (g.R.Source.stream l.initial.reader) (g.R.Source.stream l.reader) l.text.items;
  within : length l.text.items ≤ input_limit;
  same_room : l.text.room ≡ input_room;
  buffer_length : length l.buffer ≡ PORTION_LEN;
}

abbrev pub decreases-loop-end : goal.decreases-loop-end
decreases-loop-end g l = input_limit - length l.text.items
