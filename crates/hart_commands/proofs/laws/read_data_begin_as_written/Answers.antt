use Rattle.std.proofs.Common.{◌≡◌, ℕ, List, length, take, arith}
use Rattle.std.proofs.lemmas.Grind.{common_steps}
use Rattle.std.proofs.lemmas.List.{take_all}
use Rattle.hart_commands.specs.Commands.{known, request_rows}
use Rattle.hart_commands.specs.Fields.{fields_of}
use Rattle.hart_commands.proofs.lemmas.RequestMade.{begun}
use Rattle.hart_commands.proofs.laws.read_data_begin_as_written.Goals as goal

-- The data of Command 6 without the mode are the first of its two fields.
first_field : (written : List ℕ) → length written ≡ 2
    → fields_of (request_rows 6) (take 1 written) ≡ take 1 (fields_of (request_rows 6) written)
unfolding known
first_field written two = grind arith

pub returns : goal.returns
returns c = record {
  agree = λ command bytes request fit e. grind (arith, common_steps, take_all, begun command bytes request fit e);
  whole = λ command bytes request fit e enough. grind (arith, begun command bytes request fit e);
  left_out = λ command bytes request fit e fewer. grind (arith, common_steps, begun command bytes request fit e);
  fields = λ command bytes request fit e fewer. grind (arith, common_steps, take_all, first_field, begun command bytes request fit e);
}
