use Rattle.std.proofs.Common.{IsSome, IsTrue, List, [], ◌∷◌, ℕ, refl}
use Rattle.hart_commands.specs.declared.register.Register.{Register}
use Rattle.hart_commands.specs.declared.register.Register.TheVariants.{Polling, Message, Tag, Assembly, LongTag}
use Rattle.hart_commands.specs.declared.request.Request.TheVariants.{SetPolling, WriteMessage, WriteTag, WriteAssembly, WriteLongTag}
use Rattle.hart_commands.specs.Commands.{command_of, written_by}
use Rattle.hart_commands.specs.Parts.{request_parts}
use Rattle.hart_commands.specs.Registers.{part_for}
use Rattle.hart_commands.specs.RequestCode.{are_some}
use Rattle.hart_commands.proofs.lemmas.Laws.{writes_have_overwrites-exactly}
use Rattle.hart_commands.proofs.laws.writes_have_overwrites.Goals as goal

-- Every configuration write names a register.
pub returns-clause-some_register : goal.returns-clause-some_register
unfolding written_by
returns-clause-some_register c (SetPolling address mode) write = (Polling, cc)
returns-clause-some_register c (WriteMessage message) write = (Message, cc)
returns-clause-some_register c (WriteTag tag descriptor date) write = (Tag, cc)
returns-clause-some_register c (WriteAssembly assembly) write = (Assembly, cc)
returns-clause-some_register c (WriteLongTag long_tag) write = (LongTag, cc)
returns-clause-some_register c _ write = cc

-- The row of every configuration write has a register for each part of the data.
pub returns-clause-every_part : goal.returns-clause-every_part
unfolding written_by
returns-clause-every_part c (SetPolling address mode) write = refl
returns-clause-every_part c (WriteMessage message) write = refl
returns-clause-every_part c (WriteTag tag descriptor date) write = refl
returns-clause-every_part c (WriteAssembly assembly) write = refl
returns-clause-every_part c (WriteLongTag long_tag) write = refl
returns-clause-every_part c _ write = cc

-- If a part of the data is for a register, the command writes a register.
only : (register : Register) (written : List Register) (parts : List (List ℕ)) → IsSome (part_for register written parts)
    → IsTrue (are_some written)
only register [] parts some = cc
only register (first ∷ others) parts some = refl

pub returns-clause-only_writes : goal.returns-clause-only_writes
returns-clause-only_writes c request register = only register (written_by (command_of request)) (request_parts request)

pub returns-clause-exactly : goal.returns-clause-exactly
returns-clause-exactly c = writes_have_overwrites-exactly
