-- Data that `hex` reads.
use Rattle.hex.proofs.HexLemmas.{decode_of-ok}
use Rattle.std.proofs.lemmas.Bool.Decides.{nat_tests}
use Rattle.std.proofs.lemmas.Grind.{common_steps}

-- the rules for data that `hex` reads
pub ruleset data_read = (common_steps, nat_tests, decode_of-ok)
