use Rattle.std.proofs.Common.{sym}
use Rattle.clap.specs.Words.{subcommand_rows_of}
use Rattle.hart_cli.proofs.lemmas.Called.{call_counted}
use Rattle.hart_cli.proofs.calls.program.make_matched_call.Goals as goal

pub make_call-requires : goal.make_call-requires
make_call-requires g c = call_counted (subcommand_rows_of c.args.matches.now) _ (sym c.in-Some.ensures)
