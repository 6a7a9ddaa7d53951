use Rattle.hart_commands.proofs.lemmas.Reply.{kept, read-made}
use Rattle.hart_commands.proofs.laws.written_payloads_are_read_again.Goals as goal

pub returns : goal.returns
returns c = record {
  again = λ reply is. (kept reply.command is.0 reply is.1).again;
  well_made = read-made;
  kept = λ command payload reply e. (kept command payload reply e).written;
  known = λ command payload reply e. (kept command payload reply e).known;
  refused = λ command payload reply e. (kept command payload reply e).refused;
}
