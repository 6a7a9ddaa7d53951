use Rattle.hart_line.proofs.Common.{first_world}
use Rattle.hart_line.proofs.lemmas.Laws.{scripts_have_one_last_world-no_fault, scripts_have_one_last_world-one_fault}
use Rattle.hart_line.proofs.lemmas.Laws.{scripts_have_one_last_world-one_world}
use Rattle.hart_line.proofs.lemmas.world.Leads.{leads_exists}
use Rattle.hart_line.proofs.laws.scripts_have_one_last_world.Goals as goal

pub returns : goal.returns
returns c = record {
  one_world = scripts_have_one_last_world-one_world;
  detected = λ start events. leads_exists start (first_world start) events;
  no_fault = scripts_have_one_last_world-no_fault;
  one_fault = scripts_have_one_last_world-one_fault;
}
