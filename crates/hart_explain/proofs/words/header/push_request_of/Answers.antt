use Rattle.hart_explain.proofs.words.header.push_request_of.Goals as goal

pub returns-in-Primary : goal.returns-in-Primary
returns-in-Primary c = rw c.in-Primary.is c.push_text.ensures

pub returns-in-Secondary : goal.returns-in-Secondary
returns-in-Secondary c = rw c.in-Secondary.is c.push_text-in-Secondary.ensures
