use Rattle.hart_line.proofs.Common.{codes, arith, rules, ◌≡◌, ℕ, Option, None, Some, Result, ok_or, LineEvent, RowFault}
use Rattle.hart_line.proofs.Common.{ReadsWords, Finds, text_from_reads}
use Rattle.hart_line.specs.declared.script.rows.RowFault.TheVariants.{Bad}
use Rattle.hart_line.proofs.lemmas.script.Rows.{says_none}
use Rattle.hart_line.proofs.script.rows.read_event.Goals as goal

-- if the words of a row need no memory, the row is read, or its line is bad
found_or_bad : (IsNeeded : ℕ → Type 0) (IsSaid : LineEvent → Type 0) (read : Option LineEvent) (result : Result LineEvent RowFault)
    → Finds IsSaid read → result ≡ ok_or read Bad → ReadsWords IsNeeded IsSaid result
found_or_bad IsNeeded IsSaid None result finds gives = rw gives finds
found_or_bad IsNeeded IsSaid (Some event) result finds gives = rw gives finds

pub returns-in-submit : goal.returns-in-submit
returns-in-submit c = rw (text_from_reads c.args.first.now (codes "submit") (omega arith) (search rules))
    (found_or_bad _ _ _ _ c.read_submit.ensures c.ok_or.ensures.value)

pub returns-in-protect : goal.returns-in-protect
returns-in-protect c = rw (text_from_reads c.args.first.now (codes "protect") (omega arith) (search rules))
    (found_or_bad _ _ _ _ c.read_protect.ensures c.ok_or-in-protect.ensures.value)

pub returns-in-restart : goal.returns-in-restart
returns-in-restart c = rw (text_from_reads c.args.first.now (codes "restart") (omega arith) (search rules))
    (found_or_bad _ _ _ _ c.read_restart.ensures c.ok_or-in-restart.ensures.value)

pub returns-in-turn : goal.returns-in-turn
returns-in-turn c = rw (text_from_reads c.args.first.now (codes "turn") (omega arith) (search rules)) c.read_turn.ensures

pub returns-in-noise : goal.returns-in-noise
returns-in-noise c = rw (text_from_reads c.args.first.now (codes "noise") (omega arith) (search rules)) c.read_noise.ensures

pub returns-in_default : goal.returns-in_default
returns-in_default c = says_none c.args.first.now _ (search rules)
