-- What is kept of what was told and dropped (implementation choice).
use Rattle.hart_listen.specs.LastMessages.{no_messages}
use Rattle.hart_listen.specs.declared.past.Past.{Past}

-- Nothing was heard.
abbrev pub no_past : Past
no_past = record { last = no_messages; stop = 0; preambles = 0 }
