use Rattle.hart_cli.proofs.calls.program.command_line.master_command.Goals as goal

pub returns : goal.returns
returns c =
    let who = c.with_arg-master.ensures _ _ c.plain_command.ensures c.who_option.ensures.rule in
    let retries = c.with_arg-master-2.ensures _ _ who c.retries_option.ensures.rule in
    let limit = c.with_arg-master-3.ensures _ _ retries c.limit_option.ensures.rule in
    c.with_arg.ensures _ _ limit c.preambles_option.ensures.rule
