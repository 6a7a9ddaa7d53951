use Rattle.hart_cli.proofs.calls.program.command_line.explain_command.Goals as goal

pub returns : goal.returns
returns c =
    let raw = c.with_arg-explain.ensures _ _ c.plain_command.ensures c.flag.ensures.rule in
    c.with_arg.ensures _ _ raw c.flag-2.ensures.rule
