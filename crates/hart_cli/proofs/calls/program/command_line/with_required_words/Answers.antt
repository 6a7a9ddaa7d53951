use Rattle.hart_cli.proofs.calls.program.command_line.with_required_words.Goals as goal

pub returns : goal.returns
returns c =
    let who = c.with_arg-command.ensures _ _ c.plain_command.ensures c.required_word.ensures.rule in
    let address = c.with_arg-command-2.ensures _ _ who c.required_word-2.ensures.rule in
    c.with_arg.ensures _ _ address c.required_word-3.ensures.rule
