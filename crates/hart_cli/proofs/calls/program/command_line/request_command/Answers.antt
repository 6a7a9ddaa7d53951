use Rattle.hart_cli.proofs.calls.program.command_line.request_command.Goals as goal

pub returns : goal.returns
returns c =
    let fields = c.with_arg-request.ensures _ _ c.with_required_words-request.ensures c.field_words.ensures.rule in
    c.with_arg.ensures _ _ fields c.preambles_option.ensures.rule
