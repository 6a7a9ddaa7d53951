use Rattle.hart_cli.proofs.calls.program.command_line.encode_command.Goals as goal

pub returns : goal.returns
returns c =
    let payload = c.with_arg-encode.ensures _ _ c.with_required_words-encode.ensures c.data_word.ensures.rule in
    c.with_arg.ensures _ _ payload c.preambles_option.ensures.rule
