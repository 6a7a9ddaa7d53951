use Rattle.hart_frame.proofs.Common.{sym, arith, get_or-take, HeaderParts, get_or_after_one, address_of}
use Rattle.hart_frame.proofs.lemmas.wire.Header.{StandsAsHeader, header_read}
use Rattle.hart_frame.proofs.wire.header.Header.read.Goals as goal

pub returns : goal.returns
returns c =
    let bytes = c.args.bytes.now in
    let parts : HeaderParts = record {
      kind = c.in_ok-delimiter.delimiter.kind;
      master = c.in_ok-master.master;
      address = address_of c.plain_of.result;
      command = c.in_ok-command.field-0.now;
    } in
    let stands : StandsAsHeader bytes parts = grind (arith, get_or-take, get_or_after_one bytes) in
    sym (header_read bytes parts stands)
