use Rattle.std.proofs.Common.{[], ◌∷◌, length}
use Rattle.hart_frame.specs.declared.wire.fault.FrameFault.TheVariants.{BadPreamble}
use Rattle.hart_frame.specs.wire.Message.{IsMessage, IsPreambleCount}
use Rattle.hart_c.specs.Faults.{needs, refused_if}
use Rattle.hart_c.specs.Messages.{HasNoRoom, frame_checks}
use Rattle.hart_c.specs.Numbers.{frame_in}
use Rattle.hart_c.specs.declared.fault.Fault.TheVariants.{Frame, NoRoom}
use Rattle.hart_c.proofs.Checks.{first_before}
use Rattle.hart_c.proofs.encode.write_message.Goals as goal

pub returns-in-Err-clause-refused : goal.returns-in-Err-clause-refused
returns-in-Err-clause-refused c =
    let fits = refused_if (HasNoRoom (IsMessage (frame_in c.args.frame.now) c.args.preambles) (length c.args.output.now)) NoRoom in
    let others = needs (IsPreambleCount c.args.preambles) (Frame BadPreamble) ∷ fits ∷ [] in
    first_before (frame_checks c.args.frame.now) others _ c.in-Err.ensures.refused
